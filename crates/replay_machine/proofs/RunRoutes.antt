-- Tries that are a route, each with its note, are those of the replay report.
use Rattle.std.proofs.Common.{◌≡◌, ℕ, zero, suc, ◌+◌, ◌%◌, ◌<◌, Bool, true, false, cond, List, [], ◌∷◌, ◌++◌, inl, inr, refl}
use Rattle.std.proofs.Common.{sym, ap, ◌∙◌, subst, arith}
use Rattle.std.specs.Prelude.{slice_index_or}
use Rattle.fanout_group.specs.Routes.{IsKeptOnTheWay, IsPutAtHome, IsRoute, IsSettled, a_try, behind, refused_from}
use Rattle.fanout_group.specs.Rules.{Rules, rolls_over}
use Rattle.fanout_group.specs.declared.logs.Fate.{Fate}
use Rattle.fanout_group.specs.declared.logs.Fate.TheVariants as fates
use Rattle.fanout_group.specs.declared.logs.Try.{Try}
use Rattle.receive_ring.specs.Replay.{Tried, and_then, fate_of, no_ring, noted_at, or_put_at, put_at, routed, try_round}
use Rattle.run_reports.specs.RingSteps.{RingSteps, put_note, try_note}
use Rattle.ring_model.specs.KnownReleases.{put_by, try_by}
use Rattle.ring_model.specs.Rings.{Ring}
use Rattle.ring_model.specs.declared.notes.Found.{Found}
use Rattle.ring_model.specs.declared.notes.Found.TheVariants.{NotAsked, Free, Held}
use Rattle.ring_model.specs.declared.notes.Note.{Note}
use Rattle.ring_model.specs.declared.notes.Note.TheVariants.{Kept, Refused, Dropped, Ticked, Counted, Finished}
use Rattle.ring_model.specs.declared.notes.Offer.{Offer}
use Rattle.replay_machine.specs.Deliveries.{AreTried, IsNoteOf, IsTried}

-- ---- one note

put_refuses : (P : Type 0) (offer : Offer) (found : Found) → fates.Refused ≡ fate_of (put_by offer found) → P
put_refuses P offer NotAsked e = cc
put_refuses P offer Free e = cc
put_refuses P offer (Held number) e = cc

put_keeps : (offer : Offer) (found : Found) → fates.Kept ≡ fate_of (put_by offer found)
    → put_by offer found ≡ try_by offer found
put_keeps offer NotAsked e = refl
put_keeps offer Free e = refl
put_keeps offer (Held number) e = cc

try_settles : (fate : Fate) (offer : Offer) (found : Found) → IsSettled fate → fate ≡ fate_of (try_by offer found)
    → try_by offer found ≡ put_by offer found
try_settles fate offer NotAsked s e = refl
try_settles fate offer Free s e = refl
try_settles fate offer (Held number) s e = absurd (subst (λ (f : Fate). IsSettled f) e s)

-- a refusal is the note of a try
refusal_is : (steps : RingSteps) (offer : Offer) (ring : Ring) (note : Note) → IsNoteOf steps offer ring note
    → fates.Refused ≡ fate_of note → note ≡ try_note steps ring offer
refusal_is steps offer ring note (inl e) f = e
refusal_is steps offer ring note (inr e) f =
    put_refuses (note ≡ try_note steps ring offer) offer (steps.finds ring offer) (f ∙ ap (λ (n : Note). fate_of n) e)

-- a try and a put of a packet that is kept have one note
kept_is : (steps : RingSteps) (offer : Offer) (ring : Ring) (note : Note) → IsNoteOf steps offer ring note
    → fates.Kept ≡ fate_of note → note ≡ try_note steps ring offer
kept_is steps offer ring note (inl e) f = e
kept_is steps offer ring note (inr e) f = e ∙ put_keeps offer (steps.finds ring offer) (f ∙ ap (λ (n : Note). fate_of n) e)

-- a packet that is kept or dropped was put
settled_is : (steps : RingSteps) (offer : Offer) (ring : Ring) (note : Note) (fate : Fate) → IsNoteOf steps offer ring note
    → IsSettled fate → fate ≡ fate_of note → note ≡ put_note steps ring offer
settled_is steps offer ring note fate (inl e) s f =
    e ∙ try_settles fate offer (steps.finds ring offer) s (f ∙ ap (λ (n : Note). fate_of n) e)
settled_is steps offer ring note fate (inr e) s f = e

then_refused : (at : ℕ) (note : Note) (next : List Ring) (rest : Tried) → fates.Refused ≡ fate_of note
    → and_then at note next rest ≡ record rest { tries = a_try at fates.Refused ∷ rest.tries }
then_refused at (Refused cpu index need number) next rest e = refl
then_refused at (Kept offer found) next rest e = cc
then_refused at (Dropped cpu index need number) next rest e = cc
then_refused at (Ticked ms found) next rest e = cc
then_refused at Counted next rest e = cc
then_refused at Finished next rest e = cc

then_kept : (at : ℕ) (note : Note) (next : List Ring) (rest : Tried) → fates.Kept ≡ fate_of note
    → and_then at note next rest ≡ record { tries = a_try at fates.Kept ∷ []; kept = true; members = next }
then_kept at (Refused cpu index need number) next rest e = cc
then_kept at (Kept offer found) next rest e = refl
then_kept at (Dropped cpu index need number) next rest e = cc
then_kept at (Ticked ms found) next rest e = refl
then_kept at Counted next rest e = refl
then_kept at Finished next rest e = refl

-- ---- the round

-- one refusal, and the tries that follow
refused_then : (steps : RingSteps) (members left at : ℕ) (offer : Offer) (old next : List Ring)
    → IsTried steps offer (a_try at fates.Refused) old next
    → try_round steps members (suc left) at offer old
    ≡ (let rest = try_round steps members left ((at + 1) % members) offer next in
    record rest { tries = a_try at fates.Refused ∷ rest.tries })
refused_then steps members left at offer old next t =
    let ring = slice_index_or old at no_ring in
    let note_is : t.note ≡ try_note steps ring offer = refusal_is steps offer ring t.note t.note_is t.fate_is in
    let after : noted_at at (try_note steps ring offer) old ≡ next =
    ap (λ (n : Note). noted_at at n old) (sym note_is) ∙ sym t.rings_are in
    let fate : fates.Refused ≡ fate_of (try_note steps ring offer) = t.fate_is ∙ ap (λ (n : Note). fate_of n) note_is in
    then_refused at (try_note steps ring offer) (noted_at at (try_note steps ring offer) old)
    (try_round steps members left ((at + 1) % members) offer (noted_at at (try_note steps ring offer) old)) fate
    ∙ ap (λ (rings : List Ring). let rest = try_round steps members left ((at + 1) % members) offer rings in
    record rest { tries = a_try at fates.Refused ∷ rest.tries }) after

kept_there : (steps : RingSteps) (members left at : ℕ) (offer : Offer) (old next : List Ring)
    → IsTried steps offer (a_try at fates.Kept) old next
    → try_round steps members (suc left) at offer old ≡ record { tries = a_try at fates.Kept ∷ []; kept = true; members = next }
kept_there steps members left at offer old next t =
    let ring = slice_index_or old at no_ring in
    let note_is : t.note ≡ try_note steps ring offer = kept_is steps offer ring t.note t.note_is t.fate_is in
    let after : noted_at at (try_note steps ring offer) old ≡ next =
    ap (λ (n : Note). noted_at at n old) (sym note_is) ∙ sym t.rings_are in
    let fate : fates.Kept ≡ fate_of (try_note steps ring offer) = t.fate_is ∙ ap (λ (n : Note). fate_of n) note_is in
    then_kept at (try_note steps ring offer) (noted_at at (try_note steps ring offer) old)
    (try_round steps members left ((at + 1) % members) offer (noted_at at (try_note steps ring offer) old)) fate
    ∙ ap (λ (rings : List Ring). record { tries = a_try at fates.Kept ∷ []; kept = true; members = rings }) after

abbrev one_before : Try → Tried → Tried
one_before t rest = record rest { tries = t ∷ rest.tries }

all_refused : (steps : RingSteps) (members left at : ℕ) (offer : Offer) (old new : List Ring)
    → AreTried steps offer (refused_from members at left) old new
    → try_round steps members left at offer old ≡ record { tries = refused_from members at left; kept = false; members = new }
all_refused steps members zero at offer old new h =
    ap (λ (rings : List Ring). record { tries = []; kept = false; members = rings }) (sym h)
all_refused steps members (suc left) at offer old new h =
    refused_then steps members left at offer old h.0 h.1
    ∙ ap (λ (rest : Tried). one_before (a_try at fates.Refused) rest)
    (all_refused steps members left ((at + 1) % members) offer h.0 new h.2)

kept_on_the_way : (steps : RingSteps) (members left at count : ℕ) (offer : Offer) (old new : List Ring) → count < left
    → AreTried steps offer (refused_from members at count ++ a_try (behind members at count) fates.Kept ∷ []) old new
    → try_round steps members left at offer old
    ≡ record {
      tries = refused_from members at count ++ a_try (behind members at count) fates.Kept ∷ [];
      kept = true;
      members = new;
    }
kept_on_the_way steps members zero at count offer old new less h = absurd (omega (arith, less))
kept_on_the_way steps members (suc left) at zero offer old new less h =
    kept_there steps members left at offer old h.0 h.1
    ∙ ap (λ (rings : List Ring). record { tries = a_try at fates.Kept ∷ []; kept = true; members = rings }) (sym h.2)
kept_on_the_way steps members (suc left) at (suc count) offer old new less h =
    refused_then steps members left at offer old h.0 h.1
    ∙ ap (λ (rest : Tried). one_before (a_try at fates.Refused) rest)
    (kept_on_the_way steps members left ((at + 1) % members) count offer h.0 new (omega (arith, less)) h.2)

put_is : (steps : RingSteps) (home : ℕ) (fate : Fate) (offer : Offer) (old new : List Ring) → IsSettled fate
    → AreTried steps offer (a_try home fate ∷ []) old new
    → put_at steps home offer old ≡ record { tries = a_try home fate ∷ []; kept = true; members = new }
put_is steps home fate offer old new s h =
    let t : IsTried steps offer (a_try home fate) old h.0 = h.1 in
    let ring = slice_index_or old home no_ring in
    let note_is : t.note ≡ put_note steps ring offer = settled_is steps offer ring t.note fate t.note_is s t.fate_is in
    let after : noted_at home (put_note steps ring offer) old ≡ new =
    ap (λ (n : Note). noted_at home n old) (sym note_is) ∙ sym t.rings_are ∙ sym h.2 in
    let fate_is : fate_of (put_note steps ring offer) ≡ fate = ap (λ (n : Note). fate_of n) (sym note_is) ∙ sym t.fate_is in
    ap (λ (f : Fate). record {
      tries = a_try home f ∷ [];
      kept = true;
      members = noted_at home (put_note steps ring offer) old;
    }) fate_is
    ∙ ap (λ (rings : List Ring). record { tries = a_try home fate ∷ []; kept = true; members = rings }) after

split_tried : (steps : RingSteps) (offer : Offer) (a b : List Try) (old new : List Ring) → AreTried steps offer (a ++ b) old new
    → (mid : List Ring) × AreTried steps offer a old mid × AreTried steps offer b mid new
split_tried steps offer [] b old new h = (old, refl, h)
split_tried steps offer (t ∷ a) b old new h =
    let rest = split_tried steps offer a b h.0 new h.2 in
    (rest.0, (h.0, h.1, rest.1), rest.2)

-- ---- the route

-- tries and rings are those of the replay report
pub record IsAsTried (tries : List Try) (members : List Ring) (tried : Tried) : Type 0 where
  pub tries_are : tries ≡ tried.tries
  pub members_are : members ≡ tried.members

as_tried : (tries more : List Try) (kept : Bool) (members : List Ring) (tried : Tried) → tries ≡ more
    → tried ≡ record { tries = more; kept = kept; members = members } → IsAsTried tries members tried
as_tried tries more kept members tried e is = record {
  tries_are = e ∙ sym (ap (λ (t : Tried). t.tries) is);
  members_are = sym (ap (λ (t : Tried). t.members) is);
}

module _ (steps : RingSteps) (members home : ℕ) (offer : Offer) (tries : List Try) (old new : List Ring)
    (tried : AreTried steps offer tries old new) where
  by_way : IsKeptOnTheWay members home tries
      → IsAsTried tries new (or_put_at steps home offer (try_round steps members members home offer old))
  by_way way =
      as_tried tries (refused_from members home way.0 ++ a_try (behind members home way.0) fates.Kept ∷ []) true new _ way.2
      (ap (λ (t : Tried). or_put_at steps home offer t)
      (kept_on_the_way steps members members home way.0 offer old new way.1
      (subst (λ (ts : List Try). AreTried steps offer ts old new) way.2 tried)))

  at_home : IsPutAtHome members home tries
      → IsAsTried tries new (or_put_at steps home offer (try_round steps members members home offer old))
  at_home put =
      let parts = split_tried steps offer (refused_from members home members) (a_try home put.0 ∷ []) old new
      (subst (λ (ts : List Try). AreTried steps offer ts old new) put.2 tried) in
      let round = all_refused steps members members home offer old parts.0 parts.1 in
      let last = put_is steps home put.0 offer parts.0 new put.1 parts.2 in
      as_tried tries (refused_from members home members ++ a_try home put.0 ∷ []) true new _ put.2
      (ap (λ (t : Tried). or_put_at steps home offer t) round
      ∙ ap (λ (t : Tried). record t { tries = refused_from members home members ++ t.tries }) last)

  by_rolls : (rolls : Bool) → IsRoute rolls members home tries
      → IsAsTried tries new
      (cond rolls (or_put_at steps home offer (try_round steps members members home offer old))
      (put_at steps home offer old))
  by_rolls true (inl way) = by_way way
  by_rolls true (inr put) = at_home put
  by_rolls false one =
      as_tried tries (a_try home one.0 ∷ []) true new _ one.2
      (put_is steps home one.0 offer old new one.1 (subst (λ (ts : List Try). AreTried steps offer ts old new) one.2 tried))

pub routed_is : (rules : Rules) (steps : RingSteps) (home : ℕ) (offer : Offer) (tries : List Try) (old new : List Ring)
    → IsRoute (rolls_over rules) rules.members home tries
    → AreTried steps offer tries old new → IsAsTried tries new (routed rules steps home offer old)
routed_is rules steps home offer tries old new route tried =
    by_rolls steps rules.members home offer tries old new tried (rolls_over rules) route
