-- Packets that go into one block go into it again.
use Rattle.std.proofs.Common.{◌≡◌, ℕ, ◌+◌, ◌≤◌, Bool, true, cond, List, [], ◌∷◌, ◌++◌, Some, refl, sym, ap, ◌∙◌, arith}
use Rattle.std.proofs.Common.{append_assoc}
use Rattle.std.proofs.Common.{append-nil}
use Rattle.std.specs.Prelude.{map}
use Rattle.std.proofs.lemmas.Bool.{le-leb}
use Rattle.std.proofs.lemmas.List.Sums.{sum_by-cons}
use Rattle.ring_events.specs.Happenings.{all_happened, happened}
use Rattle.ring_events.specs.declared.events.Happening.TheVariants.{Put}
use Rattle.ring_laws.proofs.Noted.{state-noted}
use Rattle.ring_model.specs.KnownReleases.{has_room, look, put_by}
use Rattle.ring_model.specs.Ring.{Size, State, after, with_offer}
use Rattle.ring_model.specs.Rings.{Ring, note_of_put, state}
use Rattle.ring_model.specs.Sizes.{need_of, used_by}
use Rattle.ring_model.specs.declared.notes.Found.{Found}
use Rattle.ring_model.specs.declared.notes.Found.TheVariants.{NotAsked}
use Rattle.ring_model.specs.declared.notes.Note.TheVariants.{Kept}
use Rattle.ring_model.specs.declared.notes.Offer.{Offer}

-- a ring whose open block got these packets more
pub record Filled (before offers : List Offer) (ring later : Ring) : Type 0 where
  pub size : later.size ≡ ring.size
  pub released : later.released ≡ ring.released
  pub done : (state later).done ≡ (state ring).done
  pub now : (state later).now ≡ Some (before ++ offers)
  pub clock : (state later).clock ≡ (state ring).clock
  pub deadline : (state later).deadline ≡ (state ring).deadline
  pub dropped : (state later).dropped ≡ (state ring).dropped

abbrev pub need : Offer → ℕ
need offer = need_of offer.snap

pub used-append : (before offers : List Offer) → used_by (before ++ offers) ≡ used_by before + used_by offers
used-append [] offers = omega arith
used-append (offer ∷ before) offers =
    let one = sum_by-cons need offer before in
    let all = sum_by-cons need offer (before ++ offers) in
    omega (arith, one, all, used-append before offers)

kept_there : (room : Bool) (offer : Offer) (found : Found) → room ≡ true
    → put_by offer (cond room NotAsked found) ≡ Kept offer NotAsked
kept_there room offer found e = ap (λ (room : Bool). put_by offer (cond room NotAsked found)) e

pub put_in : (ring : Ring) (before : List Offer) (offer : Offer) → (state ring).now ≡ Some before
    → used_by before + need offer ≤ ring.size.room
    → Filled before (offer ∷ []) ring (happened (Put offer) ring)
put_in ring before offer now fits =
    let room : has_room ring.size (need offer) (state ring).now ≡ true =
    ap (has_room ring.size (need offer)) now ∙ le-leb (used_by before + need offer) ring.size.room fits in
    let note : note_of_put ring offer ≡ Kept offer NotAsked =
    kept_there (has_room ring.size (need offer) (state ring).now) offer (look ring.size ring.released (state ring)) room in
    let later : state (happened (Put offer) ring) ≡ after ring.size (state ring) (Kept offer NotAsked) =
    state-noted ring (note_of_put ring offer) ∙ ap (after ring.size (state ring)) note in
    record {
      size = refl;
      released = refl;
      done = ap (λ (s : State). s.done) later;
      now = ap (λ (s : State). s.now) later ∙ ap (with_offer offer) now;
      clock = ap (λ (s : State). s.clock) later;
      deadline = ap (λ (s : State). s.deadline) later;
      dropped = ap (λ (s : State). s.dropped) later;
    }

pub fill : (offers before : List Offer) (ring : Ring) → (state ring).now ≡ Some before
    → used_by before + used_by offers ≤ ring.size.room
    → Filled before offers ring (all_happened (map Put offers) ring)
fill [] before ring now fits = record {
  size = refl;
  released = refl;
  done = refl;
  now = now ∙ ap Some (sym (append-nil before));
  clock = refl;
  deadline = refl;
  dropped = refl;
}
fill (offer ∷ offers) before ring now fits =
    let one = sum_by-cons need offer offers in
    let first = put_in ring before offer now (omega (arith, one, fits)) in
    let next = happened (Put offer) ring in
    let room = ap (λ (s : Size). s.room) first.size in
    let longer = used-append before (offer ∷ []) in
    let single = sum_by-cons need offer [] in
    let rest = fill offers (before ++ offer ∷ []) next first.now (omega (arith, one, fits, room, longer, single)) in
    record {
      size = rest.size ∙ first.size;
      released = rest.released ∙ first.released;
      done = rest.done ∙ first.done;
      now = rest.now ∙ ap Some (append_assoc before (offer ∷ []) offers);
      clock = rest.clock ∙ first.clock;
      deadline = rest.deadline ∙ first.deadline;
      dropped = rest.dropped ∙ first.dropped;
    }
