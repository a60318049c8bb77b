-- A schedule never leads a ring's clock back.
use Rattle.std.proofs.Common.{◌≡◌, ℕ, suc, ◌+◌, ◌<◌, ◌≤◌, List, [], ◌∷◌, ◌++◌, length, drop, drop-cons, get_or, Option, None}
use Rattle.std.proofs.Common.{Some, inl, inr, refl, sym, ap, ◌∙◌, subst, arith}
use Rattle.std.specs.Prelude.{All, replicate, slice_set}
use Rattle.std.proofs.lemmas.Bool.{cases_lt}
use Rattle.std.proofs.lemmas.List.{set_past}
use Rattle.std.proofs.lemmas.List.Elements.{All-get_or, All-map, All-replicate, All-set}
use Rattle.fanout_group.specs.declared.logs.Try.{Try}
use Rattle.ring_model.specs.KnownReleases.{put_by, try_by}
use Rattle.ring_model.specs.Ring.{Size}
use Rattle.ring_model.specs.Rings.{Ring, fresh, noted}
use Rattle.ring_model.specs.Unreleased.{last_moment}
use Rattle.ring_model.specs.declared.notes.Found.{Found}
use Rattle.ring_model.specs.declared.notes.Found.TheVariants.{NotAsked, Free, Held}
use Rattle.ring_model.specs.declared.notes.Note.{Note}
use Rattle.ring_model.specs.declared.notes.Note.TheVariants.{Kept, Refused, Dropped, Ticked, Counted, Finished}
use Rattle.ring_model.specs.declared.notes.Offer.{Offer}
use Rattle.receive_ring.specs.Replay.{no_ring}
use Rattle.run_reports.specs.RingSteps.{RingSteps, read_by, ticked, ticked_by}
use Rattle.receive_ring.specs.TakenOffers.{MayCome}
use Rattle.receive_ring.proofs.KeptOpen.{read_notes}
use Rattle.setup_text.specs.TickOrder.{AreAscending}
use Rattle.setup_text.specs.declared.lines.Line.{Line}
use Rattle.setup_text.specs.declared.lines.Line.TheVariants.{Feed, Read, Tick, Stats}
use Rattle.replay_machine.specs.Deliveries.{AreTried, ChangedByTries, IsNoteOf, IsTried}
use Rattle.replay_machine.specs.inside.RunEffects.{MembersAfter}

-- the last tick of a ring isn't past a moment
abbrev IsEarly : ℕ → Ring → Type 0
IsEarly clock ring = last_moment 0 ring.notes ≤ clock

-- before some lines: no ring's last tick is past a moment from which the lines go on
pub record IsTimed (rings : List Ring) (lines : List Line) : Type 0 where
  pub clock : ℕ
  pub early : All (λ ring. last_moment 0 ring.notes ≤ clock) rings
  pub rest : AreAscending clock lines

-- so the next line may come
pub may_come : (rings : List Ring) (line : Line) (lines : List Line) → IsTimed rings (line ∷ lines) → MayCome line rings
may_come rings (Feed cpu) lines h = tt
may_come rings (Read member) lines h = tt
may_come rings (Stats member) lines h = tt
may_come rings (Tick ms) lines h =
    let later = h.rest.0 in
    (h.rest.1, λ k d l. let early = h.early k d l in omega (arith, early, later))

-- before the first line
pub timed-started : (size : Size) (members : ℕ) (lines : List Line) → AreAscending 0 lines
    → IsTimed (replicate members (fresh size)) lines
timed-started size members lines all = record {
  clock = 0;
  early = All-replicate (IsEarly 0) members (fresh size) (omega arith);
  rest = all;
}

-- the line at a place of the schedule
pub may-next : (at : ℕ) (lines : List Line) (none : Line) (rings : List Ring) → at < length lines
    → IsTimed rings (drop at lines) → MayCome (get_or lines at none) rings
may-next at lines none rings h timed =
    may_come rings (get_or lines at none) (drop (suc at) lines)
    (subst (λ (ls : List Line). IsTimed rings ls) (drop-cons lines at none h) timed)

-- ---- one more note

last_moment-push : (before : ℕ) (notes : List Note) (note : Note)
    → last_moment before (notes ++ note ∷ []) ≡ last_moment (last_moment before notes) (note ∷ [])
last_moment-push before [] note = refl
last_moment-push before (Kept offer found ∷ notes) note = last_moment-push before notes note
last_moment-push before (Refused cpu index need number ∷ notes) note = last_moment-push before notes note
last_moment-push before (Dropped cpu index need number ∷ notes) note = last_moment-push before notes note
last_moment-push before (Ticked ms found ∷ notes) note = last_moment-push ms notes note
last_moment-push before (Counted ∷ notes) note = last_moment-push before notes note
last_moment-push before (Finished ∷ notes) note = last_moment-push before notes note

-- a note that isn't a tick's
noted_early : (clock : ℕ) (ring : Ring) (note : Note) → ((before : ℕ) → last_moment before (note ∷ []) ≡ before)
    → IsEarly clock ring → IsEarly clock (noted ring note)
noted_early clock ring note stays h =
    subst (λ (moment : ℕ). moment ≤ clock) (sym (last_moment-push 0 ring.notes note ∙ stays (last_moment 0 ring.notes))) h

try_stays : (offer : Offer) (found : Found) (before : ℕ) → last_moment before (try_by offer found ∷ []) ≡ before
try_stays offer NotAsked before = refl
try_stays offer Free before = refl
try_stays offer (Held number) before = refl

put_stays : (offer : Offer) (found : Found) (before : ℕ) → last_moment before (put_by offer found ∷ []) ≡ before
put_stays offer NotAsked before = refl
put_stays offer Free before = refl
put_stays offer (Held number) before = refl

note_early : (steps : RingSteps) (clock : ℕ) (offer : Offer) (ring : Ring) (note : Note) → IsNoteOf steps offer ring note
    → IsEarly clock ring → IsEarly clock (noted ring note)
note_early steps clock offer ring note (inl e) h =
    subst (λ (n : Note). IsEarly clock (noted ring n)) (sym e)
    (noted_early clock ring _ (try_stays offer (steps.finds ring offer)) h)
note_early steps clock offer ring note (inr e) h =
    subst (λ (n : Note). IsEarly clock (noted ring n)) (sym e)
    (noted_early clock ring _ (put_stays offer (steps.finds ring offer)) h)

tick_early : (found : Option Found) (clock ms : ℕ) (ring : Ring) → clock ≤ ms → IsEarly clock ring
    → IsEarly ms (ticked_by found ms ring)
tick_early None clock ms ring later h = omega (arith, later, h)
tick_early (Some found) clock ms ring later h =
    subst (λ (moment : ℕ). moment ≤ ms) (sym (last_moment-push 0 ring.notes (Ticked ms found))) (omega arith)

read_early : (steps : RingSteps) (clock : ℕ) (ring : Ring) → IsEarly clock ring → IsEarly clock (read_by steps ring)
read_early steps clock ring h = subst (λ (notes : List Note). last_moment 0 notes ≤ clock) (sym (read_notes steps ring)) h

-- ---- a line is done

-- one ring changes, if it exists
pub set_one : (P : Ring → Type 0) (rings : List Ring) (at : ℕ) (ring : Ring) → All P rings
    → (P (get_or rings at no_ring) → P ring) → All P (slice_set rings at ring)
set_one P rings at ring all stays = elim (cases_lt at (length rings)) [
  | inl h ↦ All-set P rings at ring (stays (All-get_or P rings at no_ring h all)) all
  | inr h ↦ subst (λ (rs : List Ring). All P rs) (sym (set_past rings at ring h)) all
]

tries_early : (steps : RingSteps) (clock : ℕ) (offer : Offer) (tries : List Try) (old new : List Ring)
    → AreTried steps offer tries old new → All (IsEarly clock) old
    → All (IsEarly clock) new
tries_early steps clock offer [] old new h all = subst (λ (rs : List Ring). All (IsEarly clock) rs) (sym h) all
tries_early steps clock offer (t ∷ tries) old new h all =
    let one : IsTried steps offer t old h.0 = h.1 in
    let here = All-get_or (IsEarly clock) old t.member no_ring one.within all in
    let next : All (IsEarly clock) h.0 = subst (λ (rs : List Ring). All (IsEarly clock) rs) (sym one.rings_are)
    (All-set (IsEarly clock) old t.member _
    (note_early steps clock offer (get_or old t.member no_ring) one.note one.note_is here) all) in
    tries_early steps clock offer tries h.0 new h.2 next

changed_early : (steps : RingSteps) (clock : ℕ) (old new : List Ring) → ChangedByTries steps old new → All (IsEarly clock) old
    → All (IsEarly clock) new
changed_early steps clock old new (inl e) all = subst (λ (rs : List Ring). All (IsEarly clock) rs) (sym e) all
changed_early steps clock old new (inr t) all = tries_early steps clock t.0 t.1 old new t.2 all

pub timed_after : (steps : RingSteps) (line : Line) (lines : List Line) (old new : List Ring) → MembersAfter steps line old new
    → IsTimed old (line ∷ lines)
    → IsTimed new lines
timed_after steps (Feed cpu) lines old new m h =
    record { clock = h.clock; early = changed_early steps h.clock old new m h.early; rest = h.rest }
timed_after steps (Read member) lines old new m h =
    let set = set_one (IsEarly h.clock) old member (read_by steps (get_or old member no_ring)) h.early
    (λ one. read_early steps h.clock (get_or old member no_ring) one) in
    record { clock = h.clock; early = subst (λ (rs : List Ring). All (IsEarly h.clock) rs) (sym m) set; rest = h.rest }
timed_after steps (Tick ms) lines old new m h = record {
  clock = ms;
  early = subst (λ (rs : List Ring). All (IsEarly ms) rs) (sym m)
      (All-map (IsEarly ms) (ticked steps ms) old
      (λ k d l. tick_early (steps.ticks (get_or old k d) ms) h.clock ms (get_or old k d) h.rest.0 (h.early k d l)));
  rest = h.rest.2;
}
timed_after steps (Stats member) lines old new m h =
    let set = set_one (IsEarly h.clock) old member _ h.early
    (λ one. noted_early h.clock (get_or old member no_ring) Counted (λ before. refl) one) in
    record { clock = h.clock; early = subst (λ (rs : List Ring). All (IsEarly h.clock) rs) (sym m) set; rest = h.rest }

pub drop_line : (at : ℕ) (lines : List Line) (none : Line) → at < length lines
    → drop at lines ≡ get_or lines at none ∷ drop (at + 1) lines
drop_line at lines none h =
    let next : suc at ≡ at + 1 = omega arith in
    drop-cons lines at none h ∙ ap (λ (n : ℕ). get_or lines at none ∷ drop n lines) next
