-- The greatest of what passes over the members' frames report is so of the group, with rollover too.
use Rattle.std.proofs.Common.{◌≡◌, ◌↔◌, ℕ, zero, suc, ◌<◌, ◌≤◌, ◌⊎◌, inl, inr, List, [], length, get_or}
use Rattle.std.proofs.Common.{sym, subst, arith, Some}
use Rattle.std.specs.Prelude.{All, map}
use Rattle.std.proofs.lemmas.Bool.{cases_lt}
use Rattle.std.proofs.lemmas.List.{get_or-map, length-map}
use Rattle.reader_pace.specs.Timelines.{schedule_at}
use Rattle.receive_ring.specs.Replay.{no_ring, replayed}
use Rattle.replay_laws.specs.Alone.{alone, dealt}
use Rattle.replay_laws.proofs.Rollovers.{stand_alone}
use Rattle.ring_events.specs.Happenings.{IsNeverHeld}
use Rattle.ring_events.specs.declared.events.Happening.{Happening}
use Rattle.ring_model.specs.Rings.{Ring}
use Rattle.ring_sizes.specs.Phases.{IsBeginning, IsFirstMost, IsPhase}
use Rattle.ring_sizes.specs.declared.events.Event.{Event}
use Rattle.ring_sizes.specs.declared.tries.Reached.{Reached}
use Rattle.ring_sizes.specs.declared.tries.Tries.{Tries}
use Rattle.run_reports.specs.RingSteps.{RingSteps}
use Rattle.setup_text.specs.declared.lines.Line.{Line}
use Rattle.pace_laws.specs.LeastRings.{IsGroupLeastBy, greatest_of}
use Rattle.pace_laws.specs.Sizings.{HadEvents, InGroup, Sizing, judged_with}
use Rattle.pace_laws.proofs.MemberRuns.{AreHad}

each_most : (f : ℕ → ℕ) (count most : ℕ) → greatest_of f count ≤ most → (member : ℕ) → member < count → f member ≤ most
each_most f zero most h member inside = absurd (omega (arith, inside))
each_most f (suc count) most h member inside = by_case (cases_lt member count) (each_most f count most) where
  by_case : (member < count) ⊎ (count ≤ member)
      → (greatest_of f count ≤ most → (member : ℕ) → member < count → f member ≤ most) → f member ≤ most
  by_case (inl less) k = k (omega (arith, h)) member less
  by_case (inr more) k =
      let same : count ≡ member = omega (arith, inside, more) in
      subst (λ (member : ℕ). f member ≤ most) same (omega (arith, h))

most_each : (f : ℕ → ℕ) (count most : ℕ) → ((member : ℕ) → member < count → f member ≤ most) → greatest_of f count ≤ most
most_each f zero most h = omega arith
most_each f (suc count) most h =
    let rest = most_each f count most (λ member inside. h member (omega (arith, inside))) in
    let last = h count (omega arith) in omega (arith, rest, last)

abbrev IsFreeRing : Ring → Type 0
IsFreeRing ring = IsNeverHeld ring.notes

-- each member's ring alone had its events, and a number decides whether such a ring is free
module _ (sizing : Sizing) (steps : RingSteps) (places phase from : ℕ) (events_of : ℕ → List Event) (number_of : ℕ → ℕ)
    (had : (member : ℕ) (all : List Line)
    → schedule_at (judged_with sizing steps.size.blocks) sizing.reader phase from ≡ Some all
    → AreHad sizing.rules steps sizing.arriving member (events_of member) all)
    (decides : (member : ℕ) (ring : Ring) → HadEvents steps (events_of member) ring
    → IsFreeRing ring ↔ (number_of member ≤ places)) where
  abbrev given_by : List Line → List (List Happening)
  given_by lines = dealt sizing.rules steps.size.room sizing.arriving lines

  abbrev greatest : ℕ
  greatest = greatest_of number_of sizing.rules.members

  module _ (lines : List Line)
      (lines_are : schedule_at (judged_with sizing steps.size.blocks) sizing.reader phase from ≡ Some lines) where
    count : length (given_by lines) ≡ sizing.rules.members
    count = (had 0 lines lines_are).count

    one_iff : (member : ℕ) → member < sizing.rules.members
        → IsFreeRing (alone steps (get_or (given_by lines) member [])) ↔ (number_of member ≤ places)
    one_iff member inside =
        decides member (alone steps (get_or (given_by lines) member [])) ((had member lines lines_are).had inside)

    alone_free : All IsFreeRing (map (alone steps) (given_by lines)) → greatest ≤ places
    alone_free free =
        most_each number_of sizing.rules.members places
        (λ member inside.
        let here : member < length (given_by lines) = omega (arith, inside, count) in
        let within : member < length (map (alone steps) (given_by lines)) =
        omega (arith, here, length-map (given_by lines) (alone steps)) in
        (one_iff member inside).0 (subst IsFreeRing (get_or-map (alone steps) (given_by lines) member [] no_ring here)
        (free member no_ring within)))

    free_alone : greatest ≤ places → All IsFreeRing (map (alone steps) (given_by lines))
    free_alone few = λ member default within.
        let here : member < length (given_by lines) = omega (arith, within, length-map (given_by lines) (alone steps)) in
        let inside : member < sizing.rules.members = omega (arith, here, count) in
        let least = each_most number_of sizing.rules.members places few member inside in
        subst IsFreeRing (sym (get_or-map (alone steps) (given_by lines) member [] default here))
        ((one_iff member inside).1 least)

    abbrev rings : List Ring
    rings = (replayed sizing.rules steps sizing.arriving lines).members

    stands : (All IsFreeRing (map (alone steps) (given_by lines))) ⊎ (All IsFreeRing rings)
        → rings ≡ map (alone steps) (given_by lines)
    stands free = stand_alone sizing.rules steps sizing.arriving lines free

    group_iff : All IsFreeRing rings ↔ (greatest ≤ places)
    group_iff = (
      λ free. alone_free (subst (All IsFreeRing) (stands (inr free)) free),
      λ few. let free = free_alone few in subst (All IsFreeRing) (sym (stands (inl free))) free,
    )

  pub group_decides : InGroup (λ rings. All IsFreeRing rings ↔ (greatest ≤ places)) sizing steps phase from
  group_decides lines lines_are = group_iff lines lines_are

pub is_group_least : (sizing : Sizing) (steps_with : ℕ → RingSteps) (tries : Tries) (number_at : ℕ → ℕ → ℕ) (found : Reached)
    → ((places phase from : ℕ) → IsPhase tries phase → IsBeginning tries from → 1 ≤ places
    → InGroup (λ rings. All IsFreeRing rings ↔ (number_at phase from ≤ places)) sizing (steps_with places) phase from)
    → ((places : ℕ) → (lines : List Line)
    × (schedule_at (judged_with sizing (steps_with places).size.blocks) sizing.reader found.phase found.from ≡ Some lines))
    → IsFirstMost tries number_at found → IsGroupLeastBy steps_with sizing tries found
is_group_least sizing steps_with tries number_at found decides runs h = record {
  phase = h.phase;
  from = h.from;
  enough = λ places phase from one more p b lines lines_are.
      (decides places phase from p b one lines lines_are).1 (omega (arith, h.best phase from p b, more));
  reached = λ places one fewer free.
      let run = runs places in
      let least = (decides places found.phase found.from h.phase h.from one run.0 run.1).0 (free run.0 run.1) in
      absurd (omega (arith, least, fewer, h.reached));
  first = λ places phase from one less p b earlier lines lines_are.
      (decides places phase from p b one lines lines_are).1 (omega (arith, h.first phase from p b earlier, less));
}
