-- The pass of a ring of slots, frame by frame.
use Rattle.std.proofs.Common.{◌≡◌, ℕ, zero, suc, ◌+◌, ◌-◌, ◌<◌, ◌≤◌, Bool, true, false, cond, List, [], ◌∷◌, ◌++◌, length}
use Rattle.std.proofs.Common.{drop, get_or, drop-cons, add-one, max, replicate, min, refl, sym, ap, ◌∙◌, arith}
use Rattle.std.specs.Prelude.{◌==◌, nat_lt}
use Rattle.std.proofs.lemmas.Grind.{common_steps}
use Rattle.std.proofs.Common.{All, nat_cmp, rules, ◌^◌}
use Rattle.std.specs.Ordering.{ord_max}
use Rattle.std.proofs.lemmas.List.{drop_all}
use Rattle.std.proofs.lemmas.List.Elements.{All-get_or}
use Rattle.ring_sizes.specs.Schedules.{awake, step_event, steps_before, steps_from}
use Rattle.ring_sizes.specs.declared.events.Event.{Event}
use Rattle.ring_sizes.specs.declared.events.Event.TheVariants.{Packet, Read, ReadAll}
use Rattle.ring_sizes.specs.declared.paces.Arrival.{Arrival}
use Rattle.ring_sizes.specs.declared.paces.Timing.{Timing}
use Rattle.ring_sizes.specs.declared.paces.StallTime.{StallTime}
use Rattle.ring_sizes.proofs.Frames.{max_below}
use Rattle.ring_sizes.proofs.ReaderSteps.{all_again, more_read, none_read, not_none}
use Rattle.slot_sizes.specs.SlotPasses.{all_slots_passed, slot_passed, slots_read, with_slot}
use Rattle.slot_sizes.specs.SlotSchedules.{slot_schedule_from}
use Rattle.slot_sizes.specs.declared.slot_passes.SlotPass.{SlotPass}

-- ---- numbers of a frame

pub greater : (since at next : ℕ) → next ≡ ord_max nat_cmp since at → next ≡ max since at
greater since at next e = search rules

pub soon : (arrivals : List Arrival) (index : ℕ) (default : Arrival) (since next : ℕ) → index < length arrivals
    → All (λ arrival. arrival.at < 2 ^ 53) arrivals → since < 2 ^ 53 → next ≡ max since (get_or arrivals index default).at
    → next < 2 ^ 53
soon arrivals index default since next inside all early is =
    let here : (get_or arrivals index default).at < 2 ^ 53 =
    All-get_or (λ (arrival : Arrival). arrival.at < 2 ^ 53) arrivals index default inside all in
    omega (arith, is, max_below since (get_or arrivals index default).at (2 ^ 53) early here)

-- the steps of the reader before a frame
pub steps_are : (stalls : List StallTime) (pace : Timing) (since at from to steps : ℕ) → from ≡ steps_before pace since
    → to ≡ steps_before pace at → steps ≡ awake stalls pace from (to - from)
    → steps ≡ awake stalls pace (steps_before pace since) (steps_before pace at - steps_before pace since)
steps_are stalls pace since at from to steps e f is =
    is ∙ ap (λ (n : ℕ). awake stalls pace n (to - n)) e ∙ ap (λ (n : ℕ). awake stalls pace (steps_before pace since)
    (n - steps_before pace since)) f

-- ---- the pass

pub append : (events more : List Event) (pass : SlotPass)
    → all_slots_passed (events ++ more) pass ≡ all_slots_passed more (all_slots_passed events pass)
append [] more pass = refl
append (event ∷ events) more pass = append events more (slot_passed event pass)

reads_all : (steps : ℕ) (pass : SlotPass) → all_slots_passed (replicate steps ReadAll) pass ≡ slots_read true steps pass
reads_all zero pass = refl
reads_all (suc more) pass =
    reads_all more (record pass { released = pass.done })
    ∙ ap (λ (n : ℕ). record pass { released = n })
    (all_again (more == 0) pass.done
    ∙ ap (λ (none : Bool). cond none pass.released pass.done) (sym (not_none (suc more) (suc more == 0) refl (omega arith))))

reads_one_by : (more : ℕ) (pass : SlotPass) (some : Bool) → nat_lt pass.released pass.done ≡ some
    → ((later : SlotPass) → all_slots_passed (replicate more Read) later ≡ slots_read false more later)
    → all_slots_passed (replicate more Read) (cond some (record pass { released = pass.released + 1 }) pass)
    ≡ slots_read false (suc more) pass
reads_one_by more pass true e rest =
    rest (record pass { released = pass.released + 1 })
    ∙ ap (λ (n : ℕ). record pass { released = n }) (more_read more pass.released pass.done (grind (arith, common_steps)))
reads_one_by more pass false e rest =
    rest pass
    ∙ ap (λ (n : ℕ). record pass { released = n }) (none_read more pass.released pass.done (grind (arith, common_steps)))

reads_one : (steps : ℕ) (pass : SlotPass) → all_slots_passed (replicate steps Read) pass ≡ slots_read false steps pass
reads_one zero pass =
    let none : pass.released ≡ pass.released + min 0 (pass.done - pass.released) = omega arith in
    ap (λ (n : ℕ). record pass { released = n }) none
reads_one (suc more) pass = reads_one_by more pass (nat_lt pass.released pass.done) refl (reads_one more)

pub reads : (takes_all : Bool) (steps : ℕ) (pass : SlotPass)
    → all_slots_passed (replicate steps (step_event takes_all)) pass ≡ slots_read takes_all steps pass
reads true steps pass = reads_all steps pass
reads false steps pass = reads_one steps pass

module _ (stalls : List StallTime) (pace : Timing) where
  abbrev awake_to : ℕ → ℕ → ℕ
  awake_to since at = awake stalls pace (steps_before pace since) (steps_before pace at - steps_before pace since)

  pub arrival_goes : (end since at : ℕ) (arrivals : List Arrival) (index : ℕ) (default : Arrival)
      (pass before later total : SlotPass)
      → index < length arrivals → at ≡ max since (get_or arrivals index default).at
      → before ≡ slots_read pace.takes_all (awake_to since at) pass → later ≡ with_slot before
      → all_slots_passed (slot_schedule_from stalls pace end since (drop index arrivals)) pass ≡ total
      → all_slots_passed (slot_schedule_from stalls pace end at (drop (index + 1) arrivals)) later ≡ total
  arrival_goes end since at arrivals index default pass before later total inside is was goes whole =
      let arrival = get_or arrivals index default in
      let rest = drop (index + 1) arrivals in
      let head : drop index arrivals ≡ arrival ∷ rest = rw add-one (drop-cons arrivals index default inside) in
      ap (all_slots_passed (slot_schedule_from stalls pace end at rest)) goes
      ∙ ap (λ (p : SlotPass). all_slots_passed (slot_schedule_from stalls pace end at rest) (with_slot p))
      (was ∙ sym (reads pace.takes_all (awake_to since at) pass))
      ∙ sym (append (steps_from stalls pace since at) (Packet arrival.need ∷ slot_schedule_from stalls pace end at rest) pass)
      ∙ ap (λ (n : ℕ). all_slots_passed
      (steps_from stalls pace since n ++ Packet arrival.need ∷ slot_schedule_from stalls pace end n rest) pass) is
      ∙ ap (λ (left : List Arrival). all_slots_passed (slot_schedule_from stalls pace end since left) pass) (sym head)
      ∙ whole

  pub end_goes : (end since : ℕ) (arrivals : List Arrival) (index : ℕ) (pass total : SlotPass) → length arrivals ≤ index
      → all_slots_passed (slot_schedule_from stalls pace end since (drop index arrivals)) pass ≡ total
      → pass.least ≡ total.least
  end_goes end since arrivals index pass total behind whole =
      ap (λ (p : SlotPass). p.least)
      (sym (reads pace.takes_all (awake_to since (end + 1)) pass)
      ∙ ap (λ (left : List Arrival). all_slots_passed (slot_schedule_from stalls pace end since left) pass)
      (sym (drop_all index arrivals behind))
      ∙ whole)
