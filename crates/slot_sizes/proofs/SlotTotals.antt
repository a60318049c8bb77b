-- What rings of slots come to at each beginning that is tried, alone and together.
use Rattle.std.proofs.Common.{◌≡◌, ℕ, ◌+◌, List, [], ◌∷◌, map, refl, sym, ap, ◌∙◌, subst}
use Rattle.std.specs.List.{AllByRecursion, sum_by}
use Rattle.std.proofs.lemmas.List.Sums.{sum_by-cons}
use Rattle.ring_events.specs.Happenings.{IsPlain}
use Rattle.ring_events.specs.declared.events.Happening.{Happening}
use Rattle.ring_model.specs.Ring.{Size}
use Rattle.ring_model.specs.Rings.{fresh}
use Rattle.ring_model.specs.declared.notes.Stats.{Stats}
use Rattle.ring_sizes.specs.EventLists.{events_of}
use Rattle.ring_sizes.specs.Orders.{at_phase}
use Rattle.ring_sizes.specs.Phases.{IsFirst, IsFirstMost, begun}
use Rattle.ring_sizes.specs.declared.events.Event.{Event}
use Rattle.ring_sizes.specs.declared.paces.Arrival.{Arrival}
use Rattle.ring_sizes.specs.declared.paces.StallTime.{StallTime}
use Rattle.ring_sizes.specs.declared.paces.Timing.{Timing}
use Rattle.ring_sizes.specs.declared.tries.Reached.{Reached}
use Rattle.ring_sizes.specs.declared.tries.Tries.{Tries}
use Rattle.ring_sizes.proofs.Totals.{sum_map, sum_same}
use Rattle.ring_sizes.proofs.Worsts.{first_as}
use Rattle.slot_layout.specs.SlotFates.{slot_totals_of}
use Rattle.slot_sizes.specs.SlotCourses.{all_slots_went_on, first_slot_course}
use Rattle.slot_sizes.specs.SlotHappenings.{all_slots_happened}
use Rattle.slot_sizes.specs.SlotSchedules.{least_slots_of, slot_drops_of, slot_drops_of_all, slot_schedule_to}
use Rattle.slot_sizes.proofs.SlotEnds.{drops_at_end, least_at_end}
use Rattle.slot_sizes.proofs.SlotRuns.{totals_at}

-- ---- at each end

-- where the end has no meaning
at_ends : (Best Better : ℕ → ℕ → Type 0) (tries once : Tries) (number_at : ℕ → ℕ → ℕ → ℕ) (found : Reached)
    → once ≡ record tries { phase_end = tries.first_phase + 1 }
    → ((end phase from : ℕ) → number_at 0 phase from ≡ number_at end phase from)
    → IsFirst Best Better once (number_at 0) found
    → (end : ℕ) → IsFirst Best Better (record tries { phase_end = tries.first_phase + 1 }) (number_at end) found
at_ends Best Better tries once number_at found is same first end =
    first_as Best Better (record tries { phase_end = tries.first_phase + 1 }) (number_at 0) (number_at end) found (same end)
    (subst (λ (ts : Tries). IsFirst Best Better ts (number_at 0) found) is first)

module _ (stalls : List StallTime) (pace : Timing) (tries once : Tries)
    (is : once ≡ record tries { phase_end = tries.first_phase + 1 }) (found : Reached) where
  pub least_at_ends : (arrivals : List Arrival)
      → IsFirstMost once (λ phase from. least_slots_of stalls (begun pace phase from) arrivals 0) found
      → (end : ℕ) → IsFirstMost (record tries { phase_end = tries.first_phase + 1 })
      (λ phase from. least_slots_of stalls (begun pace phase from) arrivals end) found
  least_at_ends arrivals first =
      at_ends _ _ tries once (λ end phase from. least_slots_of stalls (begun pace phase from) arrivals end) found is
      (λ end phase from. least_at_end stalls (begun pace phase from) arrivals 0 end) first

  all_at_end : (slots : ℕ) (members : List (List Arrival)) (at : Timing) (end : ℕ)
      → slot_drops_of_all slots stalls at members 0 ≡ slot_drops_of_all slots stalls at members end
  all_at_end slots [] at end = refl
  all_at_end slots (arrivals ∷ members) at end =
      let one : List Arrival → ℕ = λ arrivals. slot_drops_of slots stalls at arrivals 0 in
      let other : List Arrival → ℕ = λ arrivals. slot_drops_of slots stalls at arrivals end in
      sum_by-cons one arrivals members
      ∙ ap (λ (n : ℕ). n + sum_by one members) (drops_at_end stalls at slots arrivals 0 end)
      ∙ ap (λ (n : ℕ). other arrivals + n) (all_at_end slots members at end)
      ∙ sym (sum_by-cons other arrivals members)

  pub drops_at_ends : (Best Better : ℕ → ℕ → Type 0) (slots : ℕ) (members : List (List Arrival))
      → IsFirst Best Better once (λ phase from. slot_drops_of_all slots stalls (begun pace phase from) members 0) found
      → (end : ℕ) → IsFirst Best Better (record tries { phase_end = tries.first_phase + 1 })
      (λ phase from. slot_drops_of_all slots stalls (begun pace phase from) members end) found
  drops_at_ends Best Better slots members first =
      at_ends Best Better tries once (λ end phase from. slot_drops_of_all slots stalls (begun pace phase from) members end)
      found is (λ end phase from. all_at_end slots members (begun pace phase from) end) first

-- no other phase
pub same_pace : (pace : Timing) (phase : ℕ) → phase ≡ pace.phase → at_phase pace phase ≡ pace
same_pace pace phase is = ap (at_phase pace) is

-- ---- what the rings' notes say

pub totals_in_all : (size : Size) (stalls : List StallTime) (pace : Timing) (members : List (List Arrival)) (end : ℕ)
    (all : List (List Happening))
    → map (λ happenings. events_of happenings) all ≡ map (λ arrivals. slot_schedule_to stalls pace arrivals end) members
    → AllByRecursion (λ happenings. IsPlain happenings) all
    → sum_by (λ happenings. (slot_totals_of (all_slots_happened happenings (fresh size)).notes).drops) all
    ≡ slot_drops_of_all size.blocks stalls pace members end
totals_in_all size stalls pace members end all same plain =
    let counted : List Happening → ℕ =
    λ happenings. (slot_totals_of (all_slots_happened happenings (fresh size)).notes).drops in
    let dropped : List Event → ℕ = λ events. (all_slots_went_on size.blocks events first_slot_course).dropped in
    sum_same (λ happenings. IsPlain happenings) counted (λ happenings. dropped (events_of happenings))
    (λ happenings plain. sym (ap (λ (stats : Stats). stats.drops) (totals_at size happenings _ _ refl plain refl))) all plain
    ∙ sym (sum_map (λ happenings. events_of happenings) dropped all)
    ∙ ap (sum_by dropped) same
    ∙ sum_map (λ arrivals. slot_schedule_to stalls pace arrivals end) dropped members
