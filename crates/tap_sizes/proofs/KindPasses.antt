-- What the passes and the courses report of rings of blocks, and of slots, is what is asked of rings
-- of their kind.
use Rattle.std.proofs.Common.{◌≡◌, ℕ, ◌+◌, List, sym, ap, subst}
use Rattle.std.specs.List.{sum_by}
use Rattle.ring_sizes.specs.Phases.{IsFirstFewest, IsFirstMost, begun, drops_of_all, least_of}
use Rattle.ring_sizes.specs.declared.paces.Arrival.{Arrival}
use Rattle.ring_sizes.specs.declared.phase_losses.DropRange.{DropRange}
use Rattle.ring_sizes.specs.declared.tries.Reached.{Reached}
use Rattle.ring_sizes.specs.declared.tries.Tries.{Tries}
use Rattle.run_reports.specs.declared.ring_kind.RingKind.{RingKind}
use Rattle.run_reports.specs.declared.ring_kind.RingKind.TheVariants.{Blocks, Slots}
use Rattle.slot_sizes.specs.SlotSchedules.{least_slots_of, slot_drops_of_all}
use Rattle.tap_sizes.specs.declared.ring_parts.RingParts.{RingParts}
use Rattle.tap_sizes.specs.inside.Passes.{Clocks, IsTotalRange, drops_with, least_by, least_with}

-- the one phase of tries that have no other
once : (tries : Tries) → tries.phase_end ≡ tries.first_phase + 1
    → record tries { phase_end = tries.first_phase + 1 } ≡ tries
once tries is = ap (λ (end : ℕ). record tries { phase_end = end }) (sym is)

-- ---- the least ring

-- a pass of the kind of the rings
least_kind : (parts : RingParts) (clocks : Clocks) (tries : Tries) (arrivals given : List Arrival)
    (kind : RingKind) (found : Reached) → parts.kind ≡ kind → given ≡ arrivals
    → IsFirstMost tries (λ phase from. least_with kind parts.room clocks.stalls
    (begun clocks.pace phase from) given clocks.end) found
    → IsFirstMost tries (least_by parts clocks arrivals) found
least_kind parts clocks tries arrivals given kind found is same first =
    subst (λ (k : RingKind). IsFirstMost tries (λ phase from. least_with k parts.room clocks.stalls
    (begun clocks.pace phase from) arrivals clocks.end) found) (sym is)
    (subst (λ (a : List Arrival). IsFirstMost tries (λ phase from. least_with kind parts.room
    clocks.stalls (begun clocks.pace phase from) a clocks.end) found) same first)

pub least_blocks : (parts : RingParts) (clocks : Clocks) (tries : Tries) (arrivals given : List Arrival)
    (found : Reached) → parts.kind ≡ Blocks → given ≡ arrivals
    → IsFirstMost tries (λ phase from. least_of parts.room clocks.stalls
    (begun clocks.pace phase from) given clocks.end) found
    → IsFirstMost tries (least_by parts clocks arrivals) found
least_blocks parts clocks tries arrivals given found is same first =
    least_kind parts clocks tries arrivals given Blocks found is same first

pub least_slots : (parts : RingParts) (clocks : Clocks) (tries : Tries) (arrivals given : List Arrival)
    (found : Reached) → parts.kind ≡ Slots → given ≡ arrivals
    → tries.phase_end ≡ tries.first_phase + 1
    → ((end : ℕ) → IsFirstMost (record tries { phase_end = tries.first_phase + 1 })
    (λ phase from. least_slots_of clocks.stalls (begun clocks.pace phase from) given end) found)
    → IsFirstMost tries (least_by parts clocks arrivals) found
least_slots parts clocks tries arrivals given found is same one first =
    least_kind parts clocks tries arrivals given Slots found is same
    (subst (λ (ts : Tries). IsFirstMost ts (λ phase from. least_slots_of clocks.stalls
    (begun clocks.pace phase from) given clocks.end) found) (once tries one) (first clocks.end))

-- ---- what is dropped

-- courses of the kind of the rings
range_kind : (parts : RingParts) (clocks : Clocks) (tries : Tries) (members : List (List Arrival))
    (kind : RingKind) (range : DropRange) → parts.kind ≡ kind
    → IsFirstFewest tries (λ phase from. sum_by (λ arrivals. drops_with kind parts.room parts.count clocks.stalls
    (begun clocks.pace phase from) arrivals clocks.end) members) range.fewest
    → IsFirstMost tries (λ phase from. sum_by (λ arrivals. drops_with kind parts.room parts.count clocks.stalls
    (begun clocks.pace phase from) arrivals clocks.end) members) range.most
    → IsTotalRange parts clocks tries members range
range_kind parts clocks tries members kind range is fewest most = record {
  fewest = subst (λ (k : RingKind). IsFirstFewest tries (λ phase from. sum_by (λ arrivals. drops_with k parts.room
      parts.count clocks.stalls (begun clocks.pace phase from) arrivals clocks.end) members) range.fewest) (sym is) fewest;
  most = subst (λ (k : RingKind). IsFirstMost tries (λ phase from. sum_by (λ arrivals. drops_with k parts.room
      parts.count clocks.stalls (begun clocks.pace phase from) arrivals clocks.end) members) range.most) (sym is) most;
}

pub range_blocks : (parts : RingParts) (clocks : Clocks) (tries : Tries) (members : List (List Arrival))
    (range : DropRange) → parts.kind ≡ Blocks
    → IsFirstFewest tries (λ phase from. drops_of_all parts.room parts.count clocks.stalls
    (begun clocks.pace phase from) members clocks.end) range.fewest
    → IsFirstMost tries (λ phase from. drops_of_all parts.room parts.count clocks.stalls
    (begun clocks.pace phase from) members clocks.end) range.most
    → IsTotalRange parts clocks tries members range
range_blocks parts clocks tries members range is fewest most =
    range_kind parts clocks tries members Blocks range is fewest most

pub range_slots : (parts : RingParts) (clocks : Clocks) (tries : Tries) (members : List (List Arrival))
    (range : DropRange) → parts.kind ≡ Slots
    → tries.phase_end ≡ tries.first_phase + 1
    → ((end : ℕ) → IsFirstFewest (record tries { phase_end = tries.first_phase + 1 })
    (λ phase from. slot_drops_of_all parts.count clocks.stalls (begun clocks.pace phase from) members end)
    range.fewest)
    → ((end : ℕ) → IsFirstMost (record tries { phase_end = tries.first_phase + 1 })
    (λ phase from. slot_drops_of_all parts.count clocks.stalls (begun clocks.pace phase from) members end)
    range.most)
    → IsTotalRange parts clocks tries members range
range_slots parts clocks tries members range is one fewest most =
    range_kind parts clocks tries members Slots range is
    (subst (λ (ts : Tries). IsFirstFewest ts (λ phase from. slot_drops_of_all parts.count clocks.stalls
    (begun clocks.pace phase from) members clocks.end) range.fewest) (once tries one)
    (fewest clocks.end))
    (subst (λ (ts : Tries). IsFirstMost ts (λ phase from. slot_drops_of_all parts.count clocks.stalls
    (begun clocks.pace phase from) members clocks.end) range.most) (once tries one) (most clocks.end))
