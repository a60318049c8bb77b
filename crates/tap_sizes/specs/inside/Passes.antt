-- What the passes over what the members are given find.
use Rattle.std.specs.Prelude.{◌≡◌, ℕ, ◌<◌, ◌≤◌, ◌^◌, max, Bool, true, false, List, [], ◌∷◌, All, ⊤}
use Rattle.std.specs.Prelude.{◌==◌, nat_lt}
use Rattle.std.specs.Prelude.{if◌then◌else◌, MatchOption, None, Some}
use Rattle.std.specs.List.{sum_by}
use Rattle.fanout_group.specs.Plans.{rolls_over}
use Rattle.pace_laws.specs.Paces.{pace_of, stalls_of}
use Rattle.reader_pace.specs.declared.readers.PacedReader.{PacedReader}
use Rattle.ring_sizes.specs.Phases.{AreTried, IsFirstFewest, IsFirstMost, begun, drops_of, least_of}
use Rattle.ring_sizes.specs.declared.paces.Arrival.{Arrival}
use Rattle.ring_sizes.specs.declared.paces.Timing.{Timing}
use Rattle.ring_sizes.specs.declared.paces.StallTime.{StallTime}
use Rattle.ring_sizes.specs.declared.phase_losses.DropRange.{DropRange}
use Rattle.ring_sizes.specs.declared.tries.Reached.{Reached}
use Rattle.ring_sizes.specs.declared.tries.Tries.{Tries}
use Rattle.run_reports.specs.declared.ring_kind.RingKind.{RingKind}
use Rattle.run_reports.specs.declared.ring_kind.RingKind.TheVariants.{Blocks, Slots}
use Rattle.setup_text.specs.declared.setups.Setup.{Setup}
use Rattle.size_printing.specs.declared.size_reports.ReadFile.{ReadFile}
use Rattle.size_printing.specs.declared.size_reports.SizeReport.{SizeReport}
use Rattle.slot_sizes.specs.SlotSchedules.{least_slots_of, slot_drops_of}
use Rattle.tap_sizes.specs.RingParts.{parts_of}
use Rattle.tap_sizes.specs.Tried.{tries_by}
use Rattle.tap_sizes.specs.declared.ring_parts.RingParts.{RingParts}
use Rattle.tp_layout.specs.Requests.{time_out_of}

-- the arrivals of a ring come early enough for the passes
abbrev pub IsEarly : List Arrival → Type 0
IsEarly arrivals = All (λ arrival. arrival.at < 2 ^ 53) arrivals

-- when the timer ticks and the reader reads, and until when
pub record Clocks : Type 0 where
  pub pace : Timing
  pub stalls : List StallTime
  pub end : ℕ

-- the number of blocks, or slots, that a pass reports, and what a course drops
abbrev pub least_with : RingKind → ℕ → List StallTime → Timing → List Arrival → ℕ → ℕ
least_with Blocks room stalls pace arrivals end = least_of room stalls pace arrivals end
least_with Slots room stalls pace arrivals end = least_slots_of stalls pace arrivals end

abbrev pub drops_with : RingKind → ℕ → ℕ → List StallTime → Timing → List Arrival → ℕ → ℕ
drops_with Blocks room count stalls pace arrivals end =
    drops_of room count stalls pace arrivals end
drops_with Slots room count stalls pace arrivals end = slot_drops_of count stalls pace arrivals end

-- the number that a pass reports at a phase and a beginning
abbrev pub least_by : RingParts → Clocks → List Arrival → ℕ → ℕ → ℕ
least_by parts clocks arrivals phase from =
    least_with parts.kind parts.room clocks.stalls (begun clocks.pace phase from) arrivals
    clocks.end

-- the greatest of them over several members
abbrev pub most_by : RingParts → Clocks → List (List Arrival) → ℕ → ℕ → ℕ
most_by parts clocks [] phase from = 0
most_by parts clocks (arrivals ∷ all) phase from =
    max (least_by parts clocks arrivals phase from) (most_by parts clocks all phase from)

-- each ring is that of its member
abbrev pub AreFirstMost : RingParts → Clocks → Tries → List (List Arrival) → List Reached → Type 0
AreFirstMost parts clocks tries [] [] = ⊤
AreFirstMost parts clocks tries (arrivals ∷ all) (ring ∷ rings) =
    IsFirstMost tries (least_by parts clocks arrivals) ring
    × AreFirstMost parts clocks tries all rings
AreFirstMost parts clocks tries all rings = ⊥

-- the packets that a course drops at a phase and a beginning
abbrev pub drops_by : RingParts → Clocks → List Arrival → ℕ → ℕ → ℕ
drops_by parts clocks arrivals phase from =
    drops_with parts.kind parts.room parts.count clocks.stalls (begun clocks.pace phase from)
    arrivals clocks.end

-- the fewest and the most
pub record IsDropRange (parts : RingParts) (clocks : Clocks) (tries : Tries)
    (arrivals : List Arrival) (range : DropRange) : Type 0 where
  pub fewest : IsFirstFewest tries (drops_by parts clocks arrivals) range.fewest
  pub most : IsFirstMost tries (drops_by parts clocks arrivals) range.most

-- each range is that of its member
abbrev pub AreDropRanges :
    RingParts → Clocks → Tries → List (List Arrival) → List DropRange → Type 0
AreDropRanges parts clocks tries [] [] = ⊤
AreDropRanges parts clocks tries (arrivals ∷ all) (range ∷ ranges) =
    IsDropRange parts clocks tries arrivals range × AreDropRanges parts clocks tries all ranges
AreDropRanges parts clocks tries all ranges = ⊥

-- the packets that the courses of all members drop together
abbrev pub total_by : RingParts → Clocks → List (List Arrival) → ℕ → ℕ → ℕ
total_by parts clocks all phase from =
    sum_by (λ arrivals. drops_by parts clocks arrivals phase from) all

-- the fewest and the most
pub record IsTotalRange (parts : RingParts) (clocks : Clocks) (tries : Tries)
    (all : List (List Arrival)) (range : DropRange) : Type 0 where
  pub fewest : IsFirstFewest tries (total_by parts clocks all) range.fewest
  pub most : IsFirstMost tries (total_by parts clocks all) range.most

-- whether a ring is greater than another, or as great at an earlier phase or beginning
abbrev pub is_greater : Reached → Reached → Bool
is_greater ring other =
    if ring.number == other.number
    then (if ring.phase == other.phase then nat_lt ring.from other.from
    else nat_lt ring.phase other.phase)
    else nat_lt other.number ring.number

-- the greatest of some rings and of one more, the first of them
abbrev pub greatest_ring : Reached → List Reached → Reached
greatest_ring found [] = found
greatest_ring found (ring ∷ rings) =
    greatest_ring (if is_greater ring found then ring else found) rings

-- the answers for members that are given these arrivals, with which a run ends at a moment
pub record IsAnsweredBy (setup : Setup) (reader : PacedReader) (all : List (List Arrival))
    (end : ℕ) (files : List ReadFile) (report : SizeReport) : Type 0 where
  pub files_are : report.files ≡ files
  -- the pace of the reader
  pub pace : Timing
  pub pace_is : pace_of (time_out_of setup.shape) reader.pace ≡ Some pace
  pub tried : AreTried pace (tries_by reader (time_out_of setup.shape))
  pub few : (tries_by reader (time_out_of setup.shape)).from_end ≤ 2 ^ 32
  -- the rings of all members
  pub rings : List Reached
  pub rings_are :
      AreFirstMost (parts_of reader.slots setup.shape)
      (record { pace = pace; stalls = stalls_of reader.stalls; end = end })
      (tries_by reader (time_out_of setup.shape)) all rings
  pub group :
      IsFirstMost (tries_by reader (time_out_of setup.shape))
      (most_by (parts_of reader.slots setup.shape)
      (record { pace = pace; stalls = stalls_of reader.stalls; end = end }) all) report.group
  -- they are reported without rollover
  pub members : rolls_over setup.plan ≡ false → report.members ≡ rings
  pub drops : rolls_over setup.plan ≡ false
      → AreDropRanges (parts_of reader.slots setup.shape)
      (record { pace = pace; stalls = stalls_of reader.stalls; end = end })
      (tries_by reader (time_out_of setup.shape)) all report.drops
  pub total : rolls_over setup.plan ≡ false
      → MatchOption report.total ⊥ (IsTotalRange (parts_of reader.slots setup.shape)
      (record { pace = pace; stalls = stalls_of reader.stalls; end = end })
      (tries_by reader (time_out_of setup.shape)) all)
  pub none : rolls_over setup.plan ≡ true
      → (report.members ≡ []) × (report.drops ≡ []) × (report.total ≡ None)
