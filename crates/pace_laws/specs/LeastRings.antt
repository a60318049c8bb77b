-- The least ring of a member and of a group, and the most and the fewest packets that a member and
-- all members together drop, over phases of the timer and beginnings of the reader.
use Rattle.std.specs.Prelude.{◌≡◌, ℕ, zero, suc, ◌+◌, ◌<◌, ◌≤◌, max, List, All}
use Rattle.std.specs.List.{sum_by}
use Rattle.pace_laws.specs.Paces.{stalls_of}
use Rattle.pace_laws.specs.Sizings.{InGroup, InReplay, Sizing, blocks_with, events_at, given_to}
use Rattle.pace_laws.specs.Sizings.{size_with, slot_events_at, slots_with}
use Rattle.reader_pace.specs.Timelines.{end_of}
use Rattle.ring_events.specs.Happenings.{IsNeverHeld}
use Rattle.ring_model.specs.Fates.{totals_of}
use Rattle.ring_model.specs.declared.notes.Note.{Note}
use Rattle.ring_model.specs.declared.notes.Stats.{Stats}
use Rattle.ring_sizes.specs.Courses.{all_went_on, course_stats, first_course}
use Rattle.ring_sizes.specs.Phases.{IsBeginning, IsEarlier, IsPhase, begun, drops_of, least_of}
use Rattle.ring_sizes.specs.declared.paces.Timing.{Timing}
use Rattle.ring_sizes.specs.declared.tries.Reached.{Reached}
use Rattle.ring_sizes.specs.declared.tries.Tries.{Tries}
use Rattle.run_reports.specs.RingSteps.{RingSteps}
use Rattle.slot_layout.specs.SlotFates.{slot_totals_of}
use Rattle.slot_sizes.specs.SlotCourses.{all_slots_went_on, first_slot_course, slot_course_stats}
use Rattle.slot_sizes.specs.SlotSchedules.{least_slots_of, slot_drops_of}

-- ---- what the passes report at a phase and a beginning

-- the number of blocks that a pass over a member's frames reports
abbrev pub least_at : Sizing → Timing → ℕ → ℕ → ℕ → ℕ
least_at sizing pace member phase from =
    least_of sizing.room (stalls_of sizing.reader.stalls) (begun pace phase from)
    (given_to sizing member) (end_of sizing.times)

-- the number of slots
abbrev pub least_slots_by : Sizing → Timing → ℕ → ℕ → ℕ → ℕ
least_slots_by sizing pace member phase from =
    least_slots_of (stalls_of sizing.reader.stalls) (begun pace phase from)
    (given_to sizing member) (end_of sizing.times)

-- the statistics that a course over them reports, for so many blocks
abbrev pub stats_at : Sizing → Timing → ℕ → ℕ → ℕ → ℕ → Stats
stats_at sizing pace member blocks phase from =
    course_stats (all_went_on sizing.room blocks pace.tov (events_at sizing pace member phase from)
    (first_course pace.tov))

-- and the packets that it drops
abbrev pub drops_at : Sizing → Timing → ℕ → ℕ → ℕ → ℕ → ℕ
drops_at sizing pace member blocks phase from =
    drops_of sizing.room blocks (stalls_of sizing.reader.stalls) (begun pace phase from)
    (given_to sizing member) (end_of sizing.times)

-- the same for so many slots
abbrev pub slot_stats_at : Sizing → Timing → ℕ → ℕ → ℕ → ℕ → Stats
slot_stats_at sizing pace member slots phase from =
    slot_course_stats (all_slots_went_on slots (slot_events_at sizing pace member phase from)
    first_slot_course)

abbrev pub slot_drops_at : Sizing → Timing → ℕ → ℕ → ℕ → ℕ → ℕ
slot_drops_at sizing pace member slots phase from =
    slot_drops_of slots (stalls_of sizing.reader.stalls) (begun pace phase from)
    (given_to sizing member) (end_of sizing.times)

-- ---- the least ring of a member

-- no note of the member's ring finds a block or slot still the reader's
abbrev pub IsFree : Sizing → RingSteps → ℕ → ℕ → ℕ → Type 0
IsFree sizing steps member phase from =
    InReplay (λ ring. IsNeverHeld ring.notes) sizing steps member phase from

-- so many blocks or slots, and any more, are enough at each phase and beginning that are tried;
-- fewer aren't at the ones found, and of these one less is enough at each earlier one
pub record IsLeastBy (steps_with : ℕ → RingSteps) (sizing : Sizing) (member : ℕ) (tries : Tries)
    (found : Reached) : Type 0 where
  pub phase : IsPhase tries found.phase
  pub from : IsBeginning tries found.from
  pub enough : (places phase from : ℕ) → found.number ≤ places
      → IsPhase tries phase → IsBeginning tries from
      → IsFree sizing (steps_with places) member phase from
  pub reached : (places : ℕ) → 1 ≤ places → places < found.number
      → IsFree sizing (steps_with places) member found.phase found.from → ⊥
  pub first : (places phase from : ℕ) → 1 ≤ places → places + 1 ≡ found.number
      → IsPhase tries phase → IsBeginning tries from → IsEarlier phase from found
      → IsFree sizing (steps_with places) member phase from

abbrev pub IsLeastRing : Sizing → ℕ → Tries → Reached → Type 0
IsLeastRing sizing member tries found = IsLeastBy (blocks_with sizing) sizing member tries found

abbrev pub AreLeastSlots : Sizing → ℕ → Tries → Reached → Type 0
AreLeastSlots sizing member tries found = IsLeastBy (slots_with sizing) sizing member tries found

-- ---- the least ring of a group, with rollover too

-- the greatest of the numbers of so many members, 0 of none
abbrev pub greatest_of : (ℕ → ℕ) → ℕ → ℕ
greatest_of number_of zero = 0
greatest_of number_of (suc member) = max (greatest_of number_of member) (number_of member)

-- the greatest number that the passes over the members' frames report at a phase and a beginning
abbrev pub group_least_at : Sizing → Timing → ℕ → ℕ → ℕ
group_least_at sizing pace phase from =
    greatest_of (λ member. least_at sizing pace member phase from) sizing.rules.members

abbrev pub group_slots_at : Sizing → Timing → ℕ → ℕ → ℕ
group_slots_at sizing pace phase from =
    greatest_of (λ member. least_slots_by sizing pace member phase from) sizing.rules.members

-- no note of any ring of the group finds a block or slot still the reader's
abbrev pub IsFreeGroup : Sizing → RingSteps → ℕ → ℕ → Type 0
IsFreeGroup sizing steps phase from =
    InGroup (All (λ ring. IsNeverHeld ring.notes)) sizing steps phase from

-- the least ring of a group, as that of a member
pub record IsGroupLeastBy (steps_with : ℕ → RingSteps) (sizing : Sizing) (tries : Tries)
    (found : Reached) : Type 0 where
  pub phase : IsPhase tries found.phase
  pub from : IsBeginning tries found.from
  pub enough : (places phase from : ℕ) → 1 ≤ places → found.number ≤ places
      → IsPhase tries phase → IsBeginning tries from
      → IsFreeGroup sizing (steps_with places) phase from
  pub reached : (places : ℕ) → 1 ≤ places → places < found.number
      → IsFreeGroup sizing (steps_with places) found.phase found.from → ⊥
  pub first : (places phase from : ℕ) → 1 ≤ places → places + 1 ≡ found.number
      → IsPhase tries phase → IsBeginning tries from → IsEarlier phase from found
      → IsFreeGroup sizing (steps_with places) phase from

abbrev pub IsLeastOfGroup : Sizing → Tries → Reached → Type 0
IsLeastOfGroup sizing tries found = IsGroupLeastBy (blocks_with sizing) sizing tries found

abbrev pub AreLeastSlotsOfGroup : Sizing → Tries → Reached → Type 0
AreLeastSlotsOfGroup sizing tries found = IsGroupLeastBy (slots_with sizing) sizing tries found

-- ---- what is lost

-- the number of packets that the member's ring drops, by these statistics of its notes, is such a
-- one
abbrev pub Drops :
    (ℕ → Type 0) → (List Note → Stats) → Sizing → RingSteps → ℕ → ℕ → ℕ → Type 0
Drops P totals sizing steps member phase from =
    InReplay (λ ring. P (totals ring.notes).drops) sizing steps member phase from

-- of the phases and beginnings that are tried, those found are the first at which a number of
-- replays is reached; at each other one the number stands so to it, and at each earlier one so
pub record AreFirstBy (Best Better : ℕ → ℕ → Type 0) (Has : (ℕ → Type 0) → ℕ → ℕ → Type 0)
    (tries : Tries) (found : Reached) : Type 0 where
  pub phase : IsPhase tries found.phase
  pub from : IsBeginning tries found.from
  pub reached : Has (λ number. number ≡ found.number) found.phase found.from
  pub best : (phase from : ℕ) → IsPhase tries phase → IsBeginning tries from
      → Has (Best found.number) phase from
  pub first : (phase from : ℕ) → IsPhase tries phase → IsBeginning tries from
      → IsEarlier phase from found → Has (Better found.number) phase from

-- the first of the greatest numbers
abbrev pub AreMostBy : ((ℕ → Type 0) → ℕ → ℕ → Type 0) → Tries → Reached → Type 0
AreMostBy Has tries found =
    AreFirstBy (λ number other. other ≤ number) (λ number other. other < number) Has tries found

-- and of the least
abbrev pub AreFewestBy : ((ℕ → Type 0) → ℕ → ℕ → Type 0) → Tries → Reached → Type 0
AreFewestBy Has tries found =
    AreFirstBy (λ number other. number ≤ other) (λ number other. number < other) Has tries found

-- the most and the fewest packets that a member drops
abbrev pub AreMostDrops : Sizing → ℕ → ℕ → Tries → Reached → Type 0
AreMostDrops sizing member blocks tries found =
    AreMostBy (λ P phase from. Drops P (totals_of (size_with sizing blocks)) sizing
    (blocks_with sizing blocks) member phase from) tries found

abbrev pub AreFewestDrops : Sizing → ℕ → ℕ → Tries → Reached → Type 0
AreFewestDrops sizing member blocks tries found =
    AreFewestBy (λ P phase from. Drops P (totals_of (size_with sizing blocks)) sizing
    (blocks_with sizing blocks) member phase from) tries found

abbrev pub AreMostSlotDrops : Sizing → ℕ → ℕ → Tries → Reached → Type 0
AreMostSlotDrops sizing member slots tries found =
    AreMostBy (λ P phase from. Drops P slot_totals_of sizing (slots_with sizing slots) member
    phase from) tries found

abbrev pub AreFewestSlotDrops : Sizing → ℕ → ℕ → Tries → Reached → Type 0
AreFewestSlotDrops sizing member slots tries found =
    AreFewestBy (λ P phase from. Drops P slot_totals_of sizing (slots_with sizing slots) member
    phase from) tries found

-- ---- what the whole group loses

-- the sum of the numbers of so many members, 0 of none
abbrev pub total_of : (ℕ → ℕ) → ℕ → ℕ
total_of number_of zero = 0
total_of number_of (suc member) = total_of number_of member + number_of member

-- the packets that the courses over the members' frames drop together, for so many blocks each
abbrev pub total_drops_at : Sizing → Timing → ℕ → ℕ → ℕ → ℕ
total_drops_at sizing pace blocks phase from =
    total_of (λ member. drops_at sizing pace member blocks phase from) sizing.rules.members

-- the same for so many slots
abbrev pub total_slot_drops_at : Sizing → Timing → ℕ → ℕ → ℕ → ℕ
total_slot_drops_at sizing pace slots phase from =
    total_of (λ member. slot_drops_at sizing pace member slots phase from) sizing.rules.members

-- the number of packets that all rings of the group drop together, by these statistics of their
-- notes, is such a one
abbrev pub TotalDrops : (ℕ → Type 0) → (List Note → Stats) → Sizing → RingSteps → ℕ → ℕ → Type 0
TotalDrops P totals sizing steps phase from =
    InGroup (λ rings. P (sum_by (λ ring. (totals ring.notes).drops) rings)) sizing steps phase from

-- the most and the fewest packets that all members together drop
abbrev pub AreMostTotalDrops : Sizing → ℕ → Tries → Reached → Type 0
AreMostTotalDrops sizing blocks tries found =
    AreMostBy (λ P phase from. TotalDrops P (totals_of (size_with sizing blocks)) sizing
    (blocks_with sizing blocks) phase from) tries found

abbrev pub AreFewestTotalDrops : Sizing → ℕ → Tries → Reached → Type 0
AreFewestTotalDrops sizing blocks tries found =
    AreFewestBy (λ P phase from. TotalDrops P (totals_of (size_with sizing blocks)) sizing
    (blocks_with sizing blocks) phase from) tries found

abbrev pub AreMostTotalSlotDrops : Sizing → ℕ → Tries → Reached → Type 0
AreMostTotalSlotDrops sizing slots tries found =
    AreMostBy (λ P phase from. TotalDrops P slot_totals_of sizing (slots_with sizing slots)
    phase from) tries found

abbrev pub AreFewestTotalSlotDrops : Sizing → ℕ → Tries → Reached → Type 0
AreFewestTotalSlotDrops sizing slots tries found =
    AreFewestBy (λ P phase from. TotalDrops P slot_totals_of sizing (slots_with sizing slots)
    phase from) tries found
