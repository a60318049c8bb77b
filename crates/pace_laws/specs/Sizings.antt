-- The replays of a group by the schedules of a reader, over rings of any number of blocks or slots.
use Rattle.std.specs.Prelude.{◌≡◌, ℕ, true, false, List, length, map, slice_get, Option, Some}
use Rattle.deal_rules.specs.Marks.{arrivals_for, marked}
use Rattle.fanout_group.specs.Rules.{Rules}
use Rattle.frame_view.specs.declared.frames.Frame.{Frame}
use Rattle.pace_laws.specs.Paces.{pace_of, stalls_of}
use Rattle.reader_pace.specs.Timelines.{Judged, end_of, feeds_of, in_order, schedule_at}
use Rattle.reader_pace.specs.declared.readers.PacedReader.{PacedReader}
use Rattle.receive_ring.specs.Replay.{replayed}
use Rattle.replay_laws.specs.Alone.{alone}
use Rattle.ring_events.specs.Happenings.{IsPlain}
use Rattle.ring_events.specs.declared.events.Happening.{Happening}
use Rattle.ring_model.specs.Ring.{Size}
use Rattle.ring_model.specs.Rings.{Ring}
use Rattle.ring_sizes.specs.EventLists.{events_of}
use Rattle.ring_sizes.specs.Phases.{begun}
use Rattle.ring_sizes.specs.Schedules.{schedule_to}
use Rattle.ring_sizes.specs.declared.events.Event.{Event}
use Rattle.ring_sizes.specs.declared.paces.Arrival.{Arrival}
use Rattle.ring_sizes.specs.declared.paces.Timing.{Timing}
use Rattle.run_reports.specs.RingSteps.{RingSteps, block_steps, slot_steps}
use Rattle.setup_text.specs.declared.lines.Line.{Line}
use Rattle.slot_sizes.specs.SlotSchedules.{slot_schedule_to}

-- a group whose rings are to be sized: its rules, the room of a block for packets in bytes, the
-- time-out in milliseconds, what arrives with each frame of each CPU, the time of each frame in
-- nanoseconds, and the reader
pub record Sizing : Type 0 where
  pub rules : Rules
  pub room : ℕ
  pub tov : ℕ
  pub arriving : List (List (Option Frame))
  pub times : List (List ℕ)
  pub reader : PacedReader

-- its rings are of blocks; it has a time for each frame; this is the pace of its reader
pub record IsSizing (sizing : Sizing) (pace : Timing) : Type 0 where
  pub blocks : sizing.reader.slots ≡ false
  pub times : map (λ times. length times) sizing.times
      ≡ map (λ waiting. length waiting) sizing.arriving
  pub pace_is : pace_of sizing.tov sizing.reader.pace ≡ Some pace

-- its rings are of slots: its time-out, which isn't 0, has no meaning, and its room is that of a
-- block that would keep as much of a packet as a slot
pub record IsSlotSizing (sizing : Sizing) (pace : Timing) : Type 0 where
  pub slots : sizing.reader.slots ≡ true
  pub times : map (λ times. length times) sizing.times
      ≡ map (λ waiting. length waiting) sizing.arriving
  pub pace_is : pace_of sizing.tov sizing.reader.pace ≡ Some pace

-- its rings, with so many blocks
abbrev pub size_with : Sizing → ℕ → Size
size_with sizing blocks =
    record { room = sizing.room; blocks = blocks; tov = sizing.tov }

abbrev pub blocks_with : Sizing → ℕ → RingSteps
blocks_with sizing blocks = block_steps (size_with sizing blocks)

-- with so many slots, which have no time-out
abbrev pub slot_size_with : Sizing → ℕ → Size
slot_size_with sizing slots = record { room = sizing.room; blocks = slots; tov = 0 }

abbrev pub slots_with : Sizing → ℕ → RingSteps
slots_with sizing slots = slot_steps (slot_size_with sizing slots)

-- what reader_pace's schedules need to know of it
abbrev pub judged_with : Sizing → ℕ → Judged
judged_with sizing blocks = record {
  times = sizing.times;
  members = sizing.rules.members;
  blocks = blocks;
  tov = sizing.tov;
}

-- this holds of the rings in the replay of the group over these rings, by the schedule of its
-- reader at a phase of the timer and a beginning of the reader
abbrev pub InGroup : (List Ring → Type 0) → Sizing → RingSteps → ℕ → ℕ → Type 0
InGroup P sizing steps phase from =
    (lines : List Line)
    → schedule_at (judged_with sizing steps.size.blocks) sizing.reader phase from ≡ Some lines
    → P (replayed sizing.rules steps sizing.arriving lines).members

-- and this of a member's ring there
abbrev pub InReplay : (Ring → Type 0) → Sizing → RingSteps → ℕ → ℕ → ℕ → Type 0
InReplay P sizing steps member phase from =
    InGroup (λ rings. (ring : Ring) → slice_get rings member ≡ Some ring → P ring) sizing steps
    phase from

-- what a member is given of all frames, which are fed in the order of their times
abbrev pub given_to : Sizing → ℕ → List Arrival
given_to sizing member =
    arrivals_for member
    (marked sizing.rules sizing.room 0 sizing.arriving (in_order (feeds_of sizing.times)))

-- the events of a member's ring of blocks
abbrev pub events_at : Sizing → Timing → ℕ → ℕ → ℕ → List Event
events_at sizing pace member phase from =
    schedule_to (stalls_of sizing.reader.stalls) (begun pace phase from) (given_to sizing member)
    (end_of sizing.times)

-- and of slots
abbrev pub slot_events_at : Sizing → Timing → ℕ → ℕ → ℕ → List Event
slot_events_at sizing pace member phase from =
    slot_schedule_to (stalls_of sizing.reader.stalls) (begun pace phase from)
    (given_to sizing member) (end_of sizing.times)

-- the ring is one that was closed after these events
pub record HadEvents (steps : RingSteps) (events : List Event) (ring : Ring) : Type 0 where
  pub given : List Happening
  pub plain : IsPlain given
  pub events_are : events_of given ≡ events
  pub ring_is : ring ≡ alone steps given
