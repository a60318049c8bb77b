-- The words "exactly once", for the arrivals of a run.
use Rattle.std.specs.Prelude.{◌≡◌, ℕ, ◌<◌, Bool, ◌&&◌, not, List, [], length, sum_by, ◌==◌}
use Rattle.std.specs.Prelude.{if◌then◌else◌, slice_index_or}
use Rattle.std.specs.List.{list_any}
use Rattle.frame_view.specs.declared.frames.Frame.{Frame}
use Rattle.fanout_group.specs.Joined.{Logged, nothing_logged}
use Rattle.fanout_group.specs.Once.{settles, times_settled}
use Rattle.fanout_group.specs.Routes.{last_member}
use Rattle.fanout_group.specs.Rules.{Rules}
use Rattle.fanout_group.specs.declared.logs.ArrivalLog.{ArrivalLog}
use Rattle.ring_model.specs.declared.notes.Note.{Note}

-- one of these arrivals has this index, and a verdict that isn't 0
abbrev pub passes : Rules → ℕ → List Frame → Bool
passes rules index arrivals =
    list_any (λ frame. (frame.index == index) && not (rules.verdict frame == 0)) arrivals

-- Among the Kept and Dropped notes of all members each arrival whose verdict isn't 0 appears once,
-- and nothing else appears there: such a note names a CPU and the index of a frame.
abbrev pub EachArrivalAppearsOnce : Rules → List Logged → List (List Note) → Type 0
EachArrivalAppearsOnce rules cpus members = (cpu index : ℕ) →
    times_settled cpu index members
    ≡ (if passes rules index (slice_index_or cpus cpu nothing_logged).arrivals then 1 else 0)

-- the entry has this index and a verdict that isn't 0, and the last try of its route is at this
-- member
abbrev pub ends_at : ℕ → ℕ → ArrivalLog → Bool
ends_at member index entry =
    (entry.index == index) && (not (entry.verdict == 0) && (last_member 0 entry.tries == member))

-- it is among the notes of one member: that of the last try of its route
abbrev pub EachIsAtItsLastTry : List Logged → List (List Note) → Type 0
EachIsAtItsLastTry cpus members = (cpu index member : ℕ) → member < length members →
    sum_by (settles cpu index) (slice_index_or members member [])
    ≡ (if list_any (ends_at member index) (slice_index_or cpus cpu nothing_logged).log
    then 1 else 0)
