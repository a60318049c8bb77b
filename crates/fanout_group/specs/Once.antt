-- The law that each arrival that passes the filter appears exactly once.
use Rattle.std.specs.Prelude.{◌≡◌, ℕ, ◌+◌, ◌<◌, ◌≤◌, Bool, ◌&&◌, not, List, [], ◌∷◌, length, sum_by}
use Rattle.std.specs.Prelude.{◌==◌, if◌then◌else◌, slice_index_or}
use Rattle.std.specs.List.{list_any}
use Rattle.frame_view.specs.declared.frames.Frame.{Frame}
use Rattle.ring_model.specs.declared.notes.Note.{Note}
use Rattle.ring_model.specs.declared.notes.Note.TheVariants.{Kept, Refused, Dropped, Ticked}
use Rattle.ring_model.specs.declared.notes.Note.TheVariants.{Counted, Finished}
use Rattle.fanout_group.specs.Rules.{Rules}
use Rattle.fanout_group.specs.Logs.{IsLawful}
use Rattle.fanout_group.specs.Joined.{AreJoined, Logged, nothing_logged}
use Rattle.fanout_group.specs.declared.logs.ArrivalLog.{ArrivalLog}

-- 1 where a note says that this frame of this CPU was kept or dropped
abbrev pub settles : ℕ → ℕ → Note → ℕ
settles cpu index (Kept offer found) =
    if (offer.frame.cpu == cpu) && (offer.frame.index == index) then 1 else 0
settles cpu index (Dropped of at need number) = if (of == cpu) && (at == index) then 1 else 0
settles cpu index (Refused of at need number) = 0
settles cpu index (Ticked ms found) = 0
settles cpu index Counted = 0
settles cpu index Finished = 0

-- how often the notes of all members say so
abbrev pub times_settled : ℕ → ℕ → List (List Note) → ℕ
times_settled cpu index members = sum_by (λ notes. sum_by (settles cpu index) notes) members

-- the arrival of this index passes the filter
abbrev pub passes : ℕ → List ArrivalLog → Bool
passes index log = list_any (λ entry. (entry.index == index) && not (entry.verdict == 0)) log

-- the frames of one CPU, with rising indexes
abbrev pub AreOf : ℕ → ℕ → List Frame → Type 0
AreOf cpu least [] = Unit {0}
AreOf cpu least (frame ∷ frames) =
    (frame.cpu ≡ cpu) × (least ≤ frame.index) × AreOf cpu (frame.index + 1) frames

-- what a run reports of a group: lawful logs, and notes that are joined with them
pub record IsGroupReport (rules : Rules) (room : ℕ) (cpus : List Logged)
    (members : List (List Note)) : Type 0 where
  pub some : 0 < rules.members
  pub count : length members ≡ rules.members
  pub frames : (cpu : ℕ) → AreOf cpu 0 (slice_index_or cpus cpu nothing_logged).arrivals
  pub lawful : (cpu : ℕ) →
      let logged = slice_index_or cpus cpu nothing_logged in
      IsLawful rules logged.arrivals logged.log
  pub joined : AreJoined rules room cpus members

-- Among the Kept and Dropped notes of all members each arrival that passes appears once, and
-- nothing else appears there.
abbrev pub EachAppearsOnce : List Logged → List (List Note) → Type 0
EachAppearsOnce cpus members = (cpu index : ℕ) →
    times_settled cpu index members
    ≡ (if passes index (slice_index_or cpus cpu nothing_logged).log then 1 else 0)
