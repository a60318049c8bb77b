-- The frames of all CPUs in the order of their moments, each of which goes to its member.
use Rattle.std.specs.Prelude.{◌≡◌, ℕ, ◌-◌, ◌+◌, ◌%◌, ◌<◌, ◌≤◌, max, List, [], ◌∷◌, ◌++◌, length}
use Rattle.std.specs.Prelude.{drop, map, slice_index_or, slice_set, replicate, nat_le}
use Rattle.std.specs.Prelude.{if◌then◌else◌, Option, None, Some}
use Rattle.std.specs.List.{AllByRecursion}
use Rattle.std.specs.Option.{unwrap_or}
use Rattle.deal_rules.specs.declared.marks.Mark.{Mark}
use Rattle.deal_rules.specs.declared.marks.Mark.TheVariants.{Nothing, Given}
use Rattle.fanout_group.specs.Plans.{Shape}
use Rattle.fanout_group.specs.declared.modes.Mode.{Mode}
use Rattle.fanout_group.specs.declared.modes.Mode.TheVariants.{Lb}
use Rattle.frame_deals.specs.declared.deals.Dealt.{Dealt}
use Rattle.frame_deals.specs.declared.mark_queue.MarkedFrame.{MarkedFrame}
use Rattle.frame_deals.specs.declared.merge.Merge.{Merge}
use Rattle.frame_deals.specs.declared.merge.NextFrame.{NextFrame}
use Rattle.reader_pace.specs.Timelines.{Timed, feed_at, first_time, in_order, latest, sooner}
use Rattle.receive_ring.specs.Replay.{next_ticket}
use Rattle.ring_sizes.specs.declared.paces.Arrival.{Arrival}
use Rattle.setup_text.specs.declared.lines.Line.{Line}
use Rattle.setup_text.specs.declared.lines.Line.TheVariants as line

abbrev pub moment_of : ℕ → MarkedFrame → ℕ
moment_of first frame = frame.time - first

-- the time of the first frame of all CPUs, 0 if there is none
abbrev pub first_of : List (List MarkedFrame) → ℕ
first_of queues = unwrap_or (first_time (map (λ queue. map (λ frame. frame.time) queue) queues)) 0

-- the feeds of the frames that are left at the CPUs from this one on
abbrev pub feeds_left : ℕ → ℕ → List (List MarkedFrame) → List Timed
feeds_left first cpu [] = []
feeds_left first cpu (queue ∷ queues) =
    map (λ frame. feed_at first cpu frame.time) queue ++ feeds_left first (cpu + 1) queues

-- a mark with its ticket, which decides in mode lb
abbrev pub with_ticket : Mode → ℕ → ℕ → Mark → Mark
with_ticket Lb members ticket (Given home need) = Given (ticket % members) need
with_ticket mode members ticket mark = mark

-- the ticket after that
abbrev pub ticket_behind : Mode → ℕ → Mark → ℕ
ticket_behind mode ticket Nothing = ticket
ticket_behind mode ticket mark = next_ticket mode ticket

abbrev pub front_mark : List MarkedFrame → Mark
front_mark [] = Nothing
front_mark (frame ∷ frames) = frame.mark

-- the mark of the next frame of the CPU that a line feeds
abbrev pub mark_by : List (List MarkedFrame) → Line → Mark
mark_by queues (line.Feed cpu) = front_mark (slice_index_or queues cpu [])
mark_by queues line = Nothing

-- the frames that are left after it
abbrev pub left_after : List (List MarkedFrame) → Line → List (List MarkedFrame)
left_after queues (line.Feed cpu) = slice_set queues cpu (drop 1 (slice_index_or queues cpu []))
left_after queues line = queues

-- the members after a mark
abbrev pub given_by : ℕ → Mark → List (List Arrival) → List (List Arrival)
given_by moment (Given home need) members =
    slice_set members home
    (slice_index_or members home [] ++ record { at = moment; need = need } ∷ [])
given_by moment mark members = members

-- what the members have after these feeds
abbrev pub dealt_left : Shape → ℕ → List (List MarkedFrame) → List Timed → List (List Arrival)
    → List (List Arrival)
dealt_left shape ticket queues [] members = members
dealt_left shape ticket queues (item ∷ items) members =
    let mark = mark_by queues item.line in
    dealt_left shape (ticket_behind shape.mode ticket mark) (left_after queues item.line) items
    (given_by item.moment (with_ticket shape.mode shape.members ticket mark) members)

-- what the members have after all frames that are left, in the order of their moments
abbrev pub dealt_all : Shape → ℕ → ℕ → List (List MarkedFrame) → List (List Arrival)
    → List (List Arrival)
dealt_all shape first ticket queues members =
    dealt_left shape ticket queues (in_order (feeds_left first 0 queues)) members

abbrev pub dealt_of : Shape → Merge → List (List Arrival)
dealt_of shape merge =
    dealt_all shape merge.first merge.ticket merge.queues.items merge.members.items

-- when the last frame comes, of those that were dealt and those that are left
abbrev pub end_from : Merge → ℕ
end_from merge = max merge.end (latest (feeds_left merge.first 0 merge.queues.items))

-- how many frames are left
abbrev pub frames_left : Merge → ℕ
frames_left merge = length (feeds_left merge.first 0 merge.queues.items)

-- ---- the next frame

-- all frames come at this moment or later
abbrev pub AreFrom : ℕ → ℕ → List MarkedFrame → Type 0
AreFrom first moment frames = AllByRecursion (λ frame. moment ≤ moment_of first frame) frames

-- all frames come later than this moment
abbrev pub AreAfter : ℕ → ℕ → List MarkedFrame → Type 0
AreAfter first moment frames = AllByRecursion (λ frame. moment < moment_of first frame) frames

-- the frame that comes first of all, and of those of the same moment has the lowest CPU
pub record IsFirst (first : ℕ) (queues : List (List MarkedFrame)) (next : NextFrame) : Type 0 where
  pub before : List (List MarkedFrame)
  pub frame : MarkedFrame
  pub rest : List MarkedFrame
  pub behind : List (List MarkedFrame)
  pub parts : queues ≡ before ++ (frame ∷ rest) ∷ behind
  pub cpu_is : next.cpu ≡ length before
  pub moment_is : next.moment ≡ moment_of first frame
  pub later : AllByRecursion (AreAfter first next.moment) before
  pub rest_later : AreFrom first next.moment rest
  pub behind_later : AllByRecursion (AreFrom first next.moment) behind

-- the frame that comes first, if one is left
abbrev pub IsNext : ℕ → List (List MarkedFrame) → Option NextFrame → Type 0
IsNext first queues None = AllByRecursion (λ queue. queue ≡ []) queues
IsNext first queues (Some next) = IsFirst first queues next

-- the frame that comes first of those found so far and of this CPU's
abbrev pub sooner_than : Option NextFrame → ℕ → ℕ → Option NextFrame
sooner_than None cpu moment = Some (record { cpu = cpu; moment = moment })
sooner_than (Some next) cpu moment =
    if nat_le next.moment moment then Some next else Some (record { cpu = cpu; moment = moment })

abbrev pub sooner_of : Option NextFrame → ℕ → ℕ → List MarkedFrame → Option NextFrame
sooner_of found first cpu [] = found
sooner_of found first cpu (frame ∷ frames) = sooner_than found cpu (moment_of first frame)

-- the earlier of a time and the first of a CPU's
abbrev pub earlier_of : List MarkedFrame → Option ℕ → Option ℕ
earlier_of [] other = other
earlier_of (frame ∷ frames) other = Some (sooner frame.time other)

-- ---- all frames

-- what the members have after all frames, and when the last of them comes
pub record IsDealtFrom (shape : Shape) (queues : List (List MarkedFrame))
    (dealt : Dealt) : Type 0 where
  pub members :
      dealt.members.items ≡ dealt_all shape (first_of queues) 0 queues (replicate shape.members [])
  pub end : dealt.end ≡ latest (feeds_left (first_of queues) 0 queues)
