-- What comes of each frame that is fed, and what each member is given, where each member stands
-- alone: no arrival rolls over to another.
use Rattle.std.specs.Prelude.{ℕ, List, [], ◌∷◌, ◌++◌, length, drop, slice_index_or, slice_set}
use Rattle.std.specs.Prelude.{◌==◌, if◌then◌else◌, Option, None, Some}
use Rattle.deal_rules.specs.declared.marks.Mark.{Mark}
use Rattle.deal_rules.specs.declared.marks.Mark.TheVariants.{Nothing, Refused, Given}
use Rattle.fanout_group.specs.Rules.{Rules, home_of}
use Rattle.frame_view.specs.declared.frames.Frame.{Frame}
use Rattle.reader_pace.specs.Timelines.{Timed}
use Rattle.receive_ring.specs.Replay.{next_ticket, ticket_of}
use Rattle.ring_model.specs.Sizes.{need_of, snap_of}
use Rattle.ring_sizes.specs.declared.paces.Arrival.{Arrival}
use Rattle.setup_text.specs.declared.lines.Line.{Line}
use Rattle.setup_text.specs.declared.lines.Line.TheVariants as line

-- what comes of a frame with which this arrives, if blocks have this room and the next ticket is
-- this one
abbrev pub mark_of : Rules → ℕ → ℕ → Option Frame → Mark
mark_of rules room ticket None = Nothing
mark_of rules room ticket (Some frame) =
    if rules.verdict frame == 0 then Refused
    else
    Given (home_of rules 0 (ticket_of rules.mode ticket) frame)
    (need_of (snap_of room (length frame.bytes) (rules.verdict frame)))

-- the ticket after that: what arrives takes one in mode lb, refused or not
abbrev pub ticket_after : Rules → ℕ → Option Frame → ℕ
ticket_after rules ticket None = ticket
ticket_after rules ticket (Some frame) = next_ticket rules.mode ticket

-- what arrives with the first of the frames that wait, if one does
abbrev pub arrival_in : List (Option Frame) → Option Frame
arrival_in [] = None
arrival_in (arrival ∷ waiting) = arrival

-- what arrives with a line, given what waits at each CPU: with the next frame of the CPU that it
-- feeds
abbrev pub arrival_by : List (List (Option Frame)) → Line → Option Frame
arrival_by waiting (line.Feed cpu) = arrival_in (slice_index_or waiting cpu [])
arrival_by waiting line = None

-- what waits at each CPU after that
abbrev pub waiting_after : List (List (Option Frame)) → Line → List (List (Option Frame))
waiting_after waiting (line.Feed cpu) =
    slice_set waiting cpu (drop 1 (slice_index_or waiting cpu []))
waiting_after waiting line = waiting

-- a feed has its mark, and no other line has one
abbrev pub if_fed : Line → ℕ × Mark → List (ℕ × Mark)
if_fed (line.Feed cpu) marked = marked ∷ []
if_fed line marked = []

-- the feeds in their order, each with its moment and what comes of it, given the next ticket and
-- what waits at each CPU
abbrev pub marked : Rules → ℕ → ℕ → List (List (Option Frame)) → List Timed → List (ℕ × Mark)
marked rules room ticket waiting [] = []
marked rules room ticket waiting (item ∷ items) =
    let arrival = arrival_by waiting item.line in
    if_fed item.line (item.moment, mark_of rules room ticket arrival)
    ++ marked rules room (ticket_after rules ticket arrival)
    (waiting_after waiting item.line) items

-- what a member is given of one feed
abbrev pub arrival_if : ℕ → ℕ → Mark → List Arrival
arrival_if member moment (Given home need) =
    if home == member then record { at = moment; need = need } ∷ [] else []
arrival_if member moment mark = []

-- what a member is given, in order
abbrev pub arrivals_for : ℕ → List (ℕ × Mark) → List Arrival
arrivals_for member [] = []
arrivals_for member (feed ∷ feeds) =
    arrival_if member feed.0 feed.1 ++ arrivals_for member feeds
