-- The schedule that follows from the times of the frames and from a reader. Moments are
-- nanoseconds, counted from the first frame of all CPUs on.
use Rattle.std.specs.Prelude.{ℕ, zero, suc, ◌+◌, ◌-◌, ◌*◌, ◌/◌}
use Rattle.std.specs.Prelude.{max, min, Bool, true, false, ◌&&◌, ◌||◌}
use Rattle.std.specs.Prelude.{List, [], ◌∷◌, ◌++◌, map, replicate, nat_le, nat_lt}
use Rattle.std.specs.Prelude.{if◌then◌else◌, Option, None, Some}
use Rattle.std.specs.Option.{unwrap_or}
use Rattle.setup_text.specs.declared.lines.Line.{Line}
use Rattle.setup_text.specs.declared.lines.Line.TheVariants as line
use Rattle.reader_pace.specs.declared.paces.Pace.{Pace}
use Rattle.reader_pace.specs.declared.paces.Pace.TheVariants as pace
use Rattle.reader_pace.specs.declared.paces.Stall.{Stall}
use Rattle.reader_pace.specs.declared.readers.PacedReader.{PacedReader}

-- a line of a schedule, and the moment at which it is done
pub record Timed : Type 0 where
  pub moment : ℕ
  pub line : Line

-- what is judged: the times of each CPU's frames in nanoseconds, as its capture has them, the
-- number of members, the blocks of a member's ring, and their time-out in milliseconds
pub record Judged : Type 0 where
  pub times : List (List ℕ)
  pub members : ℕ
  pub blocks : ℕ
  pub tov : ℕ

-- ---- the feeds

-- times that rise: a frame that is older than the one before it comes right after that
abbrev pub rising : ℕ → List ℕ → List ℕ
rising latest [] = []
rising latest (time ∷ times) = max latest time ∷ rising (max latest time) times

abbrev pub sooner : ℕ → Option ℕ → ℕ
sooner time None = time
sooner time (Some other) = min time other

-- the time of the first frame of all CPUs, if there is one
abbrev pub first_time : List (List ℕ) → Option ℕ
first_time [] = None
first_time ([] ∷ cpus) = first_time cpus
first_time ((time ∷ times) ∷ cpus) = Some (sooner time (first_time cpus))

abbrev pub feed_at : ℕ → ℕ → ℕ → Timed
feed_at first cpu time = record { moment = time - first; line = line.Feed cpu }

-- the feeds of the CPUs from this one on, of which those of each CPU are in order
abbrev pub feeds_from : ℕ → ℕ → List (List ℕ) → List Timed
feeds_from first cpu [] = []
feeds_from first cpu (times ∷ cpus) =
    map (feed_at first cpu) (rising 0 times) ++ feeds_from first (cpu + 1) cpus

-- the feeds of all CPUs, of which those of a lower one are before those of a higher one
abbrev pub feeds_of : List (List ℕ) → List Timed
feeds_of cpus = feeds_from (unwrap_or (first_time cpus) 0) 0 cpus

-- the greatest moment; 0 if there is none
abbrev pub latest : List Timed → ℕ
latest [] = 0
latest (item ∷ items) = max item.moment (latest items)

-- when the last frame comes, after which nothing is done
abbrev pub end_of : List (List ℕ) → ℕ
end_of cpus = latest (feeds_of cpus)

-- ---- the ticks

-- tick n, from 1 up: its label is n times the time-out, and it comes the phase before that
abbrev pub tick_at : ℕ → ℕ → ℕ → Timed
tick_at tov phase number =
    record { moment = (number * tov - phase) * 1000000; line = line.Tick (number * tov) }

-- so many ticks
abbrev pub ticks_to : ℕ → ℕ → ℕ → List Timed
ticks_to tov phase zero = []
ticks_to tov phase (suc number) =
    ticks_to tov phase number ++ tick_at tov phase (suc number) ∷ []

-- how many ticks come at the end or before
abbrev pub ticks_by : ℕ → ℕ → ℕ → ℕ
ticks_by tov phase end = (end + phase * 1000000) / (tov * 1000000)

-- ---- the reads

-- whether a moment is in a stall
abbrev pub is_stalled : List Stall → ℕ → Bool
is_stalled [] moment = false
is_stalled (stall ∷ stalls) moment =
    (nat_le (stall.from * 1000000) moment
    && nat_lt moment ((stall.from + stall.length) * 1000000))
    || is_stalled stalls moment

-- this many reads of each member, the lowest first
abbrev pub reads_at : ℕ → ℕ → ℕ → List Timed
reads_at moment each zero = []
reads_at moment each (suc member) =
    reads_at moment each member
    ++ replicate each (record { moment = moment; line = line.Read member })

-- the reads of a moment, of which a stall leaves none
abbrev pub reads_unless : Bool → ℕ → ℕ → ℕ → List Timed
reads_unless true moment each members = []
reads_unless false moment each members = reads_at moment each members

-- the reads of so many steps of a reader, each at its moment
abbrev pub reads_to : (ℕ → ℕ) → List Stall → ℕ → ℕ → ℕ → List Timed
reads_to moment_of stalls each members zero = []
reads_to moment_of stalls each members (suc step) =
    reads_to moment_of stalls each members step
    ++ reads_unless (is_stalled stalls (moment_of step)) (moment_of step) each members

-- step k, from 0 up, of a reader that sleeps: it takes all that is there
abbrev pub pause_step : ℕ → ℕ → ℕ → ℕ
pause_step period from step = (from + step * period) * 1000000

-- step k, from 0 up, of a reader that takes so many blocks a second: it takes one
abbrev pub block_step : ℕ → ℕ → ℕ → ℕ
block_step count from step = from * 1000000 + (step * 1000000000) / count

-- how many steps of a reader that sleeps come so long after its first, or before that
abbrev pub pause_steps : ℕ → ℕ → ℕ
pause_steps period long = long / (period * 1000000) + 1

-- how many steps of a reader of so many blocks a second come so long after its first, or before
abbrev pub block_steps : ℕ → ℕ → ℕ
block_steps count long = ((long + 1) * count + 999999999) / 1000000000

-- the steps that come at the end or before, of which there is none if the reader begins later
abbrev pub steps_of : (ℕ → ℕ) → ℕ → ℕ → ℕ
steps_of steps from end =
    if nat_le (from * 1000000) end then steps (end - from * 1000000) else 0

-- The reads of a reader that begins so many milliseconds after the first frame. All that is there
-- is as many reads as a ring has blocks. The reads of one that wakes when a block is handed over
-- depend on what the ring does, so they are no schedule.
abbrev pub reads_of : Pace → List Stall → ℕ → ℕ → ℕ → ℕ → Option (List Timed)
reads_of (pace.Pause period) stalls blocks members from end =
    Some (reads_to (pause_step period from) stalls blocks members
    (steps_of (pause_steps period) from end))
reads_of (pace.Blocks count) stalls blocks members from end =
    Some (reads_to (block_step count from) stalls 1 members
    (steps_of (block_steps count) from end))
reads_of (pace.Poll delay) stalls blocks members from end = None

-- ---- all together

-- before the first item whose moment isn't less
abbrev pub put_in : Timed → List Timed → List Timed
put_in item [] = item ∷ []
put_in item (next ∷ items) =
    if nat_le item.moment next.moment then item ∷ next ∷ items else next ∷ put_in item items

-- in the order of their moments; those of one moment stay in their order
abbrev pub in_order : List Timed → List Timed
in_order [] = []
in_order (item ∷ items) = put_in item (in_order items)

-- a ring of slots has no ticks
abbrev pub ticks_unless : Bool → ℕ → ℕ → ℕ → List Timed
ticks_unless true tov phase end = []
ticks_unless false tov phase end = ticks_to tov phase (ticks_by tov phase end)

-- at one moment ticks come first, then feeds, then reads
abbrev pub timeline_with : List Timed → List Timed → Option (List Timed) → Option (List Timed)
timeline_with ticks feeds None = None
timeline_with ticks feeds (Some reads) = Some (in_order (ticks ++ (feeds ++ reads)))

-- what is done, each line at its moment, if the timer was started so many milliseconds before the
-- first frame and the reader begins so many milliseconds after it
unfoldable pub timeline_of : Judged → PacedReader → ℕ → ℕ → Option (List Timed)
timeline_of judged reader phase from =
    timeline_with (ticks_unless reader.slots judged.tov phase (end_of judged.times))
    (feeds_of judged.times)
    (reads_of reader.pace reader.stalls judged.blocks judged.members from (end_of judged.times))

abbrev pub line_of : Timed → Line
line_of item = item.line

-- the lines that a replay is given
abbrev pub lines_of_timeline : Option (List Timed) → Option (List Line)
lines_of_timeline None = None
lines_of_timeline (Some items) = Some (map line_of items)

-- the schedule of a reader at a phase and a beginning, for rings of so many blocks
abbrev pub schedule_at : Judged → PacedReader → ℕ → ℕ → Option (List Line)
schedule_at judged reader phase from = lines_of_timeline (timeline_of judged reader phase from)
