-- One pass over the events of a ring of a given size.
use Rattle.std.specs.Prelude.{ℕ, ◌+◌, ◌<◌, ◌≤◌, ◌^◌, Bool, true, false, nat_lt, nat_le, not}
use Rattle.std.specs.Prelude.{if◌then◌else◌, ◌||◌}
use Rattle.std.specs.Prelude.{List, [], ◌∷◌}
use Rattle.ring_model.specs.declared.notes.Stats.{Stats}
use Rattle.ring_sizes.specs.declared.events.Event.{Event}
use Rattle.ring_sizes.specs.declared.events.Event.TheVariants.{Packet, Tick, Read, ReadAll}
use Rattle.ring_sizes.specs.declared.courses.CourseBlock.{CourseBlock}
use Rattle.ring_sizes.specs.declared.courses.CourseBlock.TheVariants.{Frozen, Empty, Filled}
use Rattle.ring_sizes.specs.declared.courses.Course.{Course}

abbrev pub first_course : ℕ → Course
first_course tov =
    record {
      done = 0;
      used = 0;
      block = Empty;
      clock = 0;
      deadline = tov;
      released = 0;
      kept = 0;
      dropped = 0;
      freezes = 0;
    }

abbrev pub course_stats : Course → Stats
course_stats course = record {
  packets = course.kept + course.dropped;
  drops = course.dropped;
  freezes = course.freezes;
}

-- 1 where a block is open, which a next one would close
abbrev pub opened : CourseBlock → ℕ
opened Frozen = 0
opened Empty = 1
opened Filled = 1

-- the open block has no packet
abbrev pub is_empty : CourseBlock → Bool
is_empty Empty = true
is_empty block = false

-- a packet of this need goes into the open block
abbrev pub has_space : ℕ → ℕ → ℕ → CourseBlock → Bool
has_space room need used Frozen = false
has_space room need used block = nat_le (used + need) room

-- the reader has released the block whose place the next one takes
abbrev pub is_free : ℕ → Course → Bool
is_free blocks course =
    nat_le (course.done + opened course.block + 1) (course.released + blocks)

-- a packet of this need is kept: it goes into the open block, or the next one is free
abbrev pub takes : ℕ → ℕ → ℕ → Course → Bool
takes room blocks need course =
    has_space room need course.used course.block || is_free blocks course

abbrev pub fed : ℕ → ℕ → ℕ → ℕ → Course → Course
fed room blocks tov need course =
    if has_space room need course.used course.block
    then record course { used = course.used + need; block = Filled; kept = course.kept + 1 }
    else if is_free blocks course
    then record course {
      done = course.done + opened course.block;
      used = need;
      block = Filled;
      deadline = course.clock + tov;
      kept = course.kept + 1;
    }
    else record course {
      done = course.done + opened course.block;
      used = 0;
      block = Frozen;
      dropped = course.dropped + 1;
      freezes = course.freezes + opened course.block;
    }

-- the time of its block is over
abbrev pub at_due : ℕ → CourseBlock → Course → Course
at_due blocks Empty course = course
at_due blocks block course =
    if is_free blocks course
    then record course { done = course.done + opened course.block; used = 0; block = Empty }
    else record course {
      done = course.done + opened course.block;
      used = 0;
      block = Frozen;
      freezes = course.freezes + opened course.block;
    }

-- a tick changes nothing but the clock and the deadline: the open block is empty, or there is none
-- and the next one is still the reader's
abbrev pub is_idle : ℕ → CourseBlock → Course → Bool
is_idle blocks Frozen course = not (is_free blocks course)
is_idle blocks Empty course = true
is_idle blocks Filled course = false

abbrev pub over_time : ℕ → ℕ → ℕ → Course → Course
over_time blocks tov ms course =
    if nat_lt ms course.deadline then record course { clock = ms }
    else record (at_due blocks course.block course) { clock = ms; deadline = ms + tov }

abbrev pub went_on : ℕ → ℕ → ℕ → Event → Course → Course
went_on room blocks tov (Packet need) course = fed room blocks tov need course
went_on room blocks tov (Tick ms) course = over_time blocks tov ms course
went_on room blocks tov Read course =
    if nat_lt course.released course.done
    then record course { released = course.released + 1 } else course
went_on room blocks tov ReadAll course = record course { released = course.done }

abbrev pub all_went_on : ℕ → ℕ → ℕ → List Event → Course → Course
all_went_on room blocks tov [] course = course
all_went_on room blocks tov (event ∷ events) course =
    all_went_on room blocks tov events (went_on room blocks tov event course)

-- its numbers are small enough to go on
pub record IsSmall (bound : ℕ) (course : Course) : Type 0 where
  pub done : course.done < bound
  pub behind : course.released ≤ course.done
  pub packets : course.kept + course.dropped < bound
  pub freezes : course.freezes < bound
  pub used : course.used < 2 ^ 32
