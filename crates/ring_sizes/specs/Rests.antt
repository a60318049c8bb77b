-- What a pass comes to between two frames, by arithmetic.
use Rattle.std.specs.Prelude.{◌≡◌, ℕ, ◌+◌, ◌-◌, ◌*◌, ◌≤◌}
use Rattle.std.specs.Prelude.{min, Bool, ◌==◌, nat_lt, nat_le, ◌&&◌, ◌||◌, if◌then◌else◌}
use Rattle.std.specs.Prelude.{List}
use Rattle.ring_sizes.specs.Courses.{is_empty, over_time}
use Rattle.ring_sizes.specs.Passes.{ticked}
use Rattle.ring_sizes.specs.Schedules.{awake, steps_before, tick_moment}
use Rattle.ring_sizes.specs.declared.courses.Course.{Course}
use Rattle.ring_sizes.specs.declared.paces.Timing.{Timing}
use Rattle.ring_sizes.specs.declared.paces.StallTime.{StallTime}
use Rattle.ring_sizes.specs.declared.sizes.Pass.{Pass}

-- how many of the retired blocks are released after so many steps of the reader
abbrev pub released_by : Bool → ℕ → ℕ → ℕ → ℕ
released_by takes_all steps released done =
    if takes_all then (if steps == 0 then released else done)
    else released + min steps (done - released)

abbrev pub read_on : Bool → ℕ → Pass → Pass
read_on takes_all steps pass =
    record pass { released = released_by takes_all steps pass.released pass.done }

-- the same of a ring of a given size
abbrev pub course_read : Bool → ℕ → Course → Course
course_read takes_all steps course =
    record course { released = released_by takes_all steps course.released course.done }

-- a ring of a given size after the last of some ticks, of which only the last matters with an empty
-- block whose time is over
abbrev pub course_last : ℕ → ℕ → ℕ → ℕ → Course → Course
course_last blocks tov ticks last course =
    if nat_lt ticks last then over_time blocks tov (last * tov) course else course

-- the block is empty, and its time is over at this moment
abbrev pub is_still : ℕ → Course → Bool
is_still ms course = is_empty course.block && nat_le course.deadline ms

-- after the steps from one number on, up to another
abbrev pub read_to : List StallTime → Timing → ℕ → ℕ → Pass → Pass
read_to stalls pace from to pass =
    read_on pace.takes_all (awake stalls pace from (to - from)) pass

-- after the next tick, which finds an open block's time over, and the steps before it; so many
-- ticks and steps came before
abbrev pub after_next : List StallTime → Timing → ℕ → ℕ → Pass → Pass
after_next stalls pace ticks from pass =
    ticked pace.tov ((ticks + 1) * pace.tov)
    (read_to stalls pace from (steps_before pace (tick_moment pace (ticks + 1))) pass)

-- the same where the last tick is a later one: with an empty block the last one alone matters
abbrev pub after_last : Timing → ℕ → ℕ → Pass → Pass
after_last pace next last pass =
    if nat_lt next last then ticked pace.tov (last * pace.tov) pass else pass

-- after the ticks from one number on, up to another, and the steps from one number on, up to
-- another
abbrev pub rested : List StallTime → Timing → ℕ → ℕ → ℕ → ℕ → Pass → Pass
rested stalls pace ticks last from to pass =
    if pass.empty || nat_le last ticks
    then read_to stalls pace from to (after_last pace ticks last pass)
    else read_to stalls pace (steps_before pace (tick_moment pace (ticks + 1))) to
    (after_last pace (ticks + 1) last (after_next stalls pace ticks from pass))

-- the clock of a pass is that of a timer that has ticked so often, and its block is due at the next
pub record IsTicked (pace : Timing) (ticks : ℕ) (pass : Pass) : Type 0 where
  pub clock : pass.clock ≡ ticks * pace.tov
  pub deadline : pass.deadline ≤ ticks * pace.tov + pace.tov
