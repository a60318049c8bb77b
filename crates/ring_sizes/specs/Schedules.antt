-- The events of a ring whose frames come at their moments, with a timer and a reader beside them.
-- Moments are in nanoseconds from the first frame on; at one moment ticks come first, then frames,
-- then the reader's steps.
use Rattle.std.specs.Prelude.{ℕ, zero, suc, ◌+◌, ◌-◌, ◌*◌, ◌/◌, ◌<◌, ◌≤◌, ◌^◌, max, Bool, false}
use Rattle.std.specs.Prelude.{List, [], ◌∷◌, ◌++◌, replicate}
use Rattle.std.specs.Prelude.{nat_le, nat_lt, if◌then◌else◌, ◌&&◌, ◌||◌}
use Rattle.ring_sizes.specs.declared.events.Event.{Event}
use Rattle.ring_sizes.specs.declared.events.Event.TheVariants.{Packet, Tick, Read, ReadAll}
use Rattle.ring_sizes.specs.declared.paces.Arrival.{Arrival}
use Rattle.ring_sizes.specs.declared.paces.Timing.{Timing}
use Rattle.ring_sizes.specs.declared.paces.StallTime.{StallTime}

-- the moment of the n-th tick, counted from 1: n time-outs less the phase, both in milliseconds
abbrev pub tick_moment : Timing → ℕ → ℕ
tick_moment pace number = number * (pace.tov * 1000000) - pace.phase * 1000000

-- how many ticks come by a moment
abbrev pub ticks_by : Timing → ℕ → ℕ
ticks_by pace at = (at + pace.phase * 1000000) / (pace.tov * 1000000)

-- the moment of the reader's n-th step, counted from 1: its beginning and n - 1 spans, divided by
-- the parts
abbrev pub step_moment : Timing → ℕ → ℕ
step_moment pace number = pace.start + (number - 1) * pace.span / pace.parts

-- how many steps come before a moment
abbrev pub steps_before : Timing → ℕ → ℕ
steps_before pace at = ((at - pace.start) * pace.parts + (pace.span - 1)) / pace.span

-- the reader does nothing at this moment
abbrev pub is_stalled : List StallTime → ℕ → Bool
is_stalled [] at = false
is_stalled (stall ∷ stalls) at =
    nat_le stall.from at && nat_lt at (stall.from + stall.length) || is_stalled stalls at

-- how many of the next steps after so many aren't in a stall
abbrev pub awake : List StallTime → Timing → ℕ → ℕ → ℕ
awake stalls pace done zero = 0
awake stalls pace done (suc more) =
    (if is_stalled stalls (step_moment pace (done + 1)) then 0 else 1)
    + awake stalls pace (done + 1) more

-- what the reader does in a step
abbrev pub step_event : Bool → Event
step_event takes_all = if takes_all then ReadAll else Read

-- the reader's steps from one moment on, before another
abbrev pub steps_from : List StallTime → Timing → ℕ → ℕ → List Event
steps_from stalls pace since at =
    replicate
    (awake stalls pace (steps_before pace since) (steps_before pace at - steps_before pace since))
    (step_event pace.takes_all)

-- the next ticks after so many, and the reader's steps from a moment on, before another
abbrev pub beats : List StallTime → Timing → ℕ → ℕ → ℕ → ℕ → List Event
beats stalls pace zero ticks since at = steps_from stalls pace since at
beats stalls pace (suc more) ticks since at =
    let next = tick_moment pace (ticks + 1) in
    steps_from stalls pace since next
    ++ Tick ((ticks + 1) * pace.tov) ∷ beats stalls pace more (ticks + 1) next at

-- what comes between two frames with these moments
abbrev pub beats_between : List StallTime → Timing → ℕ → ℕ → List Event
beats_between stalls pace since at =
    beats stalls pace (ticks_by pace at - ticks_by pace since) (ticks_by pace since) since at

-- what comes after the last of a ring's frames, by the end and at it
abbrev pub beats_to : List StallTime → Timing → ℕ → ℕ → List Event
beats_to stalls pace since end =
    beats stalls pace (ticks_by pace end - ticks_by pace since) (ticks_by pace since) since
    (end + 1)

-- the events by the end, if the frame before these came at a moment; a frame that is older than the
-- one before it comes right after that
abbrev pub schedule_from : List StallTime → Timing → ℕ → ℕ → List Arrival → List Event
schedule_from stalls pace end since [] = beats_to stalls pace since end
schedule_from stalls pace end since (arrival ∷ arrivals) =
    let at = max since arrival.at in
    beats_between stalls pace since at
    ++ Packet arrival.need ∷ schedule_from stalls pace end at arrivals

-- the events of a ring with these frames in a run that ends at a moment: that of the last frame of
-- all rings, with which the ticks and steps after the last frame of this one still come
abbrev pub schedule_to : List StallTime → Timing → List Arrival → ℕ → List Event
schedule_to stalls pace arrivals end = schedule_from stalls pace end 0 arrivals

-- a valid timer and reader: neither period is 0, the timer began less than a time-out before the
-- first frame, the reader begins within 292 years, and makes at most eight steps a nanosecond
pub record IsPace (pace : Timing) : Type 0 where
  pub tov : 0 < pace.tov
  pub short : pace.tov < 2 ^ 32
  pub phase : pace.phase < pace.tov
  pub span : 0 < pace.span
  pub brief : pace.span < 2 ^ 60
  pub parts : 0 < pace.parts
  pub quick : pace.parts ≤ 8 * pace.span
  pub late : pace.start < 2 ^ 63
