-- The ticks and frames of a ring, each at its moment, in nanoseconds from the first frame on. Ticks
-- of a moment come first.
use Rattle.std.specs.Prelude.{ℕ, zero, suc, ◌+◌, ◌-◌, ◌*◌, max, true, List, [], ◌∷◌, ◌++◌}
use Rattle.poll_sizes.specs.declared.polls.PollTiming.{PollTiming}
use Rattle.ring_sizes.specs.Schedules.{tick_moment, ticks_by}
use Rattle.ring_sizes.specs.declared.events.Event.{Event}
use Rattle.ring_sizes.specs.declared.events.Event.TheVariants.{Packet, Tick}
use Rattle.ring_sizes.specs.declared.paces.Arrival.{Arrival}
use Rattle.ring_sizes.specs.declared.paces.Timing.{Timing}

-- an event, and the moment at which it comes
pub record Beat : Type 0 where
  pub at : ℕ
  pub event : Event

-- the timer, as one beside a reader of which no step is used
abbrev pub timer_of : PollTiming → Timing
timer_of pace = record {
  tov = pace.tov;
  phase = pace.phase;
  span = 1;
  parts = 1;
  start = 0;
  takes_all = true;
}

-- a tick, counted from 1
abbrev pub tick_beat : PollTiming → ℕ → Beat
tick_beat pace number =
    record { at = tick_moment (timer_of pace) number; event = Tick (number * pace.tov) }

-- the next ticks after so many
abbrev pub ticks_on : PollTiming → ℕ → ℕ → List Beat
ticks_on pace zero ticks = []
ticks_on pace (suc more) ticks = tick_beat pace (ticks + 1) ∷ ticks_on pace more (ticks + 1)

-- those that come after a moment and by another
abbrev pub ticks_between : PollTiming → ℕ → ℕ → List Beat
ticks_between pace since at =
    let by : ℕ → ℕ = ticks_by (timer_of pace) in ticks_on pace (by at - by since) (by since)

-- the ticks and frames by the end, if the frame before these came at a moment; a frame that is
-- older than the one before it comes right after that
abbrev pub beats_from : PollTiming → ℕ → ℕ → List Arrival → List Beat
beats_from pace end since [] = ticks_between pace since end
beats_from pace end since (arrival ∷ arrivals) =
    let at = max since arrival.at in
    ticks_between pace since at
    ++ record { at = at; event = Packet arrival.need } ∷ beats_from pace end at arrivals
