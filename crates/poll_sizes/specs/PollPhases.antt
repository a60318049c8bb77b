-- The phases of the timer that are tried.
use Rattle.std.specs.Prelude.{ℕ, ◌<◌, ◌≤◌, ◌^◌, List}
use Rattle.poll_sizes.specs.Polls.{least_polled_of, polled_drops_of}
use Rattle.poll_sizes.specs.declared.polls.PollTiming.{PollTiming}
use Rattle.ring_sizes.specs.declared.paces.Arrival.{Arrival}
use Rattle.ring_sizes.specs.declared.paces.StallTime.{StallTime}
use Rattle.ring_sizes.specs.declared.tries.Tries.{Tries}

-- the same reader, beside a timer that was started so many milliseconds before the first frame
abbrev pub polled_at : PollTiming → ℕ → PollTiming
polled_at pace phase = record pace { phase = phase }

-- some phases are tried, each below the time-out, and some beginnings, of which a reader that polls
-- takes no notice
pub record ArePolled (pace : PollTiming) (tries : Tries) : Type 0 where
  pub tov : pace.tov < 2 ^ 32
  pub phases : tries.first_phase < tries.phase_end
  pub below : tries.phase_end ≤ pace.tov
  pub beginnings : tries.first_from < tries.from_end

-- the number of blocks that a pass reports at a phase, whatever the beginning
abbrev pub least_polled_at :
    ℕ → List StallTime → PollTiming → List Arrival → ℕ → ℕ → ℕ → ℕ
least_polled_at room stalls pace arrivals end phase from =
    least_polled_of room stalls (polled_at pace phase) arrivals end

-- and the packets that a course drops
abbrev pub polled_drops_at :
    ℕ → ℕ → List StallTime → PollTiming → List Arrival → ℕ → ℕ → ℕ → ℕ
polled_drops_at room blocks stalls pace arrivals end phase from =
    polled_drops_of room blocks stalls (polled_at pace phase) arrivals end
