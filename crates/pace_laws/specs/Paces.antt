-- The reader of a text as ring_sizes has it: moments there are in nanoseconds.
use Rattle.std.specs.Prelude.{ℕ, ◌*◌, List, map, true, false, Option, None, Some}
use Rattle.reader_pace.specs.declared.paces.Pace as texts
use Rattle.reader_pace.specs.declared.paces.Pace.TheVariants.{Pause, Blocks, Poll}
use Rattle.reader_pace.specs.declared.paces.Stall as text_stalls
use Rattle.ring_sizes.specs.declared.paces.Timing.{Timing}
use Rattle.ring_sizes.specs.declared.paces.StallTime.{StallTime}

-- the stalls, which a text has in milliseconds
abbrev pub stalls_of : List text_stalls.Stall → List StallTime
stalls_of stalls =
    map (λ stall. record { from = stall.from * 1000000; length = stall.length * 1000000 }) stalls

-- A timer with a time-out in milliseconds and a reader with the pace of a text, whenever they
-- began. The steps of a reader that wakes when a block is handed over depend on the ring.
abbrev pub pace_of : ℕ → texts.Pace → Option Timing
pace_of tov (Pause period) = Some (record {
  tov = tov;
  phase = 0;
  span = period * 1000000;
  parts = 1;
  start = 0;
  takes_all = true;
})
pace_of tov (Blocks count) = Some (record {
  tov = tov;
  phase = 0;
  span = 1000000000;
  parts = count;
  start = 0;
  takes_all = false;
})
pace_of tov (Poll delay) = None
