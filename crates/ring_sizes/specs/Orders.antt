-- A timer at another phase, with which all comes in the same order.
use Rattle.std.specs.Prelude.{◌≡◌, ℕ, ◌*◌, ◌<◌, max, List, [], ◌∷◌}
use Rattle.std.specs.Int.{IsGcd}
use Rattle.ring_sizes.specs.Schedules.{steps_before, tick_moment, ticks_by}
use Rattle.ring_sizes.specs.declared.paces.Arrival.{Arrival}
use Rattle.ring_sizes.specs.declared.paces.Timing.{Timing}

-- the same timer and reader, of which the timer was started so many milliseconds before the first
-- frame
abbrev pub at_phase : Timing → ℕ → Timing
at_phase pace phase = record pace { phase = phase }

-- the greatest time that divides the timer's period and the reader's, in parts of a nanosecond
abbrev pub IsUnit : Timing → ℕ → Type 0
IsUnit pace unit = (0 < unit) × IsGcd (pace.tov * 1000000 * pace.parts) pace.span unit

-- no tick passes one of these frames, or the end: as many come by it at the other phase
abbrev pub PassesNoFrame : Timing → ℕ → ℕ → ℕ → List Arrival → Type 0
PassesNoFrame pace phase end since [] = ticks_by (at_phase pace phase) end ≡ ticks_by pace end
PassesNoFrame pace phase end since (arrival ∷ arrivals) =
    let at = max since arrival.at in
    (ticks_by (at_phase pace phase) at ≡ ticks_by pace at)
    × PassesNoFrame pace phase end at arrivals

-- no tick passes a step of the reader: as many come before it at the other phase
abbrev pub PassesNoStep : Timing → ℕ → Type 0
PassesNoStep pace phase = (number : ℕ)
    → steps_before pace (tick_moment (at_phase pace phase) number)
    ≡ steps_before pace (tick_moment pace number)
