-- Nothing comes between two frames.
use Rattle.std.proofs.Common.{◌≡◌, ℕ, ◌+◌, ◌-◌, ◌<◌, ◌≤◌, List, [], replicate, refl, sym, ap, subst, ◌∙◌, arith}
use Rattle.ring_sizes.specs.Courses.{IsSmall, all_went_on}
use Rattle.ring_sizes.specs.Places.{IsQuiet}
use Rattle.ring_sizes.specs.Schedules.{IsPace, awake, beats, beats_between, step_event, step_moment, steps_before}
use Rattle.ring_sizes.specs.Schedules.{tick_moment, ticks_by}
use Rattle.ring_sizes.specs.declared.courses.Course.{Course}
use Rattle.ring_sizes.specs.declared.events.Event.{Event}
use Rattle.ring_sizes.specs.declared.paces.Timing.{Timing}
use Rattle.ring_sizes.specs.declared.paces.StallTime.{StallTime}
use Rattle.ring_sizes.proofs.Counts.{same_steps, same_ticks}

module _ (pace : Timing) (since at until : ℕ) (sound : IsPace pace) (later : since ≤ at) (quiet : IsQuiet pace since until)
    (soon : at < until) where
  ticks : ticks_by pace at ≡ ticks_by pace since
  ticks = same_ticks pace since at sound.tov later (quiet at soon).0

  steps : steps_before pace at ≡ steps_before pace since
  steps = same_steps pace since at sound later (quiet at soon).1

  no_beats : (stalls : List StallTime) → beats_between stalls pace since at ≡ []
  no_beats stalls =
      let no_ticks : ticks_by pace at - ticks_by pace since ≡ 0 = let same = ticks in omega (arith, same) in
      let no_steps : steps_before pace at - steps_before pace since ≡ 0 = let same = steps in omega (arith, same) in
      ap (λ (n : ℕ). beats stalls pace n (ticks_by pace since) since at) no_ticks
      ∙ ap (λ (n : ℕ). replicate (awake stalls pace (steps_before pace since) n) (step_event pace.takes_all)) no_steps

  pub nothing_goes : (stalls : List StallTime) (blocks : ℕ) (course : Course) (room : ℕ)
      → course ≡ all_went_on room blocks pace.tov (beats_between stalls pace since at) course
  nothing_goes stalls blocks course room =
      ap (λ (events : List Event). all_went_on room blocks pace.tov events course) (sym (no_beats stalls))

  pub stays_as_small : (course : Course) (bound : ℕ) → IsSmall (bound + ticks_by pace since) course
      → IsSmall (bound + ticks_by pace at) course
  stays_as_small course bound small = subst (λ (n : ℕ). IsSmall (bound + n) course) (sym ticks) small

  pub stays_quiet : IsQuiet pace at until
  stays_quiet = λ moment few.
      subst (λ (n : ℕ). (moment < tick_moment pace (n + 1)) × (moment ≤ step_moment pace (steps_before pace at + 1)))
      (sym ticks)
      (subst (λ (n : ℕ). (moment < tick_moment pace (ticks_by pace since + 1)) × (moment ≤ step_moment pace (n + 1)))
      (sym steps) (quiet moment few))
