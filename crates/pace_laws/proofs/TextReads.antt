-- The reads of a text's reader are those of a pace of ring_sizes.
use Rattle.std.proofs.Common.{◌≡◌, ◌↔◌, ℕ, ◌+◌, ◌<◌, ◌≤◌, List, refl, sym, subst, arith, Some}
use Rattle.reader_pace.specs.Timelines.{Timed, reads_of, reads_to}
use Rattle.reader_pace.specs.Timelines as lines
use Rattle.reader_pace.specs.declared.paces.Pace as texts
use Rattle.reader_pace.specs.declared.paces.Pace.TheVariants.{Pause, Blocks, Poll}
use Rattle.reader_pace.specs.declared.paces.Stall as text_stalls
use Rattle.reader_pace.proofs.Ends.{blocks_end, pauses_end}
use Rattle.ring_sizes.specs.Phases.{begun}
use Rattle.ring_sizes.specs.Schedules.{IsPace, step_moment}
use Rattle.ring_sizes.specs.declared.paces.Timing.{Timing}
use Rattle.setup_text.proofs.PassedTests.{some_same}
use Rattle.pace_laws.specs.Paces.{pace_of, stalls_of}
use Rattle.pace_laws.proofs.Beats.{each}
use Rattle.pace_laws.proofs.StepCounts.{block_moment, pause_moment}

-- these reads are those of a pace, by the end
pub record ReadsAre (stalls : List text_stalls.Stall) (pace : Timing) (blocks members end tov phase : ℕ) (reads : List Timed)
    : Type 0 where
  pub tov_is : pace.tov ≡ tov
  pub phase_is : pace.phase ≡ phase
  pub moment_of : ℕ → ℕ
  pub steps : ℕ
  pub reads_are : reads ≡ reads_to moment_of stalls (each (stalls_of stalls) pace blocks) members steps
  pub same : (step : ℕ) → moment_of step ≡ step_moment pace (step + 1)
  pub counted : (step : ℕ) → (moment_of step ≤ end) ↔ (step < steps)

pub text_reads : (of : texts.Pace) (stalls : List text_stalls.Stall) (tov blocks members phase from end : ℕ) (pace : Timing)
    (reads : List Timed)
    → pace_of tov of ≡ Some pace → IsPace (begun pace phase from) → reads_of of stalls blocks members from end ≡ Some reads
    → ReadsAre stalls (begun pace phase from) blocks members end tov phase reads
text_reads (Pause period) stalls tov blocks members phase from end pace reads e sound h =
    subst (λ (pace : Timing). IsPace (begun pace phase from)
    → ReadsAre stalls (begun pace phase from) blocks members end tov phase reads) (some_same _ pace e)
    (λ sound. record {
      tov_is = refl;
      phase_is = refl;
      moment_of = lines.pause_step period from;
      steps = lines.steps_of (lines.pause_steps period) from end;
      reads_are = sym (some_same _ reads h);
      same = λ step. pause_moment period from step;
      counted = λ step. pauses_end period from step end (omega (arith, sound.span));
    }) sound
text_reads (Blocks count) stalls tov blocks members phase from end pace reads e sound h =
    subst (λ (pace : Timing). IsPace (begun pace phase from)
    → ReadsAre stalls (begun pace phase from) blocks members end tov phase reads) (some_same _ pace e)
    (λ sound. record {
      tov_is = refl;
      phase_is = refl;
      moment_of = lines.block_step count from;
      steps = lines.steps_of (lines.block_steps count) from end;
      reads_are = sym (some_same _ reads h);
      same = λ step. block_moment count from step;
      counted = λ step. blocks_end count from step end sound.parts;
    }) sound
text_reads (Poll delay) stalls tov blocks members phase from end pace reads e sound h = cc
