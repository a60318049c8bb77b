-- That memory ran out is reported only by the status, and by no error within an answer.
use Rattle.std.specs.Prelude.{◌≡◌, ◌≢◌, false, ⊤, IfSome}
use Rattle.std.specs.List.{AllByRecursion}
use Rattle.capture_file.specs.declared.cpu_end.CpuEnd.{CpuEnd}
use Rattle.capture_file.specs.declared.cpu_end.CpuEnd.TheVariants.{Damaged, Fault, Whole}
use Rattle.capture_file.specs.declared.error.CaptureError.TheVariants as errors
use Rattle.setup_text.specs.Answers.{is_setup_want, is_text_want}
use Rattle.tap_engine.specs.declared.outcomes.Outcome.{Outcome}
use Rattle.tap_engine.specs.declared.outcomes.Status.{Status}
use Rattle.tap_engine.specs.declared.outcomes.Status.TheVariants as statuses

-- a refused text has a fault of its own, and so has a damaged capture
abbrev pub IsOfTexts : Status → Type 0
IsOfTexts (statuses.Setup error) = is_setup_want error ≡ false
IsOfTexts (statuses.Text error) = is_text_want error ≡ false
IsOfTexts (statuses.Damaged cpu fault) = fault ≢ errors.Memory
IsOfTexts status = ⊤

abbrev pub IsOfCapture : CpuEnd → Type 0
IsOfCapture Whole = ⊤
IsOfCapture Fault = ⊤
IsOfCapture (Damaged fault) = fault ≢ errors.Memory

-- the status and the ends of the report's CPUs
pub record HoldsNoMemory (outcome : Outcome) : Type 0 where
  pub status : IsOfTexts outcome.status
  pub ends :
      IfSome outcome.report (λ report. AllByRecursion (λ log. IsOfCapture log.end) report.cpus)
