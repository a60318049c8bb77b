-- A text that was read says what the store's own text says.
use Rattle.std.proofs.Common.{◌≡◌, ℕ, ◌+◌, ◌<◌, ◌≤◌, Bool, true, false, List, [], length, inl, inr}
use Rattle.std.proofs.Common.{Some, refl, sym, ap, ◌∙◌, arith}
use Rattle.std.specs.Prelude.{◌⊎◌, if◌then◌else◌, nat_lt, unwrap_or, Result, Ok, Err}
use Rattle.std.proofs.lemmas.Bool.{cases_lt, lt-ltb}
use Rattle.std.proofs.lemmas.List.{length-append}
use Rattle.bpf_filter.specs.Listings.{instructions_of}
use Rattle.setup_text.specs.Filters.{filter_after, filter_of}
use Rattle.setup_text.specs.Moments.{moments_of}
use Rattle.setup_text.specs.Schedules.{schedule_of}
use Rattle.setup_text.specs.Setups.{setup_of}
use Rattle.setup_text.specs.declared.commands.Command.{Command}
use Rattle.tap_outside.specs.Contents.{Contents}
use Rattle.tap_reading.specs.Fronts.{IsTextOf}
use Rattle.tap_reading.specs.Readers.{Says, schedule_for, setup_for}
use Rattle.tap_running.proofs.TextLimits.{Limits, too_large}

pub schedules : (cpus members : ℕ) → Limits (schedule_for cpus members)
unfolding schedule_of
schedules cpus members = (
  _,
  λ text large. too_large (nat_lt 1048576 (length text)) _ _
      (lt-ltb 1048576 (length text) large),
)

pub moments : Limits moments_of
unfolding moments_of
moments = (
  _,
  λ text large. too_large (nat_lt 1048576 (length text)) _ _
      (lt-ltb 1048576 (length text) large),
)
