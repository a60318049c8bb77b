-- The faults of reading that a store counted.
use Rattle.std.specs.Prelude.{ℕ, ◌≡◌}
use Rattle.tap_outside.specs.Counts.{RoseBy}
use Rattle.tap_outside.specs.Seen.{NoReadFailed, StoreSeen}

-- there were at least `faults` faults, and if `faults` is 0 no read failed
pub record IsCounted (old new : StoreSeen) (faults : ℕ) : Type 0 where
  pub rose : RoseBy faults old.read_faults new.read_faults
  pub faultless : faults ≡ 0 → NoReadFailed old new
