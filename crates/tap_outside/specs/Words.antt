-- How the errors of the outside are printed.
use Rattle.std.specs.Prelude.{ℕ, List, codes}
use Rattle.tap_outside.specs.declared.causes.OutError.{OutError}
use Rattle.tap_outside.specs.declared.causes.OutError.TheVariants.{Failed, Memory}

-- why a call didn't do its work
abbrev pub cause_words : OutError → List ℕ
cause_words Failed = codes "input or output failed"
cause_words Memory = codes "out of memory"
