-- The numbers of the statuses, with which the program ends.
use Rattle.std.specs.Prelude.{ℕ}
use Rattle.tap_engine.specs.declared.outcomes.Status.{Status}
use Rattle.tap_engine.specs.declared.outcomes.Status.TheVariants.{Damaged, Fine, Memory, ReadFault}
use Rattle.tap_engine.specs.declared.outcomes.Status.TheVariants.{Setup, Text, Usage, WriteFault}

abbrev pub number_of : Status → ℕ
number_of Fine = 0
number_of Usage = 1
number_of (Setup error) = 2
number_of (Text error) = 3
number_of (Damaged cpu fault) = 4
number_of ReadFault = 5
number_of WriteFault = 6
number_of Memory = 7
