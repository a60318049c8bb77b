-- The numbers of the statuses, with which the program ends.
use Rattle.std.specs.Prelude.{ℕ}
use Rattle.tap_sizes.specs.declared.outcomes.SizeStatus.{SizeStatus}
use Rattle.tap_sizes.specs.declared.outcomes.SizeStatus.TheVariants as status

abbrev pub number_of : SizeStatus → ℕ
number_of status.Fine = 0
number_of status.Usage = 1
number_of (status.Setup error) = 2
number_of (status.Text error) = 3
number_of (status.Reader error) = 3
number_of (status.Unanswered why) = 3
number_of status.TooLong = 3
number_of (status.Damaged cpu fault) = 4
number_of status.ReadFault = 5
number_of status.WriteFault = 6
number_of status.Memory = 7
