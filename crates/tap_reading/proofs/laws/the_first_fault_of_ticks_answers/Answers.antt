use Rattle.setup_text.specs.Moments.{latest, moment_in, moments_of}
use Rattle.setup_text.specs.declared.text_error.Which.TheVariants.{Ticks}
use Rattle.tap_reading.proofs.ItemFaults.{items_fault, items_large, items_which}
use Rattle.tap_reading.proofs.laws.the_first_fault_of_ticks_answers.Goals as goal

pub returns-clause-line : goal.returns-clause-line
unfolding moments_of
returns-clause-line c text = items_fault Ticks (λ moments line. moment_in (latest moments) line) text

pub returns-clause-no_line : goal.returns-clause-no_line
unfolding moments_of
returns-clause-no_line c text = items_large Ticks (λ moments line. moment_in (latest moments) line) text

pub returns-clause-which : goal.returns-clause-which
unfolding moments_of
returns-clause-which c text = items_which Ticks (λ moments line. moment_in (latest moments) line) text
