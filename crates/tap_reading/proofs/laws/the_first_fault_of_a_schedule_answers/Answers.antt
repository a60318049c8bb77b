use Rattle.setup_text.specs.Schedules.{clock_of, line_in, schedule_of}
use Rattle.setup_text.specs.declared.text_error.Which.TheVariants.{Schedule}
use Rattle.tap_reading.proofs.ItemFaults.{items_fault, items_large, items_which}
use Rattle.tap_reading.proofs.laws.the_first_fault_of_a_schedule_answers.Goals as goal

pub returns-clause-line : goal.returns-clause-line
unfolding schedule_of
returns-clause-line c cpus members text =
    items_fault Schedule (λ lines line. line_in cpus members (clock_of lines) line) text

pub returns-clause-no_line : goal.returns-clause-no_line
unfolding schedule_of
returns-clause-no_line c cpus members text =
    items_large Schedule (λ lines line. line_in cpus members (clock_of lines) line) text

pub returns-clause-which : goal.returns-clause-which
unfolding schedule_of
returns-clause-which c cpus members text =
    items_which Schedule (λ lines line. line_in cpus members (clock_of lines) line) text
