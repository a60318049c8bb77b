use Rattle.setup_text.proofs.Stops.{setup_first_fault, setup_no_line}
use Rattle.setup_text.proofs.laws.the_first_fault_answers.Goals as goal

pub returns-clause-line : goal.returns-clause-line
returns-clause-line c = setup_first_fault

pub returns-clause-no_line : goal.returns-clause-no_line
returns-clause-no_line c = setup_no_line
