use Rattle.capture_reports.proofs.OwnNotes.{none_counted, ticks_own}
use Rattle.capture_reports.proofs.group_laws.the_timer_s_ticks_are_all.Goals as goal

pub returns-clause-ticks : goal.returns-clause-ticks
returns-clause-ticks c = λ cpus notes run. ticks_own cpus notes

pub returns-clause-counted : goal.returns-clause-counted
returns-clause-counted c = none_counted
