use Rattle.capture_reports.proofs.GroupRun.{group_run}
use Rattle.capture_reports.proofs.laws.threads_leave_a_group.Goals as goal

pub returns : goal.returns
returns c = λ job moments cpus members timer seats number nows logs left close.
    group_run c.frames_are_numbered.ensures c.the_timer_s_ticks_are_all.ensures.ticks
    c.the_timer_s_ticks_are_all.ensures.counted
    c.threads_report_a_group.ensures job moments cpus members timer seats number nows logs left close
