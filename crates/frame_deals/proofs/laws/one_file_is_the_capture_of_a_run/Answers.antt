use Rattle.std.proofs.Common.{List, ap, map}
use Rattle.fanout_group.specs.Arrivals.{arrivals_at}
use Rattle.fanout_group.specs.Plans.{has_defrag}
use Rattle.frame_view.specs.declared.frames.Frame.{Frame}
use Rattle.frame_deals.proofs.FileFrames.{one_each, one_file}
use Rattle.frame_deals.proofs.laws.one_file_is_the_capture_of_a_run.Goals as goal

pub returns-clause-frames : goal.returns-clause-frames
returns-clause-frames c = λ cpu bytes. one_file c.frames_are_numbered.ensures cpu bytes

pub returns-clause-captures : goal.returns-clause-captures
returns-clause-captures c = λ all. one_each c.frames_are_numbered.ensures 0 all

pub returns-clause-arriving : goal.returns-clause-arriving
returns-clause-arriving c = λ job all.
    ap (λ (captures : List (List Frame)). map (arrivals_at (has_defrag job.setup.plan.flags)) captures)
    (one_each c.frames_are_numbered.ensures 0 all)
