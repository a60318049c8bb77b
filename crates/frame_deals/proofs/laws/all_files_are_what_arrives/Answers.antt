use Rattle.run_reports.specs.Jobs.{rules_of}
use Rattle.frame_deals.proofs.FileFrames.{all_lists}
use Rattle.frame_deals.proofs.laws.all_files_are_what_arrives.Goals as goal

pub returns : goal.returns
returns c = λ job room all dealings read.
    all_lists (rules_of job) room job.setup.plan 0 all dealings read
