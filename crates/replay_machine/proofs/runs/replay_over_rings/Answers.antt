use Rattle.std.specs.Prelude.{map, option_map}
use Rattle.replay_machine.proofs.Replayed.{told}
use Rattle.tap_outside.specs.Seen.{SourceSeen}
use Rattle.replay_machine.proofs.runs.replay_over_rings.Goals as goal

pub returns : goal.returns
returns g c =
    let job = c.args.job.now in
    let shape = job.setup.shape in
    record {
      ran = told c.a_job_reports_a_group.ensures.run c.a_job_reports_a_group.ensures.rings g.R.ReceiveRing.kind job
          c.args.schedule.now (g.met.R.ReceiveRing.serves shape c.requires.may) c.requires.schedule _
          g.R.Unit.Layout.text_of g.R.ReceiveRing.reads (g.met.R.ReceiveRing.reads_back shape) _
          (g.met.R.ReceiveRing.steps_are shape) c.replay_as.result
          (λ ran. map (option_map {T = g.row.S.Denot} {U = SourceSeen} g.S.Source.seen) ran.sources.items)
          (λ ran. ran.report) c.replay_as.ensures.ran;
    }
