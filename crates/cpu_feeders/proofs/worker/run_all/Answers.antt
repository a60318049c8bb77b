use Rattle.std.proofs.Common.{subst, sym}
use denote.Param.{param}
use denote.Param.Send.{IsSend, sendable}
use Rattle.cpu_feeders.specs.contracts.worker.Worker as Worker
use Rattle.cpu_feeders.specs.WorkerEffects.{IsReadyWorker}
use Rattle.cpu_feeders.specs.declared.worker.Worker as declared
use Rattle.cpu_feeders.proofs.Crossings.{worker_send}
use Rattle.cpu_feeders.proofs.worker.run_all.Goals as goal

pub for_each_mut-requires-send-T : goal.for_each_mut-requires-send-T
for_each_mut-requires-send-T g c κs within =
    let worker : IsSend (Worker.the_row (param 0 g.row.S) (param 1 g.row.T) g.S.Source) =
    worker_send (param 0 g.row.S) (param 1 g.row.T) g.S.Source c.type_bounds.send-S c.type_bounds.send-T in
    search sendable depth 20

pub for_each_mut-requires-clause-accepts : goal.for_each_mut-requires-clause-accepts
for_each_mut-requires-clause-accepts g c κs within = λ i p below at. (
  c.requires.moments,
  subst (λ (w : declared.Worker g.row.S.Denot g.row.T.Denot). IsReadyWorker g.T.Taker.base g.T.Taker.taken
      c.args.shared.now.job.now c.args.shared.now.members.now c.args.shared.now.dealer.now w) (sym at)
      (c.requires.ready i p.now below),
)
