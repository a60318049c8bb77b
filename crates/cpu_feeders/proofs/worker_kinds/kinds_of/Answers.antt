use Rattle.std.proofs.Common.{List, false, sym, subst, ◌∙◌}
use Rattle.cpu_feeders.specs.inside.WorkerKinds.{feeder_in, timer_in, walker_in}
use Rattle.cpu_feeders.specs.declared.worker.Worker.{Worker}
use Rattle.cpu_feeders.proofs.OneMore.{empty, last_kind, next_kind}
use Rattle.cpu_feeders.proofs.WorkerOrder.{AreFree}
use Rattle.cpu_feeders.proofs.worker_kinds.kinds_of.Goals as goal

pub loop-worker-preserved : goal.loop-worker-preserved
loop-worker-preserved g c =
    let inv = c.loop-worker.invariant in
    let next = c.in-Some.ensures.steps.0 in
    let added = c.in_ok-add.ensures in
    let before = c.loop-worker.kinds in
    let now = c.add.new.self in
    let rest = c.loop-worker.worker-iterator.rest.items in
    let after = c.next.new.self.rest.items in
    record {
      full = λ all. inv.full
          (subst (λ (ws : List (Worker g.row.S.Denot g.row.T.Denot)). AreFree ws) (sym next) (added.full, all));
      walkers = next_kind walker_in before.walkers.items now.walkers.items _ rest after c.in-Some.worker next
          added.walkers inv.walkers;
      timers = next_kind timer_in before.timers.items now.timers.items _ rest after c.in-Some.worker next
          added.timers inv.timers;
      feeders = next_kind feeder_in before.feeders.items now.feeders.items _ rest after c.in-Some.worker next
          added.feeders inv.feeders;
    }

pub returns : goal.returns
returns g c =
    let inv = c.loop-worker.invariant in
    let rest = c.loop-worker.worker-iterator.rest in
    let none = empty rest.items (sym rest.ok.0 ∙ c.in-None.ensures.steps.0) in
    record {
      full = inv.full (subst (λ (ws : List (Worker g.row.S.Denot g.row.T.Denot)). AreFree ws) (sym none) tt);
      walkers = last_kind walker_in c.loop-worker.kinds.walkers.items _ rest.items none inv.walkers;
      timers = last_kind timer_in c.loop-worker.kinds.timers.items _ rest.items none inv.timers;
      feeders = last_kind feeder_in c.loop-worker.kinds.feeders.items _ rest.items none inv.feeders;
    }
