use Rattle.std.proofs.Common.{◌≡◌, length, rules}
use Rattle.frame_deals.proofs.CpuQueues.{all_queues, no_queues, one_queue}
use Rattle.frame_deals.proofs.deals.queues_of.Goals as goal

pub loop-cpu-init : goal.loop-cpu-init
loop-cpu-init c =
    no_queues c.args.cpus.items c.into_iter-cpu-iterator.result.rest.items _ (search rules) (search rules)

pub loop-cpu-preserved : goal.loop-cpu-preserved
loop-cpu-preserved c =
    one_queue c.args.cpus.items c.loop-cpu.cpu-iterator.rest.items c.next.new.self.rest.items c.loop-cpu.queues.items
    c.push.new.self.items c.in-Some.cpu c.into_marks.result c.loop-cpu.invariant c.in-Some.ensures.steps.0
    c.into_marks.ensures.same c.into_marks.ensures.rises c.in_ok-push.ensures.items

pub returns-clause-same : goal.returns-clause-same
returns-clause-same c =
    let empty = c.in-None.ensures.steps.0 in
    let none : length c.loop-cpu.cpu-iterator.rest.items ≡ 0 = search rules in
    all_queues c.args.cpus.items c.loop-cpu.cpu-iterator.rest.items c.loop-cpu.queues.items c.loop-cpu.invariant none
