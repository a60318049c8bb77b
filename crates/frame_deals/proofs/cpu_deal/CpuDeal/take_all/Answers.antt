use Rattle.frame_deals.proofs.TakenFrames.{frame_readable, one_taken}
use Rattle.frame_deals.proofs.cpu_deal.CpuDeal.take_all.Goals as goal

pub take-requires-clause-frame : goal.take-requires-clause-frame
take-requires-clause-frame c =
    frame_readable c.args.rules.now c.args.self.now c.args.frames c.loop-frame.self c.in-Some.frame
    c.loop-frame.frame-iterator.rest.items c.next.new.self.rest.items c.loop-frame.invariant c.in-Some.ensures.steps.0

pub loop-frame-preserved : goal.loop-frame-preserved
loop-frame-preserved c =
    let taken = c.in_ok-take.ensures in
    one_taken c.args.rules.now c.args.self.now c.args.frames c.loop-frame.self c.take.new.self c.in-Some.frame
    c.loop-frame.frame-iterator.rest.items c.next.new.self.rest.items c.loop-frame.invariant c.in-Some.ensures.steps.0
    taken.cpu taken.shape taken.arrivals taken.taken
