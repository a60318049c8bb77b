use Rattle.frame_deals.proofs.TakenFrames.{AreTaken}
use Rattle.frame_deals.proofs.cpu_deal.CpuDeal.take_all.Given as goal

abbrev pub invariant-loop-frame : goal.invariant-loop-frame
invariant-loop-frame l = AreTaken l.rules l.fn.self l.fn.frames l.self l.frame-iterator.rest.items
