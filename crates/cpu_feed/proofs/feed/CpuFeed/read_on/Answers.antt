use Rattle.std.proofs.Common.{refl, subst, sym, arith}
use Rattle.cpu_feed.specs.CpuFeeds.{Waits}
use Rattle.cpu_feed.proofs.Piecewise.{reads_none, reads_on}
use Rattle.cpu_feed.proofs.feed.CpuFeed.read_on.Goals as goal

pub reading-init : goal.reading-init
reading-init g c = record {
  read = reads_none c.args.self.now;
  waits = λ waits. refl;
  failed = λ before failed. absurd (before failed);
}

pub reading-preserved : goal.reading-preserved
reading-preserved g c = record {
  read = reads_on c.args.self.now c.reading.self c.read_piece.new.self c.reading.invariant.read c.in_ok-read_piece.ensures.read;
  waits = λ waits.
      let still : Waits c.reading.self = subst Waits (sym (c.reading.invariant.waits waits)) waits in
      let dry = (c.in_ok-is_dry.ensures.dry c.if-branch.true).1 in
      absurd (omega (arith, still, dry));
  failed = λ before. c.in_ok-read_piece.ensures.failed;
}
