use Rattle.std.proofs.Common.{◌∙◌, sym, arith}
use Rattle.tp_layout.proofs.Walks.{packets_passed, last_step}
use Rattle.tp_layout.proofs.block_walks.check_packets.Goals as goal

pub loop-left-preserved : goal.loop-left-preserved
loop-left-preserved c =
    let l = c.loop-left in
    record {
      tests = rw (c.in_ok-need.ensures.need, c.split_at.ensures.back, c.in_ok-need.ensures.need)
          (packets_passed l.left l.place l.rest.now c.loop-left-test.true (sym c.in_ok-need.ensures.fault) ∙ l.invariant.tests);
      last = rw (c.u32_at.ensures, c.u32_at-in-loop-left.ensures, c.split_at.ensures.back, c.in_ok-need.ensures.need)
          (sym (last_step l.time l.left l.rest.now c.loop-left-test.true) ∙ l.invariant.last);
      some = λ _. omega (arith, c.in_ok-need.ensures.within.0, l.invariant.sum, l.invariant.from);
      from = omega (arith, l.invariant.from);
      sum = omega (arith, c.split_at.ensures.back_len, c.in_ok-need.ensures.within.1, l.invariant.sum);
    }
