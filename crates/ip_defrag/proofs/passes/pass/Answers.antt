-- Each frame that was held, and the new one, is counted once.
use Rattle.std.proofs.Common.{◌≡◌, arith, length}
use Rattle.ip_defrag.specs.Fold.{pass}
use Rattle.ip_defrag.proofs.Pushed.{counted_left}
use Rattle.ip_defrag.proofs.passes.pass.Goals as goal

pub overflow_add-result : goal.overflow_add-result
overflow_add-result c = omega (arith, c.requires.counted.most)

pub overflow_sub-result : goal.overflow_sub-result
overflow_sub-result c =
    let after : c.pending.result ≡ length (pass c.args.trace.now.items c.args.fragment).held =
    counted_left _ _ _ _ c.pending.ensures.count c.deref.ensures.value c.in_ok-joined.ensures.agrees.left_is in
    let counted = c.in_ok-joined.ensures.agrees.counted in
    omega (arith, c.requires.counted.counted, after, counted)

pub overflow_sub-result-2 : goal.overflow_sub-result-2
overflow_sub-result-2 c =
    let after : c.pending.result ≡ length (pass c.args.trace.now.items c.args.fragment).held =
    counted_left _ _ _ _ c.pending.ensures.count c.deref.ensures.value c.in_ok-joined.ensures.agrees.left_is in
    let counted = c.in_ok-joined.ensures.agrees.counted in
    omega (arith, c.requires.counted.counted, after, counted)

pub returns-clause-counted : goal.returns-clause-counted
returns-clause-counted c =
    record {
      counted = counted_left _ _ _ _ c.pending.ensures.count c.deref.ensures.value c.in_ok-joined.ensures.agrees.left_is;
      most = c.pending.ensures.most;
    }

pub returns-clause-discarded : goal.returns-clause-discarded
returns-clause-discarded c =
    let after : c.pending.result ≡ length (pass c.args.trace.now.items c.args.fragment).held =
    counted_left _ _ _ _ c.pending.ensures.count c.deref.ensures.value c.in_ok-joined.ensures.agrees.left_is in
    let counted = c.in_ok-joined.ensures.agrees.counted in
    omega (arith, c.requires.counted.counted, after, counted)
