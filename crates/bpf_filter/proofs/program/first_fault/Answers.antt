use Rattle.std.proofs.Common.{sym, ◌∙◌, arith}
use Rattle.bpf_filter.proofs.Checks.{checked_all, checked_fault, checked_more, checked_none}
use Rattle.bpf_filter.proofs.program.first_fault.Goals as goal

pub loop-at-init : goal.loop-at-init
loop-at-init c = checked_none c.args.code.now

pub returns-then-is_some : goal.returns-then-is_some
returns-then-is_some c =
    checked_fault c.args.code.now c.loop-at.at (record { code = 0; jt = 0; jf = 0; k = 0 }) _ c.loop-at.invariant (omega arith)
    c.fault_of-found.ensures (sym c.is_some.ensures ∙ c.if-is_some.true)

pub loop-at-preserved : goal.loop-at-preserved
loop-at-preserved c =
    checked_more c.args.code.now c.loop-at.at (record { code = 0; jt = 0; jf = 0; k = 0 }) _ c.loop-at.invariant (omega arith)
    c.fault_of-found.ensures (sym c.is_some.ensures ∙ c.if-is_some.false)

pub returns : goal.returns
returns c = checked_all c.args.code.now c.loop-at.at c.loop-at.invariant (omega arith)
