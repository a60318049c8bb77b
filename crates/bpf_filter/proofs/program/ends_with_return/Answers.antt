use Rattle.std.proofs.Common.{arith, ◌<◌, length}
use Rattle.bpf_filter.proofs.Checks.{ends_by_last}
use Rattle.bpf_filter.proofs.program.ends_with_return.Goals as goal

pub returns-then-last-eq6 : goal.returns-then-last-eq6
returns-then-last-eq6 c =
    let some : 0 < length c.args.code.now = omega arith in
    rw (ends_by_last c.args.code.now (record { code = 0; jt = 0; jf = 0; k = 0 }) some) (grind (arith, c.if-last-eq6.true))

pub returns-else-last-eq6 : goal.returns-else-last-eq6
returns-else-last-eq6 c =
    let some : 0 < length c.args.code.now = omega arith in
    rw (ends_by_last c.args.code.now (record { code = 0; jt = 0; jf = 0; k = 0 }) some) (grind (arith, c.if-last-eq6.false))
