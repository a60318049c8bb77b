-- Each fragment has at least one byte, and all together have at most those of a datagram.
use Rattle.std.proofs.Common.{arith}
use Rattle.ip_defrag.proofs.Covers.{length-filled, filled-most}
use Rattle.ip_defrag.proofs.datagrams.Datagram.len.Goals as goal

pub overflow_cast-result : goal.overflow_cast-result
overflow_cast-result c =
    let few = length-filled c.self.inside.fragments.items c.self.invariant.0.held in
    let most = filled-most c.self.inside.fragments.items c.self.invariant.0.held in
    omega (arith, few, most)

pub returns-clause-most : goal.returns-clause-most
returns-clause-most c =
    let few = length-filled c.self.inside.fragments.items c.self.invariant.0.held in
    let most = filled-most c.self.inside.fragments.items c.self.invariant.0.held in
    omega (arith, few, most)
