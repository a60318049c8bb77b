use Rattle.tx_ring.proofs.Gathered.{lies_in, moved_on}
use Rattle.tx_ring.proofs.ring.outgoing.Outgoing.next_bytes.Goals as goal

pub part-requires : goal.part-requires
part-requires c =
    let frames = c.args.self.now in
    lies_in frames.piece c.in-Some.piece c.args.frame.now c.requires.next.0 frames.from c.in-Some.is c.requires.next.1
    c.requires.some

pub returns-in_ok-part-in-Some-clause-rest : goal.returns-in_ok-part-in-Some-clause-rest
returns-in_ok-part-in-Some-clause-rest c =
    let frames = c.args.self.now in
    λ rest has. moved_on frames.piece c.args.frame.now rest frames.from has
