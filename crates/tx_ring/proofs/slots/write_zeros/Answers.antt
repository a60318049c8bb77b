use Rattle.std.proofs.Common.{◌≡◌, ◌+◌, ◌-◌, ◌*◌, ◌++◌, length, replicate, arith}
use Rattle.std.proofs.lemmas.Grind.{common_steps}
use Rattle.tx_ring.proofs.Pieces.{grown}
use Rattle.tx_ring.proofs.slots.write_zeros.Goals as goal

pub returns-clause-kept : goal.returns-clause-kept
returns-clause-kept c =
    let new : c.resize.new.self.items ≡ c.args.bytes.now.items
    ++ replicate ((c.args.at + 1) * c.args.shape.now.frame_size - length c.args.bytes.now.items) 0 =
    grind (arith, common_steps, c.in-Ok.ensures.items) in
    (grown (c.args.at + 1) c.requires.kept (omega arith) (omega arith) c.resize.ensures.capacity new).0

pub returns-clause-same : goal.returns-clause-same
returns-clause-same c =
    let new : c.resize.new.self.items ≡ c.args.bytes.now.items
    ++ replicate ((c.args.at + 1) * c.args.shape.now.frame_size - length c.args.bytes.now.items) 0 =
    grind (arith, common_steps, c.in-Ok.ensures.items) in
    (grown (c.args.at + 1) c.requires.kept (omega arith) (omega arith) c.resize.ensures.capacity new).1
