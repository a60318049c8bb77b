use Rattle.std.proofs.Common.{ap, arith}
use Rattle.tp_layout.specs.Requests.{first_of}
use Rattle.block_ring.proofs.Packets.{last_place_within}
use Rattle.tp_layout.specs.declared.block_writes.Closing.{Closing}
use Rattle.block_ring.proofs.open_block.OpenBlock.close.Goals as goal

pub close-requires-clause-behind : goal.close-requires-clause-behind
close-requires-clause-behind g c =
    let holds = c.requires.0 in
    let place = ap (λ (w : Closing). w.last_at) holds.closing_is in
    let within = last_place_within c.args.shape.now (first_of c.args.shape.now) g.text.offers holds.writable c.requires.1.1.0 in
    omega arith

pub close-requires-clause-fits : goal.close-requires-clause-fits
close-requires-clause-fits g c =
    let holds = c.requires.0 in
    let place = ap (λ (w : Closing). w.last_at) holds.closing_is in
    let within = last_place_within c.args.shape.now (first_of c.args.shape.now) g.text.offers holds.writable c.requires.1.1.0 in
    omega arith
