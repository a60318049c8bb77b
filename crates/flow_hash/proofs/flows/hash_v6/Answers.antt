use Rattle.std.proofs.Common.{ap, length}
use Rattle.std.specs.Int.{w128}
use Rattle.flow_hash.proofs.BothWays.{hash_of_ends}
use Rattle.flow_hash.proofs.flows.hash_v6.Goals as goal

pub returns : goal.returns
returns c =
    hash_of_ends c.args.key.now w128 c.args.from c.args.to 16 c.args.ports _ c.in_order-low.result _ _ _ _ _
    c.source_first-first.ensures c.in_order-low.ensures c.to_be_bytes.ensures c.to_be_bytes-2.ensures
    (ap length c.to_be_bytes.ensures) (ap length c.to_be_bytes-2.ensures)
    c.hash_from.ensures c.hash_from-2.ensures c.hash_ports-of_ports.ensures
