use Rattle.std.proofs.Common.{ℕ, ◌∙◌, ap, sym, length, drop, Option}
use Rattle.std.specs.Int.{w16}
use Rattle.flow_hash.specs.Toeplitz.{hash_of}
use Rattle.flow_hash.specs.FlowHash.{port_bytes}
use Rattle.flow_hash.proofs.BothWays.{hash_of_sides}
use Rattle.flow_hash.proofs.flows.hash_ports.Goals as goal

pub returns-in-Some : goal.returns-in-Some
returns-in-Some c =
    hash_of_sides c.args.key.now c.args.at w16 c.in-Some.sport c.in-Some.dport 2 c.args.first c.in_order-low.result _ _ _ _
    c.in_order-low.ensures c.to_be_bytes.ensures c.to_be_bytes-in-Some.ensures (ap length c.to_be_bytes.ensures)
    c.hash_from.ensures c.hash_from-in-Some.ensures
    ∙ ap (λ (ports : Option (ℕ × ℕ)). hash_of (drop c.args.at c.args.key.now) (port_bytes c.args.first ports))
    (sym c.in-Some.is)
