use Rattle.std.proofs.Common.{arith, get_or, rules}
use Rattle.flow_hash.proofs.Windows.{take_five, number_of_five}
use Rattle.flow_hash.proofs.key_table.window.Goals as goal

pub returns : goal.returns
returns c =
    let key = c.args.key.now in
    let value = number_of_five (get_or key 0 0) (get_or key 1 0) (get_or key 2 0) (get_or key 3 0) (get_or key 4 0)
    (search (rules, c.type_inv.key 0)) (search (rules, c.type_inv.key 1)) (search (rules, c.type_inv.key 2))
    (search (rules, c.type_inv.key 3)) (search (rules, c.type_inv.key 4)) in
    rw (take_five key c.requires) (omega (arith, value))
