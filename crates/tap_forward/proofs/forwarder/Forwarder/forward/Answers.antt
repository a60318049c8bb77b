use Rattle.std.proofs.Common.{length, ap, arith}
use Rattle.tap_forward.proofs.Forwards.{gave, may_give, read_on}
use Rattle.tap_forward.proofs.forwarder.Forwarder.forward.Goals as goal

pub give_all-requires : goal.give_all-requires
give_all-requires c =
    let sound = read_on c.self.inside c.args.self.now c.walk_block.new.self c.args.block.now c.self.invariant c.self.view_is
    c.in_ok-walk_block.ensures.read c.a_block_has_few_packets.ensures c.requires.readable c.requires.few in
    let few = may_give _ sound in
    let size = ap length c.walked.ensures in
    let within = sound.within in
    record {
      going = sound.going;
      within = omega (arith, size, within);
      few = omega (arith, few.0, size);
      counted = omega (arith, few.1, size);
    }

pub invariant_of-self-2 : goal.invariant_of-self-2
invariant_of-self-2 c =
    let sound = read_on c.self.inside c.args.self.now c.walk_block.new.self c.args.block.now c.self.invariant c.self.view_is
    c.in_ok-walk_block.ensures.read c.a_block_has_few_packets.ensures c.requires.readable c.requires.few in
    gave _ c.give_all.new.self c.give_all.new.given c.walked.result.now sound c.walked.ensures c.give_all.ensures.going
    c.give_all.ensures.within c.give_all.ensures.given
