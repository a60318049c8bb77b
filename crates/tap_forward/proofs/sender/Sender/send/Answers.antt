use Rattle.std.proofs.Common.{refl}
use Rattle.tap_forward.proofs.Sends.{broken_going, broken_sends, none_bad_at, sends}
use Rattle.tap_forward.proofs.sender.Sender.send.Goals as goal

pub unreachable-requires : goal.unreachable-requires
unreachable-requires c =
    none_bad_at c.args.self.now.ring c.in-Err-BadSlot.field-0 c.in-Err-BadSlot.field-0-0 c.requires c.in-Err-BadSlot.field-0-is
    c.in-Err-BadSlot.ensures.answer

pub returns-in-Ok-clause-given : goal.returns-in-Ok-clause-given
returns-in-Ok-clause-given c = λ given was.
    sends c.args.self.now _ given c.requires c.in-Ok.ensures.ring c.in-Ok.ensures.packets refl was

pub returns-in-Err-Memory-clause-going : goal.returns-in-Err-Memory-clause-going
returns-in-Err-Memory-clause-going c =
    let broken = rw c.in-Err-Memory.field-0-is at c.in-Err-Memory.ensures.memory in
    broken_going broken.0 c.args.self.now.ring c.send.new.self c.args.self.now.sent c.send.new.out c.requires broken.1

pub returns-in-Err-Memory-clause-given : goal.returns-in-Err-Memory-clause-given
returns-in-Err-Memory-clause-given c = λ given was.
    let broken = rw c.in-Err-Memory.field-0-is at c.in-Err-Memory.ensures.memory in
    broken_sends broken.0 c.args.self.now _ given broken.1 refl was
