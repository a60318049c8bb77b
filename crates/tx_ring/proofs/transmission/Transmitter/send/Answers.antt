use Rattle.tx_ring.proofs.Runs.{sent_to_bad}
use Rattle.tx_ring.proofs.transmission.Transmitter.send.Goals as goal

pub returns-in-Err-BadSlot : goal.returns-in-Err-BadSlot
returns-in-Err-BadSlot c =
    let told = c.in-Err-BadSlot.ensures in
    sent_to_bad c.in-Err-BadSlot.field-0 c.in-Err-BadSlot.field-0-0 c.args.self.now c.send.new.self c.send.new.out
    c.in-Err-BadSlot.field-0-is told.answer told.ring told.packets
