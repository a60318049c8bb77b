use Rattle.std.proofs.Common.{◌∙◌, refl}
use Rattle.tap_forward.proofs.Givings.{queues}
use Rattle.tap_forward.proofs.Places.{free_ok, placed}
use Rattle.tap_forward.proofs.sender.Sender.queue_free.Goals as goal

pub returns-clause-given : goal.returns-clause-given
returns-clause-given c = λ given packet frame was.
    let ring = c.args.self.now.ring in
    let bytes = c.args.frame.now in
    queues c.args.self.now _ given packet bytes frame
    (c.queue.ensures.placed ∙ placed ring bytes tt
    (free_ok ring bytes c.requires.going.going c.requires.fits c.requires.free c.requires.going.some))
    refl refl c.requires.whole c.requires.fits was
