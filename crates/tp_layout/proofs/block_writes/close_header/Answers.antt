use Rattle.std.proofs.Common.{◌∙◌, ap}
use Rattle.tp_layout.proofs.Opens.{closes}
use Rattle.tp_layout.proofs.block_writes.close_header.Goals as goal

pub returns-clause-text : goal.returns-clause-text
returns-clause-text c number packets is_open numbered some e retired =
    rw c.put_closing.ensures.written (closes c.args.shape.now number c.args.closing.now packets c.args.block.now.bytes
    (c.put_closing.ensures.size ∙ ap (λ shape. shape.block_size) c.requires.shape) is_open numbered some e retired)
