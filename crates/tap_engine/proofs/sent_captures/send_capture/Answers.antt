use Rattle.std.proofs.Common.{List, sym, subst}
use Rattle.std.specs.Prelude.{All}
use Rattle.capture_file.specs.Laws.{IsCaptured}
use Rattle.frame_view.specs.declared.frames.Frame.{Frame}
use Rattle.tx_ring.specs.declared.transmission.Transmitted.{Transmitted}
use Rattle.tap_engine.proofs.Sent.{IsShort, sent_short}
use Rattle.tap_engine.proofs.sent_captures.send_capture.Goals as goal

pub returns-clause-short : goal.returns-clause-short
returns-clause-short g c =
    let read = c.in_ok-frames.ensures.read in
    subst (λ (told : Transmitted). All IsShort told.packets) (sym c.in_ok-sent.ensures)
    (sent_short _ c.args.setup.now.skip_bad c.in_ok-frames.field-0.frames
    (subst (λ (frames : List Frame). All IsCaptured frames) (sym read.frames)
    (c.frames_are_captured.ensures 0 read.bytes)))
