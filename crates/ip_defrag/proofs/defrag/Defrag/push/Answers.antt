-- A frame that doesn't take part comes out as it is.
use Rattle.std.proofs.Common.{◌∙◌, ap, sym, Some}
use Rattle.frame_view.specs.declared.frames.Frame.{Frame}
use Rattle.ip_defrag.specs.Fold.{Passed}
use Rattle.ip_defrag.proofs.Passed.{pass_other}
use Rattle.ip_defrag.proofs.defrag.Defrag.push.Goals as goal

pub returns-in-Err-clause-held : goal.returns-in-Err-clause-held
returns-in-Err-clause-held c =
    sym (ap (λ (p : Passed). p.held) (pass_other c.args.self.now c.args.frame (sym c.in-Err.ensures.taken)))

pub returns-in-Err-clause-whole : goal.returns-in-Err-clause-whole
returns-in-Err-clause-whole c = ap (λ (f : Frame). Some f) c.in-Err.ensures.handed_back
    ∙ sym (ap (λ (p : Passed). p.whole) (pass_other c.args.self.now c.args.frame (sym c.in-Err.ensures.taken)))

pub returns-in-Err-clause-discarded : goal.returns-in-Err-clause-discarded
returns-in-Err-clause-discarded c =
    sym (ap (λ (p : Passed). p.discarded) (pass_other c.args.self.now c.args.frame (sym c.in-Err.ensures.taken)))
