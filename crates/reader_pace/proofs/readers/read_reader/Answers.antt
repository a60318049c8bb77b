use Rattle.std.proofs.Common.{ap, sym, ◌∙◌, arith}
use Rattle.std.proofs.lemmas.Result.{err_from_is_err_and}
use Rattle.setup_text.proofs.Texts.{when_large, when_small}
use Rattle.reader_pace.specs.Readers.{at_end, completed, reader_of}
use Rattle.reader_pace.specs.ReaderWords.{says_slots}
use Rattle.reader_pace.proofs.Accepted.{reader_accepted}
use Rattle.reader_pace.proofs.SaidSlots.{reader_says}
use Rattle.reader_pace.proofs.readers.read_reader.Goals as goal

pub returns-then-text-gt-LARGEST_TEXT-clause-right : goal.returns-then-text-gt-LARGEST_TEXT-clause-right
unfolding reader_of
returns-then-text-gt-LARGEST_TEXT-clause-right c = λ h. when_large c.args.text.now _ _ (omega arith)

pub returns-in-Ok-clause-right : goal.returns-in-Ok-clause-right
unfolding reader_of
returns-in-Ok-clause-right c =
    when_small c.args.text.now _ _ (omega arith)
    ∙ ap completed c.in_ok-draft.ensures.right
    ∙ ap at_end (sym c.in-Ok.ensures)

pub returns-in-Err-clause-right : goal.returns-in-Err-clause-right
unfolding reader_of
returns-in-Err-clause-right c = λ h.
    when_small c.args.text.now _ _ (omega arith)
    ∙ ap completed c.in_ok-draft.ensures.right
    ∙ ap at_end (sym c.in-Err.ensures)

pub returns-in_err-draft-clause-right : goal.returns-in_err-draft-clause-right
unfolding reader_of
returns-in_err-draft-clause-right c =
    let p = err_from_is_err_and c.from_residual.result c.from_residual.ensures.1 in
    rw (p.1, p.2) (λ h. when_small c.args.text.now _ _ (omega arith)
    ∙ ap completed (c.in_err-draft.ensures.right h))

pub returns-in-Ok-clause-sound : goal.returns-in-Ok-clause-sound
returns-in-Ok-clause-sound c =
    reader_accepted (record { cpus = c.args.cpus; tov = c.args.tov }) c.args.text.now c.in_ok-draft.draft c.in-Ok.reader
    c.in_ok-draft.ensures.right (sym c.in-Ok.ensures)

pub returns-in-Ok-clause-slots : goal.returns-in-Ok-clause-slots
unfolding says_slots
returns-in-Ok-clause-slots c =
    reader_says (record { cpus = c.args.cpus; tov = c.args.tov }) c.args.text.now c.in_ok-draft.draft c.in-Ok.reader
    c.in_ok-draft.ensures.right (sym c.in-Ok.ensures)
    ∙ sym (when_small c.args.text.now _ _ (omega arith))
