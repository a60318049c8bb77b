use Rattle.std.proofs.Common.{ap, sym, ◌∙◌, Err}
use Rattle.reader_pace.specs.Answers.{is_want}
use Rattle.text_lines.proofs.Readings.{reads_all, reads_fault, reads_more, reads_over}
use Rattle.reader_pace.specs.Drafts.{line_after, nothing_said}
use Rattle.reader_pace.specs.Readers.{at_line, draft_of}
use Rattle.reader_pace.proofs.readers.draft_of.Goals as goal
use Rattle.reader_pace.proofs.readers.draft_of.Goals.{then-not-is_passed_over+in_default-read, else-not-is_passed_over}

pub returns-clause-right : goal.returns-clause-right
unfolding draft_of
returns-clause-right c =
    ap at_line (reads_all (line_after c.args.bounds) nothing_said c.args.text.now c.loop-line.draft c.loop-line.number
    c.loop-line.rest.now
    c.loop-line.invariant c.in_default.ensures.line)

pub returns-in-Err-clause-right : goal.returns-in-Err-clause-right
unfolding draft_of
returns-in-Err-clause-right c = λ h.
    let none = ap is_want (sym c.at_line.ensures.kind) ∙ h in
    ap at_line (reads_fault (line_after c.args.bounds) nothing_said c.args.text.now c.loop-line.draft c.in-Err.kind
    c.loop-line.number
    c.loop-line.rest.now
    c.in-Some.behind.now c.in-Some.line.now c.loop-line.invariant c.in-Some.ensures.line
    (sym c.is_passed_over.ensures ∙ c.if-not-is_passed_over.true)
    (c.in-Err.ensures none))
    ∙ ap Err (sym (c.at_line.ensures.fault none))

pub returns-in-Err-clause-memory : goal.returns-in-Err-clause-memory
returns-in-Err-clause-memory c = λ h. c.at_line.ensures.memory (ap is_want (sym c.at_line.ensures.kind) ∙ h)

pub loop-line-preserved : goal.loop-line-preserved
loop-line-preserved c =
    elim c.if-not-is_passed_over.branch [
      | then-not-is_passed_over+in_default-read w ↦
          rw w.draft-is
          (reads_more (line_after c.args.bounds) nothing_said c.args.text.now c.loop-line.draft _
          c.loop-line.number
          c.loop-line.rest.now
          c.in-Some.behind.now c.in-Some.line.now c.loop-line.invariant c.in-Some.ensures.line c.in-Some.ensures.shorter
          (sym c.is_passed_over.ensures ∙ w.if-not-is_passed_over.true) w.in_default-read.ensures)
      | else-not-is_passed_over w ↦ rw w.draft-is
          (reads_over (line_after c.args.bounds) nothing_said c.args.text.now c.loop-line.draft
          c.loop-line.number
          c.loop-line.rest.now
          c.in-Some.behind.now c.in-Some.line.now c.loop-line.invariant c.in-Some.ensures.line c.in-Some.ensures.shorter
          (sym c.is_passed_over.ensures ∙ w.if-not-is_passed_over.false))
    ]
