use Rattle.std.proofs.Common.{ap, sym, ◌∙◌, arith, [], Err, refl}
use Rattle.setup_text.specs.Answers.{is_kind_want}
use Rattle.std.specs.Prelude.{ℕ, List, Result}
use Rattle.text_lines.proofs.Readings.{reads_all, reads_fault, reads_more, reads_over}
use Rattle.setup_text.specs.declared.lines.Line.{Line}
use Rattle.setup_text.specs.Moments.{added}
use Rattle.setup_text.specs.Schedules.{clock_of, line_in, schedule_of}
use Rattle.setup_text.specs.declared.text_error.TextKind.{TextKind}
use Rattle.setup_text.specs.declared.text_error.Which.TheVariants.{Schedule}
use Rattle.setup_text.proofs.Clocks.{schedule_sound}
use Rattle.setup_text.proofs.Texts.{items_of-large, items_of-read}
use Rattle.setup_text.proofs.schedules.read_schedule.Goals as goal
use Rattle.setup_text.proofs.schedules.read_schedule.Goals.{then-not-is_passed_over+in-Ok, else-not-is_passed_over}

abbrev item_in : ℕ → ℕ → List Line → List ℕ → Result Line TextKind
item_in cpus members lines line = line_in cpus members (clock_of lines) line

pub returns-then-text-gt-LARGEST_TEXT-clause-right : goal.returns-then-text-gt-LARGEST_TEXT-clause-right
unfolding schedule_of
returns-then-text-gt-LARGEST_TEXT-clause-right c = λ h.
    items_of-large Schedule (item_in c.args.cpus c.args.members) c.args.text.now (omega arith)
    ∙ ap Err (sym (c.fault.ensures.fault refl))

pub returns-clause-right : goal.returns-clause-right
unfolding schedule_of
returns-clause-right c =
    items_of-read Schedule (item_in c.args.cpus c.args.members) c.args.text.now _ (omega arith)
    (reads_all (added (item_in c.args.cpus c.args.members)) [] c.args.text.now c.loop-line.lines c.loop-line.number
    c.loop-line.rest.now c.loop-line.invariant.reads c.in_default.ensures.line)

pub returns-in-Err-clause-right : goal.returns-in-Err-clause-right
unfolding schedule_of
returns-in-Err-clause-right c = λ h.
    items_of-read Schedule (item_in c.args.cpus c.args.members) c.args.text.now _ (omega arith)
    (reads_fault (added (item_in c.args.cpus c.args.members)) [] c.args.text.now c.loop-line.lines c.in-Err.kind
    c.loop-line.number c.loop-line.rest.now
    c.in-Some.behind.now c.in-Some.line.now c.loop-line.invariant.reads c.in-Some.ensures.line
    (sym c.is_passed_over.ensures ∙ c.if-not-is_passed_over.true)
    (c.in-Err.ensures.line (ap is_kind_want (sym c.fault-in-Err.ensures.kind) ∙ h)))
    ∙ ap Err (sym (c.fault-in-Err.ensures.fault (ap is_kind_want (sym c.fault-in-Err.ensures.kind) ∙ h)))

pub loop-line-preserved : goal.loop-line-preserved
loop-line-preserved c =
    elim c.if-not-is_passed_over.branch [
      | then-not-is_passed_over+in-Ok w ↦ rw (w.lines-is, w.clock-is) (record {
        reads = reads_more (added (item_in c.args.cpus c.args.members)) [] c.args.text.now c.loop-line.lines _
            c.loop-line.number c.loop-line.rest.now
            c.in-Some.behind.now c.in-Some.line.now c.loop-line.invariant.reads c.in-Some.ensures.line c.in-Some.ensures.shorter
            (sym c.is_passed_over.ensures ∙ w.if-not-is_passed_over.true) w.in-Ok.ensures.line;
        clock = w.in-Ok.ensures.clock;
      })
      | else-not-is_passed_over w ↦ rw (w.lines-is, w.clock-is) (record {
        reads = reads_over (added (item_in c.args.cpus c.args.members)) [] c.args.text.now c.loop-line.lines c.loop-line.number
            c.loop-line.rest.now
            c.in-Some.behind.now c.in-Some.line.now c.loop-line.invariant.reads c.in-Some.ensures.line c.in-Some.ensures.shorter
            (sym c.is_passed_over.ensures ∙ w.if-not-is_passed_over.false);
        clock = c.loop-line.invariant.clock;
      })
    ]

pub returns-clause-sound : goal.returns-clause-sound
unfolding schedule_of
returns-clause-sound c =
    schedule_sound c.args.cpus c.args.members c.args.text.now c.loop-line.lines
    (items_of-read Schedule (item_in c.args.cpus c.args.members) c.args.text.now _ (omega arith)
    (reads_all (added (item_in c.args.cpus c.args.members)) [] c.args.text.now c.loop-line.lines c.loop-line.number
    c.loop-line.rest.now
    c.loop-line.invariant.reads c.in_default.ensures.line))

pub returns-in-Err-clause-memory : goal.returns-in-Err-clause-memory
returns-in-Err-clause-memory c = λ h.
    c.fault-in-Err.ensures.memory (c.in-Err.ensures.memory (ap is_kind_want (sym c.fault-in-Err.ensures.kind) ∙ h))

pub returns-then-text-gt-LARGEST_TEXT-clause-memory : goal.returns-then-text-gt-LARGEST_TEXT-clause-memory
returns-then-text-gt-LARGEST_TEXT-clause-memory c = λ h. cc (h, ap is_kind_want c.fault.ensures.kind)
