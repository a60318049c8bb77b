use Rattle.std.proofs.Common.{ap, sym, ◌∙◌, arith, [], Err, refl}
use Rattle.setup_text.specs.Answers.{is_kind_want}
use Rattle.std.specs.Prelude.{ℕ, List, Result}
use Rattle.text_lines.proofs.Readings.{reads_all, reads_fault, reads_more, reads_over}
use Rattle.setup_text.specs.Moments.{added, latest, moment_in, moments_of}
use Rattle.setup_text.specs.declared.text_error.TextKind.{TextKind}
use Rattle.setup_text.specs.declared.text_error.Which.TheVariants.{Ticks}
use Rattle.setup_text.proofs.SoundMoments.{moments_sound}
use Rattle.setup_text.proofs.Texts.{items_of-large, items_of-read}
use Rattle.setup_text.proofs.moments.read_ticks.Goals as goal
use Rattle.setup_text.proofs.moments.read_ticks.Goals.{then-not-is_passed_over+in_default-add_moment, else-not-is_passed_over}

abbrev item_in : List ℕ → List ℕ → Result ℕ TextKind
item_in moments line = moment_in (latest moments) line

pub returns-then-text-gt-LARGEST_TEXT-clause-right : goal.returns-then-text-gt-LARGEST_TEXT-clause-right
unfolding moments_of
returns-then-text-gt-LARGEST_TEXT-clause-right c = λ h.
    items_of-large Ticks item_in c.args.text.now (omega arith) ∙ ap Err (sym (c.fault.ensures.fault refl))

pub returns-clause-right : goal.returns-clause-right
unfolding moments_of
returns-clause-right c =
    items_of-read Ticks item_in c.args.text.now _ (omega arith)
    (reads_all (added item_in) [] c.args.text.now c.loop-line.moments c.loop-line.number c.loop-line.rest.now
    c.loop-line.invariant c.in_default.ensures.line)

pub returns-in-Err-clause-right : goal.returns-in-Err-clause-right
unfolding moments_of
returns-in-Err-clause-right c = λ h.
    items_of-read Ticks item_in c.args.text.now _ (omega arith)
    (reads_fault (added item_in) [] c.args.text.now c.loop-line.moments c.in-Err.kind c.loop-line.number c.loop-line.rest.now
    c.in-Some.behind.now c.in-Some.line.now c.loop-line.invariant c.in-Some.ensures.line
    (sym c.is_passed_over.ensures ∙ c.if-not-is_passed_over.true)
    (c.in-Err.ensures.moment (ap is_kind_want (sym c.fault-in-Err.ensures.kind) ∙ h)))
    ∙ ap Err (sym (c.fault-in-Err.ensures.fault (ap is_kind_want (sym c.fault-in-Err.ensures.kind) ∙ h)))

pub loop-line-preserved : goal.loop-line-preserved
loop-line-preserved c =
    elim c.if-not-is_passed_over.branch [
      | then-not-is_passed_over+in_default-add_moment w ↦ rw w.moments-is
          (reads_more (added item_in) [] c.args.text.now c.loop-line.moments _ c.loop-line.number c.loop-line.rest.now
          c.in-Some.behind.now c.in-Some.line.now c.loop-line.invariant c.in-Some.ensures.line c.in-Some.ensures.shorter
          (sym c.is_passed_over.ensures ∙ w.if-not-is_passed_over.true) w.in_default-add_moment.ensures.moment)
      | else-not-is_passed_over w ↦ rw w.moments-is
          (reads_over (added item_in) [] c.args.text.now c.loop-line.moments c.loop-line.number c.loop-line.rest.now
          c.in-Some.behind.now c.in-Some.line.now c.loop-line.invariant c.in-Some.ensures.line c.in-Some.ensures.shorter
          (sym c.is_passed_over.ensures ∙ w.if-not-is_passed_over.false))
    ]

pub returns-clause-sound : goal.returns-clause-sound
unfolding moments_of
returns-clause-sound c =
    moments_sound c.args.text.now c.loop-line.moments
    (items_of-read Ticks item_in c.args.text.now _ (omega arith)
    (reads_all (added item_in) [] c.args.text.now c.loop-line.moments c.loop-line.number c.loop-line.rest.now
    c.loop-line.invariant c.in_default.ensures.line))

pub returns-in-Err-clause-memory : goal.returns-in-Err-clause-memory
returns-in-Err-clause-memory c = λ h.
    c.fault-in-Err.ensures.memory (c.in-Err.ensures.memory (ap is_kind_want (sym c.fault-in-Err.ensures.kind) ∙ h))

pub returns-then-text-gt-LARGEST_TEXT-clause-memory : goal.returns-then-text-gt-LARGEST_TEXT-clause-memory
returns-then-text-gt-LARGEST_TEXT-clause-memory c = λ h. cc (h, ap is_kind_want c.fault.ensures.kind)
