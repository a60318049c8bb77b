use Rattle.std.proofs.Common.{◌≡◌, ap, sym, ◌∙◌, arith, length, Err}
use Rattle.setup_text.specs.Filters.{filter_after, filter_fault, filter_of, told}
use Rattle.setup_text.specs.Answers.{is_text_want}
use Rattle.setup_text.proofs.MemoryErrors.{filter_want}
use Rattle.setup_text.proofs.FilterLines.{refused_place, refused_program, refused_text}
use Rattle.setup_text.proofs.ListingFaults.{instructions_of-few}
use Rattle.setup_text.proofs.filters.read_filter.Goals as goal

pub fault-requires : goal.fault-requires
fault-requires c =
    record { few = omega arith; place = omega (arith, refused_place c.in-Err.error c.args.text.now c.in-Err.ensures) }

pub returns-in-Err-clause-right : goal.returns-in-Err-clause-right
unfolding filter_of
returns-in-Err-clause-right c = λ want.
    ap filter_after (refused_text c.in-Err.error _ 0 c.in-Err.ensures (rw c.fault.ensures at want))
    ∙ ap Err (sym c.fault.ensures)

pub overflow_cast-instructions : goal.overflow_cast-instructions
overflow_cast-instructions c =
    omega (arith, instructions_of-few c.args.text.now c.in-Ok.code.items c.in-Ok.ensures, c.len-instructions.ensures)

pub fault-requires-in-Err-check : goal.fault-requires-in-Err-check
fault-requires-in-Err-check c =
    let few = instructions_of-few c.args.text.now c.in-Ok.code.items c.in-Ok.ensures in
    record {
      few = omega (arith, few, c.len-instructions.ensures);
      place = omega (arith, few, refused_program c.in-Err-check.error c.in-Ok.code.items c.in-Err-check.ensures);
    }

pub returns-in-Ok-check-clause-right : goal.returns-in-Ok-check-clause-right
unfolding filter_of
returns-in-Ok-check-clause-right c = ap filter_after c.in-Ok.ensures ∙ ap (told _) c.in-Ok-check.ensures

pub returns-in-Err-check-clause-right : goal.returns-in-Err-check-clause-right
unfolding filter_of
returns-in-Err-check-clause-right c = λ want.
    let count : c.len-instructions.result ≡ length c.in-Ok.code.items = omega (arith, c.len-instructions.ensures) in
    ap filter_after c.in-Ok.ensures
    ∙ ap (told (length c.in-Ok.code.items))
    (refused_text c.in-Err-check.error _ c.len-instructions.result c.in-Err-check.ensures
    (rw c.fault-in-Err-check.ensures at want))
    ∙ ap (λ n. Err (filter_fault n c.in-Err-check.error)) (sym count) ∙ ap Err (sym c.fault-in-Err-check.ensures)

pub returns-in-Err-clause-memory : goal.returns-in-Err-clause-memory
returns-in-Err-clause-memory c = λ h.
    c.fault.ensures ∙ filter_want 0 c.in-Err.error (ap is_text_want (sym c.fault.ensures) ∙ h)

pub returns-in-Err-check-clause-memory : goal.returns-in-Err-check-clause-memory
returns-in-Err-check-clause-memory c = λ h.
    c.fault-in-Err-check.ensures
    ∙ filter_want c.len-instructions.result c.in-Err-check.error (ap is_text_want (sym c.fault-in-Err-check.ensures) ∙ h)
