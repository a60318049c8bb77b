use Rattle.std.proofs.Common.{sym, ap, ◌∙◌, arith}
use Rattle.bpf_filter.specs.Programs.{first_fault, ends_with_return}
use Rattle.bpf_filter.proofs.Checks.{program_of-large, program_of-no_return, program_of-good, refuses_fault}
use Rattle.bpf_filter.proofs.program.Program.check.Goals as goal

pub returns-then-len-gt-LARGEST_PROGRAM : goal.returns-then-len-gt-LARGEST_PROGRAM
returns-then-len-gt-LARGEST_PROGRAM c = program_of-large _ (omega arith)

pub returns-in-Some : goal.returns-in-Some
returns-in-Some c =
    refuses_fault c.in-Some.fault c.args.code.items (omega arith)
    (ap (first_fault 0) (sym c.as_slice.ensures.value) ∙ sym c.first_fault.ensures ∙ c.in-Some.is)

pub returns-then-not-ends_with_return : goal.returns-then-not-ends_with_return
returns-then-not-ends_with_return c =
    program_of-no_return c.args.code.items (omega arith)
    (ap (first_fault 0) (sym c.as_slice.ensures.value) ∙ sym c.first_fault.ensures ∙ c.in_default.is)
    (ap ends_with_return (sym c.as_slice-2.ensures.value) ∙ sym c.if-not-ends_with_return.ensures)

pub invariant_of-result : goal.invariant_of-result
invariant_of-result c =
    program_of-good c.args.code.items (omega arith)
    (ap (first_fault 0) (sym c.as_slice.ensures.value) ∙ sym c.first_fault.ensures ∙ c.in_default.is)
    (ap ends_with_return (sym c.as_slice-2.ensures.value) ∙ sym c.if-not-ends_with_return.ensures)

pub returns : goal.returns
returns c =
    program_of-good c.args.code.items (omega arith)
    (ap (first_fault 0) (sym c.as_slice.ensures.value) ∙ sym c.first_fault.ensures ∙ c.in_default.is)
    (ap ends_with_return (sym c.as_slice-2.ensures.value) ∙ sym c.if-not-ends_with_return.ensures)
