use Rattle.std.proofs.Common.{sym, arith, ◌≤◌, length}
use Rattle.std.proofs.lemmas.Result.{err_from_is_err_and}
use Rattle.bpf_filter.proofs.Listed.{instructions_of-large, instructions_of-blank, instructions_of-empty}
use Rattle.bpf_filter.proofs.Listed.{instructions_of-no_count, instructions_of-counted, instructions_of-refused}
use Rattle.bpf_filter.proofs.listings.read_ddd.Goals as goal
use Rattle.bpf_filter.proofs.listings.read_ddd.Goals.{then-is_blank, else-is_blank}

pub returns-then-text-gt-LARGEST_TEXT : goal.returns-then-text-gt-LARGEST_TEXT
returns-then-text-gt-LARGEST_TEXT c = instructions_of-large _ (omega arith)

pub returns-in_default : goal.returns-in_default
returns-in_default c = instructions_of-empty c.args.text.now (omega arith) c.in_default.ensures.line

pub returns-in_default-count : goal.returns-in_default-count
returns-in_default-count c =
    elim c.if-is_blank.branch [
      | then-is_blank w ↦ rw w.result-is (instructions_of-blank c.args.text.now (omega arith) (sym w.if-is_blank.ensures))
      | else-is_blank w ↦ rw w.result-is
          (instructions_of-no_count c.args.text.now c.in-Some.rest.now c.in-Some.first.now (omega arith) c.in-Some.ensures.line
          c.in_default-count.ensures (sym w.if-is_blank.ensures))
    ]

pub returns-in_err-code : goal.returns-in_err-code
returns-in_err-code c =
    let p = err_from_is_err_and c.from_residual.result c.from_residual.ensures.1 in
    let small : length c.args.text.now ≤ 1048576 = omega arith in
    rw (p.1, p.2)
    (instructions_of-refused c.args.text.now c.in-Some.rest.now c.in-Some.first.now c.in-Some-count.count
    c.in_err-code.field-0.0
    small c.in-Some.ensures.line c.in-Some-count.ensures c.in_err-code.ensures)

pub returns-then-not-is_count : goal.returns-then-not-is_count
returns-then-not-is_count c =
    instructions_of-counted c.args.text.now c.in-Some.rest.now c.in-Some.first.now c.in-Some-count.count c.in_ok-code.code.items
    c.len.result _ (omega arith) c.in-Some.ensures.line c.in-Some-count.ensures c.in_ok-code.ensures (omega arith)
    c.if-not-is_count.ensures

pub returns : goal.returns
returns c =
    instructions_of-counted c.args.text.now c.in-Some.rest.now c.in-Some.first.now c.in-Some-count.count c.in_ok-code.code.items
    c.len.result _ (omega arith) c.in-Some.ensures.line c.in-Some-count.ensures c.in_ok-code.ensures (omega arith)
    c.if-not-is_count.ensures
