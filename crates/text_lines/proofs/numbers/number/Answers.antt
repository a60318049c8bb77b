use Rattle.std.proofs.Common.{arith, sym, ◌∙◌}
use Rattle.std.proofs.lemmas.Grind.{common_steps}
use Rattle.text_lines.specs.Numbers.{number_of}
use Rattle.text_lines.proofs.Digits.{number_of-not_digit, number_of-whole}
use Rattle.text_lines.proofs.numbers.number.Goals as goal

pub returns-then-is_empty : goal.returns-then-is_empty
unfolding number_of
returns-then-is_empty c = grind (arith, common_steps)

pub returns-then-not-is_ascii_digit : goal.returns-then-not-is_ascii_digit
returns-then-not-is_ascii_digit c =
    sym (number_of-not_digit c.args.word.now c.loop-byte.byte-index (omega arith) (grind (arith, common_steps)))

pub returns : goal.returns
returns c =
    c.ok.ensures.value
    ∙ sym (number_of-whole c.args.word.now c.loop-byte.byte-index c.loop-byte.value c.try_from.result
    (grind (arith, common_steps)) (omega arith)
    (omega arith) c.loop-byte.invariant c.try_from.ensures)
