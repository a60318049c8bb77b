use Rattle.text_lines.proofs.Digits.{ReadsDigits}
use Rattle.text_lines.proofs.numbers.number.Given as goal

abbrev pub invariant-loop-byte : goal.invariant-loop-byte
invariant-loop-byte l = ReadsDigits l.word l.byte-index l.value
