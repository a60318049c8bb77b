use Rattle.std.proofs.Common.{drop, arith, sym, ap, ◌∙◌}
use Rattle.std.specs.Str.Lines.{strip_carriage_return}
use Rattle.std.proofs.lemmas.Grind.{common_steps}
use Rattle.text_lines.proofs.LineCuts.{lines_of-cut, lines_of-whole, lines_of-empty}
use Rattle.text_lines.proofs.lines.next_line.Goals as goal

pub returns-then-is_empty-clause-line : goal.returns-then-is_empty-clause-line
returns-then-is_empty-clause-line c = lines_of-empty _ (grind (arith, common_steps))

pub returns-in-None-clause-line : goal.returns-in-None-clause-line
returns-in-None-clause-line c = grind (arith, common_steps, lines_of-whole, lines_of-empty)

pub returns-in-Some-clause-line : goal.returns-in-Some-clause-line
returns-in-Some-clause-line c =
    lines_of-cut c.args.text.now _ _ c.in-Some.end (sym c.in-Some.ensures)
    (c.without_carriage_return.ensures ∙ ap strip_carriage_return c.split_at-in-Some.ensures.front)
    (c.split_at-in-Some-2.ensures.back ∙ ap (drop 1) c.split_at-in-Some.ensures.back)
