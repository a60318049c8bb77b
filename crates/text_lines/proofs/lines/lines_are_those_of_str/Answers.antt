use Rattle.text_lines.proofs.LinesOfStr.{lines_of-lines}
use Rattle.text_lines.proofs.lines.lines_are_those_of_str.Goals as goal

pub returns : goal.returns
returns c = lines_of-lines
