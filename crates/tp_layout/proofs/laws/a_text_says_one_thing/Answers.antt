use Rattle.tp_layout.proofs.FilledBlocks.{one_text}
use Rattle.tp_layout.proofs.laws.a_text_says_one_thing.Goals as goal

pub returns : goal.returns
returns c = one_text
