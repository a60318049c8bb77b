use Rattle.tp_layout.proofs.FilledBlocks.{fills_whole}
use Rattle.tp_layout.proofs.laws.a_closed_block_begins_with_its_text.Goals as goal

pub returns : goal.returns
returns c = fills_whole
