use Rattle.tp_layout.proofs.LawfulReads.{tells}
use Rattle.reader_walk.proofs.laws.a_text_is_read_as_it_was_written.Goals as goal

pub returns : goal.returns
returns c = tells
