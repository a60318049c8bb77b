use Rattle.tap_running.proofs.Buffers.{empty_text}
use Rattle.tap_running.proofs.arguments.word_of.Goals as goal

pub returns-in-Err-clause-utf8 : goal.returns-in-Err-clause-utf8
returns-in-Err-clause-utf8 c = empty_text _ c.from_bytes.ensures
