use Rattle.std.proofs.Common.{sym, ◌∙◌, arith}
use Rattle.setup_text.proofs.Texts.{when_large, when_small}
use Rattle.reader_pace.specs.ReaderWords.{says_slots}
use Rattle.reader_pace.proofs.readers.says_slots.Goals as goal

pub returns-then-text-gt-LARGEST_TEXT : goal.returns-then-text-gt-LARGEST_TEXT
unfolding says_slots
returns-then-text-gt-LARGEST_TEXT c = sym (when_large c.args.text.now _ _ (omega arith))

pub returns : goal.returns
unfolding says_slots
returns c = c.some_begin_with_slots.ensures ∙ sym (when_small c.args.text.now _ _ (omega arith))
