use Rattle.std.proofs.Common.{◌≡◌, drop}
use Rattle.setup_text.specs.SetupWords.{word_named}
use Rattle.setup_text.proofs.Found.{found_in}
use Rattle.setup_text.proofs.setup_words.SetupWord.named.Given as goal

abbrev pub invariant-loop-word : goal.invariant-loop-word
invariant-loop-word l = found_in (drop l.word-index l.word-items) l.name ≡ word_named l.name
