-- The words so far are summed, and each of them is below 2 ^ 16.
use Rattle.std.proofs.Common.{◌≡◌, ◌+◌, ◌*◌, ◌≤◌, drop}
use Rattle.frame_view.proofs.Words.{sum_of_words}
use Rattle.frame_view.proofs.checksums.checksum.Given as goal

abbrev pub invariant-loop-word : goal.invariant-loop-word
invariant-loop-word l = record {
  so_far : l.sum + sum_of_words (drop (2 * l.word) l.header) ≡ sum_of_words l.header;
  small : l.sum ≤ 65535 * l.word;
}
