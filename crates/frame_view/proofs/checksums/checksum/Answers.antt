-- The sum of all words, folded twice, is their ones' complement sum.
use Rattle.std.proofs.Common.{◌≡◌, ◌*◌, ◌≤◌, length, drop, arith, ap, ◌∙◌, sym, ◌-◌, ℕ}
use Rattle.std.proofs.lemmas.List.{drop_all}
use Rattle.frame_view.proofs.Words.{bytes_of_each, checksum_of-words, folded, sum_of_words}
use Rattle.frame_view.proofs.checksums.checksum.Goals as goal

pub returns : goal.returns
returns c =
    let summed = checksum_of-words c.args.header.now (bytes_of_each c.args.header.now (λ k. omega (arith, c.type_inv.header k)))
    c.requires.short in
    let end : length c.args.header.now ≤ 2 * c.loop-word.word = omega arith in
    let none : sum_of_words (drop (2 * c.loop-word.word) c.args.header.now) ≡ 0 =
    ap sum_of_words (drop_all (2 * c.loop-word.word) c.args.header.now end) in
    let all : c.loop-word.sum ≡ sum_of_words c.args.header.now = omega (arith, none) in
    ap (λ (n : ℕ). 0xffff - n) (c.fold-2.ensures ∙ ap folded (c.fold.ensures ∙ ap folded all)) ∙ sym summed
