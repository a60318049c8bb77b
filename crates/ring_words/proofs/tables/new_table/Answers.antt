use Rattle.std.proofs.Common.{◌≡◌, ℕ, ◌<◌, ◌∙◌, ap, length, replicate, arith}
use Rattle.ring_words.proofs.EndMoves.{opened}
use Rattle.ring_words.proofs.Openings.{first_kind}
use Rattle.ring_words.proofs.tables.new_table.Goals as goal

pub new-requires : goal.new-requires
new-requires g c =
    let common = c.requires.kind.0 in
    let some : 0 < length c.args.blocks.items = (let two = c.requires.some in omega arith) in
    let sample : g.B.Content.kind c.of-sample.result.value ≡ common =
    ap g.B.Content.kind c.of-sample.ensures ∙ first_kind g.B.Content.kind common c.args.blocks.items _ c.index.ensures some
    c.requires.kind.1 in
    let free : ℕ = 0 in
    let count : c.len.result ≡ length c.args.blocks.items = omega arith in
    let words : c.as_slice.result.now ≡ replicate (length c.args.blocks.items) 0 =
    c.as_slice.ensures.value ∙ c.in_ok-words.ensures.items_if_clones_equal (λ y e. e) ∙ ap (λ n. replicate n free) count in
    rw (sample, words, c.in_ok-homes.ensures)
    (opened g.B.Content.bytes g.B.Content.kind g.B.Content.ready common c.args.blocks.items c.requires.some
    c.requires.kind.1)
