use Rattle.std.proofs.Common.{◌≡◌, ◌≤◌, ◌∙◌, [], None, ap, length, subst, sym}
use Rattle.std.specs.Prelude.{option_map}
use Rattle.cpu_feed.specs.CpuFeeds.{Feeding, frames_in}
use Rattle.tap_outside.specs.Seen.{SourceSeen}
use Rattle.cpu_feed.proofs.Piecewise.{ends_here, no_bytes, piece_frames, piece_taken, read_more, reads_less}
use Rattle.cpu_feed.proofs.SourceFacts.{known}
use Rattle.cpu_feed.proofs.feed.CpuFeed.read_piece.Goals as goal

pub invariant_of-self-2 : goal.invariant_of-self-2
invariant_of-self-2 g c = known _ _ _ _ _ _ _ _ _ _ c.if-self.false (
    let unended : c.self.inside.ended ≡ None = ap (λ (cpu : Feeding). cpu.ended) c.self.view_is ∙ c.requires.unended in
    let none = subst (λ (cpu : Feeding). length (frames_in cpu) ≤ cpu.fed) (sym c.self.view_is) c.requires.none in
    piece_taken _ _ _ _ _ _ _ _ _ _ _ _ _ _ _ _ _ _ _ c.too_many_bytes_are_damage.ensures c.damage_is_the_end.ensures.end
    c.damage_is_the_end.ensures.uncut
    (c.self.invariant.whole c.if-self.false)
    (ap (option_map {T = g.row.S.Denot} {U = SourceSeen} g.S.Source.seen) c.in-Some.is) unended none
    c.in-Ok.ensures.ok c.piece-piece.ensures.piece c.piece-piece.ensures.small c.extend.ensures
    c.in-Ok-decode.ensures.decodes (c.from-2.ensures.0 ∙ c.into_vec.ensures) c.ended_by-self-inside.ensures)

pub returns-clause-read : goal.returns-clause-read
returns-clause-read g c =
    let unended : c.self.inside.ended ≡ None = ap (λ (cpu : Feeding). cpu.ended) c.self.view_is ∙ c.requires.unended in
    let frames = piece_frames _ _ _ _ _ _ _ _ _ _ _ _ _ _ (c.self.invariant.whole c.if-self.false) c.extend.ensures
    c.in-Ok-decode.ensures.decodes in
    read_more _ c.args.self.now _ _ _ c.self.view_is unended frames

pub invariant_of-self-then-is_empty : goal.invariant_of-self-then-is_empty
invariant_of-self-then-is_empty g c = known _ _ _ _ _ _ _ _ _ _ c.if-self.false (
    let unended : c.self.inside.ended ≡ None = ap (λ (cpu : Feeding). cpu.ended) c.self.view_is ∙ c.requires.unended in
    let empty : c.read.new.self ≡ [] =
    sym c.piece-piece.ensures.piece ∙ no_bytes c.piece-piece.result.now c.if-is_empty.ensures in
    ends_here c.too_many_bytes_are_damage.ensures _ _ _ _ _ _ _ _ _ _ _ _ _ (c.self.invariant.whole c.if-self.false)
    (ap (option_map {T = g.row.S.Denot} {U = SourceSeen} g.S.Source.seen) c.in-Some.is) unended c.in-Ok.ensures.ok empty
    c.end_at.ensures)

pub returns-clause-less : goal.returns-clause-less
returns-clause-less g c =
    let unended : c.self.inside.ended ≡ None = ap (λ (cpu : Feeding). cpu.ended) c.self.view_is ∙ c.requires.unended in
    reads_less c.too_many_bytes_are_damage.ensures _ c.args.self.now _ c.piece-piece.result.now c.ended_by-self-inside.result
    c.self.view_is unended ((c.self.invariant.whole c.if-self.false).sound unended) c.if-is_empty.ensures c.extend.ensures
