use Rattle.std.proofs.Common.{List, ℕ, refl, subst, sym, rules}
use Rattle.std.proofs.lemmas.Result.{on_ok_weaker}
use Rattle.capture_reading.specs.Sources.{GavePiece}
use Rattle.frame_deals.proofs.FilePieces.{piece_readable, read_piece}
use Rattle.frame_deals.proofs.files.FileSoFar.read_piece.Goals as goal

pub take_all-requires-clause-frames : goal.take_all-requires-clause-frames
take_all-requires-clause-frames g c =
    let known = c.requires.known in
    let decoded = c.in_ok-decoded.ensures.decodes c.args.deal.now.cpu known.bytes known.represents in
    piece_readable c.frames_are_numbered.ensures c.frames_are_captured.ensures c.args.deal.now.cpu known.bytes _ _
    decoded.frames

pub returns-clause-read : goal.returns-clause-read
returns-clause-read g c =
    on_ok_weaker c.take_all.result
    (λ taken first start h.
    let old = g.S.Source.seen c.args.source.now in
    let new = g.S.Source.seen c.read.new.source in
    let gave = subst (λ (piece : List ℕ). GavePiece old new piece) (sym c.piece-piece.ensures.piece)
    c.in-Ok.ensures.ok in
    read_piece c.args.rules.now first old new start c.args.deal.now c.take_all.new.self c.args.self.now _ _
    c.in_ok-decoded.decoded.frames c.in_ok-decoded.decoded.damage
    c.damage_is_the_end.ensures.end c.damage_is_the_end.ensures.uncut
    c.requires.unended c.requires.few c.piece-piece.ensures.small gave
    c.in_ok-decoded.ensures.decodes refl c.ended_by-self.ensures (search rules) taken h)
    (search rules)
