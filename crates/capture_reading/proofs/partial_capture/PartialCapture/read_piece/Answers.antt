use Rattle.std.proofs.Common.{List, ℕ, refl, subst, sym}
use Rattle.capture_reading.specs.Sources.{GavePiece}
use Rattle.capture_reading.proofs.NextPieces.{read_piece}
use Rattle.capture_reading.proofs.partial_capture.PartialCapture.read_piece.Goals as goal

pub returns-clause-read : goal.returns-clause-read
returns-clause-read g c = λ cpu first h.
    let old = g.S.Source.seen c.args.source.now in
    let new = g.S.Source.seen c.read.new.source in
    let gave = subst (λ (piece : List ℕ). GavePiece old new piece) (sym c.piece-piece.ensures.piece)
    c.in-Ok.ensures.ok in
    read_piece cpu first old new c.args.self.now _ _ _
    c.damage_is_the_end.ensures.end c.damage_is_the_end.ensures.uncut
    c.requires.unended c.requires.few c.piece-piece.ensures.small gave
    c.in_ok-damage.ensures.appends refl c.ended_by-self.ensures h
