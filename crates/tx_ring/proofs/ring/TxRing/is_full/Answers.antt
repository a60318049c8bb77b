use Rattle.std.proofs.Common.{refl, ap, sym, ◌∙◌, arith}
use Rattle.std.proofs.lemmas.Bool.{eqb-false}
use Rattle.tx_ring.specs.Rings.{TxState}
use Rattle.tx_ring.proofs.Moves.{count_of}
use Rattle.tx_ring.proofs.ring.TxRing.is_full.Goals as goal

pub returns-clause-full : goal.returns-clause-full
returns-clause-full c =
    let places = c.from.ensures ∙ c.frame_nr.ensures ∙ ap (λ (ring : TxState). ring.shape.frame_nr) c.self.view_is in
    rw (count_of c.self.invariant c.self.view_is, places) refl

pub returns-clause-free : goal.returns-clause-free
returns-clause-free c = λ none.
    let places = ap (λ (ring : TxState). ring.shape.frame_nr) c.self.view_is in
    let frames = c.from.ensures ∙ c.frame_nr.ensures in
    let few = c.self.invariant.few in
    let other = eqb-false _ _ none in
    rw (count_of c.self.invariant c.self.view_is, sym places) (omega (arith, few, other, frames))
