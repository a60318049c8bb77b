use Rattle.std.proofs.Common.{◌∙◌, arith, sym, ap, Some}
use Rattle.ring_words.proofs.FeederSteps.{keeps_free, may_look}
use Rattle.ring_words.proofs.Hands.{front_of, still_seated}
use Rattle.ring_words.proofs.feeder.TableFeederFeederEnd.next.Goals as goal

pub load-word-requires : goal.load-word-requires
load-word-requires g c =
    let hand = rw (← c.self.view_is) at c.requires.hand in
    let room = rw (← c.self.view_is) at c.requires.room in
    rw c.deref.ensures (may_look g.B.Content.bytes g.B.Content.kind g.B.Content.ready _ _ _ _ _ _ _ _ c.self.invariant.0
    c.self.invariant.1 hand room)

pub exchange-requires : goal.exchange-requires
exchange-requires g c =
    let odd = c.if-word-eq1.false in
    let found = c.load-word.ensures.2.free (omega arith) in (
      c.load-word.ensures.0 ∙ c.self.invariant.0.same ∙ ap (λ t. t.shared.table_id) (sym c.deref-2.ensures),
      (Some found.block, front_of _ _ _ found.hand),
    )

pub invariant_of-self-2 : goal.invariant_of-self-2
invariant_of-self-2 g c =
    let odd = c.if-word-eq1.false in
    let found = c.load-word.ensures.2.free (omega arith) in
    let hand = rw (← c.self.view_is) at c.requires.hand in
    let room = rw (← c.self.view_is) at c.requires.room in (
      still_seated _ _ _ _ c.self.invariant.0 (c.exchange.ensures.0 ∙ c.load-word.ensures.0),
      keeps_free g.B.Content.bytes g.B.Content.kind g.B.Content.ready _ _ _ _ _ _ _ _ c.self.invariant.1 hand room found
          c.exchange.ensures.3,
    )
