use Rattle.std.proofs.Common.{◌∙◌, ◌<◌, arith, sym, ap, None}
use Rattle.ring_words.proofs.FeederSteps.{has_oldest, is_before_store, keeps_stored, may_store}
use Rattle.ring_words.proofs.Hands.{front_of, still_seated}
use Rattle.ring_words.proofs.feeder.TableFeederFeederEnd.retire.Goals as goal

pub exchange-requires : goal.exchange-requires
exchange-requires g c =
    let keeps = c.self.invariant.1 in
    let h = rw (← c.self.view_is) at c.requires.hand in
    let hand : c.self.inside.retired < c.self.inside.given = omega arith in
    let oldest = has_oldest g.B.Content.bytes g.B.Content.kind g.B.Content.ready _ _ _ _ _ keeps hand c.turn.ensures.2 in (
      c.turn.ensures.0 ∙ c.self.invariant.0.same ∙ ap (λ t. t.shared.table_id) (sym c.deref.ensures),
      (None, front_of _ _ _ oldest),
    )

pub store-requires : goal.store-requires
store-requires g c =
    let keeps = c.self.invariant.1 in
    let h = rw (← c.self.view_is) at c.requires.hand in
    let hand : c.self.inside.retired < c.self.inside.given = omega arith in
    let is_kind = rw (← c.self.view_is) at c.requires.kind in
    let is_ready = rw (← c.self.view_is) at c.requires.ready in
    let out = is_before_store g.B.Content.bytes g.B.Content.kind g.B.Content.ready _ _ _ _ _ _ _ keeps hand c.turn.ensures.2
    c.exchange.ensures.3 in
    let asks = may_store g.B.Content.bytes g.B.Content.kind g.B.Content.ready _ _ _ _ _ _ c.args.block _ _ _ c.args.status
    c.self.invariant.0 keeps hand c.requires.status is_kind is_ready out in
    rw c.deref-2.ensures (c.exchange.ensures.0 ∙ c.turn.ensures.0 ∙ asks.0, asks.1, asks.2)

pub invariant_of-self : goal.invariant_of-self
invariant_of-self g c =
    let keeps = c.self.invariant.1 in
    let h = rw (← c.self.view_is) at c.requires.hand in
    let hand : c.self.inside.retired < c.self.inside.given = omega arith in
    let out = is_before_store g.B.Content.bytes g.B.Content.kind g.B.Content.ready _ _ _ _ _ _ _ keeps hand c.turn.ensures.2
    c.exchange.ensures.3 in (
      still_seated _ _ _ _ c.self.invariant.0 (c.store.ensures.0 ∙ c.exchange.ensures.0 ∙ c.turn.ensures.0),
      keeps_stored g.B.Content.bytes g.B.Content.kind g.B.Content.ready _ _ _ _ _ _ _ _ _ keeps hand out c.store.ensures.2,
    )
