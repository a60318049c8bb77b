use Rattle.std.proofs.Common.{◌∙◌, ◌<◌, arith}
use Rattle.std.proofs.lemmas.Bool.Decides.{nat_tests}
use Rattle.ring_words.proofs.WalkerSteps.{is_before_free, may_free}
use Rattle.ring_words.proofs.walker.TableWalkerWalkerEnd.release.Goals as goal

pub store-requires : goal.store-requires
store-requires g c =
    let has_one = rw (← c.self.view_is) at c.requires.hand in
    let hand : c.self.inside.released < c.self.inside.taken = grind (arith, nat_tests, has_one) in
    let is_kind = rw (← c.self.view_is) at c.requires.kind in
    let out = is_before_free g.B.Content.bytes g.B.Content.kind g.B.Content.ready _ _ _ _ _ c.args.block c.self.invariant.1 hand
    c.exchange.ensures.3 in
    let asks = may_free g.B.Content.bytes g.B.Content.kind g.B.Content.ready _ _ _ _ _ _ c.args.block _ _ _ c.args.mark
    c.self.invariant.0 c.self.invariant.1 hand c.requires.mark is_kind out in
    rw c.deref-2.ensures (c.exchange.ensures.0 ∙ asks.0, asks.1, asks.2)
