use Rattle.std.proofs.Common.{◌∙◌, ◌≤◌, arith, sym, ap, Some}
use Rattle.std.proofs.lemmas.Bool.Decides.{nat_tests}
use Rattle.ring_words.proofs.Hands.{front_of}
use Rattle.ring_words.proofs.WalkerSteps.{may_fetch}
use Rattle.ring_words.proofs.walker.TableWalkerWalkerEnd.take.Goals as goal

pub load-word-requires : goal.load-word-requires
load-word-requires g c =
    let none_out = rw (← c.self.view_is) at c.requires in
    let hand : c.self.inside.taken ≤ c.self.inside.released = grind (arith, nat_tests, none_out) in
    rw c.deref.ensures (may_fetch g.B.Content.bytes g.B.Content.kind g.B.Content.ready _ _ _ _ _ _ _ _ c.self.invariant.0
    c.self.invariant.1 hand)

pub exchange-requires : goal.exchange-requires
exchange-requires g c =
    let even = c.if-word-eq0.false in
    let found = c.load-word.ensures.2.some (omega arith) in (
      c.load-word.ensures.0 ∙ c.self.invariant.0.same ∙ ap (λ t. t.shared.table_id) (sym c.deref-2.ensures),
      (Some found.block, front_of _ _ _ found.hand),
    )
