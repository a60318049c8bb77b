use Rattle.std.proofs.Common.{◌≡◌, ◌+◌, ◌%◌, ◌∙◌, ℕ, ap, sym, subst, arith}
use Rattle.ring_model.specs.declared.notes.Offer.{Offer}
use Rattle.fanout_group.proofs.Rounds.{back_refused, behind-add_1, of_some, takes-further, turned}
use Rattle.fanout_group.proofs.delivery.try_round.Goals as goal

pub loop-turn-preserved : goal.loop-turn-preserved
loop-turn-preserved g c =
    let inv = c.loop-turn.invariant in
    let done = c.in_ok-try_at.ensures in
    let turn = c.loop-turn.turn in
    record {
      listed = turned g.D.Desk.made g.met.D.Desk.more_made c.args.members c.args.home turn c.loop-turn.member c.args.offer
          c.loop-turn.offer c.in_ok-try_at.field-0
          _ _ _ _ _ _ _ inv.listed c.reserve_exact.ensures inv.offer done.tried inv.member
          (back_refused c.in_ok-try_at.field-0 c.in-Some.back c.in-Some.is);
      room = λ n h.
          let one : n + (turn + 1) ≡ (n + 1) + turn = omega arith in
          done.room n (inv.room (n + 1) (subst (λ (k : ℕ). g.D.Desk.room c.args.desk.now k) one h));
      member = ap (λ m. (m + 1) % c.args.members) inv.member ∙ sym (behind-add_1 c.args.members c.args.home turn);
      below = omega (arith, inv.below);
      offer = of_some (λ (o : Offer). o ≡ c.loop-turn.offer) c.in_ok-try_at.field-0 c.in-Some.back c.in-Some.is
          done.back ∙ inv.offer;
      same = takes-further _ _ _ inv.same done.same;
    }
