use Rattle.std.proofs.Common.{◌≡◌, ℕ, ◌+◌, ◌<◌, ◌≤◌, ◌^◌, min, List, ◌∷◌, Bool, drop, get_or, drop-cons, add-one, sym, ap, ◌∙◌}
use Rattle.std.proofs.Common.{arith}
use Rattle.std.specs.Prelude.{nat_le, nat_lt, ◌&&◌, ◌||◌}
use Rattle.std.proofs.lemmas.Grind.{common_steps}
use Rattle.ring_sizes.specs.Schedules.{is_stalled}
use Rattle.ring_sizes.specs.declared.paces.StallTime.{StallTime}
use Rattle.ring_sizes.proofs.paces.next_change.Goals as goal

least : (one other bound moment : ℕ) → moment < one → one ≤ bound → moment < other
    → (moment < min one other) × (min one other ≤ bound)
least one other bound moment h k l = (grind (arith, common_steps), grind (arith, common_steps))

below : (at one other next : ℕ) → next ≡ min one other → at < next → (at < one) × (at < other)
below at one other next e h = (grind (arith, common_steps), grind (arith, common_steps))

pub loop-stall-preserved : goal.loop-stall-preserved
loop-stall-preserved c =
    let none : StallTime = record { from = 0; length = 0 } in
    let index : ℕ = c.loop-stall.stall-index in
    let stalls : List StallTime = c.args.stalls.now in
    let stall : StallTime = get_or stalls index none in
    let rest : List StallTime = drop (index + 1) stalls in
    let head : drop index stalls ≡ stall ∷ rest = rw add-one (drop-cons stalls index none c.loop-stall-test.true) in
    let bounds = least c.loop-stall.next c.next_change.result (2 ^ 53) c.args.moment c.loop-stall.invariant.later
    c.loop-stall.invariant.early c.next_change.ensures.later in
    record {
      later = omega (arith, bounds.0, c.min-next.ensures);
      early = omega (arith, bounds.1, c.min-next.ensures);
      same = λ at from to rests.
          let both = below at c.loop-stall.next c.next_change.result c.min-next.result c.min-next.ensures to in
          let here : (nat_le stall.from at && nat_lt at (stall.from + stall.length))
          ≡ (nat_le stall.from c.args.moment && nat_lt c.args.moment (stall.from + stall.length)) =
          c.next_change.ensures.same at from both.1 in
          c.loop-stall.invariant.same at from both.0
          (ap (λ (left : List StallTime). is_stalled left at) head
          ∙ ap (λ (held : Bool). held || is_stalled rest at) here
          ∙ ap (λ (others : Bool).
          (nat_le stall.from c.args.moment && nat_lt c.args.moment (stall.from + stall.length)) || others) rests
          ∙ ap (λ (left : List StallTime). is_stalled left c.args.moment) (sym head));
    }
