-- The rule that the table keeps is the turn history.
use Rattle.std.proofs.Common.{◌≡◌, ℕ, ◌+◌, ◌≤◌, Bool, List, length, sym, ap, ◌∙◌, subst, ⊎_elim, inl, inr, arith, Option}
use mathlib.Core.Option.{some, some-injective}
use lib.ListN.{get_elem?}
use Rattle.atomic_table.specs.Table.{State}
use Rattle.history.proofs.Lists.{at_below, past_end}
use Rattle.turn_lock.specs.declared.knowledge.Knows.{Knows}
use Rattle.turn_lock.specs.declared.knowledge.LockSeat.{LockSeat}
use Rattle.turn_lock.specs.History.{IsHistory}
use Rattle.turn_lock.specs.Turns.{Turns}
use Rattle.turn_lock.proofs.Histories.{two_same, tickets_below, history_goes_on, one_holder}
use Rattle.turn_lock.proofs.TicketLooks.{inside_with}

module _ {V E B : Type 0} (stored : V → List E) (base : V → B) (may_add : B → ℕ → E → Bool) (b : B) (f : List E) (n : ℕ) where
  -- at most one ticket isn't served to its end
  one_at_most : (s : State (Option V) (Knows E B)) (r : Turns stored base may_add b f n s)
      → length r.owners ≤ length r.added + 1
  one_at_most s r = ⊎_elim (λ home. let even = home.4 in omega (arith, even)) (λ out. let one = out.1 in omega (arith, one))
      r.value_is

  -- that one is the ticket of the seat that is inside
  waits : (s : State (Option V) (Knows E B)) (r : Turns stored base may_add b f n s) (i j k : ℕ) (v : Knows E B)
      (p : LockSeat E)
      → get_elem? s.views j ≡ some v → get_elem? v.places k ≡ some p → length r.added ≤ i → get_elem? r.owners i ≡ some p.number
      → v.ticket ≡ i
  waits s r i j k v p at here late mine = let below = at_below r.owners i p.number mine in ⊎_elim
      (λ home. let even = home.4 in absurd (omega (arith, even, below, late)))
      (λ out. let one = out.1 in let m : ℕ = out.2.0 in let w = out.2.1 in
      let has = inside_with stored base may_add b f n s r m w out.2.2 out.2.3 in
      let is : w.ticket ≡ i = let served = has.1 in omega (arith, served, one, below, late) in
      let number : p.number ≡ has.0.0.number = two_same r.owners i p.number has.0.0.number mine
      (subst (λ (z : ℕ). get_elem? r.owners z ≡ some has.0.0.number) is has.0.2) in
      let seat : j ≡ m = sym (r.each_place j k v p at here).lies ∙ ap r.seat_of number
      ∙ (r.each_place m 0 w has.0.0 out.2.2 (ap (λ (z : List (LockSeat E)). get_elem? z 0) has.0.1)).lies in
      ap (λ (z : Knows E B). z.ticket)
      (some-injective v w (sym at ∙ ap (λ (z : ℕ). get_elem? s.views z) seat ∙ out.2.2)) ∙ is)
      r.value_is

  pub historical : (s : State (Option V) (Knows E B)) → Turns stored base may_add b f n s
      → IsHistory stored base may_add b f n s
  historical s r = record {
    owners = r.owners;
    added = r.added;
    drawn = r.tickets;
    served = r.served;
    behind = r.behind;
    one_at_most = one_at_most s r;
    few = tickets_below stored base may_add b f n s r;
    owned = λ i number mine. let made = r.owned i number mine in let within = r.within in omega (arith, made, within);
    sum = r.sum;
    appears_once = λ i j k l v w p q here there same.
        let seat : i ≡ j = sym (r.each_place i k v p here.0 here.1).lies ∙ ap r.seat_of same
        ∙ (r.each_place j l w q there.0 there.1).lies in
        let one : v ≡ w = some-injective v w (sym here.0 ∙ ap (λ (z : ℕ). get_elem? s.views z) seat ∙ there.0) in (
          seat,
          r.each_apart j w there.0 k l p q (subst (λ (z : Knows E B). get_elem? z.places k ≡ some p) one here.1)
              there.1 same,
        );
    each_drew = λ j v p represents. let ok = r.each_place j represents.0 v p represents.1.0 represents.1.1 in
        (ok.drawn_is, ok.few);
    each_turn = r.each_turn;
    each_waits = λ i j v p represents. waits s r i j represents.0 v p represents.1.0 represents.1.1;
    value_is =
        ⊎_elim
        (λ home. inl (
          home.0,
          home.1,
          home.2,
          home.3,
          past_end r.owners (length r.added) (let even = home.4 in omega (arith, even)),
        ))
        (λ out. let j : ℕ = out.2.0 in let v = out.2.1 in
        let has = inside_with stored base may_add b f n s r j v out.2.2 out.2.3 in let p = has.0.0 in
        inr (
          out.0,
          (
            j,
            v,
            p,
            (out.2.2, out.2.3),
            has.0.1,
            subst (λ (z : ℕ). get_elem? r.owners z ≡ some p.number) has.1 has.0.2,
          ),
        ))
        r.value_is;
    each_last = λ j v p represents. let ok = r.each_place j represents.0 v p represents.1.0 represents.1.1 in record {
      turns = ok.since;
      ended = ok.ended;
      is = ok.last_is;
      latest = ok.latest;
      none_after = ok.others;
      goes_on = history_goes_on stored base may_add b f n s r j represents.0 v p represents.1.0 represents.1.1;
    };
    one_inside = λ i j v w here there. let mine = inside_with stored base may_add b f n s r i v here.0 here.1 in let yours =
        inside_with stored base may_add b f n s r j w there.0 there.1 in
        one_holder stored base may_add b f n s r i j v w here.0 there.0 mine.0 yours.0 (mine.1 ∙ sym yours.1);
  }
