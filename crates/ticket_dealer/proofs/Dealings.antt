-- The rule that the table keeps is the dealing.
use Rattle.std.proofs.Common.{◌≡◌, ◌≢◌, ℕ, zero, suc, List, [], ◌∷◌, sum_by, refl, ap, ◌∙◌, sym, arith}
use Rattle.std.proofs.lemmas.List.Sums.{sum_by-cons}
use mathlib.Core.Logic.{dite}
use mathlib.Core.Option.{some, some-injective}
use native.Mathlib.Decide.{ℕ_discrete}
use lib.ListN.{get_elem?}
use Rattle.atomic_table.specs.Table.{State}
use Rattle.history.proofs.Below.{below_yes}
use Rattle.history.proofs.Totals.{total_above}
use Rattle.ticket_dealer.specs.declared.knowledge.Hand.{Hand}
use Rattle.ticket_dealer.specs.Tickets.{times}
use Rattle.ticket_dealer.specs.Dealt.{Dealt}
use Rattle.ticket_dealer.specs.Deals.{IsDealing}

-- of one view it is one, and of the others none
pub record HasOne (f : Hand → ℕ) (views : List Hand) : Type 0 where
  pub seat : ℕ
  pub hand : Hand
  pub at : get_elem? views seat ≡ some hand
  pub one : f hand ≡ 1
  pub none_else : (j : ℕ) (other : Hand) → j ≢ seat → get_elem? views j ≡ some other → f other ≡ 0

-- the first has it, or one of the others
after_one : (f : Hand → ℕ) (v : Hand) (views : List Hand) → sum_by f views ≡ 0
    → (j : ℕ) (other : Hand) → j ≢ 0 → get_elem? (v ∷ views) j ≡ some other → f other ≡ 0
after_one f v views none_left zero other apart at = absurd (apart refl)
after_one f v views none_left (suc j) other apart at = let all = total_above f views j other at in omega (arith, all, none_left)

after_none : (f : Hand → ℕ) (v : Hand) (views : List Hand) → f v ≡ 0 → (has : HasOne f views)
    → (j : ℕ) (other : Hand) → j ≢ suc has.seat → get_elem? (v ∷ views) j ≡ some other → f other ≡ 0
after_none f v views none_here has zero other apart at = ap f (sym (some-injective v other at)) ∙ none_here
after_none f v views none_here has (suc j) other apart at = has.none_else j other (λ same. apart (ap suc same)) at

one_first : (f : Hand → ℕ) (v : Hand) (views : List Hand) → f v ≡ 1 → sum_by f views ≡ 0 → HasOne f (v ∷ views)
one_first f v views one none_left = record {
  seat = 0;
  hand = v;
  at = refl;
  one = one;
  none_else = after_one f v views none_left;
}

one_later : (f : Hand → ℕ) (v : Hand) (views : List Hand) → f v ≡ 0 → HasOne f views → HasOne f (v ∷ views)
one_later f v views none_here has = record {
  seat = suc has.seat;
  hand = has.hand;
  at = has.at;
  one = has.one;
  none_else = after_none f v views none_here has;
}

pub has_one : (f : Hand → ℕ) (views : List Hand) → sum_by f views ≡ 1 → HasOne f views
has_one f [] sum = absurd (omega (arith, sum))
has_one f (v ∷ views) sum = let all = sym (sum_by-cons f v views) ∙ sum in dite (ℕ_discrete (f v) 0)
    (λ none_here. one_later f v views none_here (has_one f views (omega (arith, all, none_here))))
    (λ some_here. one_first f v views (omega (arith, all, some_here)) (omega (arith, all, some_here)))

pub dealing : (feeders : ℕ) (s : State (Unit {0}) Hand) → Dealt feeders s → IsDealing feeders s
dealing feeders s r = record {
  each = λ ticket below.
      let has = has_one (λ v. times ticket v.drawn) s.views (r.once ticket ∙ below_yes _ ticket below) in record {
        seat = has.seat;
        hand = has.hand;
        at = has.at;
        once = has.one;
        by_no_other = has.none_else;
      };
  none_else = λ j v at. (r.each_hand j v at).below;
  number = r.sum;
  rising = λ j v at one. (r.each_hand j v at).rises one;
  seats = r.shares;
  live = (let calls = r.calls in omega (arith, calls));
}
