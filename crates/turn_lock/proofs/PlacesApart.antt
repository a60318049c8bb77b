-- Each seat of the lock has one place: no two places of a seat of the table are those of one seat.
use Rattle.std.proofs.Common.{◌≡◌, ◌≢◌, ℕ, ◌+◌, List, [], ◌∷◌, ◌++◌, length, set, sym, ap, ◌∙◌, subst, ⊎_elim}
use mathlib.Core.Option.{some, some-ne-none}
use lib.ListN.{get_elem?}
use Rattle.atomic_table.proofs.Lists.{at_set}
use Rattle.history.proofs.Lists.{at_both, at_more, only_item}
use Rattle.turn_lock.specs.declared.knowledge.Knows.{Knows}
use Rattle.turn_lock.specs.declared.knowledge.LockSeat.{LockSeat}
use Rattle.turn_lock.specs.Turns.{AreApart}

module _ {E : Type 0} where
  pub apart_one : (places : List (LockSeat E)) (place : LockSeat E) → places ≡ place ∷ [] → AreApart places
  apart_one places place one k l p q at to same =
      (only_item places place p k one at).0 ∙ sym (only_item places place q l one to).0

  pub apart_none : (places : List (LockSeat E)) → places ≡ [] → AreApart places
  apart_none places none_there k l p q at to same =
      absurd (some-ne-none p (sym (subst (λ (z : List (LockSeat E)). get_elem? z k ≡ some p) none_there at)))

  -- two lists that have no number in common
  pub apart_join : (xs ys : List (LockSeat E)) → AreApart xs → AreApart ys
      → ((k l : ℕ) (p q : LockSeat E) → get_elem? xs k ≡ some p → get_elem? ys l ≡ some q → p.number ≢ q.number)
      → AreApart (xs ++ ys)
  apart_join xs ys mine yours apart k l p q at to same = ⊎_elim
      (λ here. ⊎_elim
      (λ there. mine k l p q here there same)
      (λ there. absurd (apart k there.0 p q here there.2 same))
      (at_both xs ys l q to))
      (λ here. ⊎_elim
      (λ there. absurd (apart l here.0 q p there here.2 (sym same)))
      (λ there. here.1 ∙ ap (λ (z : ℕ). length xs + z) (yours here.0 there.0 p q here.2 there.2 same) ∙ sym there.1)
      (at_both xs ys l q to))
      (at_both xs ys k p at)

module _ {E B : Type 0} where
  -- each seat's places are apart, when one seat has changed
  pub apart_set : (views : List (Knows E B)) (id : ℕ) (w : Knows E B)
      → ((j : ℕ) (v : Knows E B) → get_elem? views j ≡ some v → AreApart v.places) → AreApart w.places → (j : ℕ) (v : Knows E B)
      → get_elem? (set views id w) j ≡ some v → AreApart v.places
  apart_set views id w all now j v to = ⊎_elim
      (λ same. subst (λ (z : Knows E B). AreApart z.places) same.1 now)
      (λ other. all j v other.1)
      (at_set views id j w v to)

  -- and when there is one more seat
  pub apart_more : (views : List (Knows E B)) (w : Knows E B)
      → ((j : ℕ) (v : Knows E B) → get_elem? views j ≡ some v → AreApart v.places) → AreApart w.places → (j : ℕ) (v : Knows E B)
      → get_elem? (views ++ w ∷ []) j ≡ some v → AreApart v.places
  apart_more views w all now j v to = ⊎_elim
      (λ old. all j v old)
      (λ last. subst (λ (z : Knows E B). AreApart z.places) last.1 now)
      (at_more views w v j to)
