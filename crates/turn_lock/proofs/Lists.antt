-- What the turns added, and whose the tickets are.
use Rattle.std.proofs.Common.{◌≡◌, ℕ, zero, suc, ◌+◌, ◌≤◌, ◌≢◌, eq-eqb, ne_eqb, Bool, true, cond, List, [], ◌∷◌, ◌++◌}
use Rattle.std.proofs.Common.{length, take, drop, sym, refl, ap, ◌∙◌, subst, arith, append_assoc, append-nil, length-append}
use Rattle.std.proofs.Common.{if◌then◌else◌, ◌*◌, ◌^◌}
use Rattle.std.proofs.lemmas.Bool.{false_from_ne_true}
use Rattle.std.proofs.lemmas.List.Elements.{filter-append}
use mathlib.Core.Option.{some, some-ne-none}
use lib.ListN.{get_elem?}
use Rattle.turn_lock.specs.declared.knowledge.LockSeat.{LockSeat}
use Rattle.turn_lock.specs.Histories.{times, all_added, IsTurn, ByOthers, GoesOn, own}
use Rattle.turn_lock.specs.SeatKnowledge.{all_drawn}

-- one more ticket
pub times_more : (number owner : ℕ) (owners : List ℕ)
    → times number (owners ++ owner ∷ []) ≡ times number owners + times number (owner ∷ [])
times_more number owner [] = omega arith
times_more number owner (x ∷ owners) = let rest = times_more number owner owners in omega (arith, rest)

pub times_same : (number : ℕ) → times number (number ∷ []) ≡ 1
times_same number = ap (λ (b : Bool). (if b then 1 else 0) + 0) (eq-eqb number number refl)

pub times_else : (number owner : ℕ) → owner ≢ number → times number (owner ∷ []) ≡ 0
times_else number owner other = ap (λ (b : Bool). (if b then 1 else 0) + 0) (ne_eqb owner number other)

-- a seat with no ticket
pub times_none : (number : ℕ) (owners : List ℕ) → ((i : ℕ) → ¬ (get_elem? owners i ≡ some number)) → times number owners ≡ 0
times_none number [] none = refl
times_none number (x ∷ owners) none = let here = times_else number x (λ e. none zero (ap some e)) in let rest =
    times_none number owners (λ i. none (suc i)) in omega (arith, here, rest)

module _ {E : Type 0} where
  -- each seat has few tickets, so all together have at most that bound times the number of seats
  pub few_drawn : (places : List (LockSeat E))
      → ((i : ℕ) (place : LockSeat E) → get_elem? places i ≡ some place → place.drawn ≤ 2 ^ 32)
      → all_drawn places ≤ length places * 2 ^ 32
  few_drawn [] each = omega arith
  few_drawn (p ∷ places) each = let here = each zero p refl in let rest =
      few_drawn places (λ i place at. each (suc i) place at) in omega (arith, here, rest)

  pub drawn_join : (xs ys : List (LockSeat E)) → all_drawn (xs ++ ys) ≡ all_drawn xs + all_drawn ys
  drawn_join [] ys = omega arith
  drawn_join (x ∷ xs) ys = let rest = drawn_join xs ys in omega (arith, rest)

module _ {E : Type 0} where
  pub added_join : (xs ys : List (List E)) → all_added (xs ++ ys) ≡ all_added xs ++ all_added ys
  added_join [] ys = refl
  added_join (x ∷ xs) ys = ap (λ (z : List E). x ++ z) (added_join xs ys) ∙ sym (append_assoc x (all_added xs) (all_added ys))

  -- one more turn
  pub added_more : (xs : List (List E)) (es : List E) → all_added (xs ++ es ∷ []) ≡ all_added xs ++ es
  added_more xs es = added_join xs (es ∷ []) ∙ ap (λ (z : List E). all_added xs ++ z) (append-nil es)

  -- what some turns added is a prefix of what all have added
  pub added_split : (k : ℕ) (xs : List (List E)) → all_added xs ≡ all_added (take k xs) ++ all_added (drop k xs)
  added_split zero xs = refl
  added_split (suc k) [] = refl
  added_split (suc k) (x ∷ xs) = ap (λ (z : List E). x ++ z) (added_split k xs)
      ∙ sym (append_assoc x (all_added (take k xs)) (all_added (drop k xs)))

  -- each turn adds one entry at most
  pub added_few : (xs : List (List E)) → ((i : ℕ) (es : List E) → get_elem? xs i ≡ some es → length es ≤ 1)
      → length (all_added xs) ≤ length xs
  added_few [] each = omega arith
  added_few (x ∷ xs) each = let here = each zero x refl in let rest = added_few xs (λ i. each (suc i)) in let long =
      length-append x (all_added xs) in omega (arith, here, rest, long)

module _ {E : Type 0} (may_add : ℕ → E → Bool) where
  pub turn_few : (number : ℕ) (es : List E) → IsTurn may_add number es → length es ≤ 1
  turn_few number [] turn = omega arith
  turn_few number (e ∷ es) turn = let none : length es ≡ 0 = ap length turn.1 in omega (arith, none)

  pub others_join : (number : ℕ) (xs ys : List E) → ByOthers may_add number xs → ByOthers may_add number ys
      → ByOthers may_add number (xs ++ ys)
  others_join number [] ys by_others more = more
  others_join number (x ∷ xs) ys by_others more = (by_others.0, others_join number xs ys by_others.1 more)

  -- a turn of a seat is one that another seat may have
  pub others_turn : (number other : ℕ) (es : List E) → other ≢ number → IsTurn may_add other es → ByOthers may_add number es
  others_turn number other [] ne turn = tt
  others_turn number other (e ∷ es) ne turn = ((other, ne, turn.0), subst (ByOthers may_add number) (sym turn.1) tt)

  -- only turns of other seats
  pub others_turns : (number : ℕ) (xs : List (List E))
      → ((i : ℕ) (es : List E) → get_elem? xs i ≡ some es → (other : ℕ) × (other ≢ number) × IsTurn may_add other es)
      → ByOthers may_add number (all_added xs)
  others_turns number [] each = tt
  others_turns number (x ∷ xs) each = let here = each zero x refl in
      others_join number x (all_added xs) (others_turn number here.0 x here.1 here.2)
      (others_turns number xs (λ i. each (suc i)))

  -- none of these is the seat's own
  own_none : ((m n : ℕ) (e : E) → may_add m e ≡ true → may_add n e ≡ true → m ≡ n) → (number : ℕ) (es : List E)
      → ByOthers may_add number es → own may_add number es ≡ []
  own_none alone number [] by_others = refl
  own_none alone number (e ∷ es) by_others =
      let never = false_from_ne_true (may_add number e)
      (λ yes. by_others.0.1 (alone by_others.0.0 number e by_others.0.2 yes)) in
      ap (λ (b : Bool). cond b (e ∷ own may_add number es) (own may_add number es)) never ∙ own_none alone number es by_others.1

  -- where a list grows by others' entries, the seat's own entries are those that it began with
  pub own_stays : ((m n : ℕ) (e : E) → may_add m e ≡ true → may_add n e ≡ true → m ≡ n) → (number : ℕ) (last entries : List E)
      → GoesOn may_add number last entries → own may_add number entries ≡ own may_add number last
  own_stays alone number last entries goes =
      ap (own may_add number) goes.1 ∙ filter-append (may_add number) last goes.0
      ∙ ap (λ (z : List E). own may_add number last ++ z) (own_none alone number goes.0 goes.2)
      ∙ append-nil (own may_add number last)

  -- what a turn adds is the seat's own
  own_added : (number : ℕ) (es : List E) → IsTurn may_add number es → own may_add number es ≡ es
  own_added number [] turn = refl
  own_added number (e ∷ es) turn = ap (λ (b : Bool). cond b (e ∷ own may_add number es) (own may_add number es)) turn.0
      ∙ ap (λ (z : List E). e ∷ own may_add number z) turn.1 ∙ ap (λ (z : List E). e ∷ z) (sym turn.1)

  -- a turn adds to the seat's own entries what it adds to the list
  pub own_turn : ((m n : ℕ) (e : E) → may_add m e ≡ true → may_add n e ≡ true → m ≡ n) → (number : ℕ) (last before es : List E)
      → GoesOn may_add number last before → IsTurn may_add number es
      → own may_add number (before ++ es) ≡ own may_add number last ++ es
  own_turn alone number last before es goes turn =
      filter-append (may_add number) before es ∙ ap (λ (z : List E). z ++ own may_add number es)
      (own_stays alone number last before goes) ∙ ap (λ (z : List E). own may_add number last ++ z) (own_added number es turn)

module _ {A : Type 0} where
  pub drop_item : (k i : ℕ) (xs : List A) (a : A) → get_elem? (drop k xs) i ≡ some a → get_elem? xs (k + i) ≡ some a
  drop_item zero i xs a at = subst (λ (z : ℕ). get_elem? xs z ≡ some a) (omega arith) at
  drop_item (suc k) i [] a at = absurd (some-ne-none a (sym at))
  drop_item (suc k) i (x ∷ xs) a at =
      subst (λ (z : ℕ). get_elem? (x ∷ xs) z ≡ some a) (let g : suc (k + i) ≡ suc k + i = omega arith in g)
      (drop_item k i xs a at)
