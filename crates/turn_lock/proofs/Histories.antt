-- What the turn history says of one seat, and how a seat's place in it moves on.
use Rattle.std.proofs.Common.{◌≡◌, ℕ, ◌+◌, ◌*◌, ◌≤◌, ◌≢◌, ◌^◌, eqb, eq-eqb, ne_eqb, cond, Bool, List, [], ◌∷◌}
use Rattle.std.proofs.Common.{◌++◌, length, sum_by}
use Rattle.std.proofs.Common.{take, drop, set, sym, refl, ap, ◌∙◌, subst, arith, append_assoc, length-append, Option}
use mathlib.Core.Option.{some, some-injective}
use lib.ListN.{get_elem?}
use Rattle.atomic_table.specs.Table.{State}
use Rattle.history.proofs.Lists.{at_below, item_at}
use Rattle.history.proofs.Totals.{total_times}
use Rattle.turn_lock.specs.declared.knowledge.Knows.{Knows}
use Rattle.turn_lock.specs.declared.knowledge.LockSeat.{LockSeat}
use Rattle.turn_lock.specs.declared.knowledge.SeatStage.{SeatStage}
use Rattle.turn_lock.specs.declared.knowledge.SeatStage.TheVariants.{Idle, Inside}
use Rattle.turn_lock.specs.Histories.{all_added, IsTurn, GoesOn}
use Rattle.turn_lock.specs.SeatKnowledge.{parts_of, drawn_of, all_drawn}
use Rattle.turn_lock.specs.Turns.{HasTicket, PlaceOk, Turns}
use Rattle.turn_lock.proofs.Lists.{few_drawn, added_split, added_few, turn_few, others_turns, drop_item}

-- one of two numbers, by whether two others are the same
pub chosen : (m n a b : ℕ) → m ≡ n → cond (eqb m n) a b ≡ a
chosen m n a b same = ap (λ (z : Bool). cond z a b) (eq-eqb m n same)

pub passed : (m n a b : ℕ) → m ≢ n → cond (eqb m n) a b ≡ b
passed m n a b other = ap (λ (z : Bool). cond z a b) (ne_eqb m n other)

-- an idle seat isn't inside
pub idle_not_inside : (stage : SeatStage) → stage ≡ Idle → stage ≡ Inside → ⊥
idle_not_inside stage idle inside = let never : Idle ≡ Inside = sym idle ∙ inside in absurd (cc)

module _ {A : Type 0} where
  pub two_same : (xs : List A) (k : ℕ) (a b : A) → get_elem? xs k ≡ some a → get_elem? xs k ≡ some b → a ≡ b
  two_same xs k a b at to = some-injective a b (sym at ∙ to)

  -- a list of one item, after that one has changed
  pub set_only : (xs : List A) (a : A) → length xs ≡ 1 → set xs 0 a ≡ a ∷ []
  set_only [] a one = absurd (omega arith)
  set_only (x ∷ []) a one = refl
  set_only (x ∷ y ∷ xs) a one = absurd (omega arith)

module _ {E B : Type 0} {b : B} {f : List E} {owners : List ℕ} {added : List (List E)} {seat_of : ℕ → ℕ} {made j : ℕ} where
  -- a place whose seat of the table has moved on
  pub place_moves : {v w : Knows E B} {p : LockSeat E} → PlaceOk b f owners added seat_of made j v p → w.base ≡ v.base
      → w.first ≡ v.first → PlaceOk b f owners added seat_of made j w p
  place_moves ok base first = record {
    base_is = base ∙ ok.base_is;
    first_is = first ∙ ok.first_is;
    lies = ok.lies;
    is_made = ok.is_made;
    drawn_is = ok.drawn_is;
    few = ok.few;
    since = ok.since;
    ended = ok.ended;
    last_is = ok.last_is;
    latest = ok.latest;
    others = ok.others;
  }

  -- a place whose seat has another number in the table
  pub place_lies : {v : Knows E B} {p : LockSeat E} (seats : ℕ → ℕ) (more k : ℕ) → PlaceOk b f owners added seat_of made j v p
      → seats p.number ≡ k → made ≤ more → PlaceOk b f owners added seats more k v p
  place_lies seats more k ok lies above = record {
    base_is = ok.base_is;
    first_is = ok.first_is;
    lies = lies;
    is_made = let below = ok.is_made in omega (arith, below, above);
    drawn_is = ok.drawn_is;
    few = ok.few;
    since = ok.since;
    ended = ok.ended;
    last_is = ok.last_is;
    latest = ok.latest;
    others = ok.others;
  }

module _ {V E B : Type 0} (stored : V → List E) (base : V → B) (may_add : B → ℕ → E → Bool) (b : B) (f : List E) (n : ℕ)
    (s : State (Option V) (Knows E B)) (r : Turns stored base may_add b f n s) where
  -- the owner of a ticket whose turn has ended, and that it was a turn
  pub turn_at : (i : ℕ) (es : List E) → get_elem? r.added i ≡ some es
      → (owner : ℕ) × (get_elem? r.owners i ≡ some owner) × IsTurn (may_add b) owner es
  turn_at i es at = let below = at_below r.added i es at in let behind = r.behind in let owner =
      item_at r.owners i (omega (arith, below, behind)) in
      (owner.0, owner.1, r.each_turn i owner.0 es owner.1 at)

  -- few tickets were drawn
  pub tickets_few : length r.owners ≤ n * 2 ^ 32
  tickets_few = let sum = r.sum in let shares = r.shares in let few = total_times drawn_of parts_of (2 ^ 32) s.views (λ j v at.
      let drawn = few_drawn v.places (λ k p here. (r.each_place j k v p at here).few) in let d : ℕ = all_drawn v.places in
      let l : ℕ = length v.places in let x : ℕ = v.spare in
      let drawn' : d ≤ l * 2 ^ 32 = drawn in let g : d ≤ (l + x) * 2 ^ 32 = omega (arith, drawn') in g) in
      let g : length r.owners ≤ sum_by parts_of s.views * 2 ^ 32 =
      subst (λ (z : ℕ). z ≤ sum_by parts_of s.views * 2 ^ 32) sum few in
      subst (λ (z : ℕ). length r.owners ≤ z * 2 ^ 32) shares g

  pub tickets_below : length r.owners ≤ 2 ^ 37
  tickets_below = let few = tickets_few in let at_most = r.few in omega (arith, few, at_most)

  -- the history has few entries
  pub history_few : length (f ++ all_added r.added) ≤ length f + 2 ^ 37
  history_few = let long = length-append f (all_added r.added) in let below = tickets_below in let behind = r.behind in
      let each = added_few r.added (λ i es at. let turn = turn_at i es at in turn_few (may_add b) turn.0 es turn.2) in
      omega (arith, long, below, behind, each)

  -- the history continues each seat's last list
  pub history_goes_on : (j k : ℕ) (v : Knows E B) (p : LockSeat E) → get_elem? s.views j ≡ some v
      → get_elem? v.places k ≡ some p
      → GoesOn (may_add b) p.number p.last (f ++ all_added r.added)
  history_goes_on j k v p at here = let ok = r.each_place j k v p at here in let before : List E =
      all_added (take ok.since r.added) in let more : List E = all_added (drop ok.since r.added) in (
        more,
        ap (λ (z : List E). f ++ z) (added_split ok.since r.added) ∙ sym (append_assoc f before more)
            ∙ ap (λ (z : List E). z ++ more) (sym ok.last_is),
        others_turns (may_add b) p.number (drop ok.since r.added)
            (λ i es there. let place : ℕ = ok.since + i in let to = drop_item ok.since i r.added es there in
            let turn = turn_at place es to in let below = at_below r.added place es to in
            (turn.0, (λ same. ok.others place (omega arith) below (turn.1 ∙ ap some same)), turn.2)),
      )

  -- two seats with a ticket of one number are one
  pub one_holder : (i j : ℕ) (v w : Knows E B) → get_elem? s.views i ≡ some v → get_elem? s.views j ≡ some w
      → HasTicket r.owners r.added (f ++ all_added r.added) v → HasTicket r.owners r.added (f ++ all_added r.added) w
      → v.ticket ≡ w.ticket → i ≡ j
  one_holder i j v w at to mine yours same =
      let number : mine.0.number ≡ yours.0.number =
      two_same r.owners w.ticket mine.0.number yours.0.number
      (subst (λ (z : ℕ). get_elem? r.owners z ≡ some mine.0.number) same mine.2) yours.2 in
      let a = (r.each_place i 0 v mine.0 at (ap (λ (z : List (LockSeat E)). get_elem? z 0) mine.1)).lies in
      let c = (r.each_place j 0 w yours.0 to (ap (λ (z : List (LockSeat E)). get_elem? z 0) yours.1)).lies in
      sym a ∙ ap r.seat_of number ∙ c
