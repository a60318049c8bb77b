-- A lock is made: its table opens with the first seat, which makes the others.
use Rattle.std.proofs.Common.{◌≡◌, ℕ, ◌+◌, ◌<◌, ◌≤◌, eqb, cond, Bool, List, [], ◌∷◌, ◌++◌, length, set, sym, refl, ap, ◌∙◌}
use Rattle.std.proofs.Common.{subst, ⊎_elim, inl, inr, le_refl, arith, append-nil, length-set, Some}
use Rattle.std.proofs.lemmas.List.Sums.{sum_by_push}
use mathlib.Core.Option.{some, some-injective, some-ne-none}
use mathlib.Core.Logic.{dite}
use native.Mathlib.Decide.{ℕ_discrete}
use lib.ListN.{get_elem?}
use Rattle.atomic_table.specs.Table as table
use Rattle.atomic_table.specs.Table.{State, Splits}
use Rattle.atomic_table.proofs.Lists.{at_set, set_here, set_else, at_longer}
use Rattle.history.proofs.Lists.{at_below, at_more, only_item}
use Rattle.history.proofs.Totals.{total_set}
use Rattle.turn_lock.specs.declared.knowledge.Knows.{Knows}
use Rattle.turn_lock.specs.declared.knowledge.LockSeat.{LockSeat}
use Rattle.turn_lock.specs.declared.knowledge.SeatStage.{SeatStage}
use Rattle.turn_lock.specs.declared.knowledge.SeatStage.TheVariants.{Idle, Inside}
use Rattle.turn_lock.specs.Histories.{all_added}
use Rattle.turn_lock.specs.SeatKnowledge.{parts_of, drawn_of, fresh_place, opening, maker, newcomer}
use Rattle.turn_lock.specs.Turns.{StageOk, PlaceOk, Turns}
use Rattle.turn_lock.proofs.Lists.{times_none}
use Rattle.turn_lock.proofs.PlacesApart.{apart_one, apart_set, apart_more}
use Rattle.turn_lock.proofs.Histories.{chosen, passed, place_moves, place_lies}

module _ {E B : Type 0} {b : B} {f : List E} {owners : List ℕ} {added : List (List E)} {seat_of : ℕ → ℕ} {made j : ℕ} where
  -- the place of a seat that has no ticket yet
  pub fresh_ok : (v : Knows E B) (number at : ℕ) → v.base ≡ Some b → v.first ≡ f → seat_of number ≡ at → j ≡ at → number < made
      → ((i : ℕ) → ¬ (get_elem? owners i ≡ some number))
      → PlaceOk b f owners added seat_of made j v (fresh_place number v.first)
  fresh_ok v number at base first lies here is_made never = record {
    base_is = base;
    first_is = first;
    lies = lies ∙ sym here;
    is_made = is_made;
    drawn_is = sym (times_none number owners never);
    few = omega arith;
    since = 0;
    ended = omega arith;
    last_is = first ∙ sym (append-nil f);
    latest = λ i is. absurd (omega (arith, is));
    others = λ i from below. never i;
  }

module _ {E B : Type 0} where
  -- a seat with this stage is at the place
  pub record Still (views : List (Knows E B)) (j : ℕ) (stage : SeatStage) : Type 0 where
    pub seat : Knows E B
    pub there : get_elem? views j ≡ some seat
    pub stage_is : seat.stage ≡ stage

  -- each seat is where it was, when the first one has made the next one
  pub still_there : (views : List (Knows E B)) (id : ℕ) (v u : Knows E B) → get_elem? views id ≡ some v
      → (j : ℕ) (t : Knows E B) → get_elem? views j ≡ some t → Still (set views id (maker v) ++ u ∷ []) j t.stage
  still_there views id v u at j t to = let w = maker v in let later : List (Knows E B) = set views id w in let below =
      at_below views id v at in dite (ℕ_discrete j id)
      (λ same. let is_v : v ≡ t = some-injective v t (sym at ∙ ap (λ (z : ℕ). get_elem? views z) (sym same) ∙ to) in record {
        seat = w;
        there = at_longer later (u ∷ []) j w (ap (λ (z : ℕ). get_elem? later z) same ∙ set_here views id w below);
        stage_is = ap (λ (z : Knows E B). z.stage) is_v;
      })
      (λ other. record {
        seat = t;
        there = at_longer later (u ∷ []) j t (set_else views id j w other ∙ to);
        stage_is = refl;
      })

module _ {E B : Type 0} (owners : List ℕ) (added : List (List E)) (history : List E) (v : Knows E B) where
  -- making a seat changes no ticket
  pub stage_makes : (stage : SeatStage) → StageOk owners added history v stage → StageOk owners added history (maker v) stage
  stage_makes Idle ok = ok
  stage_makes Inside ok = ok

module _ {V E B : Type 0} (stored : V → List E) (base : V → B) (may_add : B → ℕ → E → Bool) (b : B) (f : List E) (n : ℕ) where
  -- the table opens
  pub opens : (x : V) → stored x ≡ f → base x ≡ b → 0 < n → n ≤ 32
      → Turns stored base may_add b f n (table.opening (0 ∷ 0 ∷ []) (Some x ∷ []) (opening b f n))
  opens x stored_is base_is some_seat few = record {
    owners = [];
    added = [];
    seat_of = λ _. 0;
    made = 1;
    words_are = refl;
    tickets = refl;
    served = refl;
    behind = le_refl 0;
    few = few;
    within = omega (arith, some_seat);
    shares = omega (arith, some_seat);
    sum = refl;
    owned = λ i number mine. absurd (some-ne-none number (sym mine));
    each_turn = λ i number entries mine turn. absurd (some-ne-none number (sym mine));
    each_place = λ j k v p at here. ⊎_elim (λ nothing. absurd (some-ne-none v (sym nothing)))
        (λ last. subst (λ (z : Knows E B). get_elem? z.places k ≡ some p → PlaceOk b f [] [] (λ _. 0) 1 j z p) last.1
        (λ is. let w = opening b f n in let fresh = (only_item w.places (fresh_place 0 f) p k refl is).1 in
        subst (λ (z : LockSeat E). PlaceOk b f [] [] (λ _. 0) 1 j w z) fresh
        (fresh_ok w 0 0 refl refl refl last.0 (omega arith) (λ i mine. some-ne-none 0 (sym mine)))) here)
        (at_more [] (opening b f n) v j at);
    each_apart = apart_more [] (opening b f n) (λ j v at. absurd (some-ne-none v (sym at)))
        (apart_one ((opening b f n).places) (fresh_place 0 f) refl);
    each_stage = λ j v at. subst (λ (z : Knows E B). StageOk [] [] (f ++ []) z z.stage)
        (only_item (opening b f n ∷ []) (opening b f n) v j refl at).1 (le_refl 0);
    each_maker = λ j v at spare. ⊎_elim (λ nothing. absurd (some-ne-none v (sym nothing)))
        (λ last. subst (λ (z : Knows E B). 0 < z.spare → (j ≡ 0) × (z.next ≡ 1) × (1 + z.spare ≡ n)) last.1
        (λ more. (last.0, refl, omega (arith, some_seat))) spare)
        (at_more [] (opening b f n) v j at);
    value_is = inl (x, refl, stored_is ∙ sym (append-nil f), base_is, refl);
  }

  -- the first seat makes the next one
  pub makes : (id : ℕ) (v : Knows E B) (p : LockSeat E) → v.places ≡ p ∷ [] → 0 < v.spare
      → Splits (Turns stored base may_add b f n) id v (maker v) (newcomer v)
  makes id v p one some_spare s r at =
      let w = maker v in let u = newcomer v in let is_maker = r.each_maker id v at some_spare in let made : ℕ = r.made in
      let next : v.next ≡ made = is_maker.1 in
      let views : List (Knows E B) = set s.views id w in let long : length views ≡ length s.views = length-set s.views id w in
      let below = at_below s.views id v at in
      let seats : ℕ → ℕ = λ m. cond (eqb m made) (length views) (r.seat_of m) in let ok =
      r.each_place id 0 v p at (ap (λ (z : List (LockSeat E)). get_elem? z 0) one) in
      let never : (i : ℕ) → ¬ (get_elem? r.owners i ≡ some v.next) = λ i mine. let under = r.owned i v.next mine in
      omega (arith, under, next) in
      let old_place : (j k : ℕ) (t : Knows E B) (q : LockSeat E) → get_elem? s.views j ≡ some t → get_elem? t.places k ≡ some q
      → PlaceOk b f r.owners r.added seats (made + 1) j t q
      = λ j k t q to here. let was = r.each_place j k t q to here in let number = was.is_made in
      place_lies seats (made + 1) j was
      (passed q.number made (length views) (r.seat_of q.number) (λ e. omega (arith, e, number)) ∙ was.lies)
      (let g : made ≤ made + 1 = omega arith in g) in let still = still_there s.views id v (newcomer v) at in record {
        owners = r.owners;
        added = r.added;
        seat_of = seats;
        made = made + 1;
        words_are = r.words_are;
        tickets = r.tickets;
        served = r.served;
        behind = r.behind;
        few = r.few;
        within = let all = is_maker.2 in omega (arith, all, some_spare);
        shares = let sums = total_set parts_of s.views id v w at in let more = sum_by_push parts_of views u in let old =
            r.shares in omega (arith, sums, more, old, some_spare);
        sum = let sums = total_set drawn_of s.views id v w at in let more = sum_by_push drawn_of views u in let old = r.sum in
            omega (arith, sums, more, old);
        owned = λ i number mine. let under = r.owned i number mine in omega (arith, under);
        each_turn = r.each_turn;
        each_place = λ j k t q to here. ⊎_elim
            (λ among. ⊎_elim
            (λ same. subst (λ (z : Knows E B). get_elem? z.places k ≡ some q
            → PlaceOk b f r.owners r.added seats (made + 1) j z q) same.1
            (λ mine. subst (λ (z : ℕ). PlaceOk b f r.owners r.added seats (made + 1) z w q) (sym same.0)
            (place_moves (old_place id k v q at mine) refl refl)) here)
            (λ other. old_place j k t q other.1 here)
            (at_set s.views id j w t among))
            (λ last. subst (λ (z : Knows E B). get_elem? z.places k ≡ some q
            → PlaceOk b f r.owners r.added seats (made + 1) j z q) last.1
            (λ is. let fresh = (only_item u.places (fresh_place v.next v.first) q k refl is).1 in
            subst (λ (z : LockSeat E). PlaceOk b f r.owners r.added seats (made + 1) j u z) fresh
            (fresh_ok u v.next (length views) ok.base_is ok.first_is (chosen v.next made (length views) (r.seat_of v.next) next)
            last.0 (let g : v.next < made + 1 = omega (arith, next) in g) never)) here)
            (at_more views u t j to);
        each_apart = apart_more views u (apart_set s.views id w r.each_apart (apart_one w.places p one))
            (apart_one u.places (fresh_place v.next v.first) refl);
        each_stage = λ j t to. ⊎_elim
            (λ among. ⊎_elim
            (λ same. subst (λ (z : Knows E B). StageOk r.owners r.added (f ++ all_added r.added) z z.stage) same.1
            (stage_makes r.owners r.added (f ++ all_added r.added) v v.stage (r.each_stage id v at)))
            (λ other. r.each_stage j t other.1)
            (at_set s.views id j w t among))
            (λ last. subst (λ (z : Knows E B). StageOk r.owners r.added (f ++ all_added r.added) z z.stage) last.1
            (let g : 0 ≤ length r.added = omega arith in g))
            (at_more views u t j to);
        each_maker = λ j t to spare. ⊎_elim
            (λ among. ⊎_elim
            (λ same. subst (λ (z : Knows E B). 0 < z.spare → (j ≡ 0) × (z.next ≡ made + 1) × (made + 1 + z.spare ≡ n)) same.1
            (λ _. (
              same.0 ∙ is_maker.0,
              ap (λ (z : ℕ). z + 1) next,
              (let all = is_maker.2 in omega (arith, all, some_spare)),
            )) spare)
            (λ other. absurd (other.0 ((r.each_maker j t other.1 spare).0 ∙ sym is_maker.0)))
            (at_set s.views id j w t among))
            (λ last. let none : t.spare ≡ 0 = ap (λ (z : Knows E B). z.spare) (sym last.1) in
            absurd (omega (arith, spare, none)))
            (at_more views u t j to);
        value_is =
            ⊎_elim (λ home. inl home)
            (λ out. let has = out.2 in let now = still has.0 has.1 has.2 in
            inr (
              out.0,
              out.1,
              (has.0, now.seat, now.there, now.stage_is ∙ has.3),
            ))
            r.value_is;
      }
