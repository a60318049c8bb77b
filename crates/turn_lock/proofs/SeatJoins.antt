-- A seat takes in another: the turn history stays.
use Rattle.std.proofs.Common.{◌≡◌, ℕ, ◌+◌, ◌<◌, ◌≤◌, ◌≢◌, eqb, cond, Bool, List, [], ◌++◌, length, set, sym, refl, ap, ◌∙◌}
use Rattle.std.proofs.Common.{subst, sum_by, ⊎_elim, inl, inr, le_refl, arith, length-append}
use mathlib.Core.Option.{some, some-injective, some-ne-none}
use lib.ListN.{get_elem?}
use Rattle.atomic_table.specs.Table.{Joins}
use Rattle.atomic_table.proofs.Lists.{at_set, set_else}
use Rattle.history.proofs.Lists.{at_both}
use Rattle.history.proofs.Totals.{total_set}
use Rattle.turn_lock.specs.declared.knowledge.Knows.{Knows}
use Rattle.turn_lock.specs.declared.knowledge.LockSeat.{LockSeat}
use Rattle.turn_lock.specs.declared.knowledge.SeatStage.{SeatStage}
use Rattle.turn_lock.specs.declared.knowledge.SeatStage.TheVariants.{Idle, Inside}
use Rattle.turn_lock.specs.Histories.{all_added}
use Rattle.turn_lock.specs.SeatKnowledge.{parts_of, drawn_of, joined, spent}
use Rattle.turn_lock.specs.Turns.{StageOk, PlaceOk, Turns}
use Rattle.turn_lock.proofs.Lists.{drawn_join}
use Rattle.turn_lock.proofs.PlacesApart.{apart_none, apart_join, apart_set}
use Rattle.turn_lock.proofs.Histories.{chosen, passed, idle_not_inside, place_moves, place_lies}
use Rattle.turn_lock.proofs.TicketLooks.{idle_with}

module _ {V E B : Type 0} (stored : V → List E) (base : V → B) (may_add : B → ℕ → E → Bool) (b : B) (f : List E) (n : ℕ) where
  -- an idle seat takes in another
  pub joins : (id : ℕ) (v : Knows E B) (other : ℕ) (w : Knows E B) (p : LockSeat E) → get_elem? v.places 0 ≡ some p
      → v.stage ≡ Idle → w.stage ≡ Idle → w.spare ≡ 0
      → Joins (Turns stored base may_add b f n) id v other w (joined v w) spent
  joins id v other w p one idle also_idle no_spare s r at apart to =
      let both = joined v w in let old : get_elem? s.views other ≡ some w = sym (set_else s.views id other both apart) ∙ to in
      let mid : List (Knows E B) = set s.views id both in
      let first = r.each_place id 0 v p at one in let seats : ℕ → ℕ = λ m. cond (eqb (r.seat_of m) other) id (r.seat_of m) in
      let still : (j : ℕ) (t : Knows E B) → get_elem? s.views j ≡ some t → t.stage ≡ Inside
      → get_elem? (set mid other spent) j ≡ some t
      = λ j t here inside. let not_id : j ≢ id =
      λ e. idle_not_inside t.stage
      (ap (λ (z : Knows E B). z.stage) (some-injective t v (sym here ∙ ap (λ (z : ℕ). get_elem? s.views z) e ∙ at))
      ∙ idle) inside in
      let not_other : j ≢ other =
      λ e. idle_not_inside t.stage
      (ap (λ (z : Knows E B). z.stage) (some-injective t w (sym here ∙ ap (λ (z : ℕ). get_elem? s.views z) e ∙ old))
      ∙ also_idle) inside in
      set_else mid other j spent not_other ∙ (set_else s.views id j both not_id ∙ here) in
      let mine : (k : ℕ) (q : LockSeat E) → get_elem? v.places k ≡ some q → PlaceOk b f r.owners r.added seats r.made id both q
      = λ k q here. let was = r.each_place id k v q at here in
      place_moves
      (place_lies seats r.made id was
      (passed (r.seat_of q.number) other id (r.seat_of q.number) (λ e. apart (sym e ∙ was.lies)) ∙ was.lies)
      (le_refl r.made)) refl refl in
      let yours : (k : ℕ) (q : LockSeat E) → get_elem? w.places k ≡ some q → PlaceOk b f r.owners r.added seats r.made id both q
      = λ k q here. let was = r.each_place other k w q old here in
      place_moves (place_lies seats r.made id was (chosen (r.seat_of q.number) other id (r.seat_of q.number) was.lies)
      (le_refl r.made)) (first.base_is ∙ sym was.base_is) (first.first_is ∙ sym was.first_is) in
      let sums : (g : Knows E B → ℕ) → g both ≡ g v + g w → g spent ≡ 0 → sum_by g (set mid other spent) ≡ sum_by g s.views
      = λ g added empty. let a = total_set g s.views id v both at in let c = total_set g mid other w spent to in
      omega (arith, a, c, added, empty) in record {
        owners = r.owners;
        added = r.added;
        seat_of = seats;
        made = r.made;
        words_are = r.words_are;
        tickets = r.tickets;
        served = r.served;
        behind = r.behind;
        few = r.few;
        within = r.within;
        shares = sums parts_of (let long = length-append w.places v.places in omega (arith, long)) refl ∙ r.shares;
        sum = sums drawn_of (let all = drawn_join w.places v.places in omega (arith, all)) refl ∙ r.sum;
        owned = r.owned;
        each_turn = r.each_turn;
        each_place = λ j k t q here there. ⊎_elim
            (λ same. let nothing : get_elem? [] k
            ≡ some q = subst (λ (z : Knows E B). get_elem? z.places k ≡ some q) (sym same.1) there in
            absurd (some-ne-none q (sym nothing)))
            (λ among. ⊎_elim
            (λ same. subst (λ (z : Knows E B). get_elem? z.places k ≡ some q
            → PlaceOk b f r.owners r.added seats r.made j z q) same.1
            (λ is. subst (λ (z : ℕ). PlaceOk b f r.owners r.added seats r.made z both q) (sym same.0)
            (⊎_elim (λ theirs. yours k q theirs) (λ own_one. mine own_one.0 q own_one.2)
            (at_both w.places v.places k q is))) there)
            (λ else. let was = r.each_place j k t q else.1 there in
            place_lies seats r.made j was
            (passed (r.seat_of q.number) other id (r.seat_of q.number) (λ e. among.0 (sym was.lies ∙ e)) ∙ was.lies)
            (le_refl r.made))
            (at_set s.views id j both t among.1))
            (at_set mid other j spent t here);
        each_apart = apart_set mid other spent
            (apart_set s.views id both r.each_apart
            (apart_join w.places v.places (r.each_apart other w old) (r.each_apart id v at)
            (λ k l q u here there same. apart
            (sym (r.each_place other k w q old here).lies ∙ ap r.seat_of same ∙ (r.each_place id l v u at there).lies))))
            (apart_none [] refl);
        each_stage = λ j t here. ⊎_elim
            (λ same. subst (λ (z : Knows E B). StageOk r.owners r.added (f ++ all_added r.added) z z.stage) same.1
            (let g : 0 ≤ length r.added = omega arith in g))
            (λ among. ⊎_elim
            (λ same. subst (λ (z : Knows E B). StageOk r.owners r.added (f ++ all_added r.added) z z.stage) same.1
            (subst (λ (z : SeatStage). StageOk r.owners r.added (f ++ all_added r.added) both z) (sym idle)
            (idle_with stored base may_add b f n s r id v at idle)))
            (λ else. r.each_stage j t else.1)
            (at_set s.views id j both t among.1))
            (at_set mid other j spent t here);
        each_maker = λ j t here spare. ⊎_elim
            (λ same. let nothing : t.spare ≡ 0 = ap (λ (z : Knows E B). z.spare) (sym same.1) in
            absurd (omega (arith, spare, nothing)))
            (λ among. ⊎_elim
            (λ same. subst (λ (z : Knows E B). 0 < z.spare → (j ≡ 0) × (z.next ≡ r.made) × (r.made + z.spare ≡ n)) same.1
            (λ some_spare. let had = r.each_maker id v at (let g : 0 < v.spare = omega (arith, some_spare, no_spare) in g) in
            (same.0 ∙ had.0, had.1, (let all = had.2 in omega (arith, all, no_spare)))) spare)
            (λ else. r.each_maker j t else.1 spare)
            (at_set s.views id j both t among.1))
            (at_set mid other j spent t here);
        value_is =
            ⊎_elim (λ home. inl home)
            (λ out. let has = out.2 in inr (out.0, out.1, (has.0, has.1, still has.0 has.1 has.2 has.3, has.3)))
            r.value_is;
      }
