-- A turn ends: the turn history stays, with what the turn added.
use Rattle.std.proofs.Common.{◌≡◌, ℕ, ◌+◌, ◌<◌, ◌≤◌, ◌≢◌, Bool, List, [], ◌∷◌, ◌++◌, length, set, refl, sym, ap, ◌∙◌, subst}
use Rattle.std.proofs.Common.{⊎_elim}
use Rattle.std.proofs.Common.{inl, eq-or-lt_of_le, arith, append_assoc, length-append, length-set, get_or-set_same}
use Rattle.std.proofs.Common.{get_or-set_other, Option, Some, unwrap_or}
use Rattle.std.proofs.lemmas.List.{take-append-le}
use Rattle.std.proofs.Math.Seq.{take-length}
use mathlib.Core.Option.{some, none}
use lib.ListN.{get_elem?}
use Rattle.atomic_table.specs.Table.{State, Me, step, gives, rest, stepped, Allows}
use Rattle.atomic_table.proofs.Lists.{at_set}
use Rattle.history.proofs.Lists.{at_below, at_more, only_item}
use Rattle.history.proofs.Totals.{total_set}
use Rattle.turn_lock.specs.declared.knowledge.Knows.{Knows}
use Rattle.turn_lock.specs.declared.knowledge.LockSeat.{LockSeat}
use Rattle.turn_lock.specs.declared.knowledge.SeatStage.{SeatStage}
use Rattle.turn_lock.specs.declared.knowledge.SeatStage.TheVariants.{Idle, Inside}
use Rattle.turn_lock.specs.Histories.{all_added, IsTurn, Adds}
use Rattle.turn_lock.specs.SeatKnowledge.{parts_of, drawn_of, all_drawn, with_last, left}
use Rattle.turn_lock.specs.Turns.{StageOk, PlaceOk, Turns}
use Rattle.turn_lock.specs.Steps.{Left}
use Rattle.turn_lock.proofs.Lists.{added_more}
use Rattle.turn_lock.proofs.PlacesApart.{apart_one, apart_set}
use Rattle.turn_lock.proofs.Histories.{set_only, two_same}
use Rattle.turn_lock.proofs.TicketLooks.{inside_with}

module _ {E B : Type 0} {b : B} {f : List E} {owners : List ℕ} {added : List (List E)} {seat_of : ℕ → ℕ} {made j : ℕ}
    {v : Knows E B} where
  -- the place of another seat when a turn ends
  pub place_waits : {p : LockSeat E} (owner : ℕ) (entries : List E) → get_elem? owners (length added) ≡ some owner
      → owner ≢ p.number → PlaceOk b f owners added seat_of made j v p
      → PlaceOk b f owners (added ++ entries ∷ []) seat_of made j v p
  place_waits {p} owner entries whose other ok = let long = length-append added (entries ∷ []) in record {
    base_is = ok.base_is;
    first_is = ok.first_is;
    lies = ok.lies;
    is_made = ok.is_made;
    drawn_is = ok.drawn_is;
    few = ok.few;
    since = ok.since;
    ended = let old = ok.ended in omega (arith, old, long);
    last_is = ok.last_is
        ∙ ap (λ (z : List (List E)). f ++ all_added z) (sym (take-append-le ok.since added (entries ∷ []) ok.ended));
    latest = ok.latest;
    others = λ i from below mine. ⊎_elim
        (λ last. other
        (two_same owners i owner p.number (subst (λ (z : ℕ). get_elem? owners z ≡ some owner) (sym last) whose) mine))
        (λ sooner. ok.others i from sooner mine)
        (eq-or-lt_of_le (let g : i ≤ length added = omega (arith, below, long) in g));
  }

  -- the place of the seat whose turn it is
  pub place_leaves : {p : LockSeat E} (entries stored : List E) → get_elem? owners (length added) ≡ some p.number
      → stored ≡ (f ++ all_added added) ++ entries → PlaceOk b f owners added seat_of made j v p
      → PlaceOk b f owners (added ++ entries ∷ []) seat_of made j (left v stored) (record p { last = stored })
  place_leaves {p} entries stored whose is ok = let more : List (List E) = added ++ entries ∷ [] in
      let long : length more ≡ length added + 1 = length-append added (entries ∷ []) ∙ (omega arith) in record {
        base_is = ok.base_is;
        first_is = ok.first_is;
        lies = ok.lies;
        is_made = ok.is_made;
        drawn_is = ok.drawn_is;
        few = ok.few;
        since = length more;
        ended = omega arith;
        last_is = is ∙ append_assoc f (all_added added) entries ∙ ap (λ (z : List E). f ++ z) (sym (added_more added entries))
            ∙ ap (λ (z : List (List E)). f ++ all_added z) (sym (take-length more));
        latest = λ i at. let here : length added ≡ i = omega (arith, at, long) in
            subst (λ (z : ℕ). get_elem? owners z ≡ some p.number) here whose;
        others = λ i from below mine. absurd (omega (arith, from, below));
      }

module _ {E B : Type 0} (owners : List ℕ) (added : List (List E)) (history later : List E) (v : Knows E B) (owner : ℕ)
    (entries : List E) where
  -- what another seat knows of its ticket
  pub stage_waits : get_elem? owners (length added) ≡ some owner → ((p : LockSeat E) → v.places ≡ p ∷ [] → owner ≢ p.number)
      → (stage : SeatStage) → StageOk owners added history v stage → StageOk owners (added ++ entries ∷ []) later v stage
  stage_waits whose other Idle ok = let long = length-append added (entries ∷ []) in omega (arith, ok, long)
  stage_waits whose other Inside ok = let p = ok.0.0 in
      absurd
      (other p ok.0.1 (two_same owners v.ticket owner p.number
      (subst (λ (z : ℕ). get_elem? owners z ≡ some owner) (sym ok.1) whose) ok.0.2))

module _ {V : Type 0} where
  -- the value that was taken last
  value_in : List (ℕ × Option V) → V → V
  value_in [] x = x
  value_in (c ∷ cs) x = unwrap_or c.1 x

  -- the value that was taken is the one that was read
  pub same_value : (cs ds bs : List (ℕ × Option V)) (r : Option V) (x y : V) → cs ≡ (0, Some x) ∷ ds → cs ≡ (0, r) ∷ bs
      → r ≡ Some y → x ≡ y
  unfolding value_in
  same_value cs ds bs r x y one other is =
      ap (λ (z : List (ℕ × Option V)). value_in z x) (sym one ∙ other) ∙ ap (λ (z : Option V). unwrap_or z x) is

module _ {V E B : Type 0} (stored : V → List E) (base : V → B) (may_add : B → ℕ → E → Bool) (b : B) (f : List E) (n : ℕ) where
  -- the history after the turn
  after_turn : (s : State (Option V) (Knows E B)) (r : Turns stored base may_add b f n s) (id : ℕ) (v : Knows E B)
      (p : LockSeat E)
      (x : V) (entries : List E) (word : ℕ) → get_elem? s.views id ≡ some v → v.places ≡ p ∷ [] → v.stage ≡ Inside
      → base x ≡ b → stored x ≡ v.seen ++ entries → IsTurn (may_add b) p.number entries → word ≡ v.ticket + 1
      → Turns stored base may_add b f n record {
        words = set s.words 1 word;
        homes = set s.homes 0 (some (Some x));
        views = set s.views id (left v (stored x));
      }
  after_turn s r id v p x entries word at one inside base_is is turn next =
      let w = left v (stored x) in let p' = record p { last = stored x } in let there : get_elem? v.places 0 ≡ some p =
      ap (λ (z : List (LockSeat E)). get_elem? z 0) one in let ok = r.each_place id 0 v p at there in
      let places : w.places ≡ p' ∷ [] = ap (with_last (stored x)) one in let mine =
      inside_with stored base may_add b f n s r id v at inside in
      let same : mine.0.0 ≡ p = (only_item v.places mine.0.0 p 0 mine.0.1 there).1 in
      let served : v.ticket ≡ length r.added = mine.1 in
      let whose : get_elem? r.owners (length r.added) ≡ some p.number =
      subst (λ (z : ℕ). get_elem? r.owners z ≡ some p.number) served
      (mine.0.2 ∙ ap (λ (z : LockSeat E). some z.number) same) in
      let all : stored x ≡ (f ++ all_added r.added) ++ entries = is ∙ ap (λ (z : List E). z ++ entries) mine.2 in
      let more : List (List E) = r.added ++ entries ∷ [] in let long : length more ≡ length r.added + 1 =
      length-append r.added (entries ∷ []) ∙ (omega arith) in
      let later : stored x ≡ f ++ all_added more =
      all ∙ append_assoc f (all_added r.added) entries ∙ ap (λ (z : List E). f ++ z) (sym (added_more r.added entries)) in
      let drawn = at_below r.owners (length r.added) p.number whose in let two = r.words_are in
      let number_else : (j k : ℕ) (u : Knows E B) (q : LockSeat E) → j ≢ id → get_elem? s.views j ≡ some u
      → get_elem? u.places k ≡ some q → p.number ≢ q.number
      = λ j k u q other to here e. other (sym (r.each_place j k u q to here).lies ∙ ap r.seat_of (sym e) ∙ ok.lies) in record {
        owners = r.owners;
        added = more;
        seat_of = r.seat_of;
        made = r.made;
        words_are = length-set s.words 1 word ∙ two;
        tickets = get_or-set_other s.words 1 0 word 0 (λ e. omega arith) ∙ r.tickets;
        served = get_or-set_same s.words 1 word 0 (omega (arith, two)) ∙ next ∙ ap (λ (z : ℕ). z + 1) served ∙ sym long;
        behind = omega (arith, drawn, long);
        few = r.few;
        within = r.within;
        shares = let sums = total_set parts_of s.views id v w at in let old = r.shares in let a : length v.places ≡ 1 =
            ap length one in let c : length w.places ≡ 1 = ap length places in omega (arith, sums, old, a, c);
        sum = let sums = total_set drawn_of s.views id v w at in let old = r.sum in let a : all_drawn v.places ≡ p.drawn + 0 =
            ap all_drawn one in let c : all_drawn w.places ≡ p.drawn + 0 = ap all_drawn places in
            omega (arith, sums, old, a, c);
        owned = r.owned;
        each_turn = λ i number es owner turns. ⊎_elim (λ old. r.each_turn i number es owner old)
            (λ last. let who : p.number ≡ number = two_same r.owners i p.number number
            (subst (λ (z : ℕ). get_elem? r.owners z ≡ some p.number) (sym last.0) whose) owner in
            subst (λ (z : List E). IsTurn (may_add b) number z) last.1
            (subst (λ (z : ℕ). IsTurn (may_add b) z entries) who turn))
            (at_more r.added entries es i turns);
        each_place = λ j k u q to here. ⊎_elim
            (λ same_seat. let is_q = (only_item w.places p' q k places
            (subst (λ (z : Knows E B). get_elem? z.places k ≡ some q) (sym same_seat.1) here)).1 in
            subst (λ (z : LockSeat E). PlaceOk b f r.owners more r.seat_of r.made j u z) is_q
            (subst (λ (z : Knows E B). PlaceOk b f r.owners more r.seat_of r.made j z p') same_seat.1
            (subst (λ (z : ℕ). PlaceOk b f r.owners more r.seat_of r.made z w p') (sym same_seat.0)
            (place_leaves entries (stored x) whose all ok))))
            (λ other. place_waits p.number entries whose (number_else j k u q other.0 other.1 here)
            (r.each_place j k u q other.1 here))
            (at_set s.views id j w u to);
        each_apart = apart_set s.views id w r.each_apart (apart_one w.places p' places);
        each_stage = λ j u to. ⊎_elim
            (λ same_seat. subst (λ (z : Knows E B). StageOk r.owners more (f ++ all_added more) z z.stage) same_seat.1
            (let g : v.ticket ≤ length more = omega (arith, served, long) in g))
            (λ other. stage_waits r.owners r.added (f ++ all_added r.added) (f ++ all_added more) u p.number entries whose
            (λ q only. number_else j 0 u q other.0 other.1 (ap (λ (z : List (LockSeat E)). get_elem? z 0) only)) u.stage
            (r.each_stage j u other.1))
            (at_set s.views id j w u to);
        each_maker = λ j u to spare. ⊎_elim
            (λ same_seat. subst (λ (z : Knows E B). 0 < z.spare → (j ≡ 0) × (z.next ≡ r.made) × (r.made + z.spare ≡ n))
            same_seat.1 (λ some_spare. let had = r.each_maker id v at some_spare in
            (same_seat.0 ∙ had.0, had.1, had.2)) spare)
            (λ other. r.each_maker j u other.1 spare)
            (at_set s.views id j w u to);
        value_is = inl (
          x,
          set_only s.homes (some (Some x)) (⊎_elim (λ home. ap length home.1) (λ out. ap length out.0) r.value_is),
          later,
          base_is,
          ⊎_elim (λ home. let even = home.4 in absurd (omega (arith, even, drawn))) (λ out. out.1 ∙ sym long) r.value_is,
        );
      }

  -- a seat that is inside may end its turn
  pub leaves : (slots id : ℕ) (me : Me (Option V) (Knows E B)) (p : LockSeat E) (x : V) (word : ℕ) → me.0.places ≡ p ∷ []
      → me.0.stage ≡ Inside → me.1 ≡ (0, Some x) ∷ [] → me.0.base ≡ Some (base x)
      → Adds (may_add (base x)) p.number me.0.seen (stored x)
      → word ≡ me.0.ticket + 1 → Allows (Turns stored base may_add b f n) slots id me 1 (λ _. word)
      (λ _. Left stored (step slots 1 word 0 none) me word)
  leaves slots id me p x word one inside has known adds next s r wide at _ =
      let base_is : base x ≡ b =
      ap (λ (o : Option B). unwrap_or o b)
      (sym known ∙ (r.each_place id 0 me.0 p at (ap (λ (z : List (LockSeat E)). get_elem? z 0) one)).base_is) in (
        left me.0 (stored x),
        gives,
        tt,
        subst (λ (z : List (ℕ × Option V)). Turns stored base may_add b f n
            (stepped s 1 word id z (left me.0 (stored x)) gives)) (sym has)
            (after_turn s r id me.0 p x adds.0 word at one inside base_is adds.1
            (subst (λ (z : B). IsTurn (may_add z) p.number adds.0) base_is adds.2) next),
        (λ y also k. (left me.0 (stored (same_value me.1 [] [] (Some y) x y has also refl k)), rest (has k))),
      )
