-- A ticket is drawn where all are served to their end, and the value is taken in the same step: the
-- turn history stays.
use Rattle.std.proofs.Common.{◌≡◌, ℕ, ◌+◌, ◌<◌, ◌≤◌, ◌≢◌, ◌^◌, ◌==◌, Bool, List, [], ◌∷◌, ◌++◌, length, set, get_or, sym, refl}
use Rattle.std.proofs.Common.{ap, ◌∙◌, subst, ⊎_elim, inr, arith, length-append, length-set, eq-eqb, ne_eqb}
use Rattle.std.proofs.Common.{get_or-set_same, get_or-set_other, Option, Some}
use Rattle.std.proofs.lemmas.List.{set-get_or}
use mathlib.Core.Option.{some, none}
use mathlib.Core.Option as maybe
use mathlib.Core.Logic.{dite}
use native.Mathlib.Decide.{ℕ_discrete}
use lib.ListN.{get_elem?}
use prog.Atomic.{either}
use Rattle.atomic_table.specs.Table.{State, Me, step, keeps, takes, Allows}
use Rattle.atomic_table.proofs.Lists.{at_set, set_here, set_again, at_longer, at_last}
use Rattle.history.proofs.Lists.{at_below, at_more, only_item}
use Rattle.history.proofs.Totals.{total_set}
use Rattle.turn_lock.specs.declared.knowledge.Knows.{Knows}
use Rattle.turn_lock.specs.declared.knowledge.LockSeat.{LockSeat}
use Rattle.turn_lock.specs.declared.knowledge.SeatStage.{SeatStage}
use Rattle.turn_lock.specs.declared.knowledge.SeatStage.TheVariants.{Idle, Inside}
use Rattle.turn_lock.specs.Histories.{all_added, GoesOn}
use Rattle.turn_lock.specs.SeatKnowledge.{parts_of, drawn_of, all_drawn, with_ticket, entered}
use Rattle.turn_lock.specs.Turns.{StageOk, PlaceOk, Turns}
use Rattle.turn_lock.specs.Steps.{MayDraw, Drew}
use Rattle.turn_lock.proofs.Lists.{times_more, times_same, times_else}
use Rattle.turn_lock.proofs.PlacesApart.{apart_one, apart_set}
use Rattle.turn_lock.proofs.Histories.{history_few, history_goes_on}
use Rattle.turn_lock.proofs.TicketLooks.{idle_with}

module _ {E B : Type 0} {b : B} {f : List E} {owners : List ℕ} {added : List (List E)} {seat_of : ℕ → ℕ} {made j : ℕ}
    {v : Knows E B} where
  -- the place of another seat when a ticket is drawn
  pub place_else : {p : LockSeat E} (number : ℕ) → length added ≤ length owners → number ≢ p.number
      → PlaceOk b f owners added seat_of made j v p → PlaceOk b f (owners ++ number ∷ []) added seat_of made j v p
  place_else {p} number behind other ok = record {
    base_is = ok.base_is;
    first_is = ok.first_is;
    lies = ok.lies;
    is_made = ok.is_made;
    drawn_is = let drawn = ok.drawn_is in let more = times_more p.number number owners in let none =
        times_else p.number number other in omega (arith, drawn, more, none);
    few = ok.few;
    since = ok.since;
    ended = ok.ended;
    last_is = ok.last_is;
    latest = λ i is. at_longer owners (number ∷ []) i p.number (ok.latest i is);
    others = λ i from below mine. ⊎_elim (ok.others i from below)
        (λ last. let at : i ≡ length owners = last.0 in omega (arith, at, below, behind))
        (at_more owners number p.number i mine);
  }

  -- the place of the seat that draws it
  pub place_draws : {p : LockSeat E} (entries : List E) → length added ≤ length owners → p.drawn < 2 ^ 32
      → PlaceOk b f owners added seat_of made j v p
      → PlaceOk b f (owners ++ p.number ∷ []) added seat_of made j (entered v (length owners) entries)
      (record p { drawn = p.drawn + 1 })
  place_draws {p} entries behind few ok = record {
    base_is = ok.base_is;
    first_is = ok.first_is;
    lies = ok.lies;
    is_made = ok.is_made;
    drawn_is = let drawn = ok.drawn_is in let more = times_more p.number p.number owners in let one = times_same p.number in
        omega (arith, drawn, more, one);
    few = omega (arith, few);
    since = ok.since;
    ended = ok.ended;
    last_is = ok.last_is;
    latest = λ i is. at_longer owners (p.number ∷ []) i p.number (ok.latest i is);
    others = λ i from below mine. ⊎_elim (ok.others i from below)
        (λ last. let at : i ≡ length owners = last.0 in omega (arith, at, below, behind))
        (at_more owners p.number p.number i mine);
  }

module _ {E B : Type 0} (owners : List ℕ) (added : List (List E)) (history : List E) (v : Knows E B) where
  -- what another seat knows of its ticket
  pub stage_else : (number : ℕ) (stage : SeatStage) → StageOk owners added history v stage
      → StageOk (owners ++ number ∷ []) added history v stage
  stage_else number Idle ok = ok
  stage_else number Inside ok = ((ok.0.0, ok.0.1, at_longer owners (number ∷ []) v.ticket ok.0.0.number ok.0.2), ok.1, ok.2)

module _ {V E B : Type 0} (stored : V → List E) (base : V → B) (may_add : B → ℕ → E → Bool) (b : B) (f : List E) (n : ℕ) where
  -- the history after the draw
  after_draw : (s : State (Option V) (Knows E B)) (r : Turns stored base may_add b f n s) (id : ℕ) (v : Knows E B)
      (p : LockSeat E)
      (x : V) (word : ℕ) (homes : List (maybe.Option (Option V))) → get_elem? s.views id ≡ some v → v.places ≡ p ∷ []
      → v.stage ≡ Idle → p.drawn < 2 ^ 32 → length r.added ≡ length r.owners → stored x ≡ f ++ all_added r.added
      → homes ≡ none ∷ [] → word ≡ length r.owners + 1 → Turns stored base may_add b f n record {
        words = set s.words 0 word;
        homes = homes;
        views = set s.views id (entered v (length r.owners) (stored x));
      }
  after_draw s r id v p x word homes at one idle few even seen out is =
      let w = entered v (length r.owners) (stored x) in let there : get_elem? v.places 0 ≡ some p =
      ap (λ (z : List (LockSeat E)). get_elem? z 0) one in let ok = r.each_place id 0 v p at there in
      let more : List ℕ = r.owners ++ p.number ∷ [] in let long : length more ≡ length r.owners + 1 =
      length-append r.owners (p.number ∷ []) ∙ (omega arith) in
      let behind = r.behind in let two = r.words_are in let below = at_below s.views id v at in
      let here = set_here s.views id w below in
      let places : w.places ≡ record p { drawn = p.drawn + 1 } ∷ [] = ap with_ticket one in record {
        owners = more;
        added = r.added;
        seat_of = r.seat_of;
        made = r.made;
        words_are = length-set s.words 0 word ∙ two;
        tickets = get_or-set_same s.words 0 word 0 (omega (arith, two)) ∙ is ∙ sym long;
        served = get_or-set_other s.words 0 1 word 0 (λ e. omega arith) ∙ r.served;
        behind = omega (arith, behind, long);
        few = r.few;
        within = r.within;
        shares = let all = total_set parts_of s.views id v w at in let old = r.shares in let a : length v.places ≡ 1 =
            ap length one in let c : length w.places ≡ 1 = ap length places in omega (arith, all, old, a, c);
        sum = let all = total_set drawn_of s.views id v w at in let old = r.sum in let a : all_drawn v.places ≡ p.drawn + 0 =
            ap all_drawn one in let c : all_drawn w.places ≡ (p.drawn + 1) + 0 = ap all_drawn places in
            omega (arith, all, old, a, c, long);
        owned = λ i number mine. ⊎_elim (r.owned i number) (λ last. subst (λ (z : ℕ). z < r.made) last.1 ok.is_made)
            (at_more r.owners p.number number i mine);
        each_turn = λ i number entries mine turn. ⊎_elim (λ old. r.each_turn i number entries old turn)
            (λ last. let here = last.0 in let sooner = at_below r.added i entries turn in
            absurd (omega (arith, here, sooner, behind))) (at_more r.owners p.number number i mine);
        each_place = λ j k u q to here. ⊎_elim
            (λ same. let drawn = (only_item w.places (record p { drawn = p.drawn + 1 }) q k places
            (subst (λ (z : Knows E B). get_elem? z.places k ≡ some q) (sym same.1) here)).1 in
            subst (λ (z : LockSeat E). PlaceOk b f more r.added r.seat_of r.made j u z) drawn
            (subst (λ (z : Knows E B). PlaceOk b f more r.added r.seat_of r.made j z (record p { drawn = p.drawn + 1 })) same.1
            (subst (λ (z : ℕ). PlaceOk b f more r.added r.seat_of r.made z w (record p { drawn = p.drawn + 1 })) (sym same.0)
            (place_draws (stored x) behind few ok))))
            (λ other. let old = r.each_place j k u q other.1 here in
            place_else p.number behind (λ e. other.0 (sym old.lies ∙ ap r.seat_of (sym e) ∙ ok.lies)) old)
            (at_set s.views id j w u to);
        each_apart = apart_set s.views id w r.each_apart (apart_one w.places (record p { drawn = p.drawn + 1 }) places);
        each_stage = λ j u to. ⊎_elim
            (λ same. subst (λ (z : Knows E B). StageOk more r.added (f ++ all_added r.added) z z.stage) same.1
            ((record p { drawn = p.drawn + 1 }, places, at_last r.owners p.number (length r.owners) refl), sym even, seen))
            (λ other. stage_else r.owners r.added (f ++ all_added r.added) u p.number u.stage (r.each_stage j u other.1))
            (at_set s.views id j w u to);
        each_maker = λ j u to spare. ⊎_elim
            (λ same. subst (λ (z : Knows E B). 0 < z.spare → (j ≡ 0) × (z.next ≡ r.made) × (r.made + z.spare ≡ n)) same.1
            (λ some_spare. let had = r.each_maker id v at some_spare in (same.0 ∙ had.0, had.1, had.2)) spare)
            (λ other. r.each_maker j u other.1 spare)
            (at_set s.views id j w u to);
        value_is = inr (out, (let g : length more ≡ length r.added + 1 = omega (arith, long, even) in g), (id, w, here, refl));
      }

  -- where all tickets are served to their end, the value is in its slot
  value_at_home : (s : State (Option V) (Knows E B)) (r : Turns stored base may_add b f n s)
      → length r.added ≡ length r.owners
      → (x : V) × (s.homes ≡ some (Some x) ∷ []) × (stored x ≡ f ++ all_added r.added) × (base x ≡ b)
  value_at_home s r even = ⊎_elim (λ home. (home.0, home.1, home.2, home.3))
      (λ out. let one = out.1 in absurd (omega (arith, one, even)))
      r.value_is

  -- a seat that is idle may draw the ticket that it has found served, and take the value
  pub draws : (slots id old next : ℕ) (me : Me (Option V) (Knows E B)) → MayDraw me.0.places → me.0.stage ≡ Idle
      → me.0.ticket ≡ old → next ≡ old + 1
      → Allows (Turns stored base may_add b f n) slots id me 0 (λ x. either (x == old) next x)
      (Drew stored base may_add (step slots 0 old next none) me)
  draws slots id old next me may idle known is_next s r wide at _ =
      let found : ℕ = get_or s.words 0 0 in let p = may.0 in let first : get_elem? me.0.places 0 ≡ some p =
      ap (λ (z : List (LockSeat E)). get_elem? z 0) may.1 in let ok = r.each_place id 0 me.0 p at first in
      let is : found ≡ length r.owners = r.tickets in dite (ℕ_discrete found old)
      (λ hit. let sooner = idle_with stored base may_add b f n s r id me.0 at idle in let behind = r.behind in
      let even : length r.added ≡ length r.owners = omega (arith, sooner, behind, known, hit, is) in
      let home = value_at_home s r even in let x : V = home.0 in (
        entered me.0 found (stored x),
        takes 0 (Some x),
        ap (λ (z : List (maybe.Option (Option V))). get_elem? z 0) home.1,
        subst (λ (z : ℕ × ℕ). Turns stored base may_add b f n record {
          words = set s.words 0 z.0;
          homes = set s.homes 0 none;
          views = set s.views id (entered me.0 z.1 (stored x));
        }) (λ k. (sym (ap (λ (z : Bool). either z next found) (eq-eqb found old hit)) k, sym is k))
            (after_draw s r id me.0 p x next (set s.homes 0 none) at may.1 idle may.2 even home.2
            (ap (λ (z : List (maybe.Option (Option V))). set z 0 none) home.1)
            (let g : next ≡ length r.owners + 1 = omega (arith, is_next, hit, is) in g)),
        record {
          drawn = λ _. (
            x,
            refl,
            record {
              base_is = ok.base_is ∙ ap Some (sym home.3);
              goes_on = λ q one. subst (λ (z : B). GoesOn (may_add z) q.number q.last (stored x)) (sym home.3)
                  (subst (λ (z : List E). GoesOn (may_add b) q.number q.last z) (sym home.2)
                  (history_goes_on stored base may_add b f n s r id 0 me.0 q at
                  (ap (λ (z : List (LockSeat E)). get_elem? z 0) one)));
              few = subst (λ (z : List E). length (stored x) ≤ length z + 2 ^ 37) (sym ok.first_is)
                  (subst (λ (z : List E). length z ≤ length f + 2 ^ 37) (sym home.2)
                  (history_few stored base may_add b f n s r));
            },
          );
          missed = λ miss. absurd (miss hit);
        },
      ))
      (λ miss. (
        me.0,
        keeps,
        tt,
        subst (λ (z : List ℕ × List (Knows E B)). Turns stored base may_add b f n record {
          words = z.0;
          homes = s.homes;
          views = z.1;
        }) (λ k. (
          sym (ap (λ (z : Bool). set s.words 0 (either z next found)) (ne_eqb found old miss) ∙ set-get_or s.words 0 0) k,
          sym (set_again s.views id me.0 at) k,
        )) r,
        record { drawn = λ hit. absurd (miss hit); missed = λ _. refl },
      ))
