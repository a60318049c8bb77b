-- A look at the ticket that is served: the turn history stays.
use Rattle.std.proofs.Common.{◌≡◌, ℕ, ◌+◌, ◌<◌, ◌≤◌, Bool, List, ◌++◌, length, set, get_or, sym, refl, ap, ◌∙◌, subst}
use Rattle.std.proofs.Common.{⊎_elim, inl, inr, arith, Option}
use Rattle.std.proofs.lemmas.List.{set-get_or}
use mathlib.Core.Option.{some, none, some-injective}
use lib.ListN.{get_elem?}
use Rattle.atomic_table.specs.Table.{State, Me, step, keeps, Allows}
use Rattle.atomic_table.proofs.Lists.{at_set, set_else}
use Rattle.history.proofs.Totals.{total_set}
use Rattle.turn_lock.specs.declared.knowledge.Knows.{Knows}
use Rattle.turn_lock.specs.declared.knowledge.SeatStage.{SeatStage}
use Rattle.turn_lock.specs.declared.knowledge.SeatStage.TheVariants.{Idle, Inside}
use Rattle.turn_lock.specs.Histories.{all_added}
use Rattle.turn_lock.specs.SeatKnowledge.{parts_of, drawn_of, looked}
use Rattle.turn_lock.specs.Turns.{HasTicket, StageOk, PlaceOk, Turns}
use Rattle.turn_lock.specs.Steps.{Looked}
use Rattle.turn_lock.proofs.PlacesApart.{apart_set}
use Rattle.turn_lock.proofs.Histories.{idle_not_inside, place_moves, tickets_below}

module _ {V E B : Type 0} (stored : V → List E) (base : V → B) (may_add : B → ℕ → E → Bool) (b : B) (f : List E) (n : ℕ) where
  -- what a seat that is idle has found served
  pub idle_with : (s : State (Option V) (Knows E B)) (r : Turns stored base may_add b f n s) (id : ℕ) (v : Knows E B)
      → get_elem? s.views id ≡ some v → v.stage ≡ Idle → v.ticket ≤ length r.added
  idle_with s r id v at idle =
      subst (λ (z : SeatStage). StageOk r.owners r.added (f ++ all_added r.added) v z) idle (r.each_stage id v at)

  -- what a seat that is inside has
  pub inside_with : (s : State (Option V) (Knows E B)) (r : Turns stored base may_add b f n s) (id : ℕ) (v : Knows E B)
      → get_elem? s.views id ≡ some v → v.stage ≡ Inside
      → HasTicket r.owners r.added (f ++ all_added r.added) v × (v.ticket ≡ length r.added) × (v.seen ≡ f ++ all_added r.added)
  inside_with s r id v at inside =
      subst (λ (z : SeatStage). StageOk r.owners r.added (f ++ all_added r.added) v z) inside (r.each_stage id v at)

  -- a seat that is inside is another than one that is idle
  pub inside_else : (s : State (Option V) (Knows E B)) (id : ℕ) (v w : Knows E B) → get_elem? s.views id ≡ some v
      → v.stage ≡ Idle
      → (j : ℕ) (u : Knows E B) → get_elem? s.views j ≡ some u → u.stage ≡ Inside → get_elem? (set s.views id w) j ≡ some u
  inside_else s id v w at idle j u to inside = set_else s.views id j w
      (λ e. idle_not_inside u.stage
      (ap (λ (z : Knows E B). z.stage) (some-injective u v (sym to ∙ ap (λ (z : ℕ). get_elem? s.views z) e ∙ at))
      ∙ idle) inside)
      ∙ to

  -- the history after the look
  after_look : (s : State (Option V) (Knows E B)) (r : Turns stored base may_add b f n s) (id : ℕ) (v : Knows E B) (served : ℕ)
      → get_elem? s.views id ≡ some v → v.stage ≡ Idle → served ≤ length r.added
      → Turns stored base may_add b f n record { words = s.words; homes = s.homes; views = set s.views id (looked v served) }
  after_look s r id v served at idle sooner = let w = looked v served in record {
    owners = r.owners;
    added = r.added;
    seat_of = r.seat_of;
    made = r.made;
    words_are = r.words_are;
    tickets = r.tickets;
    served = r.served;
    behind = r.behind;
    few = r.few;
    within = r.within;
    shares = let all = total_set parts_of s.views id v w at in let old = r.shares in omega (arith, all, old);
    sum = let all = total_set drawn_of s.views id v w at in let old = r.sum in omega (arith, all, old);
    owned = r.owned;
    each_turn = r.each_turn;
    each_place = λ j k u q to there. ⊎_elim
        (λ same. subst (λ (z : Knows E B). get_elem? z.places k ≡ some q
        → PlaceOk b f r.owners r.added r.seat_of r.made j z q) same.1
        (λ mine_there. subst (λ (z : ℕ). PlaceOk b f r.owners r.added r.seat_of r.made z w q) (sym same.0)
        (place_moves (r.each_place id k v q at mine_there) refl refl)) there)
        (λ other. r.each_place j k u q other.1 there)
        (at_set s.views id j w u to);
    each_apart = apart_set s.views id w r.each_apart (r.each_apart id v at);
    each_stage = λ j u to. ⊎_elim
        (λ same. subst (λ (z : Knows E B). StageOk r.owners r.added (f ++ all_added r.added) z z.stage) same.1
        (subst (λ (z : SeatStage). StageOk r.owners r.added (f ++ all_added r.added) w z) (sym idle) sooner))
        (λ other. r.each_stage j u other.1)
        (at_set s.views id j w u to);
    each_maker = λ j u to spare. ⊎_elim
        (λ same. subst (λ (z : Knows E B). 0 < z.spare → (j ≡ 0) × (z.next ≡ r.made) × (r.made + z.spare ≡ n)) same.1
        (λ some_spare. let had = r.each_maker id v at some_spare in (same.0 ∙ had.0, had.1, had.2)) spare)
        (λ other. r.each_maker j u other.1 spare)
        (at_set s.views id j w u to);
    value_is =
        ⊎_elim (λ home. inl home)
        (λ out. let has = out.2 in
        inr (out.0, out.1, (has.0, has.1, inside_else s id v w at idle has.0 has.1 has.2 has.3, has.3)))
        r.value_is;
  }

  -- a seat that is idle may look
  pub looks : (slots id : ℕ) (me : Me (Option V) (Knows E B)) → me.0.stage ≡ Idle
      → Allows (Turns stored base may_add b f n) slots id me 1 (λ x. x) (Looked (step slots 1 0 0 none) me)
  looks slots id me idle s r wide at _ =
      let found : ℕ = get_or s.words 1 0 in let is : found ≡ length r.added = r.served in
      let below = tickets_below stored base may_add b f n s r in let behind = r.behind in (
        looked me.0 found,
        keeps,
        tt,
        subst (λ (z : List ℕ). Turns stored base may_add b f n record {
          words = z;
          homes = s.homes;
          views = set s.views id (looked me.0 found);
        }) (sym (set-get_or s.words 1 0))
            (after_look s r id me.0 found at idle (let g : found ≤ length r.added = omega (arith, is) in g)),
        (refl, omega (arith, is, below, behind)),
      )
