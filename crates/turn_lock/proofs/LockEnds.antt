-- A lock is closed: one seat represents all, so no turn is left, and the value is back in its slot.
use Rattle.std.proofs.Common.{◌≡◌, ℕ, suc, ◌+◌, ◌≢◌, ◌==◌, if◌then◌else◌, Bool, List, [], ◌∷◌, ◌++◌, map, length, sym}
use Rattle.std.proofs.Common.{refl, ap, ◌∙◌, subst, ⊎_elim, arith, Option, Some}
use Rattle.std.specs.List.{AllByRecursion}
use Rattle.std.proofs.lemmas.List.{nil_from_length}
use mathlib.Core.Option.{some, some-injective}
use mathlib.Core.Logic.{dite}
use native.Mathlib.Decide.{ℕ_discrete}
use lib.ListN.{get_elem?}
use Rattle.atomic_table.specs.Table.{State, Final, Seen}
use Rattle.atomic_table.proofs.Lists.{at_map}
use Rattle.history.proofs.Totals.{total_both, total_one}
use Rattle.turn_lock.specs.declared.knowledge.Knows.{Knows}
use Rattle.turn_lock.specs.declared.knowledge.LockSeat.{LockSeat}
use Rattle.turn_lock.specs.declared.knowledge.SeatStage.TheVariants.{Idle, Inside}
use Rattle.turn_lock.specs.Histories.{times, all_added, GoesOn}
use Rattle.turn_lock.specs.SeatKnowledge.{parts_of, drawn_of, all_drawn}
use Rattle.turn_lock.specs.Seats.{SeatValue, entered_by, place_of}
use Rattle.turn_lock.specs.Endings.{turns_of, added_in, IsTurnOf, HasTurns, Ends}
use Rattle.turn_lock.specs.Turns.{Turns}
use Rattle.turn_lock.proofs.Histories.{idle_not_inside, history_goes_on}
use Rattle.turn_lock.proofs.TicketLooks.{inside_with}

module _ {E : Type 0} where
  -- each ticket with its seat's number and what its turn added
  pub turns_from : List ℕ → List (List E) → List (ℕ × List E)
  turns_from [] added = []
  turns_from (owner ∷ owners) [] = []
  turns_from (owner ∷ owners) (entries ∷ added) = (owner, entries) ∷ turns_from owners added

  pub from_long : (owners : List ℕ) (added : List (List E)) → length added ≡ length owners
      → length (turns_from owners added) ≡ length owners
  unfolding turns_from
  from_long [] added even = refl
  from_long (owner ∷ owners) [] even = absurd (omega (arith, even))
  from_long (owner ∷ owners) (entries ∷ added) even = ap suc (from_long owners added (omega (arith, even)))

  pub from_added : (owners : List ℕ) (added : List (List E)) → length added ≡ length owners
      → added_in (turns_from owners added) ≡ all_added added
  unfolding turns_from
  from_added [] [] even = refl
  from_added [] (entries ∷ added) even = absurd (omega (arith, even))
  from_added (owner ∷ owners) [] even = absurd (omega (arith, even))
  from_added (owner ∷ owners) (entries ∷ added) even =
      ap (λ (z : List E). entries ++ z) (from_added owners added (omega (arith, even)))

  pub from_times : (number : ℕ) (owners : List ℕ) (added : List (List E)) → length added ≡ length owners
      → turns_of number (turns_from owners added) ≡ times number owners
  unfolding turns_from
  from_times number [] added even = refl
  from_times number (owner ∷ owners) [] even = absurd (omega (arith, even))
  from_times number (owner ∷ owners) (entries ∷ added) even =
      ap (λ (z : ℕ). (if owner == number then 1 else 0) + z) (from_times number owners added (omega (arith, even)))

  pub from_all : (P : ℕ × List E → Type 0) (owners : List ℕ) (added : List (List E))
      → ((i number : ℕ) (entries : List E) → get_elem? owners i ≡ some number → get_elem? added i ≡ some entries
      → P (number, entries)) → AllByRecursion P (turns_from owners added)
  unfolding turns_from
  from_all P [] added each = tt
  from_all P (owner ∷ owners) [] each = tt
  from_all P (owner ∷ owners) (entries ∷ added) each =
      (each 0 owner entries refl refl, from_all P owners added (λ i. each (suc i)))

module _ {A : Type 0} where
  pub all_items : (P : A → Type 0) (xs : List A) → ((i : ℕ) (x : A) → get_elem? xs i ≡ some x → P x) → AllByRecursion P xs
  all_items P [] each = tt
  all_items P (x ∷ xs) each = (each 0 x refl, all_items P xs (λ i. each (suc i)))

module _ {E B : Type 0} where
  drawn_seats : (seats : List (SeatValue E B)) → all_drawn (map place_of seats) ≡ entered_by seats
  drawn_seats [] = refl
  drawn_seats (seat ∷ seats) = ap (λ (z : ℕ). seat.entered + z) (drawn_seats seats)

  length_seats : (seats : List (SeatValue E B)) → length (map place_of seats) ≡ length seats
  length_seats [] = refl
  length_seats (seat ∷ seats) = ap suc (length_seats seats)

module _ {V E B : Type 0} (stored : V → List E) (base : V → B) (may_add : B → ℕ → E → Bool) (b : B) (f : List E) (n : ℕ) where
  -- where one idle seat represents all, no seat has a ticket
  nobody : (s : State (Option V) (Knows E B)) (r : Turns stored base may_add b f n s) (id : ℕ) (v : Knows E B)
      → get_elem? s.views id ≡ some v → v.stage ≡ Idle → length v.places ≡ n
      → (j : ℕ) (u : Knows E B) → get_elem? s.views j ≡ some u → j ≢ id → u.places ≡ []
  nobody s r id v at idle all j u to other = let both = total_both parts_of s.views j id u v other to at in let shares =
      r.shares in nil_from_length u.places (omega (arith, both, shares, all))

  not_inside : (s : State (Option V) (Knows E B)) (r : Turns stored base may_add b f n s) (id : ℕ) (v : Knows E B)
      → get_elem? s.views id ≡ some v → v.stage ≡ Idle → length v.places ≡ n
      → (j : ℕ) (u : Knows E B) → get_elem? s.views j ≡ some u → u.stage ≡ Inside → ⊥
  not_inside s r id v at idle all j u to inside = dite (ℕ_discrete j id)
      (λ same. idle_not_inside u.stage
      (ap (λ (z : Knows E B). z.stage)
      (some-injective u v (sym to ∙ ap (λ (z : ℕ). get_elem? s.views z) same ∙ at)) ∙ idle) inside)
      (λ other. let has = (inside_with stored base may_add b f n s r j u to inside).0 in
      let none_there = nobody s r id v at idle all j u to other in let long : length u.places ≡ 1 = ap length has.1 in
      let short : length u.places ≡ 0 = ap length none_there in omega (arith, long, short))

  -- the closed table has the value, and its list is what the turns of the seats made of the first
  -- one
  pub ends : (words : List ℕ) (slots : List (Option V)) (id : ℕ) (v : Knows E B) (seats : List (SeatValue E B))
      → v.places ≡ map place_of seats → v.stage ≡ Idle → length seats ≡ n
      → Final (Seen (Turns stored base may_add b f n) id v) words slots
      → (x : V) × (get_elem? slots 0 ≡ some (Some x)) × (base x ≡ b) × Ends (may_add b) f seats (stored x)
  ends words slots id v seats are idle all final =
      let s = final.0 in let r = final.1.0 in let at = final.1.1 in let long : length v.places ≡ n =
      ap length are ∙ length_seats seats ∙ all in
      let home : (x : V) × (s.homes ≡ some (Some x) ∷ []) × (stored x ≡ f ++ all_added r.added) × (base x ≡ b)
      × (length r.owners ≡ length r.added)
      = ⊎_elim (λ here. here)
      (λ out. let has = out.2 in absurd (not_inside s r id v at idle long has.0 has.1 has.2 has.3)) r.value_is in
      let even : length r.added ≡ length r.owners = sym home.4 in
      let x : V = home.0 in let turns = turns_from r.owners r.added in (
        x,
        final.4 0 (Some x) (ap (λ (z : List (mathlib.Core.Option.Option (Option V))). get_elem? z 0) home.1),
        home.3,
        record {
          turns = turns;
          history = home.2 ∙ ap (λ (z : List E). f ++ z) (sym (from_added r.owners r.added even));
          lawful = from_all (IsTurnOf (may_add b) (length seats)) r.owners r.added
              (λ i number entries owner turn. (
                (let under = r.owned i number owner in let within = r.within in omega (arith, under, within, all)),
                r.each_turn i number entries owner turn,
              ));
          each_seat = all_items (HasTurns (may_add b) turns (stored x)) seats (λ k seat here.
              let there : get_elem? v.places k ≡ some (place_of seat) =
              ap (λ (z : List (LockSeat E)). get_elem? z k) are ∙ at_map place_of seats k seat here in
              let ok = r.each_place id k v (place_of seat) at there in (
                from_times seat.number r.owners r.added even ∙ sym ok.drawn_is,
                subst (λ (z : List E). GoesOn (may_add b) seat.number seat.last z) (sym home.2)
                    (history_goes_on stored base may_add b f n s r id k v (place_of seat) at there),
              ));
          all_turns = from_long r.owners r.added even ∙ sym r.sum
              ∙ total_one drawn_of s.views id v at (λ j u other to. ap all_drawn (nobody s r id v at idle long j u to other))
              ∙ ap all_drawn are ∙ drawn_seats seats;
        },
      )
