-- What the lock's calls show of a seat, from what it knows at the table.
use Rattle.std.proofs.Common.{◌≡◌, ℕ, ◌+◌, ◌<◌, ◌^◌, Bool, List, [], ◌∷◌, ◌++◌, map, sym, refl, ap, ◌∙◌, subst, arith}
use Rattle.std.proofs.Common.{append_assoc, Option, Some, None, unwrap_or}
use Rattle.std.proofs.lemmas.List.{map-append}
use mathlib.Core.Option.{none}
use Rattle.atomic_table.specs.Table.{Me, step, rest, Allows}
use Rattle.atomic_table.specs.declared.shared.Seat.{Seat}
use Rattle.turn_lock.specs.declared.knowledge.Knows.{Knows}
use Rattle.turn_lock.specs.declared.knowledge.LockSeat.{LockSeat}
use Rattle.turn_lock.specs.declared.knowledge.SeatStage.{SeatStage}
use Rattle.turn_lock.specs.declared.knowledge.SeatStage.TheVariants.{Idle, Inside}
use Rattle.turn_lock.specs.Histories.{IsTurn, Adds}
use Rattle.turn_lock.specs.SeatKnowledge.{fresh_place, seated, with_ticket, with_last, entered, left}
use Rattle.turn_lock.specs.Seats.{LockValue, SeatValue, place_of, fresh_seat, outside}
use Rattle.turn_lock.specs.SeatsInside.{number_in, last_in, drawn_in, turn_in, seat_value, Holds, IsSeat}
use Rattle.turn_lock.specs.Steps.{Left}
use Rattle.turn_lock.specs.Turns.{Turns}
use Rattle.turn_lock.proofs.TurnEnds.{leaves}

module _ {E V : Type 0} where
  -- a seat that isn't in its turn is idle
  pub idle_of : (stage : SeatStage) (seen : List E) (carried : List (ℕ × Option V)) → Holds stage carried
      → turn_in stage seen ≡ None → (stage ≡ Idle) × (carried ≡ [])
  idle_of Idle seen carried holds none_is = (refl, holds)
  idle_of Inside seen carried holds none_is = absurd (cc)

  -- a seat that is in its turn is inside
  pub inside_of : (stage : SeatStage) (seen before : List E) (carried : List (ℕ × Option V)) → Holds stage carried
      → turn_in stage seen ≡ Some before → (stage ≡ Inside) × (seen ≡ before) × (carried ≡ (0, None) ∷ [])
  inside_of Idle seen before carried holds some_is = absurd (cc)
  inside_of Inside seen before carried holds some_is = (refl, ap (λ (o : Option (List E)). unwrap_or o before) some_is, holds)

module _ {E : Type 0} where
  pub number_last : (entries : List E) (places : List (LockSeat E)) → number_in (with_last entries places) ≡ number_in places
  number_last entries [] = refl
  number_last entries (p ∷ places) = refl

  pub drawn_last : (entries : List E) (places : List (LockSeat E)) → drawn_in (with_last entries places) ≡ drawn_in places
  drawn_last entries [] = refl
  drawn_last entries (p ∷ places) = refl

module _ {V E B : Type 0} (stored : V → List E) where
  -- a seat that has left, as its owner sees it
  pub left_value : (old new : Seat (Option V) (Knows E B)) (p : LockSeat E) (x : V) → new.table_id ≡ old.table_id
      → new.me ≡ (left old.me.0 (stored x), []) → old.me.0.places ≡ p ∷ []
      → seat_value new ≡ outside (seat_value old) (stored x)
  left_value old new p x table me one k = record {
    lock = table k;
    number = (ap (λ (m : Me (Option V) (Knows E B)). number_in m.0.places) me ∙ number_last (stored x) old.me.0.places) k;
    base = ap (λ (m : Me (Option V) (Knows E B)). m.0.base) me k;
    first = ap (λ (m : Me (Option V) (Knows E B)). m.0.first) me k;
    last = (ap (λ (m : Me (Option V) (Knows E B)). last_in m.0.places) me
        ∙ ap (λ (z : List (LockSeat E)). last_in (with_last (stored x) z)) one) k;
    entered = (ap (λ (m : Me (Option V) (Knows E B)). drawn_in m.0.places) me ∙ drawn_last (stored x) old.me.0.places) k;
    turn = ap (λ (m : Me (Option V) (Knows E B)). turn_in m.0.stage m.0.seen) me k;
  }

  -- it is as seats are between two calls
  pub left_seat : (old new : Seat (Option V) (Knows E B)) (p : LockSeat E) (x : V) (ticket : ℕ) → IsSeat old ticket
      → new.me ≡ (left old.me.0 (stored x), []) → IsSeat new ticket
  left_seat old new p x ticket ok me = record {
    represented = record (ok.represented) { last = stored x };
    one = ap (λ (m : Me (Option V) (Knows E B)). m.0.places) me ∙ ap (with_last (stored x)) ok.one;
    makes_none = ap (λ (m : Me (Option V) (Knows E B)). m.0.spare) me ∙ ok.makes_none;
    ticket_is = ap (λ (m : Me (Option V) (Knows E B)). m.0.ticket) me ∙ ok.ticket_is;
    small = ok.small;
    holds = subst (λ (m : Me (Option V) (Knows E B)). Holds m.0.stage m.1) (sym me) refl;
  }

  -- what a seat knows when it has drawn its ticket and the value is taken out of its slot
  pub entered_me : (old taken last : Me (Option V) (Knows E B)) (x y : V) (ticket : ℕ) → old.1 ≡ []
      → taken ≡ (entered old.0 ticket (stored x), (0, Some x) ∷ old.1) → last ≡ (taken.0, (0, None) ∷ rest taken.1) → x ≡ y
      → last ≡ (entered old.0 ticket (stored y), (0, None) ∷ [])
  entered_me old taken last x y ticket empty takes_it gives_it same =
      gives_it ∙ ap (λ (m : Me (Option V) (Knows E B)). (m.0, (0, None) ∷ rest m.1)) takes_it
      ∙ ap (λ (z : List (ℕ × Option V)). (entered old.0 ticket (stored x), (0, None) ∷ z)) empty
      ∙ ap (λ (z : V). (entered old.0 ticket (stored z), (0, None) ∷ [])) same

  pub entered_seat : (old new : Seat (Option V) (Knows E B)) (ticket before : ℕ) (entries : List E) → IsSeat old before
      → ticket < 2 ^ 38 → new.me ≡ (entered old.me.0 ticket entries, (0, None) ∷ []) → IsSeat new ticket
  entered_seat old new ticket before entries ok small me = record {
    represented = record (ok.represented) { drawn = ok.represented.drawn + 1 };
    one = ap (λ (m : Me (Option V) (Knows E B)). m.0.places) me ∙ ap with_ticket ok.one;
    makes_none = ap (λ (m : Me (Option V) (Knows E B)). m.0.spare) me ∙ ok.makes_none;
    ticket_is = ap (λ (m : Me (Option V) (Knows E B)). m.0.ticket) me;
    small = small;
    holds = subst (λ (m : Me (Option V) (Knows E B)). Holds m.0.stage m.1) (sym me) refl;
  }

module _ {V E B : Type 0} (stored : V → List E) (base : V → B) (may_add : B → ℕ → E → Bool) (b : B) (f : List E) (n : ℕ) where
  -- a seat that has its value back may leave
  pub leaves_from : (slots id : ℕ) (old me : Me (Option V) (Knows E B)) (p : LockSeat E) (x : V) (known : B) (before : List E)
      (number word : ℕ) → me ≡ (old.0, (0, Some x) ∷ []) → old.0.places ≡ p ∷ [] → p.number ≡ number → old.0.stage ≡ Inside
      → old.0.seen ≡ before → old.0.base ≡ Some known → base x ≡ known → Adds (may_add known) number before (stored x)
      → word ≡ old.0.ticket + 1
      → Allows (Turns stored base may_add b f n) slots id me 1 (λ _. word) (λ _. Left stored (step slots 1 word 0 none) me word)
  leaves_from slots id old me p x known before number word is one named inside_is seen base_is same adds next =
      leaves stored base may_add b f n slots id me p x word (ap (λ (m : Me (Option V) (Knows E B)). m.0.places) is ∙ one)
      (ap (λ (m : Me (Option V) (Knows E B)). m.0.stage) is ∙ inside_is) (ap (λ (m : Me (Option V) (Knows E B)). m.1) is)
      (ap (λ (m : Me (Option V) (Knows E B)). m.0.base) is ∙ base_is ∙ ap Some (sym same)) (
        adds.0,
        adds.1 ∙ ap (λ (z : List E). z ++ adds.0) (sym (ap (λ (m : Me (Option V) (Knows E B)). m.0.seen) is ∙ seen)),
        subst (λ (z : ℕ). IsTurn (may_add (base x)) z adds.0) (sym named)
            (subst (λ (z : B). IsTurn (may_add z) number adds.0) (sym same) adds.2),
      )
      (next ∙ ap (λ (z : ℕ). z + 1) (sym (ap (λ (m : Me (Option V) (Knows E B)). m.0.ticket) is)))

module _ {V E B : Type 0} where
  -- a seat that was just made, as its owner sees it
  pub fresh_value : (seat : Seat (Option V) (Knows E B)) (lock : LockValue E B) (number spare next : ℕ)
      → seat.table_id ≡ lock.id → seat.me ≡ (seated (Some lock.base) lock.first number spare next, [])
      → seat_value seat ≡ fresh_seat lock number
  fresh_value seat lock number spare next table me k = record {
    lock = table k;
    number = ap (λ (m : Me (Option V) (Knows E B)). number_in m.0.places) me k;
    base = ap (λ (m : Me (Option V) (Knows E B)). m.0.base) me k;
    first = ap (λ (m : Me (Option V) (Knows E B)). m.0.first) me k;
    last = ap (λ (m : Me (Option V) (Knows E B)). last_in m.0.places) me k;
    entered = ap (λ (m : Me (Option V) (Knows E B)). drawn_in m.0.places) me k;
    turn = ap (λ (m : Me (Option V) (Knows E B)). turn_in m.0.stage m.0.seen) me k;
  }

  pub fresh_is_seat : (seat : Seat (Option V) (Knows E B)) (base : Option B) (first : List E) (number next : ℕ)
      → seat.me ≡ (seated base first number 0 next, []) → IsSeat seat 0
  fresh_is_seat seat base first number next me = record {
    represented = fresh_place number first;
    one = ap (λ (m : Me (Option V) (Knows E B)). m.0.places) me;
    makes_none = ap (λ (m : Me (Option V) (Knows E B)). m.0.spare) me;
    ticket_is = ap (λ (m : Me (Option V) (Knows E B)). m.0.ticket) me;
    small = omega arith;
    holds = subst (λ (m : Me (Option V) (Knows E B)). Holds m.0.stage m.1) (sym me) refl;
  }

  -- what the table knows of a seat between two calls is what its owner sees
  pub places_seat : (seat : Seat (Option V) (Knows E B)) (ticket : ℕ) → IsSeat seat ticket
      → seat.me.0.places ≡ place_of (seat_value seat) ∷ []
  places_seat seat ticket ok =
      ok.one
      ∙ sym (ap (λ (z : List (LockSeat E)). record { number = number_in z; last = last_in z; drawn = drawn_in z } ∷ []) ok.one)

  -- the seats that are left, and those that were taken in with the last of them
  pub places_with : (seats : List (SeatValue E B)) (x : SeatValue E B) (seat : Seat (Option V) (Knows E B)) (ticket : ℕ)
      (places : List (LockSeat E)) → IsSeat seat ticket → seat_value seat ≡ x
      → map place_of seats ++ (seat.me.0.places ++ places) ≡ map place_of (seats ++ x ∷ []) ++ places
  places_with seats x seat ticket places ok is =
      ap (λ (z : List (LockSeat E)). map place_of seats ++ (z ++ places))
      (places_seat seat ticket ok ∙ ap (λ (z : SeatValue E B). place_of z ∷ []) is)
      ∙ sym (append_assoc (map place_of seats) (place_of x ∷ []) places)
      ∙ ap (λ (z : List (LockSeat E)). z ++ places) (sym (map-append place_of seats (x ∷ [])))
