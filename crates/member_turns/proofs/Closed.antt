-- The notes of a closed member.
use Rattle.std.proofs.Common.{◌≡◌, ◌<◌, ◌≤◌, ℕ, List, [], ◌∷◌, ◌++◌, length, refl, sym, ap, ◌∙◌, subst, arith, append-nil}
use Rattle.std.proofs.Common.{length-append}
use Rattle.std.proofs.lemmas.List.Elements.{filter-append}
use Rattle.std.specs.List.{AllByRecursion}
use Rattle.ring_model.specs.declared.notes.Note.{Note}
use Rattle.ring_model.specs.declared.notes.Note.TheVariants.{Finished}
use Rattle.turn_lock.specs.Endings.{Ends, HasTurns, IsTurnOf, added_in}
use Rattle.turn_lock.specs.Histories.{IsTurn, own}
use Rattle.turn_lock.proofs.Lists.{own_stays, turn_few}
use Rattle.member_turns.specs.Closings.{AreClosedNotes, HasOwn, IsOfSeat}
use Rattle.member_turns.specs.Entries.{may_note}
use Rattle.member_turns.specs.EntryLaws.{one_seat}
use Rattle.member_turns.specs.Seats.{Lock, Seat}

-- what a turn of one of the seats added, one of the seats may add
of_turn : (lock : Lock) (number : ℕ) (entries rest : List Note) → number < lock.seats
    → IsTurn (may_note lock.base) number entries
    → AllByRecursion (IsOfSeat lock) rest → AllByRecursion (IsOfSeat lock) (entries ++ rest)
of_turn lock number [] rest within turn are = are
of_turn lock number (note ∷ entries) rest within turn are =
    ((number, within, turn.0), subst (λ (more : List Note). AllByRecursion (IsOfSeat lock) (more ++ rest)) (sym turn.1) are)

of_turns : (lock : Lock) (n : ℕ) (turns : List (ℕ × List Note)) → n ≡ lock.seats
    → AllByRecursion (IsTurnOf (may_note lock.base) n) turns
    → AllByRecursion (IsOfSeat lock) (added_in turns)
of_turns lock n [] all lawful = tt
of_turns lock n (turn ∷ turns) all lawful =
    of_turn lock turn.0 turn.1 (added_in turns) (subst (λ (z : ℕ). turn.0 < z) all lawful.0.0) lawful.0.1
    (of_turns lock n turns all lawful.1)

few_added : (lock : Lock) (n : ℕ) (turns : List (ℕ × List Note)) → AllByRecursion (IsTurnOf (may_note lock.base) n) turns
    → length (added_in turns) ≤ length turns
few_added lock n [] lawful = omega arith
few_added lock n (turn ∷ turns) lawful =
    let one = turn_few (may_note lock.base) turn.0 turn.1 lawful.0.1 in
    let rest = few_added lock n turns lawful.1 in
    let long = length-append turn.1 (added_in turns) in
    omega (arith, one, rest, long)

-- no seat may add the note that the ring was closed
own_closed : (lock : Lock) (number : ℕ) (history : List Note)
    → own (may_note lock.base) number (history ++ Finished ∷ []) ≡ own (may_note lock.base) number history
own_closed lock number history =
    filter-append (may_note lock.base number) history (Finished ∷ []) ∙ append-nil (own (may_note lock.base) number history)

own_all : (lock : Lock) (turns : List (ℕ × List Note)) (history : List Note) (seats : List Seat)
    → AllByRecursion (HasTurns (may_note lock.base) turns history) seats
    → AllByRecursion (HasOwn lock (history ++ Finished ∷ [])) seats
own_all lock turns history [] all = tt
own_all lock turns history (seat ∷ seats) all = (
  own_closed lock seat.number history ∙ own_stays (may_note lock.base) (one_seat lock.base) seat.number seat.last
      history all.0.1,
  own_all lock turns history seats all.1,
)

-- what a lock reports at its end
pub closed_notes : (lock : Lock) (seats : List Seat) (history : List Note) → lock.first ≡ [] → length seats ≡ lock.seats
    → Ends (may_note lock.base) lock.first seats history → AreClosedNotes lock seats (history ++ Finished ∷ [])
closed_notes lock seats history fresh all ends =
    let added : history ≡ added_in ends.turns = ends.history ∙ ap (λ (first : List Note). first ++ added_in ends.turns) fresh in
    record {
      history = history;
      notes_are = refl;
      each_note = subst (AllByRecursion (IsOfSeat lock)) (sym added) (of_turns lock (length seats) ends.turns all ends.lawful);
      each_seat = own_all lock ends.turns history seats ends.each_seat;
      few = let short = few_added lock (length seats) ends.turns ends.lawful in let long = ap length added in let turns =
          ends.all_turns in omega (arith, short, long, turns);
    }
