-- How often a ticket was drawn, and which numbers are above which.
use Rattle.std.proofs.Common.{◌≡◌, ℕ, ◌+◌, ◌≤◌, cond, List, [], ◌∷◌, ◌++◌, length}
use Rattle.std.proofs.Common.{sum_by, count_by, ◌==◌, if◌then◌else◌, sym, refl, ap, ap₂, ◌∙◌, append_assoc, append-nil}
use Rattle.std.proofs.Common.{length-append, arith}
use Rattle.std.proofs.lemmas.List.Sums.{sum_by-cons}
use Rattle.ticket_dealer.specs.Tickets.{times, AllBelow, Rises}
use Rattle.ticket_dealer.specs.Seats.{SeatValue, all_drawn, drawn_times}

pub times_join : (ticket : ℕ) (xs ys : List ℕ) → times ticket (xs ++ ys) ≡ times ticket xs + times ticket ys
times_join ticket [] ys = omega arith
times_join ticket (x ∷ xs) ys = let rest = times_join ticket xs ys in omega (arith, rest)

pub below_up : (less more : ℕ) (xs : List ℕ) → less ≤ more → AllBelow less xs → AllBelow more xs
below_up less more [] le all = tt
below_up less more (x ∷ xs) le all = (let here = all.0 in omega (arith, here, le), below_up less more xs le all.1)

pub below_join : (number : ℕ) (xs ys : List ℕ) → AllBelow number xs → AllBelow number ys → AllBelow number (xs ++ ys)
below_join number [] ys all also = also
below_join number (x ∷ xs) ys all also = (all.0, below_join number xs ys all.1 also)

-- a number above all others comes after them
pub rises_more : (least number : ℕ) (xs : List ℕ) → Rises least xs → AllBelow number xs → least ≤ number
    → Rises least (xs ++ number ∷ [])
rises_more least number [] rises all above = (above, tt)
rises_more least number (x ∷ xs) rises all above =
    (rises.0, rises_more (x + 1) number xs rises.1 all.1 (let here = all.0 in omega (arith, here)))

count_times : (ticket : ℕ) (xs : List ℕ) → count_by (λ drawn. drawn == ticket) xs ≡ times ticket xs
count_times ticket [] = refl
count_times ticket (x ∷ xs) = sum_by-cons (λ (drawn : ℕ). cond (drawn == ticket) 1 0) x xs
    ∙ ap (λ (z : ℕ). (if x == ticket then 1 else 0) + z) (count_times ticket xs)

-- how often the ticket is among those of all seats, in one list
pub seats_times : (ticket : ℕ) (seats : List SeatValue) → drawn_times ticket seats ≡ times ticket (all_drawn seats)
seats_times ticket [] = refl
seats_times ticket (seat ∷ seats) = sum_by-cons (λ (s : SeatValue). count_by (λ drawn. drawn == ticket) s.drawn) seat seats
    ∙ ap₂ (λ (a b : ℕ). a + b) (count_times ticket seat.drawn) (seats_times ticket seats)
    ∙ sym (times_join ticket seat.drawn (all_drawn seats))

-- how many tickets all seats have
pub seats_count : (seats : List SeatValue) → sum_by (λ (s : SeatValue). length s.drawn) seats ≡ length (all_drawn seats)
seats_count [] = refl
seats_count (seat ∷ seats) =
    sum_by-cons (λ (s : SeatValue). length s.drawn) seat seats
    ∙ ap (λ (z : ℕ). length seat.drawn + z) (seats_count seats)
    ∙ sym (length-append seat.drawn (all_drawn seats))

-- the tickets of some seats and of another
pub drawn_more : (seats : List SeatValue) (x : SeatValue) → all_drawn (seats ++ x ∷ []) ≡ all_drawn seats ++ x.drawn
drawn_more [] x = append-nil x.drawn
drawn_more (seat ∷ seats) x = ap (λ (z : List ℕ). seat.drawn ++ z) (drawn_more seats x)
    ∙ sym (append_assoc seat.drawn (all_drawn seats) x.drawn)

-- the tickets of the seats that are left, and of those that were taken in with the last of them
pub drawn_with : (seats : List SeatValue) (x : SeatValue) (drawn more : List ℕ) → drawn ≡ x.drawn
    → all_drawn seats ++ (drawn ++ more) ≡ all_drawn (seats ++ x ∷ []) ++ more
drawn_with seats x drawn more is = ap (λ (z : List ℕ). all_drawn seats ++ (z ++ more)) is
    ∙ sym (append_assoc (all_drawn seats) x.drawn more) ∙ ap (λ (z : List ℕ). z ++ more) (sym (drawn_more seats x))
