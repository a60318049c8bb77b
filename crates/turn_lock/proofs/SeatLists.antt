-- Lists of seats, for callers too: those of a fresh lock, and facts of each seat of a list.
use Rattle.std.proofs.Common.{◌≡◌, ℕ, zero, suc, ◌+◌, ◌<◌, List, [], ◌∷◌, ◌++◌, length, get_or, take, drop, drop_of_length-le}
use Rattle.std.proofs.Common.{append-nil, sym, refl, ap, ◌∙◌, arith}
use Rattle.std.specs.List.{AllByRecursion}
use Rattle.std.proofs.Math.Seq.{take-length}
use Rattle.turn_lock.specs.Seats.{LockValue, SeatValue, fresh_seat, fresh_seats}

module _ {E B : Type 0} where
  fresh_next : (lock : LockValue E B) (number k : ℕ)
      → fresh_seats lock number (suc k) ≡ fresh_seats lock number k ++ fresh_seat lock (number + k) ∷ []
  fresh_next lock number zero = ap (λ (z : ℕ). fresh_seat lock z ∷ []) (let g : number ≡ number + 0 = omega arith in g)
  fresh_next lock number (suc k) =
      ap (λ (z : List (SeatValue E B)). fresh_seat lock number ∷ z)
      (fresh_next lock (number + 1) k ∙ ap (λ (z : ℕ). fresh_seats lock (number + 1) k ++ fresh_seat lock z ∷ [])
      (let g : number + 1 + k ≡ number + suc k = omega arith in g))

  -- one more seat
  pub fresh_more : (lock : LockValue E B) (number k next : ℕ) → next ≡ number + k
      → fresh_seats lock number (k + 1) ≡ fresh_seats lock number k ++ fresh_seat lock next ∷ []
  fresh_more lock number k next is = ap (fresh_seats lock number) (let g : k + 1 ≡ suc k = omega arith in g)
      ∙ fresh_next lock number k ∙ ap (λ (z : ℕ). fresh_seats lock number k ++ fresh_seat lock z ∷ []) (sym is)

  pub fresh_long : (lock : LockValue E B) (number n : ℕ) → length (fresh_seats lock number n) ≡ n
  fresh_long lock number zero = refl
  fresh_long lock number (suc n) = ap suc (fresh_long lock (number + 1) n)

  -- each seat of the list has its place as its number
  pub fresh_at : (lock : LockValue E B) (number n i : ℕ) (d : SeatValue E B) → i < n
      → get_or (fresh_seats lock number n) i d ≡ fresh_seat lock (number + i)
  fresh_at lock number zero i d below = absurd (omega (arith, below))
  fresh_at lock number (suc n) zero d below = ap (fresh_seat lock) (let g : number ≡ number + 0 = omega arith in g)
  fresh_at lock number (suc n) (suc i) d below =
      fresh_at lock (number + 1) n i d (omega (arith, below))
      ∙ ap (fresh_seat lock) (let g : number + 1 + i ≡ number + suc i = omega arith in g)

module _ {A : Type 0} where
  -- what holds at each place
  pub all_places : (P : A → Type 0) (xs : List A) → ((i : ℕ) (d : A) → i < length xs → P (get_or xs i d)) → AllByRecursion P xs
  all_places P [] each = tt
  all_places P (x ∷ xs) each = (each 0 x (omega arith), all_places P xs (λ i d below. each (suc i) d (omega (arith, below))))

  -- a list that was changed whole through a slice of a vector
  pub changed_whole : (n : ℕ) (xs ys : List A) → length xs ≡ n → length ys ≡ length xs → take n (ys ++ drop (length ys) xs) ≡ ys
  changed_whole n xs ys long same = ap (λ (z : List A). take n (ys ++ z)) (drop_of_length-le xs (omega (arith, same)))
      ∙ ap (take n) (append-nil ys) ∙ ap (λ (z : ℕ). take z ys) (sym (same ∙ long)) ∙ take-length ys
