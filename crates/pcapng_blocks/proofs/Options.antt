-- The options of an interface, one after another.
use Rattle.pcapng_blocks.proofs.Names.{◌≡◌, ℕ, zero, suc, ◌+◌, ◌≤◌, true, false, List, length, drop, refl, ◌∙◌, inl, inr, arith}
use Rattle.pcapng_blocks.proofs.Names.{◌==◌, cases_Bool, cases_lt, le-ltb, lt-ltb, length-drop, Order, number_at, padded}
use Rattle.pcapng_blocks.proofs.Names.{begins_option, resolution_after, resolution_within, resolution_of}

-- what an option has
pub record HasOption (order : Order) (bytes : List ℕ) : Type 0 where
  pub head : 4 ≤ length bytes
  pub here : 4 + number_at order 2 2 bytes ≤ length bytes

-- an option has its four bytes of code and length, and its value
pub option_there : (order : Order) (bytes : List ℕ) → begins_option order bytes ≡ true → HasOption order bytes
unfolding begins_option
option_there order bytes e =
    elim (cases_lt (length bytes) 4) [
      | inl less ↦ let f = rw (lt-ltb _ _ less) at e in absurd cc
      | inr full ↦
          let f = rw (le-ltb _ _ full) at e in
          elim (cases_Bool (number_at order 2 0 bytes == 0)) [
            | inl end ↦ let g = rw end at f in absurd cc
            | inr more ↦
                let g = rw more at f in
                elim (cases_lt (length bytes) (4 + number_at order 2 2 bytes)) [
                  | inl less ↦ let h = rw (lt-ltb _ _ less) at g in absurd cc
                  | inr here ↦ record { head = full; here = here }
                ]
          ]
    ]

-- the bytes after the first option
abbrev pub after_option : Order → List ℕ → List ℕ
after_option order bytes = drop (4 + padded (number_at order 2 2 bytes)) bytes

-- a bound above the number of bytes changes nothing
within_enough : (m n : ℕ) (order : Order) (so_far : ℕ) (bytes : List ℕ) → length bytes ≤ m → length bytes ≤ n
    → resolution_within m order so_far bytes ≡ resolution_within n order so_far bytes
unfolding resolution_within
within_enough zero zero order so_far bytes hm hn = refl
within_enough zero (suc n) order so_far bytes hm hn =
    elim (cases_Bool (begins_option order bytes)) [
      | inl more ↦ absurd (omega (arith, (option_there order bytes more).head))
      | inr not ↦ rw not refl
    ]
within_enough (suc m) zero order so_far bytes hm hn =
    elim (cases_Bool (begins_option order bytes)) [
      | inl more ↦ absurd (omega (arith, (option_there order bytes more).head))
      | inr not ↦ rw not refl
    ]
within_enough (suc m) (suc n) order so_far bytes hm hn =
    elim (cases_Bool (begins_option order bytes)) [
      | inl more ↦
          let there = (option_there order bytes more).head in
          let size = length-drop (4 + padded (number_at order 2 2 bytes)) bytes in
          rw more (within_enough m n order (resolution_after order so_far bytes) (after_option order bytes) (omega arith)
          (omega arith))
      | inr not ↦ rw not refl
    ]

pub resolution-none : (order : Order) (so_far : ℕ) (bytes : List ℕ) → begins_option order bytes ≡ false
    → resolution_of order so_far bytes ≡ so_far
unfolding resolution_of resolution_within
resolution-none order so_far bytes not =
    within_enough (length bytes) (suc (length bytes)) order so_far bytes (omega arith) (omega arith) ∙ rw not refl

pub resolution-step : (order : Order) (so_far : ℕ) (bytes : List ℕ) → begins_option order bytes ≡ true
    → resolution_of order so_far bytes ≡ resolution_of order (resolution_after order so_far bytes) (after_option order bytes)
unfolding resolution_of resolution_within
resolution-step order so_far bytes more =
    let there = (option_there order bytes more).head in
    let size = length-drop (4 + padded (number_at order 2 2 bytes)) bytes in
    within_enough (length bytes) (suc (length bytes)) order so_far bytes (omega arith) (omega arith)
    ∙ rw more (within_enough (length bytes) (length (after_option order bytes)) order (resolution_after order so_far bytes)
    (after_option order bytes) (omega arith) (omega arith))
