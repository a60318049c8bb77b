-- What the head of a block says doesn't change with the bytes after it.
use Rattle.pcapng_blocks.proofs.Names.{◌≡◌, ℕ, ◌+◌, ◌≤◌, ◌<◌, true, false, List, ◌++◌, length, drop, refl, inl, inr, arith, ◌≢◌}
use Rattle.pcapng_blocks.proofs.Names.{nat_le, if◌then◌else◌, Option, None, Some, cases_Bool, cases_lt, le-ltb, lt-ltb}
use Rattle.pcapng_blocks.proofs.Names.{leb-true, and_parts, drop-append-le, length-append, length-drop, little_from-append}
use Rattle.pcapng_blocks.proofs.Names.{big_from-append, Order, Little, Big, Head, Kind, Short, Headed, number_at, kind_of}
use Rattle.pcapng_blocks.proofs.Names.{head_size, least, is_skipped, length_fits, order_of, headed, look_as, look_at, IsHead}
use Rattle.pcapng_blocks.specs.declared.heads.Kind.TheVariants.{Section, Interface, Enhanced, Simple, Other}

-- a number doesn't depend on what comes after it
pub number_at-append : (order : Order) (n at : ℕ) (xs ys : List ℕ) → at + n ≤ length xs
    → number_at order n at (xs ++ ys) ≡ number_at order n at xs
unfolding number_at
number_at-append Little n at xs ys h =
    let le : at ≤ length xs = omega arith in
    rw (drop-append-le at xs ys le) (little_from-append n (drop at xs) ys (omega (arith, length-drop at xs)))
number_at-append Big n at xs ys h =
    let le : at ≤ length xs = omega arith in
    rw (drop-append-le at xs ys le) (big_from-append n (drop at xs) ys (omega (arith, length-drop at xs)))

order_of-append : (kind : Kind) (order : Order) (xs ys : List ℕ) → head_size kind ≤ length xs
    → order_of kind order (xs ++ ys) ≡ order_of kind order xs
order_of-append Section order xs ys h =
    let little = number_at-append Little 4 8 xs ys (omega arith) in
    let big = number_at-append Big 4 8 xs ys (omega arith) in
    rw (little, big) refl
order_of-append Interface order xs ys h = refl
order_of-append Enhanced order xs ys h = refl
order_of-append Simple order xs ys h = refl
order_of-append Other order xs ys h = refl

headed-append : (place : ℕ) (kind : Kind) (found : Option Order) (xs ys : List ℕ) → 8 ≤ length xs
    → headed place kind found (xs ++ ys) ≡ headed place kind found xs
headed-append place kind None xs ys h = refl
headed-append place kind (Some order) xs ys h = rw (number_at-append order 4 4 xs ys (omega arith)) refl

head_least : (kind : Kind) → 8 ≤ head_size kind
head_least Section = omega arith
head_least Interface = omega arith
head_least Enhanced = omega arith
head_least Simple = omega arith
head_least Other = omega arith

look_as-append : (kind : Kind) (order : Order) (place : ℕ) (xs ys : List ℕ) → look_as kind order place xs ≢ Short
    → look_as kind order place (xs ++ ys) ≡ look_as kind order place xs
look_as-append kind order place xs ys not =
    elim (cases_lt (length xs) (head_size kind)) [
      | inl less ↦ absurd (not (rw (lt-ltb _ _ less) refl))
      | inr full ↦
          let wider : head_size kind ≤ length (xs ++ ys) = omega (arith, length-append xs ys) in
          let same : order_of kind order (xs ++ ys) ≡ order_of kind order xs = order_of-append kind order xs ys full in
          let eight = head_least kind in
          rw (le-ltb _ _ full, le-ltb _ _ wider, same) (headed-append place kind (order_of kind order xs) xs ys (omega arith))
    ]

-- a head is not changed by what comes after it
pub look_at-append : (order : Order) (place : ℕ) (xs ys : List ℕ) → look_at order place xs ≢ Short
    → look_at order place (xs ++ ys) ≡ look_at order place xs
unfolding look_at
look_at-append order place xs ys not =
    elim (cases_lt (length xs) 8) [
      | inl less ↦ absurd (not (rw (lt-ltb _ _ less) refl))
      | inr full ↦
          let wider : 8 ≤ length (xs ++ ys) = omega (arith, length-append xs ys) in
          let number = number_at-append order 4 0 xs ys (omega arith) in
          let there : look_as (kind_of (number_at order 4 0 xs)) order place xs ≢ Short = rw (le-ltb _ _ full) at not in
          rw (le-ltb _ _ full, le-ltb _ _ wider, number)
          (look_as-append (kind_of (number_at order 4 0 xs)) order place xs ys there)
    ]

-- fewer than 8 bytes aren't a head
pub look_at-short : (order : Order) (place : ℕ) (bytes : List ℕ) → length bytes < 8 → look_at order place bytes ≡ Short
unfolding look_at
look_at-short order place bytes less = rw (lt-ltb _ _ less) refl

least_some : (kind : Kind) → 12 ≤ least kind
least_some Section = omega arith
least_some Interface = omega arith
least_some Enhanced = omega arith
least_some Simple = omega arith
least_some Other = omega arith

fits_few : (kind : Kind) (total : ℕ) → (if is_skipped kind then true else nat_le total 524288) ≡ true → is_skipped kind ≡ false
    → total ≤ 524288
fits_few kind total e read = leb-true _ _ (rw read at e)

-- what is known of a head whose contents are allowed
fits_head : (kind : Kind) (order : Order) (total : ℕ) → length_fits kind total ≡ true
    → IsHead (record { kind = kind; order = order; total = total })
fits_head kind order total e =
    let p = and_parts _ _ e in
    let q = and_parts _ _ p.1 in
    let low : least kind ≤ total = leb-true _ _ q.0 in
    let some = least_some kind in
    record { enough = low; some = omega arith; few = fits_few kind total q.1 }

headed_same : (x y : Head) → Headed x ≡ Headed y → x ≡ y
headed_same x y e = cc

headed_head : (place : ℕ) (kind : Kind) (found : Option Order) (bytes : List ℕ) (head : Head)
    → headed place kind found bytes ≡ Headed head → IsHead head
headed_head place kind None bytes head e = absurd cc
headed_head place kind (Some order) bytes head e =
    elim (cases_Bool (length_fits kind (number_at order 4 4 bytes))) [
      | inl fits ↦
          let same = headed_same _ _ (rw fits at e) in
          rw (← same) (fits_head kind order (number_at order 4 4 bytes) fits)
      | inr not ↦ let f = rw not at e in absurd cc
    ]

-- a head and its eight bytes or more
pub record HasHead (bytes : List ℕ) (head : Head) : Type 0 where
  pub sound : IsHead head
  pub eight : 8 ≤ length bytes

look_as_head : (kind : Kind) (order : Order) (place : ℕ) (bytes : List ℕ) (head : Head)
    → look_as kind order place bytes ≡ Headed head → IsHead head
look_as_head kind order place bytes head e =
    elim (cases_lt (length bytes) (head_size kind)) [
      | inl less ↦ let f = rw (lt-ltb _ _ less) at e in absurd cc
      | inr full ↦ headed_head place kind (order_of kind order bytes) bytes head (rw (le-ltb _ _ full) at e)
    ]

pub look_head : (order : Order) (place : ℕ) (bytes : List ℕ) (head : Head) → look_at order place bytes ≡ Headed head
    → HasHead bytes head
unfolding look_at
look_head order place bytes head e =
    elim (cases_lt (length bytes) 8) [
      | inl less ↦ let f = rw (lt-ltb _ _ less) at e in absurd cc
      | inr full ↦
          record {
            sound = look_as_head (kind_of (number_at order 4 0 bytes)) order place bytes head
                (rw (le-ltb _ _ full) at e);
            eight = full;
          }
    ]

head_most : (kind : Kind) → head_size kind ≤ 12
head_most Section = omega arith
head_most Interface = omega arith
head_most Enhanced = omega arith
head_most Simple = omega arith
head_most Other = omega arith

headed_there : (place : ℕ) (kind : Kind) (found : Option Order) (bytes : List ℕ) → headed place kind found bytes ≢ Short
headed_there place kind None bytes e = absurd cc
headed_there place kind (Some order) bytes e =
    elim (cases_Bool (length_fits kind (number_at order 4 4 bytes))) [
      | inl fits ↦ let f = rw fits at e in absurd cc
      | inr not ↦ let f = rw not at e in absurd cc
    ]

look_as_there : (kind : Kind) (order : Order) (place : ℕ) (bytes : List ℕ) → 12 ≤ length bytes
    → look_as kind order place bytes ≢ Short
look_as_there kind order place bytes long e =
    let most = head_most kind in
    let full : head_size kind ≤ length bytes = omega arith in
    headed_there place kind (order_of kind order bytes) bytes (rw (le-ltb _ _ full) at e)

-- twelve bytes are a head, whatever the block is
pub look_at-there : (order : Order) (place : ℕ) (bytes : List ℕ) → 12 ≤ length bytes → look_at order place bytes ≢ Short
unfolding look_at
look_at-there order place bytes long e =
    let eight : 8 ≤ length bytes = omega arith in
    look_as_there (kind_of (number_at order 4 0 bytes)) order place bytes long (rw (le-ltb _ _ eight) at e)
