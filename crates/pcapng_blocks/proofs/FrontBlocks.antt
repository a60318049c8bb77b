-- What bytes begin with, and what more bytes change about it.
use Rattle.pcapng_blocks.proofs.Names.{◌≡◌, ℕ, ◌≤◌, ◌<◌, List, ◌++◌, length, take, refl, sym, ap, ◌∙◌, inl, inr, arith, ◌≢◌}
use Rattle.pcapng_blocks.proofs.Names.{Result, Ok, Err, cases_lt, le-ltb, lt-ltb, take-append-le, length-append, length-take}
use Rattle.pcapng_blocks.proofs.Names.{Order, BlockError, Head, Look, Short, Bad, Headed, Interface, Meaning, Part, Fault}
use Rattle.pcapng_blocks.proofs.Names.{Block, look_at, IsHead, meaning_of, front_told, front_behind, front_of}
use Rattle.pcapng_blocks.proofs.HeadLooks.{look_at-append, look_at-short, look_head}
use Rattle.pcapng_blocks.proofs.Told.{IsTold, meaning_told}

-- ---- by what the head says

pub front_short : (order : Order) (interfaces : List Interface) (place : ℕ) (bytes : List ℕ) → look_at order place bytes ≡ Short
    → front_of order interfaces place bytes ≡ Part
unfolding front_of
front_short order interfaces place bytes e = rw e refl

pub front_bad : (order : Order) (interfaces : List Interface) (place : ℕ) (bytes : List ℕ) (error : BlockError)
    → look_at order place bytes ≡ Bad error → front_of order interfaces place bytes ≡ Fault error
unfolding front_of
front_bad order interfaces place bytes error e = rw e refl

-- after a head
module _ (order : Order) (interfaces : List Interface) (place : ℕ) (bytes : List ℕ) (head : Head)
    (e : look_at order place bytes ≡ Headed head) where
  pub front_headed : front_of order interfaces place bytes ≡ front_behind interfaces place head bytes
  unfolding front_of
  front_headed = rw e refl

  pub front_part : length bytes < head.total → front_of order interfaces place bytes ≡ Part
  front_part less = front_headed ∙ rw (lt-ltb _ _ less) refl

  pub front_here : head.total ≤ length bytes → front_of order interfaces place bytes
      ≡ front_told head (meaning_of interfaces place head (take head.total bytes))
  front_here full = front_headed ∙ rw (le-ltb _ _ full) refl

pub front_empty : (order : Order) (interfaces : List Interface) (place : ℕ) (bytes : List ℕ) → length bytes < 8
    → front_of order interfaces place bytes ≡ Part
front_empty order interfaces place bytes less = front_short order interfaces place bytes (look_at-short order place bytes less)

-- ---- more bytes

short_or_not : (order : Order) (interfaces : List Interface) (place : ℕ) (xs ys : List ℕ) (look : Look)
    → look_at order place xs ≡ look → front_of order interfaces place xs ≢ Part
    → front_of order interfaces place (xs ++ ys) ≡ front_of order interfaces place xs
short_or_not order interfaces place xs ys Short e not = absurd (not (front_short order interfaces place xs e))
short_or_not order interfaces place xs ys (Bad error) e not =
    let there : look_at order place xs ≢ Short = λ s. absurd (cc (e, s)) in
    let same : look_at order place (xs ++ ys) ≡ Bad error = look_at-append order place xs ys there ∙ e in
    front_bad order interfaces place (xs ++ ys) error same ∙ sym (front_bad order interfaces place xs error e)
short_or_not order interfaces place xs ys (Headed head) e not =
    let there : look_at order place xs ≢ Short = λ s. absurd (cc (e, s)) in
    let same : look_at order place (xs ++ ys) ≡ Headed head = look_at-append order place xs ys there ∙ e in
    elim (cases_lt (length xs) head.total) [
      | inl less ↦ absurd (not (front_part order interfaces place xs head e less))
      | inr full ↦
          let wider : head.total ≤ length (xs ++ ys) = omega (arith, length-append xs ys) in
          front_here order interfaces place (xs ++ ys) head same wider
          ∙ rw (take-append-le head.total xs ys full) (sym (front_here order interfaces place xs head e full))
    ]

-- a block, or a fault, stays what it is
pub front_append : (order : Order) (interfaces : List Interface) (place : ℕ) (xs ys : List ℕ)
    → front_of order interfaces place xs ≢ Part
    → front_of order interfaces place (xs ++ ys) ≡ front_of order interfaces place xs
front_append order interfaces place xs ys not = short_or_not order interfaces place xs ys (look_at order place xs) refl not

-- ---- a whole block

-- what is known of a block at the start
pub record HasFront (order : Order) (interfaces : List Interface) (place : ℕ) (bytes : List ℕ) (head : Head) (meaning : Meaning)
    : Type 0 where
  pub look : look_at order place bytes ≡ Headed head
  pub sound : IsHead head
  pub here : head.total ≤ length bytes
  pub means : meaning_of interfaces place head (take head.total bytes) ≡ Ok meaning
  pub size : length (take head.total bytes) ≡ head.total
  pub told : IsTold meaning head.total

block_same : (x y : Head) (m n : Meaning) → Block x m ≡ Block y n → (x ≡ y) × (m ≡ n)
block_same x y m n e = (cc, cc)

told_by : (x head : Head) (meaning : Meaning) (said : Result Meaning BlockError) → front_told x said ≡ Block head meaning
    → (x ≡ head) × (said ≡ Ok meaning)
told_by x head meaning (Ok m) e = let same = block_same x head m meaning e in (same.0, ap Ok same.1)
told_by x head meaning (Err error) e = absurd cc

block_by : (order : Order) (interfaces : List Interface) (place : ℕ) (bytes : List ℕ) (head : Head) (meaning : Meaning)
    (look : Look) → look_at order place bytes ≡ look
    → front_of order interfaces place bytes ≡ Block head meaning → HasFront order interfaces place bytes head meaning
block_by order interfaces place bytes head meaning Short e b = let f = front_short order interfaces place bytes e in
    absurd (cc (f, b))
block_by order interfaces place bytes head meaning (Bad error) e b = let f = front_bad order interfaces place bytes error e in
    absurd (cc (f, b))
block_by order interfaces place bytes head meaning (Headed x) e b =
    elim (cases_lt (length bytes) x.total) [
      | inl less ↦ let f = front_part order interfaces place bytes x e less in absurd (cc (f, b))
      | inr full ↦
          let told = told_by x head meaning (meaning_of interfaces place x (take x.total bytes))
          (sym (front_here order interfaces place bytes x e full) ∙ b) in
          let look : look_at order place bytes ≡ Headed head = e ∙ ap Headed told.0 in
          let here : head.total ≤ length bytes = rw (← told.0) full in
          let size : length (take head.total bytes) ≡ head.total = omega (arith, length-take head.total bytes) in
          let means : meaning_of interfaces place head (take head.total bytes) ≡ Ok meaning = rw (← told.0) told.1 in
          record {
            look = look;
            sound = (look_head order place bytes head look).sound;
            here = here;
            means = means;
            size = size;
            told = rw (← size) (meaning_told interfaces place head (take head.total bytes) meaning means);
          }
    ]

pub front_block : (order : Order) (interfaces : List Interface) (place : ℕ) (bytes : List ℕ) (head : Head) (meaning : Meaning)
    → front_of order interfaces place bytes ≡ Block head meaning → HasFront order interfaces place bytes head meaning
front_block order interfaces place bytes head meaning e =
    block_by order interfaces place bytes head meaning (look_at order place bytes) refl e

-- ---- a part of a block

told_whole : (head : Head) (said : Result Meaning BlockError) → front_told head said ≢ Part
told_whole head (Ok meaning) e = absurd cc
told_whole head (Err error) e = absurd cc

-- a part of a block with a head has fewer bytes than the head says
pub part_short : (order : Order) (interfaces : List Interface) (place : ℕ) (bytes : List ℕ) (head : Head)
    → look_at order place bytes ≡ Headed head
    → front_of order interfaces place bytes ≡ Part → length bytes < head.total
part_short order interfaces place bytes head e part =
    elim (cases_lt (length bytes) head.total) [
      | inl less ↦ less
      | inr full ↦
          absurd (told_whole head (meaning_of interfaces place head (take head.total bytes))
          (sym (front_here order interfaces place bytes head e full) ∙ part))
    ]
