-- What a look at the next block's status word found.
use Rattle.std.specs.Prelude.{◌≡◌, ℕ, ◌+◌, ◌<◌}
use Rattle.ring_words.specs.declared.ends.Next.{Next}
use Rattle.ring_words.specs.declared.ends.Next.TheVariants.{Free, Held}

-- this holds of the block and of its mark, where the block was free
abbrev pub IfFree : {B : Type 0} → Next B → (B → ℕ → Type 0) → Type 0
IfFree (Free block mark) P = P block mark
IfFree (Held number) P = Unit {0}

-- this holds of the number, where the block is still the reader's
abbrev pub IfHeld : {B : Type 0} → Next B → (ℕ → Type 0) → Type 0
IfHeld (Free block mark) P = Unit {0}
IfHeld (Held number) P = P number

abbrev pub OnFree : {B : Type 0} → Next B → Type 0 → Type 0
OnFree next P = IfFree next (λ block mark. P)

abbrev pub OnHeld : {B : Type 0} → Next B → Type 0 → Type 0
OnHeld next P = IfHeld next (λ number. P)

-- the block of this number is at the place that the next one takes
pub record IsOneRoundBefore (places next number : ℕ) : Type 0 where
  pub opened : 0 < number
  pub place : number + places ≡ next
