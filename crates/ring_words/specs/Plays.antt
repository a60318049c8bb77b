-- What each step on the table of a ring shows the end that makes it.
use Rattle.std.specs.Prelude.{◌≡◌, ℕ, ◌+◌, ◌/◌, ◌%◌, ◌^◌, ◌<◌, ◌≤◌, List, [], ◌∷◌, ◌++◌, length}
use Rattle.std.specs.Prelude.{take, Option, Some, None}
use Rattle.atomic_table.specs.Table.{Me, Step, rest}
use Rattle.ring_words.specs.Rings.{Entry, IsMark, IsStatus}
use Rattle.ring_words.specs.declared.knowledge.Known.{Known}

-- an end: what it knows, and the slots that it has out
abbrev pub Holder : Type 0 → Type 0
Holder B = Me (Option B) Known

-- the entry of the block in the slot that an end has had out last
abbrev pub entry_of : {B : Type 0} → (B → List ℕ) → ℕ → List (ℕ × Option B) → List Entry
entry_of bytes status [] = []
entry_of bytes status ((place, None) ∷ slots) = []
entry_of bytes status ((place, Some block) ∷ slots) = (bytes block, status) ∷ []

module _ {B : Type 0} (bytes kind_of : B → List ℕ) (ready : B → ℕ → ℕ → Type 0) where
  -- the feeder looked at the next place, found a free block, and has it in hand
  pub record FoundFree (step : Step (Option B)) (before : Holder B) (word : ℕ) (after : Holder B)
      : Type 0 where
    pub block : B
    pub hand : after.1 ≡ (step.word, Some block) ∷ before.1
    pub same_kind : kind_of block ≡ before.0.kind
    pub mark : IsMark word
    pub known :
        after.0
        ≡ record before.0 { given = before.0.given + 1; looks = before.0.looks ++ word ∷ [] }

  -- it found the reader's block of one round before
  pub record FoundHeld (step : Step (Option B)) (before : Holder B) (word : ℕ) (after : Holder B)
      : Type 0 where
    pub hand : after.1 ≡ before.1
    pub status : IsStatus (word % 256)
    pub opened : 0 < word / 256
    pub place : word / 256 + step.slots ≡ before.0.given + 1
    pub known : after.0 ≡ record before.0 { looks = before.0.looks ++ word ∷ [] }

  -- the feeder looked at the next place
  pub record Looks (step : Step (Option B)) (before : Holder B) (word : ℕ) (after : Holder B)
      : Type 0 where
    pub free : word % 2 ≡ 0 → FoundFree step before word after
    pub held : word % 2 ≡ 1 → FoundHeld step before word after

  -- the feeder stored number and status after the block that it put back at its place
  pub record Stores (step : Step (Option B)) (before : Holder B) (word : ℕ) (after : Holder B)
      : Type 0 where
    pub hand : after.1 ≡ rest before.1
    -- how many looks the reader had made
    pub at : ℕ
    pub known : after.0 ≡ record before.0 {
      retired = before.0.retired ++ entry_of bytes (word % 256) before.1;
      shown_at = before.0.shown_at ++ at ∷ [];
    }

  -- the reader looked at the next place, found a retired block, and has it in hand
  pub record FoundNext (step : Step (Option B)) (before : Holder B) (word : ℕ) (after : Holder B)
      : Type 0 where
    pub block : B
    pub hand : after.1 ≡ (step.word, Some block) ∷ before.1
    pub same_kind : kind_of block ≡ before.0.kind
    pub status : IsStatus (word % 256)
    pub number : word / 256 ≡ length before.0.taken + 1
    pub few : length before.0.taken + 1 < 2 ^ 40
    pub is_ready : ready block (length before.0.taken + 1) (word % 256)
    pub known : after.0 ≡ record before.0 {
      taken = before.0.taken ++ (bytes block, word % 256) ∷ [];
      visits = before.0.visits ++ word ∷ [];
    }

  -- it found none
  pub record FoundNone (before : Holder B) (word : ℕ) (after : Holder B) : Type 0 where
    pub hand : after.1 ≡ before.1
    pub mark : IsMark word
    pub known : after.0 ≡ record before.0 { visits = before.0.visits ++ word ∷ [] }

  -- the reader looked at the next place
  pub record Fetches (step : Step (Option B)) (before : Holder B) (word : ℕ) (after : Holder B)
      : Type 0 where
    pub some : word % 2 ≡ 1 → FoundNext step before word after
    pub none : word % 2 ≡ 0 → FoundNone before word after

  -- the reader stored the mark after the block that it put back at its place
  pub record Frees (before : Holder B) (word : ℕ) (after : Holder B) : Type 0 where
    pub hand : after.1 ≡ rest before.1
    -- how many looks the feeder had made
    pub at : ℕ
    pub known : after.0 ≡ record before.0 {
      marks = before.0.marks ++ word ∷ [];
      freed_at = before.0.freed_at ++ at ∷ [];
    }

  -- an end for both sides compared them: what was taken is a prefix of what was retired
  pub record Compares (before after : Holder B) : Type 0 where
    pub same : after ≡ before
    pub count : length before.0.taken ≤ length before.0.retired
    pub front : before.0.taken ≡ take (length before.0.taken) before.0.retired

  -- an end for both sides took the next block, without a test, and compared
  pub record Drains (step : Step (Option B)) (before : Holder B) (word : ℕ) (after : Holder B)
      : Type 0 where
    pub next : FoundNext step before word after
    pub front : after.0.taken ≡ take (length after.0.taken) before.0.retired
