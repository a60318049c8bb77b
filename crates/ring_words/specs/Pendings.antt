-- What is left of a ring between two threads once it is finished.
use Rattle.std.specs.Prelude.{◌≡◌, ℕ, ◌+◌, ◌-◌, List, [], ◌∷◌, ◌++◌, drop, length, map}
use Rattle.std.specs.List.{AllByRecursion}
use Rattle.ring_words.specs.Plays.{Holder}
use Rattle.ring_words.specs.Rings.{Entry}
use Rattle.ring_words.specs.TableEnds.{found_in, odd_count}
use Rattle.ring_words.specs.declared.knowledge.Known.{Known}

-- the pending blocks of a ring, and what its feeder did
pub record Pends (B : Type 0) : Type 0 where
  -- what all blocks of the ring have in common
  pub kind : List ℕ
  -- the retired blocks that weren't taken, by number, each with its status
  pub blocks : List (B × ℕ)
  -- how many blocks were taken before the first of them
  pub passed : ℕ
  -- all blocks that the feeder retired
  pub retired : List Entry
  -- how many looks of the feeder found an odd word
  pub holds : ℕ
  -- the numbers in these words, in order
  pub found : List ℕ

-- contents and statuses of blocks
abbrev pub entries_of : {B : Type 0} → (B → List ℕ) → List (B × ℕ) → List Entry
entries_of bytes blocks = map (λ one. (bytes one.0, one.1)) blocks

-- blocks may be retired with their statuses and the numbers that follow this one
abbrev pub AreReadyAfter : {B : Type 0} → (B → ℕ → ℕ → Type 0) → ℕ → List (B × ℕ) → Type 0
AreReadyAfter ready number [] = Unit {0}
AreReadyAfter ready number (one ∷ rest) =
    ready one.0 (number + 1) one.1 × AreReadyAfter ready (number + 1) rest

-- what a seat that knew both ends' sides has left
abbrev pub pends_of : {B : Type 0} → Holder B → List (B × ℕ) → Pends B
pends_of me left = record {
  kind = me.0.kind;
  blocks = left;
  passed = length me.0.retired - length left;
  retired = me.0.retired;
  holds = odd_count me.0.looks;
  found = found_in me.0.looks;
}

-- the pending blocks are the last that were retired, of the ring's kind, and each may be retired
-- with its number and status
pub record IsLeft {B : Type 0} (bytes kind_of : B → List ℕ) (ready : B → ℕ → ℕ → Type 0)
    (pends : Pends B) : Type 0 where
  pub last : drop pends.passed pends.retired ≡ entries_of bytes pends.blocks
  pub count : pends.passed + length pends.blocks ≡ length pends.retired
  pub same_kind : AllByRecursion (λ one. kind_of one.0 ≡ pends.kind) pends.blocks
  pub are_ready : AreReadyAfter ready pends.passed pends.blocks

-- a seat that knows both ends' sides took one block more
pub record TookOne (before after : Known) (entry : Entry) : Type 0 where
  pub known : after ≡ record before { taken = after.taken; visits = after.visits }
  pub taken : after.taken ≡ before.taken ++ entry ∷ []
