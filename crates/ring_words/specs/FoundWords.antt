-- What a look found is a word that was there. A look changes nothing, so when it was made follows
-- from how many looks its end had made when the other end stored a word, which that end records
-- with each store.
use Rattle.std.specs.Prelude.{◌≡◌, ℕ, ◌+◌, ◌*◌, ◌%◌, ◌<◌, ◌≤◌, List, ◌++◌, replicate}
use mathlib.Core.Option.{some}
use lib.ListN.{get_elem?}
use Rattle.ring_words.specs.Rings.{Entry}

-- what is known of each block by its number when it is free: the first round of places was free
-- from the start, with 0
abbrev pub from_start : ℕ → List ℕ → List ℕ
from_start places released = replicate places 0 ++ released

-- the word of a retired block
pub record WasRetired (log : List Entry) (index word : ℕ) : Type 0 where
  pub entry : Entry
  pub at : get_elem? log index ≡ some entry
  pub is : word ≡ (index + 1) * 256 + entry.1

-- A look of the feeder at the place of the block that it is given next, with the numbers of looks
-- and of given blocks before it.
pub record IsLook (places : ℕ) (log : List Entry) (marks freed_at : List ℕ) (looks given word : ℕ)
    : Type 0 where
  -- an even word is the one stored when that block was released
  pub mark : word % 2 ≡ 0 → get_elem? (from_start places marks) given ≡ some word
  -- the block was released before the look
  pub free :
      word % 2 ≡ 0 → (at : ℕ) → get_elem? (from_start places freed_at) given ≡ some at → at ≤ looks
  -- an odd word is that of the block one round before
  pub number : word % 2 ≡ 1 → (index : ℕ) × (index + places ≡ given) × WasRetired log index word
  -- that block was released after the look, or isn't released yet
  pub held :
      word % 2 ≡ 1 → (at : ℕ) → get_elem? (from_start places freed_at) given ≡ some at → looks < at

-- A look of the reader at the place of the block that it takes next, with the numbers of looks and
-- of taken blocks before it.
pub record IsVisit (places : ℕ) (log : List Entry) (marks shown_at : List ℕ) (looks taken word : ℕ)
    : Type 0 where
  -- an odd word is that of this block
  pub number : word % 2 ≡ 1 → WasRetired log taken word
  -- the block was retired before the look
  pub shown : word % 2 ≡ 1 → (at : ℕ) → get_elem? shown_at taken ≡ some at → at ≤ looks
  -- an even word is the one that is there since that place was free
  pub mark : word % 2 ≡ 0 → get_elem? (from_start places marks) taken ≡ some word
  -- the block was retired after the look, or isn't retired yet
  pub none : word % 2 ≡ 0 → (at : ℕ) → get_elem? shown_at taken ≡ some at → looks < at
