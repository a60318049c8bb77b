-- A ring on one thread, in plain data.
use Rattle.std.specs.Prelude.{◌≡◌, ℕ, ◌+◌, ◌^◌, ◌<◌, ◌≤◌, Bool, List, [], ◌∷◌, ◌++◌, map, length}
use Rattle.std.specs.Prelude.{replicate, nat_lt, if◌then◌else◌, None, Some}
use Rattle.std.specs.List.{AllByRecursion}
use Rattle.atomic_table.specs.Seated.{TableId}
use Rattle.ring_words.specs.Rings.{Entry, Feed, IsMark, IsStatus, Ring, Walk}
use Rattle.ring_words.specs.declared.plain_ring.Filled.{Filled}
use Rattle.ring_words.specs.declared.plain_ring.Vacant.{Vacant}

-- the numbers that say who owns which block, the blocks at their places, and the counts of looks
pub record PlainState : Type 0 where
  pub places : ℕ
  pub kind : List ℕ
  -- how many blocks were given to the feeder, retired by it, taken by the reader and released by it
  pub given : ℕ
  pub retired : ℕ
  pub taken : ℕ
  pub released : ℕ
  -- the retired blocks that weren't taken, by number
  pub shown : List Entry
  -- the words of the free blocks, by number, and what these blocks hold; a closing ring has dropped
  -- them
  pub marks : List ℕ
  pub contents : List (List ℕ)
  -- how many looks of the feeder found no free block, and how many of the reader no retired one
  pub holds : ℕ
  pub empties : ℕ

-- no table
abbrev pub no_table : TableId
no_table = record {
  words = 0;
  slots = 0;
  views_name = 0;
  atom = 0;
  block = 0;
  offset = 0;
  slot_names = [];
}

-- what no call changes
abbrev pub ring_of : PlainState → Ring
ring_of state = record { id = no_table; places = state.places; bound = 2 ^ 55; kind = state.kind }

-- a new ring of n blocks with these contents, all of them free
abbrev pub fresh : ℕ → List ℕ → List (List ℕ) → PlainState
fresh count common blocks = record {
  places = count;
  kind = common;
  given = 0;
  retired = 0;
  taken = 0;
  released = 0;
  shown = [];
  marks = replicate count 0;
  contents = blocks;
  holds = 0;
  empties = 0;
}

-- whether the reader has a block in hand
abbrev pub has_block : PlainState → Bool
has_block state = nat_lt state.released state.taken

-- what the ring reports as an end of the feeder's side: it represents the blocks that weren't taken
abbrev pub feed_of : PlainState → Feed
feed_of state = record {
  ring = ring_of state;
  given = state.given;
  retired = state.retired;
  holds = state.holds;
  found = None;
  freed = Some state.released;
  fetched = Some state.taken;
  passed = state.taken;
  shown = state.shown;
}

-- what it reports as an end of the reader's side
abbrev pub walk_of : PlainState → Walk
walk_of state = record {
  ring = ring_of state;
  in_hand = has_block state;
  taken = state.taken;
  empties = state.empties;
  waiting = Some (length state.shown);
}

-- who owns which block of a ring: of the numbers from `released` on, first comes the reader's block
-- in hand, then those that wait for it, then the feeder's in hand, then the free ones, up to one
-- round
pub record IsOwned (state : PlainState) : Type 0 where
  pub one_in_hand : (state.released ≤ state.taken) × (state.taken ≤ state.released + 1)
  pub waiting : state.taken + length state.shown ≡ state.retired
  pub two_in_hand : (state.retired ≤ state.given) × (state.given ≤ state.retired + 2)
  pub free : state.given + length state.marks ≡ state.released + state.places
  pub statuses : AllByRecursion (λ entry. IsStatus entry.1) state.shown
  pub words : AllByRecursion IsMark state.marks

-- the first waiting block was taken, and released too where none is in hand
pub record Took (before after : PlainState) (content : List ℕ) : Type 0 where
  pub first : (status : ℕ) × (before.shown ≡ (content, status) ∷ after.shown)
  pub taken : after.taken ≡ before.taken + 1
  pub released : after.released ≡ (if has_block after then before.released else before.released + 1)
  pub rest : after ≡ record before {
    taken = after.taken;
    released = after.released;
    shown = after.shown;
    marks = after.marks;
    contents = after.contents;
  }

-- the feeder was given the first free block, which holds this, and this is the word that was at its
-- place
pub record FoundFree (before after : PlainState) (content : List ℕ) (mark : ℕ) : Type 0 where
  pub block : before.contents ≡ content ∷ after.contents
  pub word : before.marks ≡ mark ∷ after.marks
  pub rest : after ≡ record before {
    given = before.given + 1;
    marks = after.marks;
    contents = after.contents;
  }

-- the block in hand was released, and this word is at its place
pub record GaveBack (before after : PlainState) (mark : ℕ) : Type 0 where
  pub released : after.released ≡ before.released + 1
  pub stored : after.marks ≡ before.marks ++ mark ∷ []
  pub rest :
      after
      ≡ record before { released = after.released; marks = after.marks; contents = after.contents }

-- and it is there with this content
pub record PutBack (before after : PlainState) (content : List ℕ) (mark : ℕ) : Type 0 where
  pub gave_back : GaveBack before after mark
  pub block : after.contents ≡ before.contents ++ content ∷ []

-- all is the same except the count of looks that found no block to take
abbrev pub Stays : PlainState → PlainState → Type 0
Stays before after = after ≡ record before { empties = after.empties }

-- blocks that wait may be retired with their numbers, from this one on, and their statuses
abbrev pub AreReady : {B : Type 0} → (B → ℕ → ℕ → Type 0) → ℕ → List (Filled B) → Type 0
AreReady ready number [] = Unit {0}
AreReady ready number (filled ∷ rest) =
    ready filled.block number filled.status × AreReady ready (number + 1) rest

abbrev pub entries_of : {B : Type 0} → (B → List ℕ) → List (Filled B) → List Entry
entries_of bytes blocks = map (λ filled. (bytes filled.block, filled.status)) blocks

abbrev pub marks_of : {B : Type 0} → List (Vacant B) → List ℕ
marks_of blocks = map (λ vacant. vacant.mark) blocks

abbrev pub contents_of : {B : Type 0} → (B → List ℕ) → List (Vacant B) → List (List ℕ)
contents_of bytes blocks = map (λ vacant. bytes vacant.block) blocks

-- what the fields of a ring keep
pub record Keeps {B : Type 0} (kind : B → List ℕ) (ready : B → ℕ → ℕ → Type 0) (state : PlainState)
    (vacant : List (Vacant B)) (filled : List (Filled B)) : Type 0 where
  pub owned : IsOwned state
  pub some_places : 2 ≤ state.places
  pub few_places : state.places ≤ 1048576
  pub few_blocks : state.given < 2 ^ 55
  pub vacant_kind : AllByRecursion (λ place. kind place.block ≡ state.kind) vacant
  pub filled_kind : AllByRecursion (λ place. kind place.block ≡ state.kind) filled
  pub filled_ready : AreReady ready (state.taken + 1) filled
