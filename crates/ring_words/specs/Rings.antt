-- What is reported of a ring, as plain data. Block numbers count from 1 in the order in which the
-- feeder is given blocks.
use Rattle.std.specs.Prelude.{◌≡◌, ℕ, ◌%◌, ◌<◌, ◌≤◌, Bool, List, [], ◌∷◌, ◌++◌, length, drop}
use Rattle.std.specs.Prelude.{Option, option_map}
use Rattle.atomic_table.specs.Seated.{TableId}

-- which ring an end belongs to, and what no call changes of it
pub record Ring : Type 0 where
  -- the table of its words; rings on one thread have none, and all report the same
  pub id : TableId
  -- the number of its places: block number s is at the place (s - 1) modulo this
  pub places : ℕ
  -- block numbers stay below it
  pub bound : ℕ
  -- what all its blocks have in common, as numbers
  pub kind : List ℕ

-- a retired block: its content, and the status that it was retired with
abbrev pub Entry : Type 0
Entry = List ℕ × ℕ

-- a status word of the feeder's side
pub record IsMark (word : ℕ) : Type 0 where
  pub even : word % 2 ≡ 0
  pub small : word < 256

-- the status of a word of the reader's side, which is the block's number times 256 and this
pub record IsStatus (status : ℕ) : Type 0 where
  pub odd : status % 2 ≡ 1
  pub small : status < 256

-- what an end of the feeder's side reports
pub record Feed : Type 0 where
  -- the ring that it is an end of
  pub ring : Ring
  -- how many blocks it was given so far, which is the number of the last one, and how many of them
  -- it retired
  pub given : ℕ
  pub retired : ℕ
  -- how many of its looks found a word of the reader's side; it saturates at the greatest u64
  pub holds : ℕ
  -- the numbers in these words, in order, where the end reports them
  pub found : Option (List ℕ)
  -- how many blocks the reader released and how many it took, where the end reports that
  pub freed : Option ℕ
  pub fetched : Option ℕ
  -- what it reports of the retired blocks: those after the first n are these
  pub passed : ℕ
  pub shown : List Entry

-- these numbers, where they are reported, and one more
abbrev pub and_found : ℕ → Option (List ℕ) → Option (List ℕ)
and_found number found = option_map (λ numbers. numbers ++ number ∷ []) found

-- the end represents the list of all blocks retired so far
pub record RepresentsBlocks (feed : Feed) (all : List Entry) : Type 0 where
  pub count : length all ≡ feed.retired
  pub front : feed.passed ≤ feed.retired
  pub rest : drop feed.passed all ≡ feed.shown

-- a step of the reader leaves the feeder's side as it was, and the end represents what it did
-- before
pub record LeavesFeeder (before after : Feed) : Type 0 where
  pub ring : after.ring ≡ before.ring
  pub given : after.given ≡ before.given
  pub retired : after.retired ≡ before.retired
  pub holds : after.holds ≡ before.holds
  pub found : after.found ≡ before.found
  pub represents : (all : List Entry) → RepresentsBlocks before all → RepresentsBlocks after all

-- what an end of the reader's side reports
pub record Walk : Type 0 where
  -- the ring that it is an end of
  pub ring : Ring
  -- whether a block is in hand: it was taken and not yet released
  pub in_hand : Bool
  -- how many blocks it took so far
  pub taken : ℕ
  -- how many of its looks found a word of the feeder's side; it saturates at the greatest u64
  pub empties : ℕ
  -- how many retired blocks wait to be taken, where the end reports that
  pub waiting : Option ℕ
