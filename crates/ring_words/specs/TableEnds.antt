-- What the two ends of a ring between two threads report.
use Rattle.std.specs.Prelude.{◌≡◌, ℕ, zero, suc, ◌+◌, ◌-◌, ◌/◌, ◌%◌, ◌^◌, ◌<◌, ◌≤◌, Bool, true}
use Rattle.std.specs.Prelude.{false, List, [], ◌∷◌, ◌++◌, length, Option, None, Some, nat_eq}
use Rattle.std.specs.Prelude.{if◌then◌else◌}
use Rattle.atomic_table.specs.Seated.{TableId}
use Rattle.ring_words.specs.Looks.{IsOneRoundBefore}
use Rattle.ring_words.specs.Plays.{Holder}
use Rattle.ring_words.specs.Rings.{Entry, Feed, IsMark, IsStatus, Ring, Walk}

-- the feeder's end
pub record Feeding : Type 0 where
  -- the table that it is an end of, the number of its places, and what all its blocks have in
  -- common
  pub id : TableId
  pub places : ℕ
  pub kind : List ℕ
  -- how many blocks it was given
  pub given : ℕ
  -- the blocks that it retired, by number: its own stores
  pub retired : List Entry
  -- the words that its looks loaded, in order
  pub looks : List ℕ

-- the reader's end
pub record Walking : Type 0 where
  -- the table that it is an end of, the number of its places, and what all its blocks have in
  -- common
  pub id : TableId
  pub places : ℕ
  pub kind : List ℕ
  -- the blocks that it took, by number
  pub taken : List Entry
  -- whether it has the last of them in hand
  pub in_hand : Bool
  -- the words that it stored at the places of those that it released, by number
  pub marks : List ℕ
  -- the words that its looks loaded, in order
  pub visits : List ℕ

-- how many of these words are odd, of the reader's side
abbrev pub odd_count : List ℕ → ℕ
odd_count [] = 0
odd_count (word ∷ words) = word % 2 + odd_count words

-- the numbers in those of these words that are odd
abbrev pub found_in : List ℕ → List ℕ
found_in [] = []
found_in (word ∷ words) =
    (if nat_eq (word % 2) 1 then word / 256 ∷ found_in words else found_in words)

-- how many of these words are even, of the feeder's side
abbrev pub even_count : List ℕ → ℕ
even_count [] = 0
even_count (word ∷ words) = (1 - word % 2) + even_count words

-- the ring over a table
abbrev pub ring_at : TableId → ℕ → List ℕ → Ring
ring_at table count common = record { id = table; places = count; bound = 2 ^ 40; kind = common }

-- the feeder's end represents the blocks that it retired, and doesn't report what the reader does
abbrev pub feed_of : Feeding → Feed
feed_of feeder = record {
  ring = ring_at feeder.id feeder.places feeder.kind;
  given = feeder.given;
  retired = length feeder.retired;
  holds = odd_count feeder.looks;
  found = Some (found_in feeder.looks);
  freed = None;
  fetched = None;
  passed = 0;
  shown = feeder.retired;
}

-- the reader's end doesn't report what the feeder does
abbrev pub walk_of : Walking → Walk
walk_of walker = record {
  ring = ring_at walker.id walker.places walker.kind;
  in_hand = walker.in_hand;
  taken = length walker.taken;
  empties = even_count walker.visits;
  waiting = None;
}

-- ends of a new ring
abbrev pub fresh_feeder : TableId → ℕ → List ℕ → Feeding
fresh_feeder table count common = record {
  id = table;
  places = count;
  kind = common;
  given = 0;
  retired = [];
  looks = [];
}

abbrev pub fresh_walker : TableId → ℕ → List ℕ → Walking
fresh_walker table count common = record {
  id = table;
  places = count;
  kind = common;
  taken = [];
  in_hand = false;
  marks = [];
  visits = [];
}

-- what was taken has grown by this content
pub record Took (before after : Walking) (content : List ℕ) : Type 0 where
  pub status : ℕ
  pub one_more : after.taken ≡ before.taken ++ (content, status) ∷ []

-- the block in hand was given back, and this word was stored at its place
pub record GaveBack (before after : Walking) (mark : ℕ) : Type 0 where
  pub held : before.in_hand ≡ true
  pub rest : after ≡ record before { in_hand = false; marks = before.marks ++ mark ∷ [] }

-- all is the same except the looks
abbrev pub Stays : Walking → Walking → Type 0
Stays before after = after ≡ record before { visits = after.visits }

-- a look found an even word, which is the mark, and gave the block
pub record FoundMark (before after : Feeding) (mark : ℕ) : Type 0 where
  pub even : IsMark mark
  pub now : after ≡ record before { given = before.given + 1; looks = before.looks ++ mark ∷ [] }
  pub holds : odd_count after.looks ≡ odd_count before.looks
  pub found : found_in after.looks ≡ found_in before.looks

-- a look found an odd word with this number, that of the block one round before
pub record FoundNumber (before after : Feeding) (number : ℕ) : Type 0 where
  pub word : ℕ
  pub odd : IsStatus (word % 256)
  pub is_number : word / 256 ≡ number
  pub at_place : IsOneRoundBefore before.places (before.given + 1) number
  pub now : after ≡ record before { looks = before.looks ++ word ∷ [] }
  pub holds : odd_count after.looks ≡ odd_count before.looks + 1
  pub found : found_in after.looks ≡ found_in before.looks ++ number ∷ []

-- a look of the reader found an odd word, with the next number and the status of this block, which
-- may be retired with them
pub record TookWord (ready : ℕ → ℕ → Type 0) (before after : Walking) (content : List ℕ)
    : Type 0 where
  pub word : ℕ
  pub odd : IsStatus (word % 256)
  pub number : word / 256 ≡ length before.taken + 1
  pub is_ready : ready (length before.taken + 1) (word % 256)
  pub now : after ≡ record before {
    taken = before.taken ++ (content, word % 256) ∷ [];
    in_hand = true;
    visits = before.visits ++ word ∷ [];
  }
  pub empties : even_count after.visits ≡ even_count before.visits

-- a look of the reader found an even word
pub record FoundEven (before after : Walking) : Type 0 where
  pub word : ℕ
  pub even : IsMark word
  pub now : after ≡ record before { visits = before.visits ++ word ∷ [] }
  pub empties : even_count after.visits ≡ even_count before.visits + 1

-- the slots of n blocks from an index on, which are out and empty, the last one first
abbrev pub slots_of : {B : Type 0} → ℕ → ℕ → ℕ → List (ℕ × Option B)
slots_of places first zero = []
slots_of places first (suc count) = ((first + count) % places, None) ∷ slots_of places first count

-- an end is seated at its table, which has a word and a slot for each place
pub record IsSeated (table seat : TableId) (places : ℕ) : Type 0 where
  pub same : seat ≡ table
  pub words : table.words ≡ places
  pub slots : table.slots ≡ places
  pub some_places : 2 ≤ places
  pub few_places : places ≤ 65536

-- what the fields of the feeder's end keep: its counts are those that its seat knows, and the slots
-- of the blocks in hand are out
pub record KeepsFeed {B : Type 0} (me : Holder B) (places given retired : ℕ) : Type 0 where
  pub feeds : me.0.feeds ≡ true
  pub count : me.0.given ≡ given
  -- until the first block is given no look has found one held
  pub first : given ≡ 0 → found_in me.0.looks ≡ []
  pub retired_count : length me.0.retired ≡ retired
  pub order : retired ≤ given
  pub two_in_hand : given ≤ retired + 2
  pub few : given < 2 ^ 40
  pub out : me.1 ≡ slots_of places retired (given - retired)

-- what the fields of the reader's end keep
pub record KeepsWalk {B : Type 0} (me : Holder B) (places taken released : ℕ) : Type 0 where
  pub walks : me.0.walks ≡ true
  pub count : length me.0.taken ≡ taken
  pub released_count : length me.0.marks ≡ released
  pub order : released ≤ taken
  pub one_in_hand : taken ≤ released + 1
  pub few : taken < 2 ^ 40
  pub out : me.1 ≡ slots_of places released (taken - released)
