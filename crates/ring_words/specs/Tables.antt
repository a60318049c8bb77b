-- The rule of a ring between two threads. Its table has a status word and a slot for each place; a
-- block at its place is in the slot, and a block that is out has left `None` there, which only its
-- end may replace. The index of a block is its number less one, and its place is the index modulo
-- the number of places.
use Rattle.std.specs.Prelude.{◌≡◌, ℕ, ◌+◌, ◌*◌, ◌%◌, ◌^◌, ◌<◌, ◌≤◌, Bool, true, false, List, []}
use Rattle.std.specs.Prelude.{◌∷◌, ◌++◌, length, take, slice_index, Option, Some}
use mathlib.Core.Option.{some, none}
use mathlib.Core.Option as maybe
use lib.ListN.{get_elem?}
use Rattle.atomic_table.specs.Table.{State}
use Rattle.ring_words.specs.Rings.{Entry, IsMark, IsStatus}
use Rattle.ring_words.specs.FoundWords.{IsLook, IsVisit, from_start}
use Rattle.ring_words.specs.TableEnds.{even_count, odd_count}
use Rattle.ring_words.specs.declared.knowledge.Known.{Known}

-- how far a ring has come
pub record Course : Type 0 where
  -- the blocks that were retired so far
  pub log : List Entry
  -- how many blocks were given to the feeder, taken by the reader and released by it
  pub given : ℕ
  pub taken : ℕ
  pub released : ℕ
  -- the words that were stored at the places of the released blocks, by number
  pub marks : List ℕ
  -- the words that the looks of the feeder and of the reader found, in order
  pub looks : List ℕ
  pub visits : List ℕ
  -- how many looks the reader had made when each block was retired, and the feeder when each was
  -- released, by number
  pub shown_at : List ℕ
  pub freed_at : List ℕ

-- what may be in a slot: it is at home with a block or none, or out
abbrev pub Home : Type 0 → Type 0
Home B = maybe.Option (Option B)

module _ {B : Type 0} (bytes kind_of : B → List ℕ) (ready : B → ℕ → ℕ → Type 0) (kind : List ℕ)
  where
    -- a block is at this place
    pub record IsAtPlace (homes : List (Home B)) (place : ℕ) (block : B) : Type 0 where
      pub home : get_elem? homes place ≡ some (some (Some block))
      pub same_kind : kind_of block ≡ kind

    -- the block of an entry is at this place, and may be there as a retired one
    pub record Waits (homes : List (Home B)) (place index : ℕ) (entry : Entry) : Type 0 where
      pub block : B
      pub at_place : IsAtPlace homes place block
      pub content : bytes block ≡ entry.0
      pub is_ready : ready block (index + 1) entry.1

    -- the block of an index at its place, for the indices of one round, which begins with the first
    -- that isn't released
    pub record IsPlaced (course : Course) (words : List ℕ) (homes : List (Home B))
        (places index : ℕ) : Type 0 where
      -- the word of a retired block has its number and its status
      pub written : (entry : Entry) → get_elem? course.log index ≡ some entry →
          (slice_index words (index % places) ≡ (index + 1) * 256 + entry.1) × IsStatus entry.1
      -- the reader has it in hand, or is moving it from or to its place
      pub reading : index < course.taken → get_elem? homes (index % places) ≡ some none
      -- or it waits at its place
      pub waiting :
          (entry : Entry) → get_elem? course.log index ≡ some entry → course.taken ≤ index →
          Waits homes (index % places) index entry
      -- the word of any other block is even
      pub marked : length course.log ≤ index → IsMark (slice_index words (index % places))
      -- that word is the last one stored there, or 0 at first
      pub stored : length course.log ≤ index →
          get_elem? (from_start places course.marks) index
          ≡ some (slice_index words (index % places))
      -- the feeder has it in hand, or is moving it from or to its place, or has discarded it
      pub filling :
          length course.log ≤ index
          → index < course.given
          → get_elem? homes (index % places) ≡ some none
      -- or it is free, at its place
      pub free : course.given ≤ index → (block : B) × IsAtPlace homes (index % places) block

    -- who owns which block of a ring
    pub record IsOwnedBy (course : Course) (state : State (Option B) Known) : Type 0 where
      pub some_places : 2 ≤ length state.homes
      pub as_many : length state.words ≡ length state.homes
      pub released : course.released ≤ course.taken
      pub taken : course.taken ≤ length course.log
      pub retired : length course.log ≤ course.given
      pub two_in_hand : course.given ≤ length course.log + 2
      pub one_round : course.given ≤ course.released + length state.homes
      pub few : course.given < 2 ^ 40
      pub placed :
          (index : ℕ) → course.released ≤ index → index < course.released + length state.homes →
          IsPlaced course state.words state.homes (length state.homes) index

-- What the looks of both ends found are the words that were there at the time.
pub record IsSeen (places : ℕ) (course : Course) : Type 0 where
  -- each look of the feeder came after as many given blocks as looks before it found an even word
  pub looks : (i word : ℕ) → get_elem? course.looks i ≡ some word →
      IsLook places course.log course.marks course.freed_at i (even_count (take i course.looks))
      word
  pub given : even_count course.looks ≡ course.given
  -- each look of the reader came after as many taken blocks as looks before it found an odd word
  pub visits : (i word : ℕ) → get_elem? course.visits i ≡ some word →
      IsVisit places course.log course.marks course.shown_at i (odd_count (take i course.visits))
      word
  pub taken : odd_count course.visits ≡ course.taken
  -- each block that was released has its mark, and the number of looks that the feeder had made by
  -- then
  pub marks : length course.marks ≡ course.released
  pub freed : length course.freed_at ≡ course.released
  pub freed_made : (i at : ℕ) → get_elem? course.freed_at i ≡ some at → at ≤ length course.looks
  -- each block that was retired has the number of looks that the reader had made by then
  pub shown : length course.shown_at ≡ length course.log
  pub shown_made : (i at : ℕ) → get_elem? course.shown_at i ≡ some at → at ≤ length course.visits

-- what the feeder's end knows
pub record KnowsFeed (kind : List ℕ) (feeder : ℕ) (course : Course) (id : ℕ) (known : Known)
    : Type 0 where
  pub seat : id ≡ feeder
  pub same_kind : known.kind ≡ kind
  pub given : known.given ≡ course.given
  pub retired : known.retired ≡ course.log
  pub looks : known.looks ≡ course.looks
  pub shown_at : known.shown_at ≡ course.shown_at

-- what the reader's end knows: it took the first blocks that were retired
pub record KnowsWalk (kind : List ℕ) (walker : ℕ) (course : Course) (id : ℕ) (known : Known)
    : Type 0 where
  pub seat : id ≡ walker
  pub same_kind : known.kind ≡ kind
  pub count : length known.taken ≡ course.taken
  pub front : known.taken ≡ take course.taken course.log
  pub released : length known.marks ≡ course.released
  pub marks : known.marks ≡ course.marks
  pub visits : known.visits ≡ course.visits
  pub freed_at : known.freed_at ≡ course.freed_at

-- what the end of a seat knows. Until the ring is finished the reader has one block in hand at most
pub record Knows (kind : List ℕ) (feeder walker : ℕ) (course : Course) (id : ℕ) (known : Known)
    : Type 0 where
  pub feed : known.feeds ≡ true → KnowsFeed kind feeder course id known
  pub walk : known.walks ≡ true → KnowsWalk kind walker course id known
  pub hand : known.walks ≡ true → known.feeds ≡ false → course.taken ≤ course.released + 1

-- this seat is an end's, of the feeder's side or the reader's as the test says
pub record Sits (test : Known → Bool) (views : List Known) (seat : ℕ) : Type 0 where
  pub known : Known
  pub there : get_elem? views seat ≡ some known
  pub does : test known ≡ true

-- there are a feeder and a reader, each in a seat of its own or both in one, and each knows its
-- side of a course
pub record EachKnows (kind : List ℕ) (course : Course) (views : List Known) : Type 0 where
  pub feeder : ℕ
  pub walker : ℕ
  pub feeds : Sits (λ known. known.feeds) views feeder
  pub walks : Sits (λ known. known.walks) views walker
  pub knows :
      (id : ℕ) (known : Known)
      → get_elem? views id ≡ some known
      → Knows kind feeder walker course id known

-- the rule: some course, and two seats for the two ends, or one for both
pub record IsRing {B : Type 0} (bytes kind_of : B → List ℕ) (ready : B → ℕ → ℕ → Type 0)
    (kind : List ℕ) (state : State (Option B) Known) : Type 0 where
  pub course : Course
  pub feeder : ℕ
  pub walker : ℕ
  pub owned : IsOwnedBy bytes kind_of ready kind course state
  pub seen : IsSeen (length state.homes) course
  pub feeds : Sits (λ known. known.feeds) state.views feeder
  pub walks : Sits (λ known. known.walks) state.views walker
  pub knows : (id : ℕ) (known : Known) → get_elem? state.views id ≡ some known →
      Knows kind feeder walker course id known

-- the blocks that were taken are the first of those that were retired
pub record IsFront (taken retired : List Entry) : Type 0 where
  pub count : length taken ≤ length retired
  pub front : taken ≡ take (length taken) retired

-- the blocks that the reader's end knows it took are a prefix of those that the feeder's end knows
-- it retired
abbrev pub TakesFront : List Known → Type 0
TakesFront views =
    (feeder walker : ℕ) (fed walked : Known)
    → get_elem? views feeder ≡ some fed
    → get_elem? views walker ≡ some walked
    → fed.feeds ≡ true → walked.walks ≡ true → IsFront walked.taken fed.retired

-- how far a ring has come, by what its two ends know
abbrev pub course_of : Known → Known → Course
course_of fed walked = record {
  log = fed.retired;
  given = fed.given;
  taken = length walked.taken;
  released = length walked.marks;
  marks = walked.marks;
  looks = fed.looks;
  visits = walked.visits;
  shown_at = fed.shown_at;
  freed_at = walked.freed_at;
}

-- what both ends know their looks found are words that were there at the time
abbrev pub LooksHold : ℕ → List Known → Type 0
LooksHold places views =
    (feeder walker : ℕ) (fed walked : Known)
    → get_elem? views feeder ≡ some fed
    → get_elem? views walker ≡ some walked
    → fed.feeds ≡ true → walked.walks ≡ true → IsSeen places (course_of fed walked)

-- Between these two states a step added this word to the looks that the feeder's end knows, and
-- nothing else of what either end knows of its stores. Then it is the word that was at the place of
-- the next block.
abbrev pub LooksAreTrue : {B : Type 0} → State (Option B) Known → State (Option B) Known → Type 0
LooksAreTrue before after =
    length after.homes ≡ length before.homes
    → (feeder walker : ℕ) (fed fed' walked : Known) (word : ℕ)
    → get_elem? before.views feeder ≡ some fed → get_elem? after.views feeder ≡ some fed'
    → get_elem? before.views walker ≡ some walked → get_elem? after.views walker ≡ some walked
    → fed.feeds ≡ true → fed'.feeds ≡ true → walked.walks ≡ true
    → fed'.retired ≡ fed.retired → fed'.looks ≡ fed.looks ++ word ∷ []
    → word ≡ slice_index before.words (fed.given % length before.homes)

-- the same of the looks of the reader's end
abbrev pub VisitsAreTrue : {B : Type 0} → State (Option B) Known → State (Option B) Known → Type 0
VisitsAreTrue before after =
    length after.homes ≡ length before.homes
    → (feeder walker : ℕ) (fed walked walked' : Known) (word : ℕ)
    → get_elem? before.views feeder ≡ some fed → get_elem? after.views feeder ≡ some fed
    → get_elem? before.views walker ≡ some walked → get_elem? after.views walker ≡ some walked'
    → fed.feeds ≡ true → walked.walks ≡ true → walked'.walks ≡ true
    → walked'.marks ≡ walked.marks → walked'.visits ≡ walked.visits ++ word ∷ []
    → word ≡ slice_index before.words (length walked.taken % length before.homes)
