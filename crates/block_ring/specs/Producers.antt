-- A ring that frames are put into, as contracts see it.
use Rattle.std.specs.Prelude.{◌≡◌, ℕ, ◌+◌, ◌<◌, ◌≤◌, List, [], ◌∷◌, ◌++◌, length, Some}
use Rattle.ring_model.specs.KnownReleases.{found_for, put_by, tick_note, try_by}
use Rattle.ring_model.specs.Ring.{MayFollow, Size, State, after, first_state, state_of}
use Rattle.ring_model.specs.Sizes.{need_of}
use Rattle.ring_model.specs.Told.{put_told, try_told}
use Rattle.ring_model.specs.declared.notes.Found.{Found}
use Rattle.ring_model.specs.declared.notes.Note.{Note}
use Rattle.ring_model.specs.declared.notes.Note.TheVariants.{Ticked, Finished}
use Rattle.ring_model.specs.declared.notes.Offer.{Offer}
use Rattle.ring_model.specs.declared.notes.Put.{Put}
use Rattle.ring_model.specs.declared.notes.Tried.{Tried}
use Rattle.ring_words.specs.Counts.{Rose}
use Rattle.ring_words.specs.Rings.{Feed}
use Rattle.tp_layout.specs.Requests.{size_of}
use Rattle.tp_layout.specs.declared.requests.RingRequest.{RingRequest}
use Rattle.block_ring.specs.Machines.{IsAt, IsFew, KeepsEnd}
use Rattle.block_ring.specs.CallNotes.{CountsHeld, FoundAsNoted, WasHeld, found_with, held_count}
use Rattle.block_ring.specs.Texts.{RepresentsTexts}
use Rattle.block_ring.specs.declared.machine.Machine.{Machine}

pub record Producing (E : Type 0) : Type 0 where
  -- the shape of its blocks
  pub shape : RingRequest
  -- what happened so far
  pub notes : List Note
  -- the number of notes that need no more memory
  pub spare : ℕ
  -- its end of the ring
  pub end : E

-- its size, as notes see it
abbrev pub size : {E : Type 0} → Producing E → Size
size ring = size_of ring.shape

-- the state that its notes leave
abbrev pub state : {E : Type 0} → Producing E → State
state ring = state_of (size_of ring.shape) ring.notes

-- a new ring over an end: block 1 is open
pub record Opens {E : Type 0} (feed : E → Feed) (request : RingRequest) (given_end : E)
    (ring : Producing E) : Type 0 where
  pub shape : ring.shape ≡ request
  pub notes : ring.notes ≡ []
  pub end : feed ring.end ≡ record (feed given_end) { given = 1 }

-- a call added this note, which may follow. The end represents the texts of all retired blocks, and
-- its looks found those blocks held that the notes report
pub record Adds {E : Type 0} (feed : E → Feed) (before after : Producing E) (note : Note)
    : Type 0 where
  pub shape : after.shape ≡ before.shape
  pub notes : after.notes ≡ before.notes ++ note ∷ []
  pub may_follow : MayFollow (size before) (state before) note
  pub texts : RepresentsTexts after.shape (state after).done (feed after.end)
  pub looks : held_count after.notes ≤ (feed after.end).holds
  pub numbers : FoundAsNoted after.notes (feed after.end).found
  pub spare : before.spare ≤ after.spare + 1
  pub end : KeepsEnd (feed before.end) (feed after.end)

-- a put found this. If the block was held one look of this call reported its number, otherwise no
-- look found one held; if the end reports how many blocks were released, what is found is exact
pub record Puts {E : Type 0} (feed : E → Feed) (before after : Producing E) (offer : Offer)
    (found : Found) (put : Put) : Type 0 where
  pub adds : Adds feed before after (put_by offer found)
  pub told : put ≡ put_told (put_by offer found)
  pub looked : WasHeld found (Rose (feed before.end).holds (feed after.end).holds)
  pub count : CountsHeld found (feed before.end).holds (feed after.end).holds
  pub number : (feed after.end).found ≡ found_with found (feed before.end).found
  pub exact : (released : ℕ) → (feed before.end).freed ≡ Some released
      → found ≡ found_for (size before) released (state before) (need_of offer.snap)

-- a try found this
pub record Tries {E : Type 0} (feed : E → Feed) (before after : Producing E) (offer : Offer)
    (found : Found) (tried : Tried) : Type 0 where
  pub adds : Adds feed before after (try_by offer found)
  pub told : tried ≡ try_told offer (try_by offer found)
  pub looked : WasHeld found (Rose (feed before.end).holds (feed after.end).holds)
  pub count : CountsHeld found (feed before.end).holds (feed after.end).holds
  pub number : (feed after.end).found ≡ found_with found (feed before.end).found
  pub exact : (released : ℕ) → (feed before.end).freed ≡ Some released
      → found ≡ found_for (size before) released (state before) (need_of offer.snap)

-- a tick found this
pub record Ticks {E : Type 0} (feed : E → Feed) (before after : Producing E) (ms : ℕ)
    (found : Found) : Type 0 where
  pub adds : Adds feed before after (Ticked ms found)
  pub looked : WasHeld found (Rose (feed before.end).holds (feed after.end).holds)
  pub count : CountsHeld found (feed before.end).holds (feed after.end).holds
  pub number : (feed after.end).found ≡ found_with found (feed before.end).found
  pub exact : (released : ℕ) → (feed before.end).freed ≡ Some released
      → Ticked ms found ≡ tick_note (size before) released (state before) ms

-- all is the same except how many notes need no memory
abbrev pub Stays : {E : Type 0} → Producing E → Producing E → Type 0
Stays before after = after ≡ record before { spare = after.spare }

-- a note that doesn't close the ring
abbrev pub GoesOn : Note → Type 0
GoesOn Finished = ⊥
GoesOn note = Unit {0}

-- each note may follow those before it, and none closes the ring
abbrev pub IsOpenRun : Size → State → List Note → Type 0
IsOpenRun size state [] = Unit {0}
IsOpenRun size state (note ∷ notes) =
    MayFollow size state note × GoesOn note × IsOpenRun size (after size state note) notes

-- what the fields of a ring keep
pub record Keeps {E : Type 0} (feed : E → Feed) (machine : Machine E) (notes : List Note) (room : ℕ)
    : Type 0 where
  pub at : IsAt feed 0 (state_of (size_of machine.shape) notes) machine
  pub run : IsOpenRun (size_of machine.shape) (first_state (size_of machine.shape)) notes
  pub looks : held_count notes ≤ (feed machine.end).holds
  pub numbers : FoundAsNoted notes (feed machine.end).found
  pub last : length notes < room
  pub few : IsFew machine
