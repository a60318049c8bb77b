-- The ring as a machine of notes. Times are in milliseconds, block numbers count from 1.
use Rattle.std.specs.Prelude.{◌≡◌, ℕ, ◌+◌, ◌<◌, ◌≤◌, ◌≢◌, ◌⊎◌, Bool, true, false, List, [], ◌∷◌}
use Rattle.std.specs.Prelude.{◌++◌, length, nat_lt, ◌==◌, if◌then◌else◌, IsTrue, IsFalse, Option}
use Rattle.std.specs.Prelude.{None, Some}
use Rattle.ring_model.specs.Sizes.{need_of, fits}
use Rattle.ring_model.specs.declared.notes.Offer.{Offer}
use Rattle.ring_model.specs.declared.notes.Found.{Found}
use Rattle.ring_model.specs.declared.notes.Found.TheVariants.{NotAsked, Free, Held}
use Rattle.ring_model.specs.declared.notes.Note.{Note}
use Rattle.ring_model.specs.declared.notes.Note.TheVariants.{Kept, Refused, Dropped, Ticked}
use Rattle.ring_model.specs.declared.notes.Note.TheVariants.{Counted, Finished}

-- what a ring is made of: the bytes of a block that are for packets, the number of blocks, the
-- time-out
pub record Size : Type 0 where
  pub room : ℕ
  pub blocks : ℕ
  pub tov : ℕ

-- this holds of each size with this time-out
abbrev pub AtEachSize : ℕ → (Size → Type 0) → Type 0
AtEachSize tov P = (room blocks : ℕ) → P (record { room = room; blocks = blocks; tov = tov })

-- the state after notes
pub record State : Type 0 where
  -- the retired blocks in order, each with its status; the block of number s is the s-th
  pub done : List (List Offer × ℕ)
  -- the packets of the open block, or none where the ring is frozen
  pub now : Option (List Offer)
  -- the moment that the last tick reported
  pub clock : ℕ
  -- the moment from which a tick finds the open block's time over
  pub deadline : ℕ
  -- packets kept and dropped, and how often the ring froze, since the statistics were last taken
  pub kept : ℕ
  pub dropped : ℕ
  pub freezes : ℕ

-- the state before the first note
abbrev pub first_state : Size → State
first_state size =
    record {
      done = [];
      now = Some [];
      clock = 0;
      deadline = size.tov;
      kept = 0;
      dropped = 0;
      freezes = 0;
    }

-- the status of a retired block: TP_STATUS_USER (1), TP_STATUS_BLK_TMO (32) where its time was
-- over, TP_STATUS_LOSING (4) where packets were dropped since the statistics were last taken
abbrev pub status_of : Bool → State → ℕ
status_of timed_out state =
    1 + (if timed_out then 32 else 0) + (if state.dropped == 0 then 0 else 4)

-- the retired blocks, and the open block of these packets after them with this status
abbrev pub retired : List (List Offer × ℕ) → ℕ → Option (List Offer) → List (List Offer × ℕ)
retired done status None = done
retired done status (Some offers) = done ++ (offers, status) ∷ []

-- the retired blocks at the end: an open block without packets is discarded
abbrev pub finished : List (List Offer × ℕ) → ℕ → Option (List Offer) → List (List Offer × ℕ)
finished done status None = done
finished done status (Some []) = done
finished done status (Some (offer ∷ offers)) = done ++ (offer ∷ offers, status) ∷ []

-- the open block with one more packet
abbrev pub with_offer : Offer → Option (List Offer) → Option (List Offer)
with_offer offer None = None
with_offer offer (Some offers) = Some (offers ++ offer ∷ [])

-- 1 where a block is open, which a next one would close
abbrev pub open_count : Option (List Offer) → ℕ
open_count None = 0
open_count (Some offers) = 1

-- the number of the next block that would be opened
abbrev pub next_number : State → ℕ
next_number state = length state.done + open_count state.now + 1

-- the state after a packet was dropped: an open block is retired and the ring freezes
abbrev pub after_drop : State → Option (List Offer) → State
after_drop state None = record state { dropped = state.dropped + 1 }
after_drop state (Some offers) = record state {
  done = state.done ++ (offers, status_of false state) ∷ [];
  now = None;
  dropped = state.dropped + 1;
  freezes = state.freezes + 1;
}

-- the state after a due tick, by what the next block's word said
abbrev pub after_due : State → Option (List Offer) → Found → State
after_due state (Some []) found = state
after_due state now Free =
    record state { done = retired state.done (status_of true state) now; now = Some [] }
after_due state None found = state
after_due state (Some (offer ∷ offers)) found = record state {
  done = state.done ++ (offer ∷ offers, status_of true state) ∷ [];
  now = None;
  freezes = state.freezes + 1;
}

-- the state after a note
abbrev pub after : Size → State → Note → State
after size state (Kept offer NotAsked) =
    record state { now = with_offer offer state.now; kept = state.kept + 1 }
after size state (Kept offer found) = record state {
  done = retired state.done (status_of false state) state.now;
  now = Some (offer ∷ []);
  deadline = state.clock + size.tov;
  kept = state.kept + 1;
}
after size state (Refused cpu index need number) = state
after size state (Dropped cpu index need number) = after_drop state state.now
after size state (Ticked ms found) =
    if nat_lt ms state.deadline then record state { clock = ms }
    else record (after_due state state.now found) { clock = ms; deadline = ms + size.tov }
after size state Counted = record state { kept = 0; dropped = 0; freezes = 0 }
after size state Finished =
    record state { done = finished state.done (status_of false state) state.now; now = None }

-- the state after notes
abbrev pub after_all : Size → State → List Note → State
after_all size state [] = state
after_all size state (note ∷ notes) = after_all size (after size state note) notes

-- the state of a ring that has these notes
abbrev pub state_of : Size → List Note → State
state_of size notes = after_all size (first_state size) notes

-- a packet of this need goes into the open block
abbrev pub HasRoom : Size → ℕ → Option (List Offer) → Type 0
HasRoom size need None = ⊥
HasRoom size need (Some offers) = IsTrue (fits size.room offers need)

-- it doesn't fit, or no block is open
abbrev pub HasNoRoom : Size → ℕ → Option (List Offer) → Type 0
HasNoRoom size need None = Unit {0}
HasNoRoom size need (Some offers) = IsFalse (fits size.room offers need)

-- the block whose place the next one would take has this number, and was opened
abbrev pub IsHeld : Size → State → ℕ → Type 0
IsHeld size state number = (0 < number) × (number + size.blocks ≡ next_number state)

-- a tick at this moment is due
pub record IsDue (state : State) (ms : ℕ) : Type 0 where
  pub later : state.clock ≤ ms
  pub over : state.deadline ≤ ms

-- a note may follow a state
abbrev pub MayFollow : Size → State → Note → Type 0
MayFollow size state (Kept offer NotAsked) = HasRoom size (need_of offer.snap) state.now
MayFollow size state (Kept offer Free) = HasNoRoom size (need_of offer.snap) state.now
MayFollow size state (Kept offer (Held number)) = ⊥
MayFollow size state (Refused cpu index need number) =
    HasNoRoom size need state.now × IsHeld size state number
MayFollow size state (Dropped cpu index need number) =
    HasNoRoom size need state.now × IsHeld size state number
MayFollow size state (Ticked ms NotAsked) =
    (state.clock ≤ ms) × ((ms < state.deadline) ⊎ (IsDue state ms × (state.now ≡ Some [])))
MayFollow size state (Ticked ms Free) = IsDue state ms × (state.now ≢ Some [])
MayFollow size state (Ticked ms (Held number)) =
    IsDue state ms × (state.now ≢ Some []) × IsHeld size state number
MayFollow size state Counted = Unit {0}
MayFollow size state Finished = Unit {0}

-- nothing follows the note that closes the ring
abbrev pub EndsThere : Note → List Note → Type 0
EndsThere Finished notes = notes ≡ []
EndsThere note notes = Unit {0}

-- each note may follow those before it
abbrev pub IsRun : Size → State → List Note → Type 0
IsRun size state [] = Unit {0}
IsRun size state (note ∷ notes) =
    MayFollow size state note × EndsThere note notes × IsRun size (after size state note) notes

-- notes of a ring from its opening to its close
pub record IsWholeRun (size : Size) (notes : List Note) : Type 0 where
  pub run : IsRun size (first_state size) notes
  pub closed : (before : List Note) × (notes ≡ before ++ Finished ∷ [])
