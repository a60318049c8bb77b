-- What a closed member leaves.
use Rattle.std.specs.Prelude.{◌≡◌, ℕ, ◌<◌, ◌≤◌, true, List, [], ◌∷◌, ◌++◌, length}
use Rattle.std.specs.List.{AllByRecursion}
use Rattle.ring_model.specs.declared.notes.Note.{Note}
use Rattle.ring_model.specs.declared.notes.Note.TheVariants.{Finished}
use Rattle.ring_words.specs.Pendings.{entries_of}
use Rattle.ring_words.specs.Rings.{Entry}
use Rattle.tp_layout.specs.BlockWrites.{ShapedBytes}
use Rattle.turn_lock.specs.Histories.{own}
use Rattle.turn_lock.specs.Seats.{entered_by}
use Rattle.member_turns.specs.Entries.{may_note}
use Rattle.member_turns.specs.Seats.{Lock, Seat, own_of}

-- one of the lock's seats may add the note
abbrev pub IsOfSeat : Lock → Note → Type 0
IsOfSeat lock note = (number : ℕ) × (number < lock.seats) × (may_note lock.base number note ≡ true)

-- the notes that a seat may add are those that it has added
abbrev pub HasOwn : Lock → List Note → Seat → Type 0
HasOwn lock notes seat = own (may_note lock.base) seat.number notes ≡ own_of lock seat

-- the notes of a closed member: what its seats added, at most one note for each time that a seat
-- entered, and at the end that the ring was closed
pub record AreClosedNotes (lock : Lock) (seats : List Seat) (notes : List Note) : Type 0 where
  pub history : List Note
  pub notes_are : notes ≡ history ++ Finished ∷ []
  pub each_note : AllByRecursion (IsOfSeat lock) history
  pub each_seat : AllByRecursion (HasOwn lock notes) seats
  pub few : length history ≤ entered_by seats

-- the contents and statuses of pending blocks
abbrev pub contents_of : List (ShapedBytes × ℕ) → List Entry
contents_of blocks = entries_of (λ (block : ShapedBytes). block.bytes) blocks
