-- A member's lock and its seats, with the notes that a seat has added.
use Rattle.std.specs.Prelude.{◌≡◌, ℕ, List, [], ◌∷◌}
use Rattle.ring_model.specs.declared.notes.Note.{Note}
use Rattle.ring_model.specs.declared.notes.Note.TheVariants.{Ticked}
use Rattle.turn_lock.specs.Histories.{own}
use Rattle.turn_lock.specs.Seats.{IsIdleSeatOf, LockValue, SeatValue}
use Rattle.member_turns.specs.Entries.{may_note}
use Rattle.member_turns.specs.declared.ring_base.RingBase.{RingBase}

-- contracts see a member as its lock, and a member's seat as one at that lock
abbrev pub Lock : Type 0
Lock = LockValue Note RingBase

abbrev pub Seat : Type 0
Seat = SeatValue Note RingBase

-- a seat of this member with this number, which isn't in its turn
pub record IsReady (lock : Lock) (number : ℕ) (seat : Seat) : Type 0 where
  pub idle : IsIdleSeatOf lock seat
  pub number_is : seat.number ≡ number

-- the notes that a seat has added
abbrev pub own_of : Lock → Seat → List Note
own_of lock seat = own (may_note lock.base) seat.number seat.last

-- the moment of the last tick among notes, or this one if there is none
abbrev pub moment_from : ℕ → List Note → ℕ
moment_from ms [] = ms
moment_from ms (Ticked now found ∷ notes) = moment_from now notes
moment_from ms (note ∷ notes) = moment_from ms notes

-- the moment of the last tick, 0 if there is none
abbrev pub moment_of : List Note → ℕ
moment_of notes = moment_from 0 notes
