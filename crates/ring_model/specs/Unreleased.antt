-- What a note says about a block that was still the reader's, and what notes say about the clock.
use Rattle.std.specs.Prelude.{ℕ, ◌<◌, List, [], ◌∷◌, Option, None, Some, IfSome}
use Rattle.ring_model.specs.declared.notes.Found.TheVariants.{Held}
use Rattle.ring_model.specs.declared.notes.Note.{Note}
use Rattle.ring_model.specs.declared.notes.Note.TheVariants.{Dropped, Refused, Ticked}

-- the number of the block that a note found to be still the reader's, if it found one
abbrev pub held_number : Note → Option ℕ
held_number (Refused cpu index need number) = Some number
held_number (Dropped cpu index need number) = Some number
held_number (Ticked ms (Held number)) = Some number
held_number note = None

-- that block isn't among the released ones, whose number is given
abbrev pub IsUnreleased : ℕ → Note → Type 0
IsUnreleased released note = IfSome (held_number note) (λ number. released < number)

-- the moment of the last tick of notes, in milliseconds, and this one where they have none
abbrev pub last_moment : ℕ → List Note → ℕ
last_moment before [] = before
last_moment before (Ticked ms found ∷ notes) = last_moment ms notes
last_moment before (note ∷ notes) = last_moment before notes
