-- What the calls of a ring note.
use Rattle.std.specs.Prelude.{◌≡◌, ℕ, ◌+◌, ◌≤◌, List, [], ◌∷◌, flat_map, sum_by, Option, None, Some}
use Rattle.ring_model.specs.Ring.{IsHeld, Size, State}
use Rattle.ring_model.specs.declared.notes.Found.{Found}
use Rattle.ring_model.specs.declared.notes.Found.TheVariants.{NotAsked, Free, Held}
use Rattle.ring_model.specs.declared.notes.Note.{Note}
use Rattle.ring_model.specs.declared.notes.Note.TheVariants.{Refused, Dropped, Ticked}
use Rattle.ring_model.specs.Unreleased.{held_number}
pub use Rattle.ring_model.specs.Told.{CountsHeld, WasHeld, found_with}

-- what a look at the next block found is possible
abbrev pub IsAsked : Size → State → Found → Type 0
IsAsked size state NotAsked = ⊥
IsAsked size state Free = Unit {0}
IsAsked size state (Held number) = IsHeld size state number

-- an opening begins a block's time
abbrev pub deadline_after : Size → State → Found → ℕ
deadline_after size state Free = state.clock + size.tov
deadline_after size state found = state.deadline

-- 1 if a note reports a block that was still the reader's, otherwise 0
abbrev pub held_in : Note → ℕ
held_in (Refused cpu index need number) = 1
held_in (Dropped cpu index need number) = 1
held_in (Ticked ms (Held number)) = 1
held_in note = 0

-- how many notes report such a block
abbrev pub held_count : List Note → ℕ
held_count notes = sum_by held_in notes

-- the number, if there is one
abbrev pub listed : Option ℕ → List ℕ
listed None = []
listed (Some number) = number ∷ []

-- the numbers of the blocks that Refused, Dropped and held Ticked notes report as the reader's, in
-- order
abbrev pub held_numbers : List Note → List ℕ
held_numbers notes = flat_map (λ note. listed (held_number note)) notes

-- an end that reports the numbers found by its looks has found exactly those of these notes
abbrev pub FoundAsNoted : List Note → Option (List ℕ) → Type 0
FoundAsNoted notes None = Unit {0}
FoundAsNoted notes (Some numbers) = numbers ≡ held_numbers notes
