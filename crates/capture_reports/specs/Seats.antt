-- The notes of a member's ring, by the seats that added them.
use Rattle.std.specs.Prelude.{◌≡◌, ℕ, true, List, [], ◌∷◌, ◌++◌}
use Rattle.std.specs.List.{AllByRecursion}
use Rattle.member_turns.specs.Entries.{may_add}
use Rattle.ring_model.specs.declared.notes.Note.{Note}
use Rattle.ring_model.specs.declared.notes.Note.TheVariants.{Finished}

-- a seat of a ring that n CPUs put frames into may add the note
abbrev pub IsOfSeat : ℕ → Note → Type 0
IsOfSeat cpus note = (number : ℕ) × (may_add cpus number note ≡ true)

-- the notes of a ring that was closed: those of its seats, and at the end that it was closed
pub record IsSeatRun (cpus : ℕ) (notes : List Note) : Type 0 where
  pub history : List Note
  pub notes_are : notes ≡ history ++ Finished ∷ []
  pub each_note : AllByRecursion (IsOfSeat cpus) history
