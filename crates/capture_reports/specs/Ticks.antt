-- The ticks among notes.
use Rattle.std.specs.Prelude.{ℕ, List, [], ◌∷◌}
use Rattle.ring_model.specs.declared.notes.Note.{Note}
use Rattle.ring_model.specs.declared.notes.Note.TheVariants.{Ticked, Counted}

-- the moments of the ticks, in order
abbrev pub ticks_of : List Note → List ℕ
ticks_of [] = []
ticks_of (Ticked ms found ∷ notes) = ms ∷ ticks_of notes
ticks_of (note ∷ notes) = ticks_of notes

-- no statistics were taken
abbrev pub NoneCounted : List Note → Type 0
NoneCounted [] = Unit {0}
NoneCounted (Counted ∷ notes) = ⊥
NoneCounted (note ∷ notes) = NoneCounted notes
