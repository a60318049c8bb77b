-- Notes of a ring that hands no packet back.
use Rattle.ring_model.specs.declared.notes.Note.{Note}
use Rattle.ring_model.specs.declared.notes.Note.TheVariants.{Refused}

-- no packet was handed back
abbrev pub IsNoRefusal : Note → Type 0
IsNoRefusal (Refused cpu index need number) = ⊥
IsNoRefusal note = Unit {0}
