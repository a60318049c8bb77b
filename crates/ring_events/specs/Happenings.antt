-- The ring after what happens to it and its reader.
use Rattle.std.specs.Prelude.{◌≡◌, Bool, true, false, List, [], ◌∷◌, length, None, All, IsTrue}
use Rattle.ring_events.specs.declared.events.Happening.{Happening}
use Rattle.ring_events.specs.declared.events.Happening.TheVariants.{Put, Try, Tick, Read, ReadAll}
use Rattle.ring_events.specs.declared.events.Happening.TheVariants.{Count}
use Rattle.ring_model.specs.Ring.{Size}
use Rattle.ring_model.specs.Rings.{Ring, fresh, note_of_put, note_of_tick, note_of_try, noted}
use Rattle.ring_model.specs.Rings.{read_once, state}
use Rattle.ring_model.specs.Unreleased.{held_number}
use Rattle.ring_model.specs.declared.notes.Note.{Note}
use Rattle.ring_model.specs.declared.notes.Note.TheVariants.{Counted}

-- the ring after one thing more
abbrev pub happened : Happening → Ring → Ring
happened (Put offer) ring = noted ring (note_of_put ring offer)
happened (Try offer) ring = noted ring (note_of_try ring offer)
happened (Tick ms) ring = noted ring (note_of_tick ring ms)
happened Read ring = read_once ring
happened ReadAll ring = record ring { released = length (state ring).done }
happened Count ring = noted ring Counted

-- the ring after all of them, in order
abbrev pub all_happened : List Happening → Ring → Ring
all_happened [] ring = ring
all_happened (happening ∷ happenings) ring = all_happened happenings (happened happening ring)

-- no note found its block still the reader's: none is Refused, none Dropped, none a tick that found
-- one Held
abbrev pub IsNeverHeld : List Note → Type 0
IsNeverHeld notes = All (λ note. held_number note ≡ None) notes

-- a new ring of this size never finds a block still the reader's
abbrev pub NeverFreezes : Size → List Happening → Type 0
NeverFreezes size happenings = IsNeverHeld (all_happened happenings (fresh size)).notes

-- no packet is handed back, and no statistics are taken on the way
abbrev pub is_plain : Happening → Bool
is_plain (Try offer) = false
is_plain Count = false
is_plain happening = true

-- the same of each of them
abbrev pub IsPlain : List Happening → Type 0
IsPlain happenings = All (λ happening. IsTrue (is_plain happening)) happenings
