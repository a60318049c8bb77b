-- What the calls of a ring report of the notes that they make.
use Rattle.std.specs.Prelude.{◌≡◌, ℕ, ◌+◌, ◌≤◌, List, [], ◌∷◌, ◌++◌, Option, option_map}
use Rattle.ring_model.specs.declared.notes.Found.{Found}
use Rattle.ring_model.specs.declared.notes.Found.TheVariants.{NotAsked, Free, Held}
use Rattle.ring_model.specs.declared.notes.Offer.{Offer}
use Rattle.ring_model.specs.declared.notes.Note.{Note}
use Rattle.ring_model.specs.declared.notes.Note.TheVariants as notes
use Rattle.ring_model.specs.declared.notes.Put.{Put}
use Rattle.ring_model.specs.declared.notes.Put.TheVariants.{Kept, Dropped}
use Rattle.ring_model.specs.declared.notes.Tried.{Tried}
use Rattle.ring_model.specs.declared.notes.Tried.TheVariants as tries

-- this holds where the next block or slot was still the reader's
abbrev pub WasHeld : Found → Type 0 → Type 0
WasHeld NotAsked P = Unit {0}
WasHeld Free P = Unit {0}
WasHeld (Held number) P = P

-- how often a call found a block or slot still the reader's: once if it found it so, otherwise
-- never
abbrev pub CountsHeld : Found → ℕ → ℕ → Type 0
CountsHeld NotAsked before after = after ≡ before
CountsHeld Free before after = after ≡ before
CountsHeld (Held number) before after = after ≤ before + 1

-- what a put reports of its note
abbrev pub put_told : Note → Put
put_told (notes.Dropped cpu index need number) = Dropped number
put_told note = Kept

-- what a try reports of its note
abbrev pub try_told : Offer → Note → Tried
try_told offer (notes.Refused cpu index need number) = tries.Refused offer
try_told offer note = tries.Kept

-- the numbers of the blocks that an end found held, where it reports them, with that of this call
abbrev pub found_with : Found → Option (List ℕ) → Option (List ℕ)
found_with NotAsked numbers = numbers
found_with Free numbers = numbers
found_with (Held number) numbers = option_map (λ all. all ++ number ∷ []) numbers
