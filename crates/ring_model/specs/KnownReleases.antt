-- What a ring notes if its reader has released a known number of blocks, so that each look has one
-- answer.
use Rattle.std.specs.Prelude.{ℕ, ◌-◌, Bool, true, false, ◌||◌, List, [], ◌∷◌, nat_lt, if◌then◌else◌}
use Rattle.std.specs.Prelude.{Option, None, Some}
use Rattle.ring_model.specs.Sizes.{need_of, fits}
use Rattle.ring_model.specs.Ring.{Size, State, next_number}
use Rattle.ring_model.specs.declared.notes.Offer.{Offer}
use Rattle.ring_model.specs.declared.notes.Found.{Found}
use Rattle.ring_model.specs.declared.notes.Found.TheVariants.{NotAsked, Free, Held}
use Rattle.ring_model.specs.declared.notes.Note.{Note}
use Rattle.ring_model.specs.declared.notes.Note.TheVariants.{Kept, Refused, Dropped, Ticked}

-- what the next block's word says: with n blocks, block number s takes the place of s - n, which is
-- the reader's until it has released that many
abbrev pub look : Size → ℕ → State → Found
look size released state =
    if nat_lt released (next_number state - size.blocks)
    then Held (next_number state - size.blocks) else Free

-- whether a packet of this need goes into the open block
abbrev pub has_room : Size → ℕ → Option (List Offer) → Bool
has_room size need None = false
has_room size need (Some offers) = fits size.room offers need

-- what is asked for a packet, and what is found
abbrev pub found_for : Size → ℕ → State → ℕ → Found
found_for size released state need =
    if has_room size need state.now then NotAsked else look size released state

-- the note of a packet that is dropped where it finds no block
abbrev pub put_by : Offer → Found → Note
put_by offer (Held number) = Dropped offer.frame.cpu offer.frame.index (need_of offer.snap) number
put_by offer found = Kept offer found

-- the note of a packet that is handed back where it finds no block
abbrev pub try_by : Offer → Found → Note
try_by offer (Held number) = Refused offer.frame.cpu offer.frame.index (need_of offer.snap) number
try_by offer found = Kept offer found

abbrev pub put_note : Size → ℕ → State → Offer → Note
put_note size released state offer =
    put_by offer (found_for size released state (need_of offer.snap))

abbrev pub try_note : Size → ℕ → State → Offer → Note
try_note size released state offer =
    try_by offer (found_for size released state (need_of offer.snap))

-- the open block has no packet
abbrev pub is_empty_block : Option (List Offer) → Bool
is_empty_block None = false
is_empty_block (Some []) = true
is_empty_block (Some (offer ∷ offers)) = false

-- what a tick finds: before the deadline and with an empty block nothing is asked
abbrev pub tick_note : Size → ℕ → State → ℕ → Note
tick_note size released state ms =
    Ticked ms (if nat_lt ms state.deadline || is_empty_block state.now then NotAsked
    else look size released state)
