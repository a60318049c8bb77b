-- A ring with its reader, as far as reports need it: its notes, and how many blocks were released.
use Rattle.std.specs.Prelude.{ℕ, ◌+◌, List, [], ◌∷◌, ◌++◌, length, nat_lt, if◌then◌else◌}
use Rattle.ring_model.specs.Ring.{Size, State, state_of}
use Rattle.ring_model.specs.KnownReleases.{put_note, try_note, tick_note}
use Rattle.ring_model.specs.declared.notes.Offer.{Offer}
use Rattle.ring_model.specs.declared.notes.Note.{Note}

pub record Ring : Type 0 where
  pub size : Size
  pub notes : List Note
  -- how many blocks the reader has released
  pub released : ℕ

-- a ring without notes
abbrev pub fresh : Size → Ring
fresh size = record { size = size; notes = []; released = 0 }

-- the state that the notes leave
abbrev pub state : Ring → State
state ring = state_of ring.size ring.notes

-- the ring with one note more
abbrev pub noted : Ring → Note → Ring
noted ring note = record ring { notes = ring.notes ++ note ∷ [] }

-- the note that a put, a try and a tick make
abbrev pub note_of_put : Ring → Offer → Note
note_of_put ring offer = put_note ring.size ring.released (state ring) offer

abbrev pub note_of_try : Ring → Offer → Note
note_of_try ring offer = try_note ring.size ring.released (state ring) offer

abbrev pub note_of_tick : Ring → ℕ → Note
note_of_tick ring ms = tick_note ring.size ring.released (state ring) ms

-- the ring after the reader has read a block, if one is retired and not yet released
abbrev pub read_once : Ring → Ring
read_once ring =
    if nat_lt ring.released (length (state ring).done)
    then record ring { released = ring.released + 1 } else ring
