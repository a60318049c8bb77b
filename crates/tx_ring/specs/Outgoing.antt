-- The frames that a send takes out of a ring, in one piece.
use Rattle.std.specs.Prelude.{◌≡◌, ℕ, ◌^◌, ◌<◌, if◌then◌else◌, List, [], ◌∷◌, ◌++◌, length, drop}
use Rattle.std.specs.Prelude.{Option, None, Some}
use Rattle.tx_ring.specs.Sends.{frame_of, is_good}
use Rattle.tx_ring.specs.Slots.{Request}
use Rattle.tx_ring.specs.declared.ring.outgoing.Outgoing.{Outgoing}

-- the bytes of the frames of the good ones among requests, one after another
abbrev pub frames_in : ℕ → List Request → List ℕ
frames_in room [] = []
frames_in room (request ∷ requests) =
    if is_good room request then frame_of request ++ frames_in room requests
    else frames_in room requests

-- a piece, if there is one, has these bytes from a place on
abbrev pub HasFrom : Option (List ℕ) → ℕ → List ℕ → Type 0
HasFrom None from bytes = Unit {0}
HasFrom (Some piece) from bytes = (drop from piece ≡ bytes) × (length piece < 2 ^ 32)

-- the frames that are still to go have these bytes, if they are in a piece
abbrev pub Holds : Outgoing → List ℕ → Type 0
Holds frames bytes = HasFrom frames.piece frames.from bytes
