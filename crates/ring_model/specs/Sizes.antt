-- The room that packets take. Lengths are in bytes.
use Rattle.std.specs.Prelude.{ℕ, ◌+◌, ◌-◌, ◌*◌, ◌/◌, min, Bool, List, [], ◌∷◌, sum_by, nat_le}
use Rattle.ring_model.specs.declared.notes.Offer.{Offer}

-- what a packet takes: 82 bytes and its data, rounded up to 8 together
abbrev pub need_of : ℕ → ℕ
need_of snap = (82 + snap + 7) / 8 * 8

-- how many bytes of a frame are kept: at most those captured, those that the filter keeps and those
-- that fit into a block
abbrev pub snap_of : ℕ → ℕ → ℕ → ℕ
snap_of room captured verdict = min (min captured verdict) (room - 82)

-- the bytes that a list of packets takes
abbrev pub used_by : List Offer → ℕ
used_by offers = sum_by (λ offer. need_of offer.snap) offers

-- whether a packet of this need fits after the packets of a block
abbrev pub fits : ℕ → List Offer → ℕ → Bool
fits room offers need = nat_le (used_by offers + need) room
