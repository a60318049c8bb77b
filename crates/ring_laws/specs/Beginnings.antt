-- A new ring that is brought to the state of another.
use Rattle.std.specs.Prelude.{ℕ, zero, suc, ◌+◌, ◌-◌, Bool, List, length, map, replicate, ◌==◌}
use Rattle.std.specs.Prelude.{if◌then◌else◌}
use Rattle.ring_events.specs.Happenings.{all_happened, happened}
use Rattle.ring_events.specs.declared.events.Happening.TheVariants.{Put, Read, Tick}
use Rattle.ring_model.specs.Ring.{Size}
use Rattle.ring_model.specs.Rings.{Ring, fresh, state}
use Rattle.ring_model.specs.declared.notes.Offer.{Offer}
use Rattle.ring_laws.specs.Alike.{Gap, IsLikeRing}

-- the gap between two rings whose packets have the same names, by their numbers of released blocks
-- and their deadlines
abbrev pub between : Ring → Ring → Gap
between one other = record {
  offer = λ offer. offer;
  blocks = other.released;
  other_blocks = one.released;
  ms = (state other).deadline;
  other_ms = (state one).deadline;
}

-- a ring is like another with this gap between them
abbrev pub IsLike : Ring → Ring → Type 0
IsLike one other = IsLikeRing (between one other) one other

-- a ring whose clock comes to its deadline
abbrev pub at_deadline : Ring → Ring
at_deadline ring = happened (Tick (state ring).deadline) ring

-- a ring that retired this many blocks more, each with this packet
abbrev pub crowded : Ring → Offer → ℕ → Ring
crowded ring offer zero = ring
crowded ring offer (suc blocks) = at_deadline (happened (Put offer) (crowded ring offer blocks))

-- a ring whose reader reads up to this many blocks
abbrev pub read_times : ℕ → Ring → Ring
read_times times ring = all_happened (replicate times Read) ring

-- a new ring that filled all its blocks, dropped a packet, and got all of them back
abbrev pub lossy : Size → Offer → Ring
lossy size offer =
    let full = crowded (fresh size) offer size.blocks in
    at_deadline (read_times size.blocks (happened (Put offer) full))

-- a ring without a block at its reader, with and without a packet dropped
abbrev pub start : Size → Offer → Bool → Ring
start size offer lossless = if lossless then fresh size else lossy size offer

-- such a ring that retired blocks, was fed these packets, and whose clock came to a moment that is
-- so far before its deadline
abbrev pub begun : Size → Offer → Bool → ℕ → List Offer → ℕ → Ring
begun size offer lossless blocks offers left =
    let ring = all_happened (map Put offers) (crowded (start size offer lossless) offer blocks) in
    happened (Tick ((state ring).deadline - left)) ring

-- a new ring that filled all its blocks, and dropped a packet or didn't
abbrev pub filled_up : Size → Offer → Bool → Ring
filled_up size offer lossless =
    let ring = crowded (fresh size) offer size.blocks in
    if lossless then ring else happened (Put offer) ring

-- such a ring that got some blocks back, and whose clock came to a moment that is so far before its
-- deadline
abbrev pub begun_frozen : Size → Offer → Bool → ℕ → ℕ → Ring
begun_frozen size offer lossless back left =
    let ring = read_times back (filled_up size offer lossless) in
    happened (Tick ((state ring).deadline - left)) ring

-- no packet was dropped since the statistics were last taken
abbrev pub is_lossless : Ring → Bool
is_lossless ring = (state ring).dropped == 0

-- how far before its deadline the clock is
abbrev pub time_left : Ring → ℕ
time_left ring = (state ring).deadline - (state ring).clock

-- the beginning of a ring whose open block has these packets
abbrev pub beginning : Offer → List Offer → Ring → Ring
beginning offer offers ring =
    begun ring.size offer (is_lossless ring) (length (state ring).done - ring.released) offers
    (time_left ring)

-- the beginning of a frozen ring
abbrev pub frozen_beginning : Offer → Ring → Ring
frozen_beginning offer ring =
    begun_frozen ring.size offer (is_lossless ring)
    (ring.released + ring.size.blocks - length (state ring).done) (time_left ring)
