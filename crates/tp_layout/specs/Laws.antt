-- The definitions that the laws of this crate use.
use Rattle.std.specs.Prelude.{◌≡◌, ℕ, ◌+◌, ◌^◌, ◌<◌, ◌≤◌, IsTrue, List, [], ◌∷◌, length}
use Rattle.std.specs.List.{AllByRecursion}
use Rattle.frame_view.specs.declared.frames.Packet.{Packet}
use Rattle.ring_model.specs.Offers.{packet_of}
use Rattle.ring_model.specs.Sizes.{need_of}
use Rattle.ring_model.specs.declared.notes.Offer.{Offer}
use Rattle.tp_layout.specs.declared.requests.RingRequest.{RingRequest}
use Rattle.tp_layout.specs.Requests.{IsShape, fills_hash, first_of}
use Rattle.tp_layout.specs.Packets.{packet_text, IsTyped}
use Rattle.tp_layout.specs.Blocks.{IsLawful, block_text, is_status, needs_of}
use Rattle.tp_layout.specs.BlockWrites.{IsWritable, put, open_header, closed, closing_of}
use Rattle.tp_layout.specs.Dump.{packets_of_offers}

-- what a block of this shape says: its number, its status, its packets
pub record Said : Type 0 where
  pub number : ℕ
  pub status : ℕ
  pub packets : List Packet

abbrev pub text_of_said : RingRequest → Said → List ℕ
text_of_said shape said = block_text shape said.number said.status said.packets

-- two lawful texts of one shape that are equal
pub record HaveOneText (shape : RingRequest) (first second : Said) : Type 0 where
  pub sound : IsShape shape
  pub lawful : IsLawful shape first.number first.status first.packets
  pub other : IsLawful shape second.number second.status second.packets
  pub same : text_of_said shape first ≡ text_of_said shape second

-- the bytes with the packets of offers written one after another from a place on
abbrev pub filled : RingRequest → ℕ → List Offer → List ℕ → List ℕ
filled shape at [] bytes = bytes
filled shape at (offer ∷ offers) bytes = filled shape (at + need_of offer.snap) offers
    (put at (packet_text (need_of offer.snap) (packet_of (fills_hash shape) offer)) bytes)

-- the bytes after a block was opened, filled and closed
abbrev pub written : RingRequest → ℕ → ℕ → List Offer → List ℕ → List ℕ
written shape number status offers bytes =
    closed (closing_of shape status (packets_of_offers shape offers))
    (filled shape (first_of shape) offers (put 0 (open_header shape number) bytes))

-- an offer of the code: it may be written, and its numbers fit their types
pub record IsOffer (shape : RingRequest) (offer : Offer) : Type 0 where
  pub writable : IsWritable offer
  pub typed : IsTyped (packet_of (fills_hash shape) offer)

-- offers that go into a block of this shape, with the number and the status that it gets
pub record GoIn (shape : RingRequest) (number status : ℕ) (offers : List Offer) (bytes : List ℕ)
    : Type 0 where
  pub sound : IsShape shape
  pub block : length bytes ≡ shape.block_size
  pub numbered : 0 < number
  pub small : number < 2 ^ 64
  pub retired : IsTrue (is_status status)
  pub some : 0 < length offers
  pub each : AllByRecursion (IsOffer shape) offers
  pub fits : first_of shape + needs_of (packets_of_offers shape offers) ≤ shape.block_size
