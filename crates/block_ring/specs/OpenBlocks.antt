-- The open block of a ring.
use Rattle.std.specs.Prelude.{◌≡◌, ℕ, ◌+◌, ◌%◌, ◌≤◌, List, [], ◌∷◌, ◌++◌}
use Rattle.std.specs.List.{AllByRecursion}
use Rattle.ring_model.specs.Sizes.{used_by}
use Rattle.ring_model.specs.declared.notes.Offer.{Offer}
use Rattle.tp_layout.specs.Dump.{packets_of_offers}
use Rattle.tp_layout.specs.Requests.{first_of}
use Rattle.tp_layout.specs.BlockWrites.{IsOpen, IsWritable, closing_of}
use Rattle.tp_layout.specs.declared.requests.RingRequest.{RingRequest}
use Rattle.block_ring.specs.declared.open_block.OpenBlock.{OpenBlock}

-- an open block as notes see it: its number, and the offers whose packets it has
pub record OpenText : Type 0 where
  pub number : ℕ
  pub offers : List Offer

-- with one more packet
abbrev pub with_packet : OpenText → Offer → OpenText
with_packet text offer = record text { offers = text.offers ++ offer ∷ [] }

-- an open block has this text so far, and knows what its close will write
pub record Holds (shape : RingRequest) (text : OpenText) (open_block : OpenBlock) : Type 0 where
  pub shape_is : open_block.block.shape ≡ shape
  pub text_is :
      IsOpen shape text.number (packets_of_offers shape text.offers) open_block.block.bytes
  pub closing_is : open_block.closing ≡ closing_of shape 0 (packets_of_offers shape text.offers)
  pub writable : AllByRecursion IsWritable text.offers
  pub end_is : open_block.closing.length ≡ first_of shape + used_by text.offers
  pub fits : open_block.closing.length ≤ shape.block_size
  pub few : open_block.closing.packets ≤ open_block.closing.length
  pub aligned : open_block.closing.length % 8 ≡ 0
