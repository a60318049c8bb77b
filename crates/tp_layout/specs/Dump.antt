-- The dump of a ring's notes: the texts of its retired blocks, one after another.
use Rattle.std.specs.Prelude.{ℕ, ◌+◌, List, [], ◌∷◌, ◌++◌, map}
use Rattle.ring_model.specs.Offers.{packet_of}
use Rattle.ring_model.specs.Ring.{state_of}
use Rattle.ring_model.specs.declared.notes.Note.{Note}
use Rattle.ring_model.specs.declared.notes.Offer.{Offer}
use Rattle.frame_view.specs.declared.frames.Packet.{Packet}
use Rattle.tp_layout.specs.declared.requests.RingRequest.{RingRequest}
use Rattle.tp_layout.specs.Requests.{fills_hash, size_of}
use Rattle.tp_layout.specs.Blocks.{block_text}

-- the packets of offers in a ring of this shape
abbrev pub packets_of_offers : RingRequest → List Offer → List Packet
packets_of_offers shape offers = map (packet_of (fills_hash shape)) offers

-- the texts of retired blocks, the first of which has this number
abbrev pub dump_from : RingRequest → ℕ → List (List Offer × ℕ) → List ℕ
dump_from shape number [] = []
dump_from shape number (block ∷ done) =
    block_text shape number block.1 (packets_of_offers shape block.0)
    ++ dump_from shape (number + 1) done

-- the dump of a notes list
unfoldable pub dump_of : RingRequest → List Note → List ℕ
dump_of shape notes = dump_from shape 1 (state_of (size_of shape) notes).done
