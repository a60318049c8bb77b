-- The texts of a ring's retired blocks.
use Rattle.std.specs.Prelude.{◌≡◌, ℕ, ◌+◌, List, [], ◌∷◌}
use Rattle.ring_model.specs.declared.notes.Offer.{Offer}
use Rattle.ring_words.specs.Rings.{Entry, Feed, RepresentsBlocks}
use Rattle.tp_layout.specs.Blocks.{BeginsWith}
use Rattle.tp_layout.specs.Dump.{packets_of_offers}
use Rattle.tp_layout.specs.declared.requests.RingRequest.{RingRequest}

-- each content begins with the text of its block, and has its status; the first block has this
-- number
abbrev pub AreTexts : RingRequest → ℕ → List Entry → List (List Offer × ℕ) → Type 0
AreTexts shape number [] [] = Unit {0}
AreTexts shape number [] (block ∷ done) = ⊥
AreTexts shape number (entry ∷ entries) [] = ⊥
AreTexts shape number (entry ∷ entries) (block ∷ done) =
    BeginsWith shape number block.1 (packets_of_offers shape block.0) entry.0
    × (entry.1 ≡ block.1)
    × AreTexts shape (number + 1) entries done

-- an end represents the texts of retired blocks
abbrev pub RepresentsTexts : RingRequest → List (List Offer × ℕ) → Feed → Type 0
RepresentsTexts shape done feed =
    (all : List Entry) × RepresentsBlocks feed all × AreTexts shape 1 all done
