-- What a reader takes out of the blocks that a ring retired.
use Rattle.std.specs.Prelude.{ℕ, ◌+◌, List, [], ◌∷◌}
use Rattle.tp_layout.specs.Layouts.{Taken}
use Rattle.ring_model.specs.declared.notes.Offer.{Offer}
use Rattle.tp_layout.specs.Dump.{packets_of_offers}
use Rattle.tp_layout.specs.declared.requests.RingRequest.{RingRequest}

-- what is read from a retired block of this number
abbrev pub read_of : RingRequest → ℕ → List Offer × ℕ → Taken
read_of shape number block =
    record { number = number; status = block.1; packets = packets_of_offers shape block.0 }

-- what is read from retired blocks, the first of which has this number
abbrev pub taken_from : RingRequest → ℕ → List (List Offer × ℕ) → List Taken
taken_from shape number [] = []
taken_from shape number (block ∷ done) =
    read_of shape number block ∷ taken_from shape (number + 1) done
