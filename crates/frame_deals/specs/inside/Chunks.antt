-- Frames in chunks.
use Rattle.std.specs.Prelude.{◌≡◌, ◌≢◌, List, [], ◌∷◌, ◌++◌}
use Rattle.std.specs.List.{AllByRecursion}
use Rattle.frame_deals.specs.declared.mark_queue.MarkedFrame.{MarkedFrame}

abbrev pub joined : List (List MarkedFrame) → List MarkedFrame
joined [] = []
joined (chunk ∷ chunks) = chunk ++ joined chunks

-- the frames of a first chunk, of those after it and of the last
abbrev pub chunked : List MarkedFrame → List (List MarkedFrame) → List MarkedFrame
    → List MarkedFrame
chunked head middle tail = head ++ (joined middle ++ tail)

-- the first chunk is empty only if there is no frame, and none in the middle is
pub record IsFilled (head : List MarkedFrame) (middle : List (List MarkedFrame))
    (tail : List MarkedFrame) : Type 0 where
  pub none : head ≡ [] → (middle ≡ []) × (tail ≡ [])
  pub some : AllByRecursion (λ chunk. chunk ≢ []) middle
