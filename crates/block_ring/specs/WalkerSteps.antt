-- What the steps of a reader do to a ring that has both its ends.
use Rattle.std.specs.Prelude.{◌≡◌, ℕ, List}
use Rattle.block_ring.specs.Producers.{Producing}

-- its end gave this content to the reader, and all else is as before
pub record TookBy {E : Type 0} (took : E → E → List ℕ → Type 0) (before after : Producing E)
    (content : List ℕ) : Type 0 where
  pub end : took before.end after.end content
  pub rest : after ≡ record before { end = after.end }

-- its end took back a block of this content, with this word, and all else is as before
pub record GaveBackBy {E : Type 0} (gave_back : E → E → List ℕ → ℕ → Type 0)
    (before after : Producing E) (content : List ℕ) (mark : ℕ) : Type 0 where
  pub end : gave_back before.end after.end content mark
  pub rest : after ≡ record before { end = after.end }

-- its end stays, and all else is as before
pub record StaysBy {E : Type 0} (stays : E → E → Type 0) (before after : Producing E) : Type 0 where
  pub end : stays before.end after.end
  pub rest : after ≡ record before { end = after.end }
