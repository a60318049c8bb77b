-- What a taker has read of retired blocks.
use Rattle.std.specs.Prelude.{◌≡◌, ℕ, List}
use Rattle.tp_layout.specs.Blocks.{BeginsLawfully}
use Rattle.tp_layout.specs.BlockWrites.{ShapedBytes}
use Rattle.tp_layout.specs.declared.requests.RingRequest.{RingRequest}

-- what no block changes of a taker: the shape of the blocks that it reads, and whatever else
-- distinguishes it from others
pub record Base : Type 0 where
  pub shape : RingRequest
  pub further : List ℕ

-- the bytes begin with a lawful text of a block of this shape
abbrev pub IsRetired : RingRequest → List ℕ → Type 0
IsRetired shape bytes = (number : ℕ) × (status : ℕ) × BeginsLawfully shape number status bytes

-- a block or a slot that a reader of a ring of this shape reads: it may be retired
pub record IsRetiredUnit {B : Type 0} (shape_of : B → RingRequest) (ready : B → ℕ → ℕ → Type 0)
    (shape : RingRequest) (unit : B) : Type 0 where
  pub shape_is : shape_of unit ≡ shape
  pub text : (number : ℕ) × (status : ℕ) × ready unit number status

-- a block that a taker of blocks of this shape reads
abbrev pub IsReadable : RingRequest → ShapedBytes → Type 0
IsReadable shape block =
    IsRetiredUnit (λ (b : ShapedBytes). b.shape)
    (λ b number status. BeginsLawfully b.shape number status b.bytes) shape block
