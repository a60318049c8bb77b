-- Blocks or slots that are all alike have one kind.
use Rattle.std.proofs.Common.{◌≡◌, ℕ, zero, suc, replicate, refl}
use Rattle.std.specs.List.{AllByRecursion}
use Rattle.tp_layout.specs.Requests.{numbers_of}
use Rattle.tp_layout.specs.BlockWrites.{ShapedBytes}

pub one_kind : (count : ℕ) (block : ShapedBytes)
    → AllByRecursion (λ b. numbers_of b.shape ≡ numbers_of block.shape) (replicate count block)
one_kind zero block = tt
one_kind (suc count) block = (refl, one_kind count block)
