-- One write after another.
use Rattle.std.proofs.Common.{◌≡◌, ℕ, List, ◌+◌, take, drop, Option, None, Some, append_assoc}
use Rattle.std.proofs.Math.Seq.{take-add}
use Rattle.std.specs.Io.KnownBytes.{Appends}

-- after a prefix of some bytes, the prefix of their rest makes a longer prefix
pub Appends-take : (old mid new : Option (List ℕ)) (at n : ℕ) (bytes rest : List ℕ)
    → Appends old mid (take at bytes) → rest ≡ drop at bytes → Appends mid new (take n rest)
    → Appends old new (take (at + n) bytes)
Appends-take None mid new at n bytes rest first is_rest second = tt
Appends-take (Some xs) None new at n bytes rest first is_rest second = absurd first
Appends-take (Some xs) (Some ys) None at n bytes rest first is_rest second = absurd second
Appends-take (Some xs) (Some ys) (Some zs) at n bytes rest first is_rest second =
    rw (second, first, is_rest, take-add at n bytes)
    (append_assoc xs (take at bytes) (take n (drop at bytes)))
