-- The bits so far are hashed.
use Rattle.std.proofs.Common.{◌≡◌, take}
use Rattle.flow_hash.specs.Toeplitz.{toeplitz_of, bits_of, bits_of_byte}
use Rattle.flow_hash.proofs.key_table.byte_share.Given as goal

abbrev pub invariant-loop-bit : goal.invariant-loop-bit
invariant-loop-bit l = l.share ≡ toeplitz_of (bits_of l.key) (take l.bit (bits_of_byte l.byte))
