-- The bytes so far are hashed.
use Rattle.std.proofs.Common.{◌≡◌, take, drop}
use Rattle.flow_hash.specs.Toeplitz.{hash_of}
use Rattle.flow_hash.proofs.toeplitz_hash.hash_from.Given as goal

abbrev pub invariant-loop-place : goal.invariant-loop-place
invariant-loop-place l = l.hash ≡ hash_of (drop l.at l.key) (take l.place l.input)
