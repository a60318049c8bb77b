-- The data of the fragments so far is at its places, and zeros elsewhere.
use Rattle.std.proofs.Common.{◌≡◌, length, take, map}
use Rattle.ip_defrag.specs.Datagrams.{byte_at, places}
use Rattle.ip_defrag.proofs.wholes.fill.Given as goal

abbrev pub invariant-loop-fragment : goal.invariant-loop-fragment
invariant-loop-fragment l = l.into ≡ map (byte_at (take l.fragment-index l.fragments)) (places 0 (length l.initial.into))
