use Rattle.pcapng_blocks.proofs.Names.{◌≡◌, length, resolution_of}
use Rattle.pcapng_blocks.proofs.interfaces.resolution.Given as goal

-- what is left, read with the resolution so far, gives the resolution of all
abbrev pub invariant-loop-rest : goal.invariant-loop-rest
invariant-loop-rest l = resolution_of l.order l.resolution l.rest ≡ resolution_of l.order 6 l.options

abbrev pub decreases-loop-rest : goal.decreases-loop-rest
decreases-loop-rest l = length l.rest
