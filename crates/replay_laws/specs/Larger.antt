-- When more blocks, or more slots, change nothing.
use Rattle.std.specs.Prelude.{◌≡◌, ◌≤◌, map}
use Rattle.receive_ring.specs.Replay.{Replay}
use Rattle.receive_ring.specs.Reports.{notes_of}
use Rattle.ring_model.specs.Ring.{Size}

-- the other size has as many blocks or more, and all else the same
pub record IsLarger (one other : Size) : Type 0 where
  pub room : other.room ≡ one.room
  pub tov : other.tov ≡ one.tov
  pub more : one.blocks ≤ other.blocks

-- the other replay has the same CPUs with the same logs, the same notes of each member and the same
-- numbers of released blocks
pub record IsSame (one other : Replay) : Type 0 where
  pub cpus : other.cpus ≡ one.cpus
  pub notes : notes_of other.members ≡ notes_of one.members
  pub released : map (λ ring. ring.released) other.members ≡ map (λ ring. ring.released) one.members
