-- How far a CPU is fed.
use Rattle.std.specs.Prelude.{◌≡◌, ◌+◌, ◌≤◌, length, IsSome}
use Rattle.cpu_feed.specs.CpuFeeds.{Feeding, frames_in}

-- one more frame was fed, of the few that a capture has
pub record FedOne (old new : Feeding) : Type 0 where
  pub one : new.fed ≡ old.fed + 1
  pub few : new.fed ≤ 2097150

-- or none was, since the source has ended and all its frames are fed
pub record IsAtItsEnd (cpu : Feeding) : Type 0 where
  pub ended : IsSome cpu.ended
  pub all : length (frames_in cpu) ≤ cpu.fed
