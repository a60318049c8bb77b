-- The workers of a run by their kinds.
use Rattle.std.specs.Prelude.{Bool, List, [], ◌∷◌}
use Rattle.cpu_feeders.specs.declared.feeder.Feeder.{Feeder}
use Rattle.cpu_feeders.specs.declared.timer.Timer.{Timer}
use Rattle.cpu_feeders.specs.declared.walker.ReaderThread.{ReaderThread}
use Rattle.cpu_feeders.specs.declared.worker.Worker.{Worker}
use Rattle.cpu_feeders.specs.declared.worker.Worker.TheVariants as worker

module _ {S T : Type 0} where
  -- the reader that a worker is, if it is one
  abbrev pub walker_in : Worker S T → List (ReaderThread T)
  walker_in (worker.Walks walker) = walker ∷ []
  walker_in other = []

  -- the timer
  abbrev pub timer_in : Worker S T → List Timer
  timer_in (worker.Ticks timer) = timer ∷ []
  timer_in other = []

  -- the feeder
  abbrev pub feeder_in : Worker S T → List (Feeder S)
  feeder_in (worker.Feeds feeder) = feeder ∷ []
  feeder_in other = []

  -- an allocation of a worker failed
  abbrev pub is_full : Worker S T → Bool
  is_full (worker.Walks walker) = walker.full
  is_full (worker.Ticks timer) = timer.full
  is_full (worker.Feeds feeder) = feeder.full
