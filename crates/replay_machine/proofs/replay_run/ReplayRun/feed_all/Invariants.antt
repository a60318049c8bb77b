use Rattle.std.proofs.Common.{◌≡◌, ◌-◌, ℕ, List}
use Rattle.std.specs.Prelude.{slice_set}
use Rattle.frame_view.specs.declared.frames.Frame.{Frame}
use Rattle.cpu_feed.specs.CpuFeeds.{Feeding}
use Rattle.replay_machine.specs.RunStates.{AreAllOf, IsCounted, IsRun, cpu_in, firsts_of, whole}
use Rattle.replay_machine.specs.inside.RunEffects.{fed_whole}
use Rattle.replay_machine.proofs.replay_run.ReplayRun.feed_all.Given as goal

abbrev pub invariant-feeding : goal.invariant-feeding
invariant-feeding g l = record {
  run : IsRun (g.R.ReceiveRing.steps g.K.Setting.shape) l.job l.self;
  does : (all : List (List Frame)) → AreAllOf all l.self.cpus → AreAllOf all l.initial.self.cpus
      × (fed_whole (g.R.ReceiveRing.steps g.K.Setting.shape) l.job l.cpu (whole all l.self)
      ≡ fed_whole (g.R.ReceiveRing.steps g.K.Setting.shape) l.job l.cpu (whole all l.initial.self));
  firsts : firsts_of l.self ≡ firsts_of l.initial.self;
  cpus : (one : Feeding) × (l.self.cpus ≡ slice_set l.initial.self.cpus l.cpu one);
  counted : (lines : ℕ) → IsCounted lines l.initial.self → IsCounted lines l.self;
}

abbrev pub decreases-feeding : goal.decreases-feeding
decreases-feeding g l = 2097150 - (cpu_in l.self l.cpu).fed
