use Rattle.std.proofs.Common.{◌≡◌, ◌-◌, ◌<◌, ℕ, List, length}
use Rattle.frame_view.specs.declared.frames.Frame.{Frame}
use Rattle.receive_ring.specs.Replay.{feed_from}
use Rattle.cpu_feed.specs.Fed.{IsAtItsEnd}
use Rattle.replay_machine.specs.RunStates.{AreAllOf, HasCount, IsRun, cpu_in, firsts_of, whole}
use Rattle.run_reports.specs.Jobs.{rules_of}
use Rattle.replay_machine.proofs.replay_run.ReplayRun.feed_rest.Given as goal

abbrev pub invariant-loop-cpu : goal.invariant-loop-cpu
invariant-loop-cpu g l = record {
  run : IsRun (g.R.ReceiveRing.steps g.K.Setting.shape) l.job l.self;
  count : length l.self.cpus ≡ length l.initial.self.cpus;
  does : (all : List (List Frame)) → AreAllOf all l.self.cpus → AreAllOf all l.initial.self.cpus
      × (feed_from (rules_of l.job) (g.R.ReceiveRing.steps g.K.Setting.shape) l.cpu (length l.initial.self.cpus - l.cpu)
      (whole all l.self)
      ≡ feed_from (rules_of l.job) (g.R.ReceiveRing.steps g.K.Setting.shape) 0 (length l.initial.self.cpus)
      (whole all l.initial.self));
  firsts : firsts_of l.self ≡ firsts_of l.initial.self;
  counted : HasCount l.self;
  ended : (k : ℕ) → k < l.cpu → IsAtItsEnd (cpu_in l.self k);
}
