use Rattle.std.proofs.Common.{◌≡◌, List, drop}
use Rattle.frame_view.specs.declared.frames.Frame.{Frame}
use Rattle.receive_ring.specs.Replay.{done_lines}
use Rattle.replay_machine.proofs.Timed.{IsTimed}
use Rattle.replay_machine.specs.RunStates.{AreAllOf, IsCounted, IsRun, firsts_of, whole}
use Rattle.run_reports.specs.Jobs.{rules_of}
use Rattle.replay_machine.proofs.runs.replay_as.Given as goal

abbrev pub invariant-loop-line : goal.invariant-loop-line
invariant-loop-line g l = record {
  run : IsRun (g.R.ReceiveRing.steps g.K.Setting.shape) l.job l.run;
  timed : IsTimed l.run.members (drop l.line-index l.schedule);
  does : (all : List (List Frame)) → AreAllOf all l.run.cpus → AreAllOf all l.initial.run.cpus
      × (done_lines (rules_of l.job) (g.R.ReceiveRing.steps g.K.Setting.shape) (drop l.line-index l.schedule) (whole all l.run)
      ≡ done_lines (rules_of l.job) (g.R.ReceiveRing.steps g.K.Setting.shape) l.schedule (whole all l.initial.run));
  firsts : firsts_of l.run ≡ firsts_of l.initial.run;
  counted : IsCounted l.line-index l.run;
}
