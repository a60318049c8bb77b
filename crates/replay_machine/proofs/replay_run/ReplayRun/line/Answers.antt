use Rattle.std.proofs.Common.{◌^◌, ◌<◌, List, length, map, rules, subst, sym}
use Rattle.std.specs.Prelude.{All, slice_index_or, slice_set}
use Rattle.receive_ring.specs.Replay.{no_ring, noted_at}
use Rattle.run_reports.specs.RingSteps.{read_by, ticked}
use Rattle.ring_model.specs.Rings.{Ring}
use Rattle.ring_model.specs.declared.notes.Note.TheVariants.{Counted}
use Rattle.replay_machine.specs.RunStates.{RunValue}
use Rattle.replay_machine.proofs.MemberSteps.{in_ok}
use Rattle.replay_machine.proofs.RunCounts.{room_for_note}
use Rattle.replay_machine.proofs.Lines.{group_done, read_done, stats_done, tick_done}
use Rattle.replay_machine.proofs.RunSteps.{run_with}
use Rattle.replay_machine.proofs.replay_run.ReplayRun.line.Goals as goal

pub returns-in-Read : goal.returns-in-Read
returns-in-Read g c =
    let f : List Ring → List Ring = λ rings. slice_set rings c.in-Read.member
    (read_by (g.R.ReceiveRing.steps g.K.Setting.shape) (slice_index_or rings c.in-Read.member no_ring)) in
    read_done c.read.result (g.R.ReceiveRing.steps g.K.Setting.shape) c.args.job.now c.args.line c.in-Read.member
    c.args.self.now (run_with c.self.inside.cpus.items c.read.new.self) c.requires.run c.in-Read.is
    (in_ok c.read.result _ _ c.read.ensures (λ e. group_done f c.self.inside.cpus.items c.self.inside.group c.read.new.self
    c.args.self.now e c.self.view_is))

pub tick-requires-clause-later : goal.tick-requires-clause-later
tick-requires-clause-later g c = search rules

pub tick-requires-clause-few : goal.tick-requires-clause-few
tick-requires-clause-few g c = subst (λ (run : RunValue). All (λ ring. length ring.notes < 2 ^ 39) run.members)
    (sym c.self-in-Tick.view_is) (room_for_note c.args.self.now c.requires.counted)

pub take_stats-requires : goal.take_stats-requires
take_stats-requires g c = record {
  few = subst (λ (run : RunValue). All (λ ring. length ring.notes < 2 ^ 39) run.members)
      (sym c.self-in-Stats.view_is) (room_for_note c.args.self.now c.requires.counted);
}

pub returns-in-Tick : goal.returns-in-Tick
returns-in-Tick g c =
    tick_done c.tick.result (g.R.ReceiveRing.steps g.K.Setting.shape) c.args.job.now c.args.line c.in-Tick.ms
    c.args.self.now (run_with c.self-in-Tick.inside.cpus.items c.tick.new.self) c.requires.run c.in-Tick.is
    (in_ok c.tick.result _ _ c.tick.ensures (λ e. group_done
    (λ rings. map (ticked (g.R.ReceiveRing.steps g.K.Setting.shape) c.in-Tick.ms) rings)
    c.self-in-Tick.inside.cpus.items c.self-in-Tick.inside.group c.tick.new.self c.args.self.now e
    c.self-in-Tick.view_is))

pub returns-in-Stats : goal.returns-in-Stats
returns-in-Stats g c =
    stats_done c.take_stats.result (g.R.ReceiveRing.steps g.K.Setting.shape) c.args.job.now c.args.line c.in-Stats.member
    c.args.self.now (run_with c.self-in-Stats.inside.cpus.items c.take_stats.new.self) c.requires.run c.in-Stats.is
    (in_ok c.take_stats.result _ _ c.take_stats.ensures
    (λ e. group_done (λ rings. noted_at c.in-Stats.member Counted rings) c.self-in-Stats.inside.cpus.items
    c.self-in-Stats.inside.group c.take_stats.new.self c.args.self.now e c.self-in-Stats.view_is))
