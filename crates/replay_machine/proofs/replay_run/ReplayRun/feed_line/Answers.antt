use Rattle.std.proofs.Common.{◌≤◌, ◌∙◌, length, rules, subst, sym}
use Rattle.receive_ring.specs.Rings.{IsRoomOf}
use Rattle.replay_machine.proofs.Lines.{fed_line, no_such_cpu}
use Rattle.replay_machine.proofs.replay_run.ReplayRun.feed_line.Goals as goal

pub feed-requires-clause-bytes : goal.feed-requires-clause-bytes
feed-requires-clause-bytes g c =
    subst (IsRoomOf (g.R.ReceiveRing.steps g.K.Setting.shape)) (sym c.rules_with.ensures.room) c.requires.bytes

pub feed-requires-clause-run : goal.feed-requires-clause-run
feed-requires-clause-run g c =
    let told = c.rules_with.ensures in (
      c.args.job.now,
      record {
        rules_are = record { agrees = told.agrees; queue_is = told.queue; room_is = told.room ∙ c.requires.bytes.room_is };
        run_is = c.requires.run;
      },
    )

pub returns-in_ok-feed : goal.returns-in_ok-feed
returns-in_ok-feed g c =
    let steps = g.R.ReceiveRing.steps g.K.Setting.shape in
    let job = c.args.job.now in
    let told = c.rules_with.ensures in
    let by = c.in_ok-feed.ensures job (record {
      rules_are = record { agrees = told.agrees; queue_is = told.queue; room_is = told.room ∙ c.requires.bytes.room_is };
      run_is = c.requires.run;
    }) in
    fed_line steps job c.args.cpu c.in_ok-feed.field-0 c.args.self.now c.feed.new.self by

pub returns-else-cpu-len : goal.returns-else-cpu-len
returns-else-cpu-len g c =
    let past : length c.args.self.now.cpus ≤ c.args.cpu = search rules in
    no_such_cpu (g.R.ReceiveRing.steps g.K.Setting.shape) c.args.job.now c.args.cpu c.args.self.now c.requires.run past
