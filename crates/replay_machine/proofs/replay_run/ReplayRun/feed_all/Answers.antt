use Rattle.std.proofs.Common.{◌∙◌, subst, sym}
use Rattle.receive_ring.specs.Rings.{IsRoomOf}
use Rattle.replay_machine.proofs.RunCounts.{keeps_count}
use Rattle.replay_machine.proofs.Lines.{Goes, goes_first, goes_on, goes_to_end}
use Rattle.replay_machine.proofs.replay_run.ReplayRun.feed_all.Goals as goal

pub feeding-init : goal.feeding-init
feeding-init g c =
    let first = goes_first (g.R.ReceiveRing.steps g.K.Setting.shape) c.args.job.now c.args.cpu c.args.self.now c.requires.run in
    record { run = first.run; does = first.does; firsts = first.firsts; cpus = first.cpus; counted = first.counted }

pub feed-requires-clause-bytes : goal.feed-requires-clause-bytes
feed-requires-clause-bytes g c =
    subst (IsRoomOf (g.R.ReceiveRing.steps g.K.Setting.shape)) (sym c.rules_with-rules.ensures.room) c.requires.bytes

pub feed-requires-clause-run : goal.feed-requires-clause-run
feed-requires-clause-run g c =
    let told = c.rules_with-rules.ensures in (
      c.args.job.now,
      record {
        rules_are = record { agrees = told.agrees; queue_is = told.queue; room_is = told.room ∙ c.requires.bytes.room_is };
        run_is = c.feeding.invariant.run;
      },
    )

pub feed-requires-clause-counted : goal.feed-requires-clause-counted
feed-requires-clause-counted g c = keeps_count c.args.self.now c.feeding.self c.feeding.invariant.counted c.requires.counted

pub feeding-preserved : goal.feeding-preserved
feeding-preserved g c =
    let steps = g.R.ReceiveRing.steps g.K.Setting.shape in
    let job = c.args.job.now in
    let i = c.feeding.invariant in
    let told = c.rules_with-rules.ensures in
    let by = c.in_ok-feed.ensures job (record {
      rules_are = record { agrees = told.agrees; queue_is = told.queue; room_is = told.room ∙ c.requires.bytes.room_is };
      run_is = i.run;
    }) in
    let before : Goes steps job c.args.cpu c.args.self.now c.feeding.self =
    record { run = i.run; does = i.does; firsts = i.firsts; cpus = i.cpus; counted = i.counted } in
    let next = goes_on steps job c.args.cpu c.in_ok-feed.field-0 c.args.self.now c.feeding.self c.feed.new.self before by in
    record { run = next.run; does = next.does; firsts = next.firsts; cpus = next.cpus; counted = next.counted }

pub returns : goal.returns
returns g c =
    let steps = g.R.ReceiveRing.steps g.K.Setting.shape in
    let job = c.args.job.now in
    let i = c.feeding.invariant in
    let told = c.rules_with-rules.ensures in
    let by = c.in_ok-feed.ensures job (record {
      rules_are = record { agrees = told.agrees; queue_is = told.queue; room_is = told.room ∙ c.requires.bytes.room_is };
      run_is = i.run;
    }) in
    let before : Goes steps job c.args.cpu c.args.self.now c.feeding.self =
    record { run = i.run; does = i.does; firsts = i.firsts; cpus = i.cpus; counted = i.counted } in
    goes_to_end steps job c.args.cpu c.in_ok-feed.field-0 c.args.self.now c.feeding.self c.feed.new.self
    c.requires.cpu before by c.if-branch.false
