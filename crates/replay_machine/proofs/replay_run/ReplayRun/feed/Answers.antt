use Rattle.std.proofs.Common.{◌^◌, ◌+◌, ◌<◌, ℕ, subst, sym}
use Rattle.replay_machine.specs.RingGroups.{HasRoomFor}
use Rattle.replay_machine.specs.RunStates.{Feeds, RunValue}
use Rattle.replay_machine.specs.inside.RunRules.{IsRunBy}
use Rattle.replay_machine.proofs.RunCounts.{room_for_arrival}
use Rattle.replay_machine.proofs.RunSteps.{by_each, run_with, takes_all, told_fed}
use Rattle.replay_machine.proofs.replay_run.ReplayRun.feed.Goals as goal

pub feed-requires-clause-block : goal.feed-requires-clause-block
feed-requires-clause-block g c = c.requires.bytes.some

pub feed-requires-clause-may_draw : goal.feed-requires-clause-may_draw
feed-requires-clause-may_draw g c = subst (λ (run : RunValue). run.ticket + 1 < 2 ^ 64) (sym c.self.view_is)
    (room_for_arrival c.args.self.now c.requires.counted).ticket

pub feed-requires-clause-room : goal.feed-requires-clause-room
feed-requires-clause-room g c = subst (λ (run : RunValue). HasRoomFor 9 run.members) (sym c.self.view_is)
    (room_for_arrival c.args.self.now c.requires.counted).notes

pub feed-requires-clause-takes : goal.feed-requires-clause-takes
feed-requires-clause-takes g c =
    takes_all (g.R.ReceiveRing.steps g.K.Setting.shape) c.requires.run.0 c.args.cpu c.args.rules.now
    c.self.inside.cpus.items c.self.inside.group c.index_mut.result.now c.args.self.now
    c.self.view_is c.index_mut.ensures.value c.requires.cpu c.requires.run.1.run_is
    c.requires.bytes.room_is c.requires.bytes.even

pub returns : goal.returns
returns g c =
    let steps = g.R.ReceiveRing.steps g.K.Setting.shape in
    let cpu = c.args.cpu in
    let rules = c.args.rules.now in
    let now = c.args.self.now in
    by_each c.feed.result (λ job. IsRunBy steps job cpu rules now) (λ job more. Feeds steps job cpu more now _)
    (λ job by. told_fed steps job cpu rules c.self.inside.cpus.items c.self.inside.group c.index_mut.result.now now
    c.self.view_is c.index_mut.ensures.value c.requires.cpu c.feed.result c.feed.new.self c.feed.new.group by.run_is
    job.runnable.few_members by.rules_are c.feed.ensures.fed)
