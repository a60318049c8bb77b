use Rattle.std.proofs.Common.{◌≡◌, ap}
use Rattle.run_reports.specs.RingSteps.{try_note}
use Rattle.ring_model.specs.Rings.{Ring}
use Rattle.replay_machine.proofs.MemberSteps.{either}
use Rattle.replay_machine.proofs.RingGroups.{may_note, room_told, takes_the_same, told_try, told_none}
use Rattle.replay_machine.proofs.ring_group.RingGroupDesk.try_put.Goals as goal

pub try_put-requires-clause-few : goal.try_put-requires-clause-few
try_put-requires-clause-few g c = may_note c.args.self.now c.self.inside.members.items c.self.inside.ticket c.args.member
    c.index_mut.result.now c.index_mut.result.now c.self.view_is c.index_mut.ensures.value
    c.requires.takes.within c.requires.room

pub returns-clause-made : goal.returns-clause-made
returns-clause-made g c =
    told_try c.args.self.now c.self.inside.members.items c.self.inside.ticket c.args.member c.index_mut.result.now
    c.try_put.new.self c.self.view_is c.index_mut.ensures.value
    c.try_put.result (g.R.ReceiveRing.steps g.K.Setting.shape) c.args.offer c.requires.takes.within c.try_put.ensures.ok
    c.try_put.ensures.tried

pub returns-clause-err : goal.returns-clause-err
returns-clause-err g c =
    told_none c.args.self.now c.self.inside.members.items c.self.inside.ticket c.args.member c.index_mut.result.now
    c.try_put.new.self c.self.view_is c.index_mut.ensures.value
    c.try_put.result (g.R.ReceiveRing.steps g.K.Setting.shape) c.args.offer c.try_put.ensures.err

pub returns-clause-room : goal.returns-clause-room
returns-clause-room g c =
    room_told c.args.self.now c.self.inside.members.items c.self.inside.ticket c.args.member c.index_mut.result.now
    c.try_put.new.self c.self.view_is c.index_mut.ensures.value
    c.try_put.result (try_note (g.R.ReceiveRing.steps g.K.Setting.shape) c.index_mut.result.now c.args.offer)
    c.requires.takes.within c.try_put.ensures.ok

pub returns-clause-same : goal.returns-clause-same
returns-clause-same g c =
    takes_the_same c.args.self.now c.self.inside.members.items c.self.inside.ticket c.args.member c.index_mut.result.now
    c.try_put.new.self c.self.view_is c.index_mut.ensures.value
    (either c.try_put.result _ _ (c.try_put.new.self.size ≡ c.index_mut.result.now.size) c.try_put.ensures.ok
    c.try_put.ensures.err (ap (λ (ring : Ring). ring.size)) (ap (λ (ring : Ring). ring.size)))
