use Rattle.std.proofs.Common.{◌≡◌, ap}
use Rattle.run_reports.specs.RingSteps.{put_note}
use Rattle.ring_model.specs.Rings.{Ring}
use Rattle.replay_machine.proofs.MemberSteps.{either}
use Rattle.replay_machine.proofs.RingGroups.{may_note, room_told, takes_the_same, told_put, told_none}
use Rattle.replay_machine.proofs.ring_group.RingGroupDesk.put.Goals as goal

pub put-requires-clause-few : goal.put-requires-clause-few
put-requires-clause-few g c = may_note c.args.self.now c.self.inside.members.items c.self.inside.ticket c.args.member
    c.index_mut.result.now c.index_mut.result.now c.self.view_is c.index_mut.ensures.value
    c.requires.takes.within c.requires.room

pub returns-clause-made : goal.returns-clause-made
returns-clause-made g c =
    told_put c.args.self.now c.self.inside.members.items c.self.inside.ticket c.args.member c.index_mut.result.now
    c.put.new.self c.self.view_is c.index_mut.ensures.value
    c.put.result (g.R.ReceiveRing.steps g.K.Setting.shape) c.args.offer c.requires.takes.within c.put.ensures.ok
    c.put.ensures.put

pub returns-clause-err : goal.returns-clause-err
returns-clause-err g c =
    told_none c.args.self.now c.self.inside.members.items c.self.inside.ticket c.args.member c.index_mut.result.now
    c.put.new.self c.self.view_is c.index_mut.ensures.value
    c.put.result (g.R.ReceiveRing.steps g.K.Setting.shape) c.args.offer c.put.ensures.err

pub returns-clause-room : goal.returns-clause-room
returns-clause-room g c =
    room_told c.args.self.now c.self.inside.members.items c.self.inside.ticket c.args.member c.index_mut.result.now
    c.put.new.self c.self.view_is c.index_mut.ensures.value
    c.put.result (put_note (g.R.ReceiveRing.steps g.K.Setting.shape) c.index_mut.result.now c.args.offer)
    c.requires.takes.within c.put.ensures.ok

pub returns-clause-same : goal.returns-clause-same
returns-clause-same g c =
    takes_the_same c.args.self.now c.self.inside.members.items c.self.inside.ticket c.args.member c.index_mut.result.now
    c.put.new.self c.self.view_is c.index_mut.ensures.value
    (either c.put.result _ _ (c.put.new.self.size ≡ c.index_mut.result.now.size) c.put.ensures.ok c.put.ensures.err
    (ap (λ (ring : Ring). ring.size)) (ap (λ (ring : Ring). ring.size)))
