use Rattle.std.proofs.Common.{◌≡◌, ◌∙◌, ◌<◌, ◌≤◌, ap, get_or, length, length-set, rules, subst, sym}
use Rattle.std.specs.Prelude.{All}
use Rattle.run_reports.specs.RingSteps.{ticked as ticked_ring}
use Rattle.ring_model.specs.Rings.{Ring}
use Rattle.ring_model.specs.Unreleased.{last_moment}
use Rattle.replay_machine.proofs.Clocks.{not_yet, one_more}
use Rattle.replay_machine.specs.RingGroups.{GroupValue}
use Rattle.replay_machine.proofs.Lines.{all_changed, ticked}
use Rattle.replay_machine.proofs.ring_group.RingGroup.tick.Goals as goal

pub loop-member-preserved : goal.loop-member-preserved
loop-member-preserved g c =
    let f : Ring → Ring = ticked_ring (g.R.ReceiveRing.steps g.K.Setting.shape) c.args.ms in
    let first = c.self.inside.members.items in
    let now = c.loop-member.self-inside.members.items in
    let within : c.loop-member.member < length first = search rules in
    record {
      ticket = c.loop-member.invariant.ticket;
      count = length-set now c.loop-member.member c.tick.new.self ∙ c.loop-member.invariant.count;
      rings = one_more f first now c.loop-member.member c.index_mut.result.now c.tick.new.self
          within c.loop-member.invariant.rings
          c.index_mut.ensures.value c.in_ok-tick.ensures;
    }

pub tick-requires-clause-later : goal.tick-requires-clause-later
tick-requires-clause-later g c =
    let f : Ring → Ring = ticked_ring (g.R.ReceiveRing.steps g.K.Setting.shape) c.args.ms in
    let P : Ring → Type 0 = λ ring. last_moment 0 ring.notes ≤ c.args.ms in
    let first = c.self.inside.members.items in
    let at = c.loop-member.member in
    let here = c.index_mut.result.now in
    let within : at < length first = search rules in
    let all : All P first = subst (λ (group : GroupValue). All P group.members) (sym c.self.view_is) c.requires.later in
    let same : here ≡ get_or first at here =
    c.index_mut.ensures.value ∙ ap (λ rings. get_or rings at here) c.loop-member.invariant.rings
    ∙ not_yet f first at here within in
    subst P (sym same) (all at here within)

pub returns : goal.returns
returns g c =
    let f : Ring → Ring = ticked_ring (g.R.ReceiveRing.steps g.K.Setting.shape) c.args.ms in
    let past : length c.self.inside.members.items ≤ c.loop-member.member = search rules in
    ticked f c.self.inside.members.items c.loop-member.self-inside.members.items c.self.inside.ticket
    c.loop-member.self-inside.ticket c.args.self.now c.loop-member.invariant.ticket
    (all_changed f c.loop-member.member c.self.inside.members.items c.loop-member.self-inside.members.items past
    c.loop-member.invariant.rings) c.self.view_is
