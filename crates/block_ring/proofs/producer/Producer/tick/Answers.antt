use Rattle.std.proofs.Common.{◌≡◌, ◌-◌, ◌^◌, ◌<◌, ◌∷◌, ◌++◌, [], ◌∙◌, ap, arith, length}
use Rattle.std.specs.Vec.{vec_capacity}
use Rattle.ring_model.specs.Ring.{state_of}
use Rattle.ring_model.specs.declared.notes.Note.TheVariants.{Ticked}
use Rattle.tp_layout.specs.Requests.{size_of}
use Rattle.block_ring.specs.Machines.{Stepped}
use Rattle.block_ring.specs.Producers.{Producing, Ticks, state}
use Rattle.block_ring.proofs.Notings.{numbers_after}
use Rattle.block_ring.proofs.Steps.{added, clock_tick, few_after, kept_on, looks_more, spare_less, tick_looked, tick_number}
use Rattle.block_ring.proofs.Steps.{ticks_given}
use Rattle.block_ring.proofs.producer.Producer.tick.Goals as goal

pub tick-found-requires : goal.tick-found-requires
tick-found-requires g c κs within =
    let same = c.self-2.view_is ∙ c.reserve.ensures.stays in
    let count = ap (λ (p : Producing g.row.E.Denot). length p.notes) same in
    let few : length c.self-2.inside.machine.notes.items < 2 ^ 39 = omega (arith, c.requires.few, count) in
    let now = ap (λ (p : Producing g.row.E.Denot). (state p).clock) same in
    let before = ap (λ (p : Producing g.row.E.Denot). (state p).clock) c.self.view_is in
    let clock = c.self.invariant.at.clock_is in (
      within,
      (
        c.self-2.invariant.at,
        (
          c.self-2.invariant.few,
          (omega (arith, now, before, clock, c.clock-clock.ensures, c.if-ms-clock.false), c.requires.small),
        ),
      ),
    )

pub invariant_of-self : goal.invariant_of-self
invariant_of-self g c =
    let same = ap (λ (p : Producing g.row.E.Denot). length p.notes) (c.self-2.view_is ∙ c.reserve.ensures.stays) in
    let few : length c.self-2.inside.machine.notes.items < 2 ^ 39 = omega (arith, c.requires.few, same) in
    let machine = c.self-2.inside.machine in
    let found = c.tick-found.result in
    let s = state_of (size_of machine.shape) machine.notes.items in
    let step : Stepped g.E.FeederEnd.feed s (Ticked c.args.ms found) machine c.tick-found.new.self =
    record {
      at = c.tick-found.ensures.at;
      may_follow = c.tick-found.ensures.may_follow;
      end = c.tick-found.ensures.end;
      shape = c.tick-found.ensures.same.0;
    } in
    let looks = looks_more machine.notes.items (Ticked c.args.ms found) _ _ c.self-2.invariant.looks few
    c.tick-found.ensures.end.holds
    (tick_looked c.args.ms found _ _ c.tick-found.ensures.looked) in
    let numbers = numbers_after machine.notes.items (Ticked c.args.ms found) found _ _ c.self-2.invariant.numbers
    c.tick-found.ensures.number (tick_number c.args.ms found) in
    let spare = ap (λ (p : Producing g.row.E.Denot). p.spare) c.self-2.view_is in
    let clock = clock_tick (size_of machine.shape) s c.args.ms found in
    let clock_after = c.tick-found.ensures.at.clock_is in
    kept_on g.E.FeederEnd.feed machine c.tick-found.new.self machine.notes.items (Ticked c.args.ms found) _ _
    c.self-2.invariant step
    tt looks numbers c.push_reserved.new.self c.push_reserved.new.self.items
    (rw (c.push_reserved.ensures.items, c.tick-found.ensures.same.1))
    (rw (c.push_reserved.ensures.capacity, c.tick-found.ensures.same.1) (omega (arith, spare, c.in_ok-reserve.ensures.ok)))
    (few_after g.E.FeederEnd.feed machine c.tick-found.new.self machine.notes.items (Ticked c.args.ms found) step few
    (omega (arith, clock, clock_after, c.requires.small)))

pub returns-clause-ticked : goal.returns-clause-ticked
returns-clause-ticked g c =
    let same = c.self-2.view_is ∙ c.reserve.ensures.stays in
    let count = ap (λ (p : Producing g.row.E.Denot). length p.notes) same in
    let few : length c.self-2.inside.machine.notes.items < 2 ^ 39 = omega (arith, c.requires.few, count) in
    let machine = c.self-2.inside.machine in
    let found = c.tick-found.result in
    let s = state_of (size_of machine.shape) machine.notes.items in
    let note = Ticked c.args.ms found in
    let step : Stepped g.E.FeederEnd.feed s note machine c.tick-found.new.self =
    record {
      at = c.tick-found.ensures.at;
      may_follow = c.tick-found.ensures.may_follow;
      end = c.tick-found.ensures.end;
      shape = c.tick-found.ensures.same.0;
    } in
    let looks = looks_more machine.notes.items (Ticked c.args.ms found) _ _ c.self-2.invariant.looks few
    c.tick-found.ensures.end.holds
    (tick_looked c.args.ms found _ _ c.tick-found.ensures.looked) in
    let numbers = numbers_after machine.notes.items (Ticked c.args.ms found) found _ _ c.self-2.invariant.numbers
    c.tick-found.ensures.number (tick_number c.args.ms found) in
    let pushed : c.push_reserved.new.self.items ≡ machine.notes.items ++ note ∷ [] =
    rw (c.push_reserved.ensures.items, c.tick-found.ensures.same.1) in
    let room = vec_capacity machine.notes in
    let room_after = vec_capacity c.push_reserved.new.self in
    let less = spare_less machine.notes.items c.push_reserved.new.self.items note room room_after pushed
    (c.push_reserved.ensures.capacity ∙ ap (λ v. vec_capacity v) c.tick-found.ensures.same.1) in
    let adds = added g.E.FeederEnd.feed machine c.tick-found.new.self machine.notes.items note room 0 c.self-2.invariant step
    tt looks numbers (room - length machine.notes.items - 1) (room_after - length c.push_reserved.new.self.items - 1)
    c.push_reserved.new.self.items less pushed in
    let ticks : Ticks g.E.FeederEnd.feed _ _ c.args.ms found = record {
      adds = adds;
      looked = c.tick-found.ensures.looked;
      count = c.tick-found.ensures.count;
      number = c.tick-found.ensures.number;
      exact = c.tick-found.ensures.exact;
    } in (
      found,
      ticks_given g.E.FeederEnd.feed c.args.self.now _ c.reserve.new.self _ c.self-2.view_is c.reserve.ensures.stays
          c.reserve.ensures.more
          c.args.ms found ticks,
    )
