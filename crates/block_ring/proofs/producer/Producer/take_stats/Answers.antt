use Rattle.std.proofs.Common.{◌≡◌, ◌-◌, length, ◌∷◌, ◌++◌, [], ◌∙◌, ap, arith, refl}
use Rattle.std.specs.Vec.{vec_capacity}
use Rattle.ring_model.specs.Fates.{stats_of}
use Rattle.ring_model.specs.Ring.{state_of}
use Rattle.ring_model.specs.declared.notes.Found.TheVariants.{NotAsked}
use Rattle.ring_model.specs.declared.notes.Note.TheVariants.{Counted}
use Rattle.tp_layout.specs.Requests.{size_of}
use Rattle.block_ring.specs.Machines.{Stepped}
use Rattle.block_ring.specs.Producers.{Producing, state}
use Rattle.block_ring.proofs.Notings.{numbers_after}
use Rattle.block_ring.proofs.Steps.{added, adds_given, keeps_end, kept_on, spare_less}
use Rattle.block_ring.proofs.producer.Producer.take_stats.Goals as goal

pub take_stats-stats-requires : goal.take_stats-stats-requires
take_stats-stats-requires g c κs within = (within, (c.self.invariant.at, c.self.invariant.few))

pub invariant_of-self : goal.invariant_of-self
invariant_of-self g c =
    let machine = c.self.inside.machine in
    let new = c.take_stats-stats.new.self in
    let s = state_of (size_of machine.shape) machine.notes.items in
    let end = keeps_end _ _ (ap g.E.FeederEnd.feed c.take_stats-stats.ensures.end) in
    let numbers = numbers_after machine.notes.items Counted NotAsked _ _ c.self.invariant.numbers
    (ap (λ e. (g.E.FeederEnd.feed e).found) c.take_stats-stats.ensures.end) refl in
    let step : Stepped g.E.FeederEnd.feed s Counted machine new =
    record { at = c.take_stats-stats.ensures.at; may_follow = tt; end = end; shape = c.take_stats-stats.ensures.same.0 } in
    let spare = ap (λ (p : Producing g.row.E.Denot). p.spare) c.self.view_is in
    kept_on g.E.FeederEnd.feed machine new machine.notes.items Counted _ _ c.self.invariant step
    tt (omega (arith, end.holds, c.self.invariant.looks)) numbers c.push_reserved.new.self c.push_reserved.new.self.items
    (rw (c.push_reserved.ensures.items, c.take_stats-stats.ensures.same.1))
    (rw (c.push_reserved.ensures.capacity, c.take_stats-stats.ensures.same.1)
    (omega (arith, spare, c.in_ok-reserve.ensures.ok)))
    c.take_stats-stats.ensures.few

pub returns-clause-taken : goal.returns-clause-taken
returns-clause-taken g c =
    let same = c.self.view_is ∙ c.reserve.ensures.stays in
    let machine = c.self.inside.machine in
    let new = c.take_stats-stats.new.self in
    let s = state_of (size_of machine.shape) machine.notes.items in
    let end = keeps_end _ _ (ap g.E.FeederEnd.feed c.take_stats-stats.ensures.end) in
    let numbers = numbers_after machine.notes.items Counted NotAsked _ _ c.self.invariant.numbers
    (ap (λ e. (g.E.FeederEnd.feed e).found) c.take_stats-stats.ensures.end) refl in
    let step : Stepped g.E.FeederEnd.feed s Counted machine new =
    record { at = c.take_stats-stats.ensures.at; may_follow = tt; end = end; shape = c.take_stats-stats.ensures.same.0 } in
    let pushed : c.push_reserved.new.self.items ≡ machine.notes.items ++ Counted ∷ [] =
    rw (c.push_reserved.ensures.items, c.take_stats-stats.ensures.same.1) in
    let room = vec_capacity machine.notes in
    let room_after = vec_capacity c.push_reserved.new.self in
    let less = spare_less machine.notes.items c.push_reserved.new.self.items Counted room room_after pushed
    (c.push_reserved.ensures.capacity ∙ ap (λ v. vec_capacity v) c.take_stats-stats.ensures.same.1) in
    let adds = added g.E.FeederEnd.feed machine new machine.notes.items Counted room 0 c.self.invariant step
    tt (omega (arith, end.holds, c.self.invariant.looks)) numbers (room - length machine.notes.items - 1)
    (room_after - length c.push_reserved.new.self.items - 1)
    c.push_reserved.new.self.items less pushed in (
      adds_given g.E.FeederEnd.feed c.args.self.now _ c.reserve.new.self _ c.self.view_is c.reserve.ensures.stays
          c.reserve.ensures.more Counted adds,
      c.take_stats-stats.ensures.stats ∙ ap (λ (p : Producing g.row.E.Denot). stats_of (state p)) same,
    )
