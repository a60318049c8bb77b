use Rattle.std.proofs.Common.{List, ap, arith, refl, subst}
use Rattle.ring_model.specs.declared.notes.Note.{Note}
use Rattle.ring_model.specs.declared.notes.Note.TheVariants.{Counted}
use Rattle.slot_layout.specs.SlotSteps.{slot_after, slot_state_of}
use Rattle.v2_ring.specs.SlotMachines.{IsSlotAt}
use Rattle.v2_ring.proofs.SlotNotes.{Stepped, added, adds_given, kept_with, same_end}
use Rattle.v2_ring.proofs.producer.SlotProducer.take_stats.Goals as goal

pub invariant_of-self-2 : goal.invariant_of-self-2
invariant_of-self-2 g c =
    let feed = g.E.FeederEnd.feed in
    let machine = c.self.inside.machine in
    let notes = machine.notes.items in
    let new = c.take_stats-stats.new.self in
    let step : Stepped feed (slot_state_of notes) Counted machine new = record {
      at = subst (λ (items : List Note). IsSlotAt feed 0 (slot_after (slot_state_of items) Counted) new) c.reserve.ensures.items
          c.take_stats-stats.ensures.at;
      may_follow = tt;
      end = same_end (feed machine.end) (feed new.end) (ap feed c.take_stats-stats.ensures.end);
      shape = c.take_stats-stats.ensures.same.0;
    } in
    kept_with feed machine new notes Counted _ c.self.invariant step c.push_reserved.new.self
    c.push_reserved.new.self.items _ tt
    (rw (c.push_reserved.ensures.items, c.take_stats-stats.ensures.same.1, c.reserve.ensures.items) refl)
    (rw (c.push_reserved.ensures.capacity, c.take_stats-stats.ensures.same.1) (omega (arith, c.in_ok-reserve.ensures.ok)))
    (omega (arith, c.take_stats-stats.ensures.counts.0, c.take_stats-stats.ensures.counts.1))

pub returns-clause-taken : goal.returns-clause-taken
returns-clause-taken g c =
    let feed = g.E.FeederEnd.feed in
    let machine = c.self.inside.machine in
    let notes = machine.notes.items in
    let new = c.take_stats-stats.new.self in
    let step : Stepped feed (slot_state_of notes) Counted machine new = record {
      at = subst (λ (items : List Note). IsSlotAt feed 0 (slot_after (slot_state_of items) Counted) new) c.reserve.ensures.items
          c.take_stats-stats.ensures.at;
      may_follow = tt;
      end = same_end (feed machine.end) (feed new.end) (ap feed c.take_stats-stats.ensures.end);
      shape = c.take_stats-stats.ensures.same.0;
    } in
    adds_given feed _ c.args.self.now _ c.self.view_is Counted
    (added feed machine new notes Counted _ c.self.invariant step c.push_reserved.new.self.items
    (rw (c.push_reserved.ensures.items, c.take_stats-stats.ensures.same.1, c.reserve.ensures.items) refl))
