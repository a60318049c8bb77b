use Rattle.std.proofs.Common.{ap, subst, sym}
use Rattle.ring_model.specs.declared.notes.Note.TheVariants.{Finished}
use Rattle.slot_layout.proofs.Runs.{slot_run_closed, slot_state_push}
use Rattle.v2_ring.specs.SlotContents.{RepresentsSlots}
use Rattle.v2_ring.specs.SlotProducers.{SlotProducing}
use Rattle.v2_ring.proofs.producer.SlotProducer.finish.Goals as goal

pub returns-clause-run : goal.returns-clause-run
returns-clause-run g c =
    let shape = ap (λ (p : SlotProducing g.row.E.Denot). p.shape) c.self.view_is in
    let run = slot_run_closed c.self.inside.machine.shape.frame_nr c.self.inside.machine.notes.items c.self.invariant.run in
    rw (← shape, c.from_vec.ensures, c.push_reserved.ensures.items) run

pub returns-clause-texts : goal.returns-clause-texts
returns-clause-texts g c =
    let machine = c.self.inside.machine in
    let shape = ap (λ (p : SlotProducing g.row.E.Denot). p.shape) c.self.view_is in
    let feed = g.E.FeederEnd.feed machine.end in
    let texts = subst (λ s. RepresentsSlots machine.shape s.done feed)
    (sym (slot_state_push c.self.inside.machine.notes.items Finished)) c.self.invariant.at.texts in
    rw (← shape, c.from_vec.ensures, c.push_reserved.ensures.items) texts
