use Rattle.std.proofs.Common.{ap, subst, sym}
use Rattle.ring_model.specs.declared.notes.Note.TheVariants.{Finished}
use Rattle.tp_layout.specs.Requests.{size_of}
use Rattle.block_ring.specs.Producers.{Producing}
use Rattle.block_ring.specs.Texts.{RepresentsTexts}
use Rattle.block_ring.proofs.Notings.{closed_run, state_of-push}
use Rattle.block_ring.proofs.producer.Producer.finish.Goals as goal

pub finish-end-requires : goal.finish-end-requires
finish-end-requires g c κs within = (within, (c.self.invariant.at, c.self.invariant.few))

pub returns-clause-run : goal.returns-clause-run
returns-clause-run g c =
    let machine = c.self.inside.machine in
    let shape = ap (λ (p : Producing g.row.E.Denot). p.shape) c.self.view_is in
    let run = closed_run (size_of machine.shape) machine.notes.items c.self.invariant.run in
    rw (← shape, c.from_vec.ensures, c.push_reserved.ensures.items, c.finish-end.ensures.notes) run

pub returns-clause-texts : goal.returns-clause-texts
returns-clause-texts g c =
    let machine = c.self.inside.machine in
    let shape = ap (λ (p : Producing g.row.E.Denot). p.shape) c.self.view_is in
    let feed = g.E.FeederEnd.feed c.finish-end.result.0 in
    let texts = subst (λ s. RepresentsTexts machine.shape s.done feed)
    (sym (state_of-push (size_of machine.shape) machine.notes.items Finished)) c.finish-end.ensures.texts in
    rw (← shape, c.from_vec.ensures, c.push_reserved.ensures.items, c.finish-end.ensures.notes) texts
