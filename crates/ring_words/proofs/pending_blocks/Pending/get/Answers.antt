use Rattle.std.proofs.Common.{sym}
use Rattle.ring_words.proofs.PendingSteps.{ready_at, slice_get-past}
use Rattle.ring_words.proofs.pending_blocks.Pending.get.Goals as goal

pub returns-in-Some-clause-ready : goal.returns-in-Some-clause-ready
returns-in-Some-clause-ready g c =
    let found = rw c.deref.ensures.value at c.in-Some.ensures.lookup in
    rw (← c.self.view_is)
    (ready_at g.B.Content.bytes g.B.Content.kind g.B.Content.ready _ _ _ _ c.self.invariant.are_ready found.3.0 found.1)

pub returns-in-None-clause-value : goal.returns-in-None-clause-value
returns-in-None-clause-value g c =
    let past = rw c.deref.ensures.value at c.in-None.ensures.lookup in
    rw (← c.self.view_is) (sym (slice_get-past _ _ past.3))
