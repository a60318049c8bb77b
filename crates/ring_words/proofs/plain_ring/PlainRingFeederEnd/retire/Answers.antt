use Rattle.std.proofs.Common.{◌≡◌, ◌+◌, length, arith}
use Rattle.std.proofs.lemmas.Grind.{common_steps}
use Rattle.ring_words.proofs.Queues.{length-entries, ready_push}
use Rattle.ring_words.proofs.plain_ring.PlainRingFeederEnd.retire.Goals as goal

pub invariant_of-self : goal.invariant_of-self
invariant_of-self g c =
    let count = length-entries g.B.Content.bytes c.self.inside.filled.items in
    let last : (c.self.inside.taken + 1) + length c.self.inside.filled.items ≡ c.self.inside.retired + 1 = omega arith in
    let is_ready =
    ready_push g.B.Content.ready _ _ (record { block = c.args.block; status = c.args.status }) _ last
    c.self.invariant.0.filled_ready (rw (← c.self.view_is) at c.requires.ready) in
    grind (arith, common_steps, is_ready)
