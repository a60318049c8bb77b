use Rattle.std.proofs.Common.{◌≡◌, ◌+◌, ◌∙◌, [], ◌∷◌, ◌++◌, length, take, ap, arith}
use Rattle.ring_words.specs.Rings.{Entry}
use Rattle.ring_words.specs.declared.knowledge.Known.{Known}
use Rattle.ring_words.proofs.Entries.{length-snoc}
use Rattle.ring_words.proofs.Hands.{still_seated}
use Rattle.ring_words.proofs.PendingSteps.{entries_push, ready_push}
use Rattle.ring_words.proofs.Queues.{all_push}
use Rattle.ring_words.proofs.pending_blocks.drain.Goals as goal

pub loop-at-preserved : goal.loop-at-preserved
loop-at-preserved g c =
    let old = c.loop-at.invariant in
    let took = c.next_pending.ensures.took in
    let one = c.next_pending.result in
    let entry : Entry = (g.B.Content.bytes one.0, one.1) in
    let count : length c.next_pending.new.seat.me.0.taken ≡ c.loop-at.at + 1 =
    ap length took.taken ∙ length-snoc c.loop-at.seat.me.0.taken entry ∙ ap (λ k. k + 1) old.count in
    let pushed : length c.push_reserved.new.self.items ≡ length c.loop-at.blocks.items + 1 =
    ap length c.push_reserved.ensures.items ∙ length-snoc c.loop-at.blocks.items one in
    let test = c.loop-at-test.true in
    let same_kind = ap (λ (k : Known). k.kind) old.known in
    record {
      table = still_seated _ _ _ _ old.table c.next_pending.ensures.table;
      known = took.known
          ∙ ap (λ (k : Known). record k {
            taken = c.next_pending.new.seat.me.0.taken;
            visits = c.next_pending.new.seat.me.0.visits;
          }) old.known;
      taken = rw c.push_reserved.ensures.items
          (entries_push g.B.Content.bytes g.B.Content.kind g.B.Content.ready _ _ one _
          (took.taken ∙ ap (λ l. l ++ entry ∷ []) old.taken));
      count = count;
      passed = omega arith;
      front = c.next_pending.ensures.front ∙ ap (λ (k : Known). take (c.loop-at.at + 1) k.retired) old.known;
      kinds = rw c.push_reserved.ensures.items (all_push _ _ one old.kinds (c.next_pending.ensures.kind ∙ same_kind));
      ready = rw c.push_reserved.ensures.items
          (ready_push g.B.Content.bytes g.B.Content.kind g.B.Content.ready _ _ _ one old.ready old.passed
          c.next_pending.ensures.ready);
      room = (let capacity = c.push_reserved.ensures.capacity in omega arith);
    }
