use Rattle.std.proofs.Common.{[], ◌≡◌, rules}
use Rattle.std.specs.Prelude.{slice_index_or}
use Rattle.std.proofs.lemmas.List.{get_or_read}
use Rattle.std.proofs.lemmas.Result.{on_ok_weaker}
use Rattle.frame_deals.proofs.MergeSteps.{IsPopped, cpu_below, deals_taken, ends_taken, fewer_taken, popped, rise_taken}
use Rattle.frame_deals.proofs.merge.Merge.take.Goals as goal

taken : (c : goal.After-give) → IsPopped c.requires.first c.in-Some.frame c.pop.new.self
taken c =
    let queues = c.args.self.now.queues.items in
    let first = c.args.self.now.first in
    let queue : c.index_mut.result.now ≡ slice_index_or queues c.args.next.cpu [] =
    get_or_read queues _ _ (cpu_below first queues c.args.next c.requires.first) c.index_mut.ensures.value [] in
    popped first queues c.args.next c.requires.first c.index_mut.result.now
    c.in-Some.frame c.pop.new.self queue (search rules) c.pop.ensures.rest

pub returns-clause-dealt : goal.returns-clause-dealt
returns-clause-dealt c =
    on_ok_weaker c.give.result
    (deals_taken c.args.plan.now c.args.self.now.first c.args.self.now.ticket c.args.self.now.queues.items
    c.args.self.now.members.items c.args.next c.requires.first c.in-Some.frame c.pop.new.self c.ticket_behind-self.result
    c.with_ticket-mark.result c.give.new.members.items (taken c) c.ticket_behind-self.ensures c.with_ticket-mark.ensures)
    c.give.ensures

pub returns-clause-end : goal.returns-clause-end
returns-clause-end c =
    on_ok_weaker c.give.result
    (λ given. ends_taken c.args.self.now.first c.args.self.now.end c.max-self.result c.args.self.now.queues.items
    c.args.next c.requires.first c.in-Some.frame c.pop.new.self (taken c) c.max-self.ensures)
    c.give.ensures

pub returns-clause-less : goal.returns-clause-less
returns-clause-less c =
    on_ok_weaker c.give.result
    (λ given. fewer_taken c.args.self.now.first c.args.self.now.queues.items
    c.args.next c.requires.first c.in-Some.frame c.pop.new.self (taken c))
    c.give.ensures

pub returns-clause-rise : goal.returns-clause-rise
returns-clause-rise c =
    on_ok_weaker c.give.result
    (λ given. rise_taken c.args.self.now.first c.args.self.now.queues.items
    c.args.next c.requires.first c.in-Some.frame c.pop.new.self (taken c) c.requires.rise)
    c.give.ensures
