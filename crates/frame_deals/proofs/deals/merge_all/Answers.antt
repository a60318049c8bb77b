use Rattle.std.proofs.Common.{◌≡◌, subst, rules, Option, None}
use Rattle.frame_deals.specs.inside.Merges.{IsDealtFrom, IsNext}
use Rattle.frame_deals.specs.declared.merge.NextFrame.{NextFrame}
use Rattle.frame_deals.proofs.DealtFeeds.{is_deal}
use Rattle.frame_deals.proofs.MergeSteps.{all_dealt}
use Rattle.frame_deals.proofs.deals.merge_all.Goals as goal

dealt_from : (c : goal.After-drop-merge-2)
    → IsDealtFrom c.args.plan.now c.args.queues.items
    (record { members = c.dealing.merge.members; end = c.dealing.merge.end })
dealt_from c =
    let merge = c.dealing.merge in
    let none : c.next.result ≡ None = search rules in
    all_dealt c.args.plan.now merge c.args.queues.items
    (subst (λ (found : Option NextFrame). IsNext merge.first merge.queues.items found) none c.next.ensures)
    c.dealing.invariant.dealt c.dealing.invariant.end

pub returns-clause-from : goal.returns-clause-from
returns-clause-from c = dealt_from c

pub returns-clause-deal : goal.returns-clause-deal
returns-clause-deal c = is_deal c.args.plan.now c.args.queues.items _ (dealt_from c)
