use Rattle.std.proofs.Common.{refl}
use Rattle.fanout_group.proofs.Receptions.{is_delivery, still_member}
use Rattle.fanout_group.proofs.delivery.deliver.Goals as goal

pub returns-clause-delivery : goal.returns-clause-delivery
returns-clause-delivery g c =
    is_delivery g.D.Desk.made c.args.plan.now c.args.offer c.args.ticket c.args.queue c.args.present.now c.home-home.result
    c.home-home.ensures.home _ _ _ _
    c.args.plan.now.mode _ c.in_ok-deliver_at.ensures.route refl c.in_ok-deliver_at.ensures.present

pub returns-clause-member : goal.returns-clause-member
returns-clause-member g c =
    still_member g.D.Desk.made c.args.plan.now c.args.offer c.args.ticket c.args.queue c.args.present.now c.home-home.result
    c.home-home.ensures.home _ _ _ _
    _ (returns-clause-delivery g c) c.home-home.ensures.member c.requires.present
