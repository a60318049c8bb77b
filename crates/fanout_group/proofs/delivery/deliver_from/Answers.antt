use Rattle.std.proofs.Common.{◌<◌, ◌∙◌, ℕ, List, ◌++◌, ap, subst, sym}
use Rattle.fanout_group.specs.Plans.{rolls_over}
use Rattle.fanout_group.specs.Routes.{IsRoute, present_after}
use Rattle.fanout_group.specs.declared.logs.Try.{Try}
use Rattle.fanout_group.proofs.RouteBounds.{present_after-route}
use Rattle.fanout_group.proofs.delivery.deliver_from.Goals as goal

pub returns-clause-route : goal.returns-clause-route
returns-clause-route g c =
    let listed = c.in_ok-deliver_at.ensures.route in
    let plan = c.args.plan.now in
    subst (λ (tries : List Try). IsRoute (rolls_over plan) plan.members c.args.home tries)
    (sym (listed.told_is ∙ ap (λ (told : List Try). told ++ listed.more) c.new-tries.ensures)) listed.such

pub returns-clause-member : goal.returns-clause-member
returns-clause-member g c =
    let listed = c.in_ok-deliver_at.ensures.route in
    let plan = c.args.plan.now in
    let present = c.args.present.now in
    subst (λ (n : ℕ). n < plan.members)
    (sym (c.in_ok-deliver_at.ensures.present ∙ ap (λ (tries : List Try). present_after plan.mode present tries)
    (listed.told_is ∙ ap (λ (told : List Try). told ++ listed.more) c.new-tries.ensures)))
    (present_after-route (rolls_over plan) plan.mode plan.members c.args.home present listed.more c.requires.home
    c.requires.present listed.such)
