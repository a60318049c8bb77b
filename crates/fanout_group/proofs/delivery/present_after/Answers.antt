use Rattle.std.proofs.Common.{◌∙◌, ap, sym}
use Rattle.fanout_group.specs.Routes.{present_after}
use Rattle.fanout_group.specs.declared.modes.Mode.{Mode}
use Rattle.fanout_group.proofs.Rounds.{last_of}
use Rattle.fanout_group.proofs.delivery.present_after.Goals as goal

pub returns-in-Rollover-Some : goal.returns-in-Rollover-Some
returns-in-Rollover-Some c =
    sym (last_of c.args.present c.args.tries.now c.in-Rollover-Some.last.now (sym c.in-Rollover-Some.ensures.value))
    ∙ ap (λ (mode : Mode). present_after mode c.args.present c.args.tries.now) (sym c.in-Rollover-Some.is-0)
