use Rattle.std.proofs.Common.{List, ap, sym, subst, ◌∙◌}
use Rattle.std.specs.Prelude.{All, IfSome, Option}
use Rattle.std.proofs.lemmas.Option.{IfSome_then}
use Rattle.frame_view.specs.declared.frames.Frame.{Frame}
use Rattle.ip_defrag.specs.Fold.{pass}
use Rattle.fanout_group.specs.Arrivals.{HasPlaceOf, IsArrival, IsUntagged, no_runt}
use Rattle.fanout_group.proofs.ArrivalFacts.{arrives_if, passes}
use Rattle.fanout_group.proofs.receive_path.push.Goals as goal

pub returns-in-Ok-clause-sound : goal.returns-in-Ok-clause-sound
returns-in-Ok-clause-sound c =
    let gives = passes c.args.reassembly.now c.args.frame c.requires.all_untagged c.requires.untagged in
    let whole = (pass c.args.reassembly.now c.args.frame).whole in
    subst (λ (arrival : Option Frame). IfSome arrival IsArrival)
    (sym (c.without_runt.ensures ∙ ap no_runt c.in-Ok.ensures.whole))
    (IfSome_then (no_runt whole) (arrives_if c.args.frame whole gives.whole) (λ arrival h. h.arrival))

pub returns-in-Ok-clause-place : goal.returns-in-Ok-clause-place
returns-in-Ok-clause-place c =
    let gives = passes c.args.reassembly.now c.args.frame c.requires.all_untagged c.requires.untagged in
    let whole = (pass c.args.reassembly.now c.args.frame).whole in
    subst (λ (arrival : Option Frame). IfSome arrival (HasPlaceOf c.args.frame))
    (sym (c.without_runt.ensures ∙ ap no_runt c.in-Ok.ensures.whole))
    (IfSome_then (no_runt whole) (arrives_if c.args.frame whole gives.whole) (λ arrival h. h.place))

pub returns-in-Ok-clause-all_untagged : goal.returns-in-Ok-clause-all_untagged
returns-in-Ok-clause-all_untagged c =
    let gives = passes c.args.reassembly.now c.args.frame c.requires.all_untagged c.requires.untagged in
    subst (λ (held : List Frame). All IsUntagged held) (sym c.in-Ok.ensures.held) gives.held
