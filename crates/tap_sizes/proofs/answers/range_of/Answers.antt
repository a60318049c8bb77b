use Rattle.tap_sizes.specs.inside.Passes.{Clocks}
use Rattle.tap_sizes.proofs.KindPasses.{range_blocks, range_slots}
use Rattle.tap_sizes.proofs.answers.range_of.Goals as goal

pub returns-in-Blocks : goal.returns-in-Blocks
returns-in-Blocks g c =
    let clocks : Clocks =
    record { pace = c.args.pace.now; stalls = c.args.stalls.now; end = c.args.end } in
    range_blocks c.args.parts.now clocks c.args.tries.now c.args.members.now _ c.in-Blocks.is
    c.losses_of_all.ensures.fewest c.losses_of_all.ensures.most

pub returns-in-Slots : goal.returns-in-Slots
returns-in-Slots g c =
    let clocks : Clocks =
    record { pace = c.args.pace.now; stalls = c.args.stalls.now; end = c.args.end } in
    range_slots c.args.parts.now clocks c.args.tries.now c.args.members.now _ c.in-Slots.is
    (c.requires.once c.in-Slots.is) c.slot_losses_of_all.ensures.fewest c.slot_losses_of_all.ensures.most
