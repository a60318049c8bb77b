use Rattle.tap_sizes.specs.inside.Passes.{Clocks}
use Rattle.tap_sizes.proofs.KindPasses.{least_blocks, least_slots}
use Rattle.tap_sizes.proofs.answers.least_ring.Goals as goal

pub returns-in-Blocks : goal.returns-in-Blocks
returns-in-Blocks g c =
    let clocks : Clocks =
    record { pace = c.args.pace.now; stalls = c.args.stalls.now; end = c.args.end } in
    least_blocks c.args.parts.now clocks c.args.tries.now c.args.arrivals.now _ _ c.in-Blocks.is
    c.in_ok-arrivals.ensures.same c.least_of_all.ensures.first

pub returns-in-Slots : goal.returns-in-Slots
returns-in-Slots g c =
    let clocks : Clocks =
    record { pace = c.args.pace.now; stalls = c.args.stalls.now; end = c.args.end } in
    least_slots c.args.parts.now clocks c.args.tries.now c.args.arrivals.now _ _ c.in-Slots.is
    c.in_ok-arrivals.ensures.same (c.requires.once c.in-Slots.is) c.least_slots_of_all.ensures.first
