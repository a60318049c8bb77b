use Rattle.tap_engine.specs.Commands.{rings_of}
use Rattle.tap_engine.proofs.laws.a_ring_that_is_not_filled_dropped_nothing.Goals as goal

pub returns : goal.returns
returns c old new named h =
    c.a_member_with_places_left_dropped_nothing.ensures (rings_of named.command) h.job h.bytes h.ends c.args.report.now
    h.report_is
