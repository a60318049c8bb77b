use Rattle.capture_reading.specs.Wholes.{IsSoFar, unread}
use Rattle.capture_reading.proofs.whole.read_source.Given as goal

abbrev pub invariant-reading : goal.invariant-reading
invariant-reading g l =
    IsSoFar l.fn.cpu (g.S.Source.seen l.initial.source) (g.S.Source.seen l.source) l.partial_capture

abbrev pub decreases-reading : goal.decreases-reading
decreases-reading g l = unread l.partial_capture
