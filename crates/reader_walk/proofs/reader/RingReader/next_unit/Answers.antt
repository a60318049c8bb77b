use Rattle.reader_walk.proofs.Units.{none_waits, retired_by}
use Rattle.reader_walk.proofs.reader.RingReader.next_unit.Goals as goal

pub returns-clause-readable : goal.returns-clause-readable
returns-clause-readable g c =
    retired_by g.B.Layout.shape g.B.Content.kind g.B.Content.ready g.met.B.Layout.kind_is_shape _ _ c.requires.kind
    c.take-2.result
    c.take-2.ensures.ready c.take-2.ensures.kind

pub returns-clause-waiting : goal.returns-clause-waiting
returns-clause-waiting g c = none_waits c.take-2.result _ c.take-2.ensures.exact_none
