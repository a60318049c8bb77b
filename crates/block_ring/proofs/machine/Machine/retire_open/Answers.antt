use Rattle.std.proofs.Common.{◌∙◌, sym}
use Rattle.block_ring.proofs.Retirals.{retired_at}
use Rattle.block_ring.proofs.machine.Machine.retire_open.Goals as goal

pub returns-in-Some-clause-at : goal.returns-in-Some-clause-at
returns-in-Some-clause-at g c =
    rw c.take.ensures.after
    (retired_at g.E.FeederEnd.feed g.at.in_hand g.at.state c.args.self.now c.in-Some.block c.args.timed_out c.retire.new.self
    c.close-block.result.bytes c.status-status.result c.requires.1.0 (sym c.take.ensures.value ∙ c.in-Some.is)
    c.status-status.ensures.value c.retire.ensures.retired c.close-block.ensures.text)
