use Rattle.std.proofs.Common.{arith}
use Rattle.ring_model.specs.Ring.{first_state}
use Rattle.ring_model.proofs.Totals.{counts_all}
use Rattle.ring_model.proofs.laws.statistics_count_each_packet.Goals as goal

pub returns : goal.returns
returns c = record {
  packets = λ size notes. omega (arith, (counts_all size (first_state size) notes).packets);
  drops = λ size notes. omega (arith, (counts_all size (first_state size) notes).drops);
}
