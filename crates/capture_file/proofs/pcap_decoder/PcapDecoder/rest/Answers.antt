use Rattle.std.proofs.Common.{arith}
use Rattle.capture_file.proofs.PcapEnds.{few_kept}
use Rattle.capture_file.proofs.pcap_decoder.PcapDecoder.rest.Goals as goal

pub returns-clause-few : goal.returns-clause-few
returns-clause-few c = omega (arith, few_kept c.self.inside.stage c.self.inside.kept.items c.self.invariant.told, c.len.ensures)
