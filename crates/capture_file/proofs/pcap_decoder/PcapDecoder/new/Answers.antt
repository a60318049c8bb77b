use Rattle.capture_file.proofs.PcapEnds.{represents_new}
use Rattle.capture_file.proofs.pcap_decoder.PcapDecoder.new.Goals as goal

pub returns : goal.returns
returns c = represents_new c.args.cpu _ c.new.ensures.items
