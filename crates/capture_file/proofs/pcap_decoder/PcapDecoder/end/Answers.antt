use Rattle.std.proofs.Common.{ℕ, ◌∙◌, ap, eqb, refl}
use Rattle.std.specs.Result.{result_err}
use Rattle.capture_file.specs.PcapDecoders.{pcap_value}
use Rattle.capture_file.proofs.PcapEnds.{end_told, end_sound}
use Rattle.capture_file.proofs.pcap_decoder.PcapDecoder.end.Goals as goal

pub returns-clause-end : goal.returns-clause-end
returns-clause-end c cpu fed represents =
    let none = c.is_empty.ensures ∙ ap (λ (n : ℕ). eqb n 0) c.self.inside.kept.ok.0 in
    c.end.ensures ∙ end_told cpu (pcap_value c.self.inside) c.args.self.now fed c.self.view_is represents c.self.inside.stage
    c.is_empty.result refl none

pub returns-clause-memory : goal.returns-clause-memory
returns-clause-memory c m =
    end_sound (result_err c.end.result) c.self.inside.stage c.self.inside.next.stop c.is_empty.result c.self.inside.kept.items
    c.end.ensures c.self.invariant.told (ap result_err m)
