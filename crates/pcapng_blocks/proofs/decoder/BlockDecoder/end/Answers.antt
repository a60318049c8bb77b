use Rattle.pcapng_blocks.proofs.Names.{ℕ, ◌∙◌, ap, eqb, Spot, DecoderValue}
use Rattle.pcapng_blocks.proofs.Ends.{end_told}
use Rattle.pcapng_blocks.proofs.decoder.BlockDecoder.end.Goals as goal

pub returns : goal.returns
returns c cpu fed represents =
    let none = c.is_empty.ensures ∙ ap (λ (n : ℕ). eqb n 0) c.self.inside.held.kept.ok.0 in
    let view = c.self.view_is in
    c.end.ensures
    ∙ end_told fed c.self.inside.cursor.stop c.self.inside.held.kept.items
    (ap (λ (v : DecoderValue). v.spot.stop) view ∙ ap (λ (s : Spot). s.stop) represents.spot)
    c.self.inside.stage c.is_empty.result (ap (λ (v : DecoderValue). v.stage) view ∙ represents.stage)
    (ap (λ (v : DecoderValue). v.rest) view ∙ represents.rest) none
