use Rattle.std.proofs.Common.{List, ◌++◌, ℕ, ap, ◌∙◌, refl}
use Rattle.frame_view.specs.Vlan.{frame_of}
use Rattle.capture_file.specs.Output.{record_text, four_bytes}
use Rattle.capture_file.proofs.RecordBytes.{record_bytes}
use Rattle.capture_file.proofs.output.push_start.Goals as goal

pub returns-clause-moved : goal.returns-clause-moved
unfolding record_text four_bytes
returns-clause-moved c =
    let text = c.args.buffer.now.items in
    let frame = frame_of c.args.packet.now in
    c.push_tag.ensures.moved
    ∙ ap (λ (bytes : List ℕ). bytes ++ frame)
    (c.push.ensures.items ∙ ap (λ (bytes : List ℕ). text ++ bytes) c.as_flattened.ensures.value)
    ∙ record_bytes text c.to_le_bytes.result c.to_le_bytes-2.result c.to_le_bytes-3.result c.to_le_bytes-4.result frame
    ∙ rw (
      c.to_le_bytes.ensures,
      c.to_le_bytes-2.ensures,
      c.to_le_bytes-3.ensures,
      c.to_le_bytes-4.ensures,
      c.frame_size.ensures,
      c.original.ensures,
    ) refl
