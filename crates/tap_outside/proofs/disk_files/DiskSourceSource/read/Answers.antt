use Rattle.std.proofs.Common.{rules, ap, ◌∙◌, List, ℕ, drop, take}
use Rattle.tap_outside.specs.Seen.{SourceSeen}
use Rattle.tap_outside.proofs.Consumed.{all_written, copied_read}
use Rattle.tap_outside.proofs.disk_files.DiskSourceSource.read.Goals as goal

pub returns-in-Ok-clause-bytes : goal.returns-in-Ok-clause-bytes
returns-in-Ok-clause-bytes g c =
    copied_read _ _ _ c.in-Ok.count c.read_front.new.buffer c.copy_from_slice.new.self (drop c.in-Ok.count c.args.into.now)
    (ap (λ (source : SourceSeen). source.left) c.self.view_is)
    (c.copy_from_slice.ensures.after ∙ c.split_at.ensures.front
    ∙ ap (λ (bytes : List ℕ). take c.in-Ok.count bytes)
    (c.deref.ensures.value ∙ all_written c.self.inside.buffer.len c.read_front.new.buffer _ (search rules)))
    (search rules)
    (search rules)
    c.in-Ok.ensures.bytes
