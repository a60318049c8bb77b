use Rattle.std.proofs.Common.{◌∙◌}
use Rattle.tap_running.proofs.Buffers.{word_bounded}
use Rattle.tap_running.proofs.arguments.word_at.Goals as goal

pub returns-in-Ok-clause-size : goal.returns-in-Ok-clause-size
returns-in-Ok-clause-size g c = word_bounded c.in_ok-word_of-in-Ok.field-0 _ c.in-Ok.length _ _
    c.loop-size.size c.loop-size-test.true c.in_ok-buffer.ensures.len
    (c.arg.auto.buf ∙ c.deref_mut.ensures.len) c.in-Ok.ensures.bound
    c.in_ok-word_of-in-Ok.ensures.size
