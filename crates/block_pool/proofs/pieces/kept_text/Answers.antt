use Rattle.std.proofs.Common.{Bool, sym, ap, ◌∙◌}
use Rattle.reader_walk.specs.Texts.{text_by}
use Rattle.block_pool.specs.Pieces.{work_taken}
use Rattle.block_pool.proofs.Texts.{says}
use Rattle.block_pool.proofs.pieces.kept_text.Goals as goal

pub returns-then-dumps : goal.returns-then-dumps
returns-then-dumps c =
    let work = c.args.work in
    says c.a_text_is_read_as_it_was_written.ensures work.shape work.text c.a_shape_is_sound.ensures.sound.small
    c.requires.lawful
    ∙ sym (ap (λ (b : Bool). text_by b work.shape (work_taken work)) c.if-dumps.true)
