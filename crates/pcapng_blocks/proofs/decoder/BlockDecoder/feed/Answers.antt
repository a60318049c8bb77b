use Rattle.pcapng_blocks.proofs.Names.{ℕ, List, drop, ap, spot_of, Represents, decoder_value, error_of}
use Rattle.pcapng_blocks.proofs.Outcomes.{Settles}
use Rattle.pcapng_blocks.proofs.Decoders.{settles_here, represents_more, represents_damaged, settles_damage, no_error}
use Rattle.pcapng_blocks.proofs.decoder.BlockDecoder.feed.Goals as goal

damaged : (c : goal.After-clear) (number : ℕ) (fed : List ℕ) → Represents number c.args.self.now fed
    → Settles number fed c.args.piece.now c.args.into.now c.read_on-progress.new.into c.with-self-inside.result
    (spot_of c.in-Ok.progress.cursor c.read_on-progress.new.held.interfaces.items)
    (drop c.in-Ok.progress.cut c.read_on-progress.new.held.kept.items)
damaged c number fed represents =
    settles_here number fed c.args.piece.now c.split_at.result.0.now c.args.self.now c.self.inside.cpu c.self.inside.cursor
    c.self.inside.stage c.self.inside.fed c.self.inside.held c.read_on-progress.new.held
    c.args.into.now c.read_on-progress.new.into c.in-Ok.progress c.min.result c.with-self-inside.result c.self.view_is
    represents c.min.ensures c.split_at.ensures.front c.with-self-inside.ensures c.in-Ok.ensures.ok

pub returns-in-Damaged-clause-represents : goal.returns-in-Damaged-clause-represents
returns-in-Damaged-clause-represents c number fed represents =
    rw c.cut_front.ensures
    (represents_damaged number fed c.args.piece.now c.split_at.result.0.now c.args.into.now c.read_on-progress.new.into
    c.args.self.now (decoder_value c.self.inside) c.with-self-inside.result _ _ _ c.min.result
    c.self.view_is represents c.min.ensures c.split_at.ensures.front (damaged c number fed represents) c.in-Damaged.damage
    c.in-Damaged.is c.clear.ensures.items)

pub returns-in-Damaged-clause-frames : goal.returns-in-Damaged-clause-frames
returns-in-Damaged-clause-frames c number fed represents = (damaged c number fed represents).frames

pub returns-in-Damaged-clause-damage : goal.returns-in-Damaged-clause-damage
returns-in-Damaged-clause-damage c number fed represents =
    settles_damage number fed _ _ _ _ _ _ _ (damaged c number fed represents) (ap error_of c.in-Damaged.is)

more : (c : goal.After-cut_front-2) (number : ℕ) (fed : List ℕ) → Represents number c.args.self.now fed
    → Settles number fed c.args.piece.now c.args.into.now c.read_on-progress.new.into c.with-self-inside.result
    (spot_of c.in-Ok.progress.cursor c.read_on-progress.new.held.interfaces.items)
    (drop c.in-Ok.progress.cut c.read_on-progress.new.held.kept.items)
more c number fed represents =
    settles_here number fed c.args.piece.now c.split_at.result.0.now c.args.self.now c.self.inside.cpu c.self.inside.cursor
    c.self.inside.stage c.self.inside.fed c.self.inside.held c.read_on-progress.new.held
    c.args.into.now c.read_on-progress.new.into c.in-Ok.progress c.min.result c.with-self-inside.result c.self.view_is
    represents c.min.ensures c.split_at.ensures.front c.with-self-inside.ensures c.in-Ok.ensures.ok

pub returns-clause-represents : goal.returns-clause-represents
returns-clause-represents c number fed represents =
    rw c.cut_front.ensures
    (represents_more number fed c.args.piece.now c.split_at.result.0.now c.args.into.now c.read_on-progress.new.into
    c.args.self.now (decoder_value c.self.inside) c.with-self-inside.result _ _ _ c.min.result
    c.self.view_is represents c.min.ensures c.split_at.ensures.front (more c number fed represents)
    (no_error _ c.in_default-stage.not-Damaged) c.cut_front-2.ensures)

pub returns-clause-frames : goal.returns-clause-frames
returns-clause-frames c number fed represents = (more c number fed represents).frames

pub returns-clause-damage : goal.returns-clause-damage
returns-clause-damage c number fed represents =
    settles_damage number fed _ _ _ _ _ _ _ (more c number fed represents) (no_error _ c.in_default-stage.not-Damaged)
