use Rattle.std.proofs.Common.{◌≤◌, ◌<◌, length, ap, ◌∙◌, arith}
use Rattle.capture_file.specs.Decoders.{decoder_value, DecoderValue}
use Rattle.capture_file.proofs.Joined.{waiting_frames, waiting_damage, begun_represents, begun_frames, begun_damage}
use Rattle.capture_file.proofs.decoder.Decoder.begin.Goals as goal

less : (c : goal.Then-len-lt-MAGIC_SIZE) → length c.top_up.new.kept.items < 4
less c = omega (arith, c.if-len-lt-MAGIC_SIZE.true, c.len.ensures, c.top_up.new.kept.ok.0)

pub returns-then-len-lt-MAGIC_SIZE-clause-frames : goal.returns-then-len-lt-MAGIC_SIZE-clause-frames
returns-then-len-lt-MAGIC_SIZE-clause-frames c cpu fed represents =
    waiting_frames cpu c.args.self.now (decoder_value c.self.inside) fed c.self.view_is represents
    (ap (λ (v : DecoderValue). v.format) c.self.view_is ∙ c.requires) c.self.invariant.few c.args.piece.now
    c.top_up.new.kept.items
    c.in_ok-after.ensures.kept (less c) c.args.into.now

pub returns-then-len-lt-MAGIC_SIZE-clause-damage : goal.returns-then-len-lt-MAGIC_SIZE-clause-damage
returns-then-len-lt-MAGIC_SIZE-clause-damage c cpu fed represents =
    waiting_damage cpu c.args.self.now (decoder_value c.self.inside) fed c.self.view_is represents
    (ap (λ (v : DecoderValue). v.format) c.self.view_is ∙ c.requires) c.self.invariant.few c.args.piece.now
    c.top_up.new.kept.items
    c.in_ok-after.ensures.kept (less c)

full : (c : goal.Joined-self) → 4 ≤ length c.top_up.new.kept.items
full c = omega (arith, c.if-len-lt-MAGIC_SIZE.false, c.len.ensures, c.top_up.new.kept.ok.0)

pub returns-clause-represents : goal.returns-clause-represents
returns-clause-represents c cpu fed represents =
    begun_represents cpu c.args.self.now (decoder_value c.self.inside) fed c.self.view_is represents
    (ap (λ (v : DecoderValue). v.format) c.self.view_is ∙ c.requires) c.self.invariant.few c.args.piece.now
    c.top_up.new.kept.items
    c.in_ok-after.ensures.kept (full c) c.in_ok-after.after.now c.in_ok-after.ensures.behind c.in-Ok.decoder c.in-Ok.damage
    c.args.into.now c.read_first-begun.new.into
    (rw c.as_slice.ensures.value at c.in-Ok.ensures.ok) c.clear.new.self.items c.clear.ensures.items

pub returns-clause-frames : goal.returns-clause-frames
returns-clause-frames c cpu fed represents =
    begun_frames cpu c.args.self.now (decoder_value c.self.inside) fed c.self.view_is represents
    (ap (λ (v : DecoderValue). v.format) c.self.view_is ∙ c.requires) c.self.invariant.few c.args.piece.now
    c.top_up.new.kept.items
    c.in_ok-after.ensures.kept (full c) c.in_ok-after.after.now c.in_ok-after.ensures.behind c.in-Ok.decoder c.in-Ok.damage
    c.args.into.now c.read_first-begun.new.into
    (rw c.as_slice.ensures.value at c.in-Ok.ensures.ok)

pub returns-clause-damage : goal.returns-clause-damage
returns-clause-damage c cpu fed represents =
    begun_damage cpu c.args.self.now (decoder_value c.self.inside) fed c.self.view_is represents
    (ap (λ (v : DecoderValue). v.format) c.self.view_is ∙ c.requires) c.self.invariant.few c.args.piece.now
    c.top_up.new.kept.items
    c.in_ok-after.ensures.kept (full c) c.in_ok-after.after.now c.in_ok-after.ensures.behind c.in-Ok.decoder c.in-Ok.damage
    c.args.into.now c.read_first-begun.new.into
    (rw c.as_slice.ensures.value at c.in-Ok.ensures.ok)
