use Rattle.std.specs.Prelude.{Result, Ok, Err, IfOk}
use Rattle.capture_file.specs.Decoders.{decoder_value}
use Rattle.capture_file.proofs.Joined.{known_represents, known_frames, known_damage}
use Rattle.capture_file.proofs.decoder.Decoder.read_on.Goals as goal

-- a fact of the answer follows from another
where_ok : {X Y : Type 0} {P Q : X → Type 0} (answer : Result X Y) → ((x : X) → P x → Q x) → IfOk answer P → IfOk answer Q
where_ok (Ok x) f p = f x p
where_ok (Err y) f p = p

pub returns-in-Some-clause-represents : goal.returns-in-Some-clause-represents
returns-in-Some-clause-represents c = where_ok c.feed.result (λ damage feeds cpu fed represents.
    known_represents cpu c.args.self.now (decoder_value c.self.inside) fed c.self.view_is represents c.in-Some.decoder
    c.in-Some.is c.args.piece.now c.feed.new.self damage c.args.into.now c.feed.new.into feeds
    c.feed.ensures.format) c.feed.ensures.feeds

pub returns-in-Some-clause-frames : goal.returns-in-Some-clause-frames
returns-in-Some-clause-frames c = where_ok c.feed.result (λ damage feeds cpu fed represents.
    known_frames cpu c.args.self.now (decoder_value c.self.inside) fed c.self.view_is represents c.in-Some.decoder c.in-Some.is
    c.args.piece.now c.feed.new.self damage c.args.into.now c.feed.new.into feeds
    c.feed.ensures.format) c.feed.ensures.feeds

pub returns-in-Some-clause-damage : goal.returns-in-Some-clause-damage
returns-in-Some-clause-damage c = where_ok c.feed.result (λ damage feeds cpu fed represents.
    known_damage cpu c.args.self.now (decoder_value c.self.inside) fed c.self.view_is represents c.in-Some.decoder c.in-Some.is
    c.args.piece.now c.feed.new.self damage c.args.into.now c.feed.new.into feeds
    c.feed.ensures.format) c.feed.ensures.feeds
