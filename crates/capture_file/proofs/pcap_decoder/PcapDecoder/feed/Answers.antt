use Rattle.std.proofs.Common.{ℕ, List, ◌++◌, drop, arith, ap}
use Rattle.capture_file.specs.Pcap.{frames_of}
use Rattle.capture_file.specs.Feeds.{error_of}
use Rattle.capture_file.specs.PcapDecoders.{Represents, pcap_value}
use Rattle.capture_file.proofs.PcapOutcomes.{Settles, settles_here, represents_more, represents_damaged, settles_damage}
use Rattle.capture_file.proofs.PcapOutcomes.{no_error}
use Rattle.capture_file.proofs.pcap_decoder.PcapDecoder.feed.Goals as goal

damaged : (c : goal.After-clear) (number : ℕ) (fed : List ℕ) → Represents number c.args.self.now fed
    → Settles number (frames_of number fed) (fed ++ c.args.piece.now) c.args.into.now c.read_on-progress.new.into
    c.with-self-inside.result c.in-Ok.progress.next (drop c.in-Ok.progress.cut c.read_on-progress.new.kept.items)
damaged c number fed represents =
    settles_here number fed c.args.piece.now c.args.self.now (pcap_value c.self.inside) _ _ c.in-Ok.progress _
    c.split_at.result.0.now c.len-kept.result c.min.result _
    c.self.view_is represents (omega (arith, c.len-kept.ensures)) c.min.ensures c.split_at.ensures.front
    c.with-self-inside.ensures c.in-Ok.ensures.ok

pub returns-in-Damaged-clause-represents : goal.returns-in-Damaged-clause-represents
returns-in-Damaged-clause-represents c = λ number fed represents.
    represents_damaged number _ fed _ _ _ c.args.self.now (pcap_value c.self.inside) _ _ _ _ c.self.view_is represents
    (damaged c number fed represents) c.in-Damaged.damage c.in-Damaged.is c.clear.ensures.items

pub returns-in-Damaged-clause-frames : goal.returns-in-Damaged-clause-frames
returns-in-Damaged-clause-frames c = λ number fed represents. (damaged c number fed represents).frames

pub returns-in-Damaged-clause-damage : goal.returns-in-Damaged-clause-damage
returns-in-Damaged-clause-damage c = λ number fed represents.
    settles_damage number _ _ _ _ _ _ _ _ (damaged c number fed represents) (ap error_of c.in-Damaged.is)

more : (c : goal.After-cut_front) (number : ℕ) (fed : List ℕ) → Represents number c.args.self.now fed
    → Settles number (frames_of number fed) (fed ++ c.args.piece.now) c.args.into.now c.read_on-progress.new.into
    c.with-self-inside.result c.in-Ok.progress.next (drop c.in-Ok.progress.cut c.read_on-progress.new.kept.items)
more c number fed represents =
    settles_here number fed c.args.piece.now c.args.self.now (pcap_value c.self.inside) _ _ c.in-Ok.progress _
    c.split_at.result.0.now c.len-kept.result c.min.result _
    c.self.view_is represents (omega (arith, c.len-kept.ensures)) c.min.ensures c.split_at.ensures.front
    c.with-self-inside.ensures c.in-Ok.ensures.ok

pub returns-clause-represents : goal.returns-clause-represents
returns-clause-represents c number fed represents =
    represents_more number _ fed _ _ _ c.args.self.now (pcap_value c.self.inside) _ _ _ _ c.self.view_is represents
    (more c number fed represents) (no_error _ c.in_default-stage.not-Damaged) c.cut_front.ensures

pub returns-clause-frames : goal.returns-clause-frames
returns-clause-frames c number fed represents = (more c number fed represents).frames

pub returns-clause-damage : goal.returns-clause-damage
returns-clause-damage c number fed represents =
    settles_damage number _ _ _ _ _ _ _ _ (more c number fed represents) (no_error _ c.in_default-stage.not-Damaged)
