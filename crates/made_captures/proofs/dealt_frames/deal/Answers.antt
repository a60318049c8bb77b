-- One more frame, and the last one.
use Rattle.std.proofs.Common.{◌≡◌, List, [], ◌∷◌, ◌++◌, length, ap, refl, subst, arith, ◌∙◌}
use Rattle.std.specs.Prelude.{All}
use Rattle.std.proofs.lemmas.List.{nil_from_length}
use Rattle.std.proofs.lemmas.List.Elements.{All-tail}
use Rattle.std.proofs.lemmas.Nat.{mod_below}
use Rattle.frame_maker.specs.Made.{IsMade}
use Rattle.frame_view.specs.declared.frames.Frame.{Frame}
use Rattle.frame_view.specs.declared.frames.Packet.{Packet}
use Rattle.made_captures.specs.Made.{packet_of}
use Rattle.made_captures.proofs.Dealt.{dealt_all, dealt_one, lists_short}
use Rattle.made_captures.proofs.dealt_frames.deal.Goals as goal

pub loop-frame-preserved : goal.loop-frame-preserved
loop-frame-preserved c =
    let before = c.loop-frame.invariant in
    let next = c.in-Some.ensures.steps.0 in
    let got : c.push.new.self ≡ c.index_mut.result.now ++ packet_of c.in-Some.frame ∷ [] =
    c.in_ok-push.ensures.ok ∙ ap (λ (packet : Packet). c.index_mut.result.now ++ packet ∷ []) c.packet_of.ensures in
    let P : List Frame → Type 0 = λ frames. All IsMade frames in
    record {
      few = omega (arith, before.few, ap (λ (frames : List Frame). length frames) next);
      made = All-tail IsMade c.in-Some.frame _ (subst P next before.made);
      dealt = dealt_one c.args.cpus c.loop-frame.index c.loop-frame.lists.items _ c.in-Some.frame _ _ c.args.frames
          c.index_mut.result.now c.push.new.self
          (mod_below c.loop-frame.index c.args.cpus c.requires.cpus) next c.index_mut.ensures.value got refl before.dealt;
    }

pub returns-clause-lists : goal.returns-clause-lists
returns-clause-lists c =
    let none : c.loop-frame.frame-iterator.rest.items ≡ [] =
    nil_from_length c.loop-frame.frame-iterator.rest.items
    (omega (arith, c.loop-frame.frame-iterator.rest.ok, c.in-None.ensures.steps.0)) in
    dealt_all c.args.cpus c.loop-frame.index c.loop-frame.lists.items _ c.args.frames none c.loop-frame.invariant.dealt

pub returns-clause-short : goal.returns-clause-short
returns-clause-short c =
    lists_short c.args.cpus c.args.frames c.loop-frame.lists.items c.requires.made (returns-clause-lists c)
