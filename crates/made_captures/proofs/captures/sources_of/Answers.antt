-- One more source.
use Rattle.std.proofs.Common.{List, Some, ap, subst, ◌∙◌}
use Rattle.std.specs.Prelude.{All}
use Rattle.std.proofs.lemmas.List.Elements.{All-tail}
use Rattle.frame_view.specs.declared.frames.Packet.{Packet}
use Rattle.tap_outside.specs.Sources.{unread_sure_source}
use Rattle.made_captures.specs.Made.{AreShort}
use Rattle.made_captures.proofs.Texts.{one_source_more}
use Rattle.made_captures.proofs.captures.sources_of.Goals as goal

pub loop-packets-preserved : goal.loop-packets-preserved
loop-packets-preserved c =
    let before = c.loop-packets.invariant in
    let next = c.in-Some.ensures.steps.0 in
    let P : List (List Packet) → Type 0 = λ lists. All AreShort lists in
    record {
      short = All-tail AreShort c.in-Some.packets _ (subst P next before.short);
      made = one_source_more c.loop-packets.sources.items c.push.new.self.items _ c.in-Some.packets _ _ (Some c.new.result) next
          (ap Some (c.new.ensures.value ∙ ap unread_sure_source c.in_ok-pcap_text.ensures))
          c.in_ok-push.ensures.items before.made;
    }
