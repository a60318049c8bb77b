use Rattle.std.proofs.Common.{List, ap, ◌∙◌}
use Rattle.std.specs.Prelude.{slice_get}
use Rattle.frame_deals.specs.declared.mark_queue.MarkedFrame.{MarkedFrame}
use Rattle.frame_deals.proofs.ChunkLists.{front_is}
use Rattle.frame_deals.proofs.mark_queue.MarkQueue.front.Goals as goal

pub returns : goal.returns
returns c =
    let inside = c.self.inside in
    c.front.ensures ∙ front_is inside.head inside.middle.items inside.tail c.self.invariant
    ∙ ap (λ (frames : List MarkedFrame). slice_get frames 0) c.self.view_is
