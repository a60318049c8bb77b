use Rattle.std.proofs.Common.{◌∙◌, Some}
use Rattle.ring_words.proofs.Hands.{front_of}
use Rattle.ring_words.proofs.PendingSteps.{may_drain}
use Rattle.ring_words.proofs.pending_blocks.next_pending.Goals as goal

pub load-word-requires : goal.load-word-requires
load-word-requires g c =
    may_drain g.B.Content.bytes g.B.Content.kind g.B.Content.ready _ _ _ _ _ _ _ c.requires.table c.requires.feeds
    c.requires.walks c.requires.at c.requires.left

pub exchange-requires : goal.exchange-requires
exchange-requires g c =
    let next = c.load-word.ensures.2.next in
    (c.load-word.ensures.0 ∙ c.requires.table.same, (Some next.block, front_of _ _ _ next.hand))
