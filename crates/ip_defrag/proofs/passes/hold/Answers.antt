-- The datagram with its fragment, or without a place.
use Rattle.std.proofs.Common.{◌∙◌, ap, not}
use Rattle.ip_defrag.proofs.JoinedFrames.{none_held, some_held}
use Rattle.ip_defrag.proofs.passes.hold.Goals as goal

pub returns-then-is_none-clause-is : goal.returns-then-is_none-clause-is
returns-then-is_none-clause-is c =
    none_held c.args.fragment c.index_mut.result.now c.add.new.self c.args.datagrams.now.items c.args.at c.in_ok-whole.whole
    c.requires.below c.index_mut.ensures.value c.in_ok-whole.ensures.added c.in_ok-whole.ensures.whole
    (c.is_none.ensures ∙ ap not c.if-is_none.true)

pub returns-clause-is : goal.returns-clause-is
returns-clause-is c =
    some_held c.args.fragment c.index_mut.result.now c.add.new.self c.remove.result c.args.datagrams.now.items
    c.remove.new.self.items c.args.at c.len-used.result c.in_ok-whole.whole c.requires.below c.index_mut.ensures.value
    c.in_ok-whole.ensures.added c.in_ok-whole.ensures.whole (c.is_none.ensures ∙ ap not c.if-is_none.false)
    c.remove.ensures.items c.remove.ensures.value c.len-used.ensures.count
