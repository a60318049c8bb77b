use Rattle.std.proofs.Common.{rules, ◌≤◌, length, IsUtf8}
use Rattle.tap_running.proofs.Buffers.{one_more, one_told}
use Rattle.tap_running.proofs.arguments.words.Goals as goal

pub loop-index-preserved : goal.loop-index-preserved
loop-index-preserved g c =
    let inv = c.loop-index.invariant in (
      one_more IsUtf8 _ _ _ c.in-Some.word c.in_ok-push-in-Some.ensures.items c.in-Some.is
          c.in_ok-word.ensures.utf8 inv.0,
      one_more (λ word. length word ≤ 33554432) _ _ _ c.in-Some.word
          c.in_ok-push-in-Some.ensures.items c.in-Some.is c.in_ok-word.ensures.size inv.1,
      one_told _ _ _ _ _ c.in-Some.word c.in_ok-push-in-Some.ensures.items c.in-Some.is
          c.in_ok-word.ensures.told inv.2,
      search rules,
    )
