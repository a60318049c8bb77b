use Rattle.std.proofs.Common.{◌≡◌, ◌+◌, [], List, length, sym, ap, ◌∙◌, arith}
use Rattle.work_queue.specs.Logs.{grown, log}
use Rattle.work_queue.specs.declared.knowledge.Log.{Log}
use Rattle.work_queue.specs.declared.knowledge.PassPart.{PassPart}
use Rattle.work_queue.proofs.Fresh.{fresh_long, parts_more}
use Rattle.work_queue.proofs.Splits.{grows}
use Rattle.work_queue.proofs.new_queues.grow.Goals as goal

pub another-nobodys-requires-clause-rule : goal.another-nobodys-requires-clause-rule
another-nobodys-requires-clause-rule c =
    let v = c.loop.root.me.view.client in
    let is = c.loop.invariant.grown in
    let long : length v.parts ≡ c.loop.counter = ap (λ (u : Log). length u.parts) is ∙ fresh_long 0 c.loop.counter in
    let all : v.all ≡ c.loop.counter = ap (λ (u : Log). u.all) is in
    grows _ v (omega (arith, long)) (long ∙ sym all) (ap (λ (u : Log). u.left) is)

pub loop-preserved : goal.loop-preserved
loop-preserved c = record {
  own = c.another-nobodys.ensures.queue.0;
  grown = c.another-nobodys.ensures.rule.0 ∙ ap grown c.loop.invariant.grown
      ∙ ap (λ (parts : List PassPart). log (c.loop.counter + 1) parts []) (parts_more c.loop.counter);
}
