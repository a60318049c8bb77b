use Rattle.std.proofs.Common.{◌≡◌, ◌<◌, [], List, length, sym, ap, ◌∙◌, arith, rules}
use Rattle.work_queue.specs.Logs.{log}
use Rattle.work_queue.specs.declared.knowledge.Log.{Log}
use Rattle.work_queue.specs.declared.works.Work.{Work}
use Rattle.work_queue.proofs.Moves.{drains, whole}
use Rattle.work_queue.proofs.closed_queues.drain.Goals as goal

pub loop-init : goal.loop-init
loop-init g c =
    let v = c.args.root.me.view.client in
    let none : c.new-left.result.items ≡ [] = search rules in
    record {
      own = c.requires.own;
      taken = ap (λ (left : List Work). log v.all v.parts left) (c.requires.none ∙ sym none);
    }

pub pop_as-requires-clause-rule : goal.pop_as-requires-clause-rule
pop_as-requires-clause-rule g c =
    let v = c.loop.root.me.view.client in
    let first = c.args.root.me.view.client in
    let taken = c.loop.invariant.taken in
    let long : length v.parts ≡ length first.parts = ap (λ (u : Log). length u.parts) taken in
    let all : v.all ≡ first.all = ap (λ (u : Log). u.all) taken in
    let some = c.requires.some in
    let has = long ∙ c.requires.all ∙ sym all in
    let some_parts : 0 < length v.parts = omega (arith, long, some) in
    (drains _ v some_parts has, whole _ v some_parts has)
