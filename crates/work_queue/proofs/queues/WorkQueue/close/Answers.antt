use Rattle.std.proofs.Common.{[], length, sym, ap, ◌∙◌, subst, arith}
use Rattle.std.proofs.lemmas.Result.{IfOk-weaker}
use Rattle.work_queue.specs.Logs.{log}
use Rattle.work_queue.specs.Steps.{Tells}
use Rattle.work_queue.specs.declared.knowledge.Log.{Log}
use Rattle.work_queue.proofs.Counts.{as_many, told}
use Rattle.work_queue.proofs.queues.WorkQueue.close.Goals as goal

pub drain-left-requires-clause-some : goal.drain-left-requires-clause-some
drain-left-requires-clause-some g c =
    let long = ap (λ (u : Log). length u.parts) c.gather-root.ensures.all ∙ as_many c.args.passes.items in
    let some = c.into_parts-queue.ensures.some in
    let count = c.into_parts-queue.ensures.passes in
    let all = c.requires.all in
    omega (arith, long, some, count, all)

pub drain-left-requires-clause-all : goal.drain-left-requires-clause-all
drain-left-requires-clause-all g c =
    let long = ap (λ (u : Log). length u.parts) c.gather-root.ensures.all ∙ as_many c.args.passes.items in
    let all = ap (λ (u : Log). u.all) c.gather-root.ensures.all in
    long ∙ c.requires.all ∙ sym c.into_parts-queue.ensures.passes ∙ sym all

pub returns : goal.returns
returns g c =
    let v = c.gather-root.result.me.view.client in
    record {
      left = IfOk-weaker c.drain-left.result _ _
          (λ left tells. told c.args.passes.items _ left.items (c.requires.all ∙ sym c.into_parts-queue.ensures.passes)
          (subst (λ (u : Log). Tells (log u.all u.parts left.items) []) c.gather-root.ensures.all tells))
          c.drain-left.ensures;
    }
