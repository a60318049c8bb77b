use Rattle.std.proofs.Common.{◌≡◌, ◌+◌, ◌-◌, ◌<◌, ◌++◌, ◌∷◌, [], ℕ, List, ap, ◌∙◌, arith}
use Rattle.work_queue.specs.Logs.{fresh, fresh_parts, log}
use Rattle.work_queue.specs.Passes.{PassValue, fresh_pass}
use Rattle.work_queue.proofs.Fresh.{apart_first, apart_rest, log_first, one_is, passes_more, same_all, value_is}
use Rattle.work_queue.proofs.Splits.{forks}
use Rattle.work_queue.proofs.new_queues.part.Goals as goal

pub another-pass-requires-clause-rule : goal.another-pass-requires-clause-rule
another-pass-requires-clause-rule c =
    let v = c.loop.root.me.view.client in
    let n = c.loop.counter in
    let left = c.args.passes - n in
    let some : 0 < left = omega arith in
    forks _ v (fresh n) (fresh_parts (n + 1) (left - 1))
    (same_all v c.args.passes (fresh n ∷ fresh_parts (n + 1) (left - 1))
    (log_first v c.args.passes n left c.loop.invariant.rest some))

pub invariant_of-push : goal.invariant_of-push
invariant_of-push c =
    let v = c.loop.root.me.view.client in
    let n = c.loop.counter in
    let some : 0 < c.args.passes - n = omega arith in
    let first = c.another-pass.ensures.rule.1 ∙ apart_first v c.args.passes n (c.args.passes - n) c.loop.invariant.rest some in
    record {
      one = one_is c.another-pass.result.me.view.client c.args.passes (fresh n) first;
      no_slot = c.another-pass.ensures.queue.2.1;
      no_block = c.another-pass.ensures.queue.2.2;
    }

pub loop-preserved : goal.loop-preserved
loop-preserved c =
    let v = c.loop.root.me.view.client in
    let n = c.loop.counter in
    let some : 0 < c.args.passes - n = omega arith in
    let less : c.args.passes - n - 1 ≡ c.args.passes - (n + 1) = omega arith in
    let next : n + 1 ≡ n + 1 = omega arith in
    let first = c.another-pass.ensures.rule.1 ∙ apart_first v c.args.passes n (c.args.passes - n) c.loop.invariant.rest some in
    let id = c.args.queue.now.web in
    record {
      own = c.another-pass.ensures.queue.0;
      rest = c.another-pass.ensures.rule.0 ∙ apart_rest v c.args.passes n (c.args.passes - n) c.loop.invariant.rest some
          ∙ ap (λ (k : ℕ). log c.args.passes (fresh_parts (n + 1) k) []) less;
      made = c.in_ok-push.ensures.items
          ∙ ap (λ (p : PassValue). c.loop.made.items ++ p ∷ [])
          (value_is c.another-pass.result.web id c.another-pass.result.me.view.client c.args.passes n
          c.another-pass.ensures.queue.2.0.0 first)
          ∙ ap (λ (made : List PassValue). made ++ fresh_pass id c.args.passes n ∷ []) c.loop.invariant.made
          ∙ passes_more id c.args.passes n (n + 1) next;
    }

pub returns : goal.returns
returns c =
    let v = c.loop.root.me.view.client in
    let n = c.loop.counter in
    let id = c.args.queue.now.web in
    let one : c.args.passes - n ≡ 1 = omega arith in
    let next : n + 1 ≡ c.args.passes = omega arith in
    let last : v ≡ log c.args.passes (fresh n ∷ []) [] =
    c.loop.invariant.rest ∙ ap (λ (k : ℕ). log c.args.passes (fresh_parts n k) []) one in
    c.in_ok-push-2.ensures.items
    ∙ ap (λ (p : PassValue). c.loop.made.items ++ p ∷ [])
    (value_is c.loop.root.web id v c.args.passes n c.loop.invariant.own.0.0 last)
    ∙ ap (λ (made : List PassValue). made ++ fresh_pass id c.args.passes n ∷ []) c.loop.invariant.made
    ∙ passes_more id c.args.passes n c.args.passes next
