use Rattle.std.proofs.Common.{◌≡◌, ◌++◌, length, length-append, refl, ap, ◌∙◌, subst, arith}
use Rattle.std.specs.List.{AllByRecursion}
use Rattle.history.proofs.Lists.{all_but}
use Rattle.work_queue.specs.Passes.{IsPassAt, PassValue, part_of, parts_of}
use Rattle.work_queue.specs.PassesInside.{one_of}
use Rattle.work_queue.specs.declared.knowledge.Log.{Log}
use Rattle.work_queue.proofs.Counts.{joined, joined_first, one_part}
use Rattle.work_queue.proofs.Splits.{merges}
use Rattle.work_queue.proofs.closed_queues.gather.Goals as goal

pub loop-other-init : goal.loop-other-init
loop-other-init c =
    let web = c.args.queue.now.web in
    let pass = c.last.inside.pass in
    let v = pass.me.view.client in
    let ok = c.last.invariant in
    let x = c.in-Some.last in
    let passes = c.pop.new.self.items in
    let items = c.in-Some.ensures.items in
    let own = all_but (IsPassAt web c.args.count) passes x
    (subst (AllByRecursion (IsPassAt web c.args.count)) items c.requires.own) in
    let parts = one_part v x (one_of v.parts) ok.one (ap part_of c.last.view_is) in
    let long : length v.parts ≡ 1 = ap length parts in
    record {
      own = ((ap (λ (s : PassValue). s.queue) c.last.view_is ∙ own.1.0, refl), ok.no_slot, ok.no_block);
      some = omega (arith, long);
      all = ap (λ (s : PassValue). s.of) c.last.view_is ∙ own.1.1;
      none = ap (λ (u : Log). u.left) ok.one;
      parts = joined_first passes c.args.passes.items x v items parts;
      rest = own.0;
    }

pub absorb-requires-clause-queue : goal.absorb-requires-clause-queue
absorb-requires-clause-queue c =
    let web = c.args.queue.now.web in
    let ok = c.other.invariant in
    let inv = c.loop-other.invariant in
    let own = all_but (IsPassAt web c.args.count) c.pop-in-loop-other.new.self.items c.in-Some-pop.other
    (subst (AllByRecursion (IsPassAt web c.args.count)) c.in-Some-pop.ensures.items inv.rest) in
    (inv.own, ((ap (λ (s : PassValue). s.queue) c.other.view_is ∙ own.1.0, refl), ok.no_slot, ok.no_block))

pub absorb-requires-clause-rule : goal.absorb-requires-clause-rule
absorb-requires-clause-rule c =
    let inv = c.loop-other.invariant in
    merges _ c.loop-other.root.me.view.client _ c.other.inside.pass.me.view.client inv.some inv.none

pub loop-other-preserved : goal.loop-other-preserved
loop-other-preserved c =
    let web = c.args.queue.now.web in
    let v = c.loop-other.root.me.view.client in
    let w = c.other.inside.pass.me.view.client in
    let ok = c.other.invariant in
    let inv = c.loop-other.invariant in
    let x = c.in-Some-pop.other in
    let passes = c.pop-in-loop-other.new.self.items in
    let items = c.in-Some-pop.ensures.items in
    let own = all_but (IsPassAt web c.args.count) passes x
    (subst (AllByRecursion (IsPassAt web c.args.count)) items inv.rest) in
    let rule = c.absorb.ensures.rule in
    let had = inv.some in
    let long = ap (λ (u : Log). length u.parts) rule ∙ length-append w.parts v.parts in
    record {
      own = c.absorb.ensures.queue.0;
      some = omega (arith, long, had);
      all = ap (λ (u : Log). u.all) rule ∙ inv.all;
      none = ap (λ (u : Log). u.left) rule ∙ inv.none;
      parts = ap (λ (u : Log). parts_of passes ++ u.parts) rule
          ∙ joined passes c.loop-other.passes.items x w v.parts items
          (one_part w x (one_of w.parts) ok.one (ap part_of c.other.view_is))
          ∙ inv.parts;
      rest = own.0;
    }
