-- The rule of a queue, as its owners see it.
use Rattle.std.proofs.Common.{◌≡◌, ◌⊎◌, inl, inr, List, [], sym, ◌∙◌}
use Rattle.work_queue.specs.Happened.{Happened, OneHasAll}
use Rattle.work_queue.specs.QueueHistory.{GoesOn, TookOut}
use Rattle.work_queue.specs.declared.knowledge.Log.{Log}
use Rattle.work_queue.specs.declared.works.Work.{Work}

module _ (items : List Work) (views : List Log) (r : Happened items views) where
  took_out : OneHasAll views → TookOut views r.count r.left
  took_out one =
      let ok = r.each one.pass one.view one.at in
      record {
        pass = one.pass;
        view = one.view;
        at = one.at;
        all = one.all_parts ∙ ok.knows one.some_parts;
        left_is = ok.last one.some_parts one.all_parts;
      }

  closing_by : (r.left ≡ []) ⊎ OneHasAll views → (r.left ≡ []) ⊎ TookOut views r.count r.left
  closing_by (inl none) = inl none
  closing_by (inr one) = inr (took_out one)

  pub goes_on : GoesOn items views
  goes_on = record {
    count = r.count;
    handed = r.handed;
    gone = r.gone;
    left = r.left;
    history = r.history;
    closing = closing_by r.closing;
    each = λ j v at. let ok = r.each j v at in
        record { done = ok.done; all = λ some all. ok.last some (all ∙ sym (ok.knows some)) };
    once = r.once;
  }
