use Rattle.std.proofs.Common.{inr}
use Rattle.tap_running.proofs.Results.{if_ok, of_ok, on_errs}
use Rattle.tap_engine.proofs.Returned.{closed_of}
use Rattle.tap_engine.proofs.calls.attempt.Goals as goal

pub returns-clause-told : goal.returns-clause-told
returns-clause-told g c =
    if_ok _ _ c.conclude.result
    (λ outcome concludes command old searched.
    let found = of_ok _ c.args.found c.in_ok-finding.finding c.in_ok-finding.was searched.found in
    record {
      read = g.S.Store.seen c.args.store.now;
      reads = searched.reads;
      closed = closed_of command old (g.S.Store.seen c.args.store.now) c.in_ok-finding.finding found;
      finding = c.in_ok-finding.finding;
      found = found;
      concludes = concludes;
    })
    c.conclude.ensures.concludes

pub returns-clause-cut : goal.returns-clause-cut
returns-clause-cut g c =
    on_errs _ _ _ c.conclude.result
    (λ early front command old searched. inr (record {
      read = g.S.Store.seen c.args.store.now;
      reads = searched.reads;
      finding = c.in_ok-finding.finding;
      found = of_ok _ c.args.found c.in_ok-finding.finding c.in_ok-finding.was searched.found;
      touches = c.conclude.ensures.touches;
      saved = early;
      printed = front;
    }))
    c.conclude.ensures.early c.conclude.ensures.printed
