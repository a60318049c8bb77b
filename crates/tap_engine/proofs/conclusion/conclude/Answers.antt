use Rattle.tap_engine.proofs.conclusion.conclude.Goals as goal

pub returns-clause-concludes : goal.returns-clause-concludes
returns-clause-concludes g c = record {
  report = c.into_report.ensures;
  touches = c.save_and_print.ensures.touches;
  ended = c.in_ok-status.ensures.ended;
}
