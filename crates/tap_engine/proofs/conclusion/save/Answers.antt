use Rattle.tap_saving.proofs.MissedFiles.{none_saved}
use Rattle.tap_running.proofs.Results.{on_err}
use Rattle.tap_engine.proofs.conclusion.save.Goals as goal

pub returns-in-Sent-clause-early : goal.returns-in-Sent-clause-early
returns-in-Sent-clause-early g c =
    on_err _ _ c.save_sent.result (λ same. none_saved _ _ _ same) c.save_sent.ensures.memory
