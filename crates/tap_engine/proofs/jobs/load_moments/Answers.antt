use Rattle.std.proofs.Common.{ap, sym, ◌∙◌, Some}
use Rattle.std.proofs.lemmas.Result.{IfErr-weaker}
use Rattle.tap_engine.proofs.Found.{at_ticks}
use Rattle.tap_engine.proofs.jobs.load_moments.Goals as goal

pub returns-in-Some-clause-stop : goal.returns-in-Some-clause-stop
returns-in-Some-clause-stop g c =
    IfErr-weaker c.load_ticks.result _ _ (λ stop stops start named texts job loaded is.
    at_ticks (g.S.Store.seen c.args.store.now) (g.S.Store.seen c.load_ticks.new.store)
    c.bytes.result.now stop stops start named texts job loaded
    (is ∙ c.in-Some.is ∙ ap Some (sym c.bytes.ensures))) c.load_ticks.ensures.stop
