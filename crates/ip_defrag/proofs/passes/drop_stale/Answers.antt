-- What is kept is fresh.
use Rattle.std.proofs.Common.{rules}
use Rattle.std.proofs.lemmas.Fn.{filter_same}
use Rattle.ip_defrag.specs.Grouped.{is_fresh}
use Rattle.ip_defrag.proofs.passes.drop_stale.Goals as goal

pub returns-clause-fresh : goal.returns-clause-fresh
returns-clause-fresh c = filter_same _ (is_fresh c.args.now) _ (λ x b f' k. search rules) _ _ c.retain.ensures.filtered
