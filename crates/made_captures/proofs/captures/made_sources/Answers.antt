-- The sources are those of the captures.
use Rattle.std.proofs.lemmas.Result.{IfOk-weaker}
use Rattle.made_captures.proofs.Texts.{all_sources, count_sources}
use Rattle.made_captures.proofs.captures.made_sources.Goals as goal

pub returns-clause-sources : goal.returns-clause-sources
returns-clause-sources c =
    IfOk-weaker c.sources_of.result _ _
    (λ sources is. all_sources c.args.seed c.args.count c.args.cpus c.in_ok-frames.frames
    c.in_ok-lists.lists.items sources.items
    c.in_ok-frames.ensures.frames c.in_ok-lists.ensures.lists is)
    c.sources_of.ensures

pub returns-clause-len : goal.returns-clause-len
returns-clause-len c =
    IfOk-weaker c.sources_of.result _ _ (λ sources is. count_sources c.args.seed c.args.count c.args.cpus sources.items is)
    (returns-clause-sources c)
