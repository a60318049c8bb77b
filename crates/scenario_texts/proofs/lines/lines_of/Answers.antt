use Rattle.std.proofs.Common.{rules, Some, None, arith}
use Rattle.std.proofs.lemmas.Str.Pattern.{split_once_first}
use Rattle.scenario_texts.proofs.LineCuts.{step, last}
use Rattle.scenario_texts.proofs.lines.lines_of.Goals as goal

pub loop-front-preserved : goal.loop-front-preserved
loop-front-preserved c =
    let found = split_once_first 10 c.loop-front.rest.now (Some (c.in-Some.front, c.in-Some.behind)) c.in-Some.ensures.cases (omega arith) in
    (search rules, step c.args.text.now c.loop-front.rest.now _ c.in-Some.front _ _ c.loop-front.invariant.1 found.1 found.2 found.0 c.in_ok-push.ensures.items)

pub returns : goal.returns
returns c =
    let found = split_once_first 10 c.loop-front.rest.now None c.in_default.ensures.cases (omega arith) in
    last c.args.text.now c.loop-front.rest _ _ c.loop-front.invariant.1 found c.in_ok-push-2.ensures.items
