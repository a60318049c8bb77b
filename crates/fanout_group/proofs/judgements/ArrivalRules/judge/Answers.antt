use Rattle.std.proofs.Common.{rules}
use Rattle.fanout_group.specs.RulesOfJudging.{judge_rules_of}
use Rattle.fanout_group.proofs.LikeJudgeRules.{judged_alike}
use Rattle.fanout_group.proofs.judgements.ArrivalRules.judge.Goals as goal

pub returns-clause-judged : goal.returns-clause-judged
returns-clause-judged c = λ group agree.
    judged_alike c.args.arrival group (judge_rules_of c.args.self.now) agree c.args.self.now.room c.args.ticket _ _
    (search rules)
    (search rules)
