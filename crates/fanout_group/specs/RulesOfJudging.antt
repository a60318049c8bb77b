-- The rules of the definitions that the code's rules for the arrivals of a CPU represent.
use Rattle.std.specs.Prelude.{option_copied}
use Rattle.fanout_group.specs.Judgements.{JudgeRules}
use Rattle.fanout_group.specs.declared.judgements.ArrivalRules.{ArrivalRules}

-- with the CPU's receive queue in place of every CPU's
abbrev pub judge_rules_of : ArrivalRules → JudgeRules
judge_rules_of rules = record {
  key = option_copied rules.key;
  filter = option_copied rules.filter;
  own = rules.own;
  queue = λ _. rules.queue;
}
