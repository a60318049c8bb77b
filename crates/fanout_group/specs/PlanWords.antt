-- The words for the faults of a group.
use Rattle.std.specs.Prelude.{ℕ, List, codes}
use Rattle.fanout_group.specs.declared.plan_error.PlanError.{PlanError}
use Rattle.fanout_group.specs.declared.plan_error.PlanError.TheVariants.{NoMember, TooMany}
use Rattle.fanout_group.specs.declared.plan_error.PlanError.TheVariants.{BackupOfRollover, NoKey}

abbrev pub word_of : PlanError → List ℕ
word_of NoMember = codes "no_member"
word_of TooMany = codes "too_many"
word_of BackupOfRollover = codes "backup_of_rollover"
word_of NoKey = codes "no_key"
