-- Everything that an answer guarantees, by what was found or when memory ran out.
use Rattle.std.proofs.Common.{◌≡◌, ◌≤◌, ◌+◌, Option, None, inl, inr, subst, sym, ap, arith}
use Rattle.std.specs.Prelude.{◌⊎◌, IfSome}
use Rattle.std.specs.List.{AllByRecursion}
use Rattle.run_reports.specs.declared.reports.RunReport.{RunReport}
use Rattle.tap_outside.specs.Counts.{Rose}
use Rattle.tap_outside.specs.Seen.{SinkSeen, StoreSeen}
use Rattle.tap_engine.specs.inside.Answers.{IsAnswer}
use Rattle.tap_engine.specs.Commands.{Named}
use Rattle.tap_engine.specs.Conclusions.{IsCut, IsCutShort, IsStopped, Tells}
use Rattle.tap_running.specs.Prints.{IsLastLine}
use Rattle.tap_engine.specs.Headline.{IsWorth}
use Rattle.tap_engine.specs.InnerErrors.{IsOfCapture, IsOfTexts}
use Rattle.tap_engine.specs.declared.outcomes.Outcome.{Outcome}
use Rattle.tap_engine.specs.declared.outcomes.Status.{Status}
use Rattle.tap_engine.specs.declared.outcomes.Status.TheVariants as statuses
use Rattle.tap_engine.proofs.Complete.{complete_of, worth_of}
use Rattle.tap_engine.proofs.Concluded.{no_memory}
use Rattle.tap_engine.proofs.Faultless.{faultless_of}
use Rattle.tap_engine.proofs.InnerErrors.{told_of_texts}

pub told : (command : Option Named) (outcome : Outcome) (old new : StoreSeen)
    (before after : SinkSeen)
    → Tells command outcome old new before after → IsAnswer command outcome old new before after
told command outcome old new before after tells = record {
  headline = worth_of command outcome old new before after tells;
  told = λ status. tells;
  gave_up = λ memory. absurd (no_memory _ _ _ _ _ _ tells.concludes memory);
  no_memory = told_of_texts command outcome old new before after tells;
  complete = complete_of command outcome old new before after tells;
  faultless = faultless_of command outcome old new before after tells;
}

-- before the last line no write failed
none_yet : (command : Option Named) (old new : StoreSeen) (before between : SinkSeen)
    → IsStopped command old new before between → between.faults ≡ before.faults
none_yet command old new before between stopped = by stopped where
  by : (IsCut command old new × (between ≡ before)) ⊎ IsCutShort command old new before between
      → between.faults ≡ before.faults
  by (inl cut) = ap (λ (s : SinkSeen). s.faults) cut.1
  by (inr short) = short.printed.faultless

-- nor did fewer writes run out of memory, so what was counted since was counted
last_after : (command : Option Named) (old new : StoreSeen) (before between after : SinkSeen)
    → IsStopped command old new before between → IsLastLine between between after
    → IsLastLine before between after
last_after command old new before between after stopped (inl all) = inl all
last_after command old new before between after stopped (inr some) =
    inr (some.0, counted some.1 (by stopped)) where
      by : (IsCut command old new × (between ≡ before)) ⊎ IsCutShort command old new before between
          → (between.refused ≡ before.refused) ⊎ Rose before.refused between.refused
      by (inl cut) = inl (ap (λ (s : SinkSeen). s.refused) cut.1)
      by (inr short) = short.printed.refused

      counted : Rose between.faults after.faults ⊎ Rose between.refused after.refused
          → (between.refused ≡ before.refused) ⊎ Rose before.refused between.refused
          → Rose before.faults after.faults ⊎ Rose before.refused after.refused
      counted (inl rose) first =
          let still = none_yet command old new before between stopped in
          inl (omega (arith, still, rose))
      counted (inr rose) (inl still) = inr (omega (arith, still, rose))
      counted (inr rose) (inr first) = inr (omega (arith, first, rose))

pub gave_up : (command : Option Named) (outcome : Outcome) (old new : StoreSeen)
    (before between after : SinkSeen)
    → outcome.status ≡ statuses.Memory → outcome.report ≡ None
    → IsStopped command old new before between
    → IsLastLine between between after → between.faults ≤ after.faults
    → after.faults ≤ between.faults + 1
    → IsAnswer command outcome old new before after
gave_up command outcome old new before between after memory none cut line kept one = record {
  headline = subst (λ (r : Option RunReport). IsWorth command old new r) (sym none) tt;
  told = λ other. absurd (other memory);
  gave_up = λ same.
      let still = none_yet command old new before between cut in
      record {
        report = none;
        told = between;
        stopped = cut;
        line = last_after command old new before between after cut line;
        kept = omega (arith, still, kept);
        one = omega (arith, still, one);
      };
  no_memory = record {
    status = subst (λ (s : Status). IsOfTexts s) (sym memory) tt;
    ends = subst (λ (r : Option RunReport). IfSome r (λ report. AllByRecursion
        (λ log. IsOfCapture log.end) report.cpus)) (sym none) tt;
  };
  complete = λ files named held is sound sane. inr memory;
  faultless = λ read write other. absurd (other memory);
}
