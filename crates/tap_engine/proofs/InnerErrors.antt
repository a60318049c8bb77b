-- No error within an answer says that memory ran out.
use Rattle.std.proofs.Common.{◌≡◌, ◌≢◌, ℕ, ◌+◌, List, [], ◌∷◌, Option, None, Some, inl, inr, sym}
use Rattle.std.proofs.Common.{subst, refl}
use Rattle.std.specs.Prelude.{◌⊎◌, IfSome, map}
use Rattle.std.specs.List.{AllByRecursion}
use Rattle.capture_file.specs.Capture.{end_of}
use Rattle.capture_file.specs.declared.cpu_end.CpuEnd.{CpuEnd}
use Rattle.capture_file.specs.declared.cpu_end.CpuEnd.TheVariants.{Damaged, Fault, Whole}
use Rattle.capture_file.specs.declared.error.CaptureError.{CaptureError}
use Rattle.capture_file.specs.declared.error.CaptureError.TheVariants as errors
use Rattle.capture_file.proofs.Damage.{end_not_memory}
use Rattle.capture_reading.specs.Sources.{UnlessFault, end_by}
use Rattle.fanout_group.specs.declared.runs.CpuLog.{CpuLog}
use Rattle.setup_text.specs.declared.commands.Command.{Command}
use Rattle.setup_text.specs.declared.commands.Command.TheVariants.{Capture, Check, Forward, Make, Replay, Replay2, Send}
use Rattle.setup_text.specs.declared.cpu_setups.CpuSetup.{CpuSetup}
use Rattle.run_reports.specs.declared.reports.RunReport.{RunReport}
use Rattle.setup_text.specs.declared.setups.Setup.{Setup}
use Rattle.tap_outside.specs.Contents.{Contents}
use Rattle.tap_outside.specs.Seen.{SinkSeen, StoreSeen}
use Rattle.tap_engine.specs.Commands.{Named}
use Rattle.tap_engine.specs.Conclusions.{IsDone, IsFailed, Tells}
use Rattle.tap_engine.specs.Findings.{IsFound, report_in, status_by_end, status_of, status_of_logs}
use Rattle.tap_running.specs.Captures.{AreCaptures}
use Rattle.tap_engine.specs.Headline.{CapturesFor, IsHeadline, rules_for}
use Rattle.tap_engine.specs.InnerErrors.{HoldsNoMemory, IsOfCapture, IsOfTexts}
use Rattle.tap_engine.specs.declared.findings.CommandResult.{CommandResult}
use Rattle.tap_engine.specs.declared.findings.CommandResult.TheVariants as finding
use Rattle.tap_engine.specs.declared.outcomes.Outcome.{Outcome}
use Rattle.tap_engine.specs.declared.outcomes.Status.{Status}
use Rattle.tap_engine.specs.declared.outcomes.Status.TheVariants as statuses
use Rattle.tap_engine.proofs.Ends.{AreEnds, report_ends}

-- ---- the ends of captures

pub end_of_capture : (bytes : List ℕ) (end : CpuEnd) → UnlessFault end (end ≡ end_by (end_of bytes))
    → IsOfCapture end
end_of_capture bytes Whole damage = tt
end_of_capture bytes Fault damage = tt
end_of_capture bytes (Damaged fault) damage = by (end_of bytes) refl damage where
  by : (found : Option CaptureError) → end_of bytes ≡ found → Damaged fault ≡ end_by found
      → fault ≢ errors.Memory
  by None e is = λ memory. cc
  by (Some other) e is = λ memory. end_not_memory bytes cc

ends_of : (held : Option Contents) (setups : List CpuSetup) (bytes : List (List ℕ))
    (ends : List CpuEnd) (logs : List CpuLog)
    → AreCaptures held setups bytes ends → AreEnds logs ends
    → AllByRecursion (λ log. IsOfCapture log.end) logs
ends_of held setups bytes ends [] captures are = tt
ends_of held setups bytes [] (log ∷ logs) captures are = absurd are
ends_of held [] [] (end ∷ ends) (log ∷ logs) captures are = absurd captures
ends_of held [] (b ∷ bytes) (end ∷ ends) (log ∷ logs) captures are = absurd captures
ends_of held (s ∷ setups) [] (end ∷ ends) (log ∷ logs) captures are = absurd captures
ends_of held (s ∷ setups) (b ∷ bytes) (end ∷ ends) (log ∷ logs) captures are = (
  subst (λ (e : CpuEnd). IsOfCapture e) (sym are.0) (end_of_capture b end captures.0.damage),
  ends_of held setups bytes ends logs captures.1 are.1,
)

whole_ends : (bytes : List (List ℕ)) (logs : List CpuLog) → AreEnds logs (map (λ text. Whole) bytes)
    → AllByRecursion (λ log. IsOfCapture log.end) logs
whole_ends bytes [] are = tt
whole_ends [] (log ∷ logs) are = absurd are
whole_ends (b ∷ bytes) (log ∷ logs) are =
    (subst (λ (e : CpuEnd). IsOfCapture e) (sym are.0) tt, whole_ends bytes logs are.1)

run_ends : (command : Command) (held : Option Contents) (setup : Setup) (bytes : List (List ℕ))
    (ends : List CpuEnd) (logs : List CpuLog)
    → CapturesFor command held setup bytes ends → AreEnds logs ends
    → AllByRecursion (λ log. IsOfCapture log.end) logs
run_ends Check held setup bytes ends logs captures are = absurd captures
run_ends Make held setup bytes ends logs captures are =
    whole_ends bytes logs (subst (λ (es : List CpuEnd). AreEnds logs es) captures.whole are)
run_ends Replay held setup bytes ends logs captures are = ends_of held setup.cpus bytes ends logs
    captures are
run_ends Replay2 held setup bytes ends logs captures are = ends_of held setup.cpus bytes ends logs
    captures are
run_ends Capture held setup bytes ends logs captures are = ends_of held setup.cpus bytes ends logs
    captures are
run_ends Forward held setup bytes ends logs captures are = ends_of held setup.cpus bytes ends logs
    captures are
run_ends Send held setup bytes ends logs captures are = absurd captures

report_of_texts : (old new : StoreSeen) (named : Named) (report : RunReport)
    → IsHeadline old new named report
    → AllByRecursion (λ log. IsOfCapture log.end) report.cpus
report_of_texts old new named report h =
    run_ends named.command old.held h.job.setup h.bytes h.ends report.cpus h.captures
    (report_ends (rules_for named.command h.job) h.job h.bytes h.ends report h.report_is)

-- ---- the status

by_end : (cpu : ℕ) (end : CpuEnd) (rest : Status) → IsOfCapture end → IsOfTexts rest
    → IsOfTexts (status_by_end cpu end rest)
by_end cpu Whole rest h k = k
by_end cpu Fault rest h k = tt
by_end cpu (Damaged damage) statuses.ReadFault h k = tt
by_end cpu (Damaged damage) statuses.Fine h k = h
by_end cpu (Damaged damage) statuses.Usage h k = h
by_end cpu (Damaged damage) (statuses.Setup error) h k = h
by_end cpu (Damaged damage) (statuses.Text error) h k = h
by_end cpu (Damaged damage) (statuses.Damaged other fault) h k = h
by_end cpu (Damaged damage) statuses.WriteFault h k = h
by_end cpu (Damaged damage) statuses.Memory h k = h

by_logs : (cpu : ℕ) (logs : List CpuLog) → AllByRecursion (λ log. IsOfCapture log.end) logs
    → IsOfTexts (status_of_logs cpu logs)
by_logs cpu [] all = tt
by_logs cpu (log ∷ logs) all = by_end cpu log.end (status_of_logs (cpu + 1) logs) all.0
    (by_logs (cpu + 1) logs all.1)

found_of_texts : (old new : StoreSeen) (command : Option Named) (found : CommandResult)
    → IsFound command old new found → IsOfTexts (status_of found)
found_of_texts old new None finding.NoCommand h = tt
found_of_texts old new None finding.Unread h = absurd h
found_of_texts old new None (finding.BadSetup error) h = absurd h
found_of_texts old new None (finding.BadText error) h = absurd h
found_of_texts old new None finding.Checked h = absurd h
found_of_texts old new None (finding.Ran rings setup report forwards) h = absurd h
found_of_texts old new None (finding.Sent setup sending) h = absurd h
found_of_texts old new (Some named) finding.NoCommand h = absurd h
found_of_texts old new (Some named) finding.Unread h = tt
found_of_texts old new (Some named) (finding.BadSetup error) h = h.not_memory
found_of_texts old new (Some named) (finding.BadText error) (inl filter) = filter.refused.not_memory
found_of_texts old new (Some named) (finding.BadText error) (inr (inl ticks)) =
    ticks.refused.not_memory
found_of_texts old new (Some named) (finding.BadText error) (inr (inr schedule)) =
    schedule.refused.not_memory
found_of_texts old new (Some named) finding.Checked h = tt
found_of_texts old new (Some named) (finding.Ran rings setup report forwards) h =
    by_logs 0 report.cpus (report_of_texts old new named report h.0.headline)
found_of_texts old new (Some named) (finding.Sent setup sending) h =
    by_end 0 sending.end statuses.Fine (end_of_capture h.0.sending_is.bytes sending.end
    h.0.sending_is.capture.damage) tt

found_ends : (old new : StoreSeen) (command : Option Named) (found : CommandResult)
    → IsFound command old new found
    → IfSome (report_in found) (λ report. AllByRecursion (λ log. IsOfCapture log.end) report.cpus)
found_ends old new None finding.NoCommand h = tt
found_ends old new None finding.Unread h = tt
found_ends old new None (finding.BadSetup error) h = tt
found_ends old new None (finding.BadText error) h = tt
found_ends old new None finding.Checked h = tt
found_ends old new None (finding.Ran rings setup report forwards) h = absurd h
found_ends old new None (finding.Sent setup sending) h = tt
found_ends old new (Some named) finding.NoCommand h = tt
found_ends old new (Some named) finding.Unread h = tt
found_ends old new (Some named) (finding.BadSetup error) h = tt
found_ends old new (Some named) (finding.BadText error) h = tt
found_ends old new (Some named) finding.Checked h = tt
found_ends old new (Some named) (finding.Ran rings setup report forwards) h =
    report_of_texts old new named report h.0.headline
found_ends old new (Some named) (finding.Sent setup sending) h = tt

pub told_of_texts : (command : Option Named) (outcome : Outcome) (old new : StoreSeen)
    (before after : SinkSeen)
    → Tells command outcome old new before after → HoldsNoMemory outcome
told_of_texts command outcome old new before after t = record {
  status = by t.concludes.ended;
  ends = subst (λ (r : Option RunReport). IfSome r (λ report. AllByRecursion
      (λ log. IsOfCapture log.end) report.cpus))
      (sym t.concludes.report) (found_ends old t.read command t.finding t.found);
} where
  by : IsDone t.finding outcome.status t.read new before after
      ⊎ IsFailed t.finding outcome.status t.read new before after → IsOfTexts outcome.status
  by (inl d) = subst (λ (s : Status). IsOfTexts s) (sym d.status_is)
      (found_of_texts old t.read command t.finding t.found)
  by (inr f) = subst (λ (s : Status). IsOfTexts s) (sym f.status_is) tt
