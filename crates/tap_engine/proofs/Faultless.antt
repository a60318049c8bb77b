-- If a fault was counted the status says so.
use Rattle.std.proofs.Common.{◌≡◌, ◌≢◌, ℕ, ◌+◌, List, [], ◌∷◌, refl, ap, ◌∙◌, arith, inl, inr}
use Rattle.std.proofs.Common.{Option, None, Some}
use Rattle.std.specs.Prelude.{◌⊎◌}
use Rattle.capture_file.specs.declared.cpu_end.CpuEnd.{CpuEnd}
use Rattle.capture_file.specs.declared.cpu_end.CpuEnd.TheVariants.{Whole, Fault, Damaged}
use Rattle.fanout_group.specs.declared.runs.CpuLog.{CpuLog}
use Rattle.setup_text.specs.declared.text_error.TextError.{TextError}
use Rattle.tap_outside.specs.Seen.{NoReadFailed, SinkSeen, StoreSeen}
use Rattle.tap_saving.proofs.Stores.{read_faults_touched}
use Rattle.tap_engine.specs.Commands.{Named}
use Rattle.tap_engine.specs.Conclusions.{IsDone, IsFailed, Tells}
use Rattle.tap_engine.specs.Faults.{IsFaultless, NoneCounted}
use Rattle.tap_engine.specs.Findings.{IsFound, faults_in, status_by_end, status_of}
use Rattle.tap_running.specs.Captures.{fault_at}
use Rattle.tap_engine.specs.Findings.{status_of_logs}
use Rattle.tap_engine.specs.Jobs.{HasBadText}
use Rattle.tap_engine.specs.declared.findings.CommandResult.{CommandResult}
use Rattle.tap_engine.specs.declared.findings.CommandResult.TheVariants as finding
use Rattle.tap_engine.specs.declared.outcomes.Outcome.{Outcome}
use Rattle.tap_engine.specs.declared.outcomes.Status.{Status}
use Rattle.tap_engine.specs.declared.outcomes.Status.TheVariants as statuses
use Rattle.tap_running.proofs.Stores.{exact_same, saves_same}

-- ---- the ends of CPUs

-- a fault of a later CPU comes before damage
fault_stays : (cpu : ℕ) (end : CpuEnd) (rest : Status) → rest ≡ statuses.ReadFault
    → status_by_end cpu end rest ≡ statuses.ReadFault
fault_stays cpu Whole rest is = is
fault_stays cpu Fault rest is = refl
fault_stays cpu (Damaged damage) rest is = ap (λ s. status_by_end cpu (Damaged damage) s) is

no_fault_at : (cpu : ℕ) (end : CpuEnd) (rest : Status)
    → status_by_end cpu end rest ≢ statuses.ReadFault → fault_at end ≡ 0
no_fault_at cpu Whole rest other = refl
no_fault_at cpu Fault rest other = absurd (other refl)
no_fault_at cpu (Damaged damage) rest other = refl

-- any other status comes only if no CPU ended with a fault
no_faults_in : (cpu : ℕ) (logs : List CpuLog) → status_of_logs cpu logs ≢ statuses.ReadFault
    → faults_in logs ≡ 0
no_faults_in cpu [] other = refl
no_faults_in cpu (log ∷ logs) other =
    let here = no_fault_at cpu log.end (status_of_logs (cpu + 1) logs) other in
    let rest = no_faults_in (cpu + 1) logs
    (λ is. other (fault_stays cpu log.end (status_of_logs (cpu + 1) logs) is)) in
    omega (arith, here, rest)

-- ---- what is found

text_refused : (old new : StoreSeen) (named : Named) (error : TextError)
    → HasBadText old new named error → NoReadFailed old new
text_refused old new named error (inl filter) = filter.refused.texts.unfailed
text_refused old new named error (inr (inl ticks)) = ticks.refused.texts.unfailed
text_refused old new named error (inr (inr schedule)) = schedule.refused.texts.unfailed

no_read_failed : (old new : StoreSeen) (command : Option Named) (found : CommandResult)
    → IsFound command old new found → status_of found ≢ statuses.ReadFault → NoReadFailed old new
no_read_failed old new None finding.NoCommand h other = h.unfailed
no_read_failed old new None finding.Unread h other = absurd h
no_read_failed old new None (finding.BadSetup error) h other = absurd h
no_read_failed old new None (finding.BadText error) h other = absurd h
no_read_failed old new None finding.Checked h other = absurd h
no_read_failed old new None (finding.Ran rings setup report forwards) h other = absurd h
no_read_failed old new None (finding.Sent setup sending) h other = absurd h
no_read_failed old new (Some named) finding.NoCommand h other = absurd h
no_read_failed old new (Some named) finding.Unread h other = absurd (other refl)
no_read_failed old new (Some named) (finding.BadSetup error) h other = h.texts.unfailed
no_read_failed old new (Some named) (finding.BadText error) h other =
    text_refused old new named error h
no_read_failed old new (Some named) finding.Checked h other = h.read_is.unfailed
no_read_failed old new (Some named) (finding.Ran rings setup report forwards) h other =
    h.1.faultless (no_faults_in 0 report.cpus other)
no_read_failed old new (Some named) (finding.Sent setup sending) h other =
    h.1.faultless (no_fault_at 0 sending.end statuses.Fine other)

-- ---- what is answered

pub faultless_of : (command : Option Named) (outcome : Outcome) (old new : StoreSeen)
    (before after : SinkSeen)
    → Tells command outcome old new before after
    → IsFaultless old new before after outcome.status
faultless_of command outcome old new before after t = λ read write other. by read write
    t.concludes.ended where
      by : outcome.status ≢ statuses.ReadFault → outcome.status ≢ statuses.WriteFault
          → IsDone t.finding outcome.status t.read new before after
          ⊎ IsFailed t.finding outcome.status t.read new before after
          → NoneCounted old new before after
      by read write (inl d) =
          let unfailed = no_read_failed old t.read command t.finding t.found
          (λ is. read (d.status_is ∙ is)) in
          record {
            reads = λ exact. read_faults_touched t.concludes.touches ∙ unfailed.exact exact;
            saves = λ exact. d.saves (exact_same old t.read t.reads ∙ exact)
                ∙ saves_same old t.read t.reads;
            prints = d.prints;
          }
      by read write (inr f) = absurd (write f.status_is)
