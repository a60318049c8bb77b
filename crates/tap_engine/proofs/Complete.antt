-- A report fulfils the headline, and if nothing fails the status is fine.
use Rattle.std.proofs.Common.{◌≡◌, ◌≢◌, ℕ, ◌+◌, ◌<◌, ◌≤◌, Bool, true, false, List, [], ◌∷◌, ◌++◌}
use Rattle.std.proofs.Common.{length, inl, inr, Option, None, Some, refl, sym, ap, subst, ◌∙◌}
use Rattle.std.proofs.Common.{arith}
use Rattle.std.specs.Prelude.{◌⊎◌, if◌then◌else◌, map, nat_lt, Ok, Err}
use Rattle.std.specs.Option.{option_or}
use Rattle.std.proofs.lemmas.Bool.{cases_lt}
use Rattle.capture_file.specs.Capture.{cut_of, damage_of, end_of, lacks_header, stop_of}
use Rattle.capture_file.specs.declared.error.CaptureError.{CaptureError}
use Rattle.capture_file.specs.declared.error.CaptureError.TheVariants.{Truncated}
use Rattle.capture_file.proofs.LastingDamage.{stays}
use Rattle.capture_file.specs.declared.cpu_end.CpuEnd.{CpuEnd}
use Rattle.capture_file.specs.declared.cpu_end.CpuEnd.TheVariants.{Whole, Fault, Damaged}
use Rattle.fanout_group.specs.declared.runs.CpuLog.{CpuLog}
use Rattle.setup_text.specs.Filters.{filter_of}
use Rattle.setup_text.specs.Moments.{moments_of}
use Rattle.setup_text.specs.declared.commands.Command.{Command}
use Rattle.setup_text.specs.declared.commands.Command.TheVariants.{Capture, Check, Forward, Make, Replay, Replay2, Send}
use Rattle.setup_text.specs.declared.cpu_setups.CpuSetup.{CpuSetup}
use Rattle.setup_text.specs.declared.jobs.Job.{Job}
use Rattle.run_reports.specs.declared.reports.RunReport.{RunReport}
use Rattle.setup_text.specs.declared.setups.Setup.{Setup}
use Rattle.setup_text.specs.declared.text_error.TextError.{TextError}
use Rattle.tap_outside.specs.Contents.{Contents}
use Rattle.tap_outside.specs.Counts.{RoseBy}
use Rattle.tap_outside.specs.Seen.{SinkSeen, SourcesSeen, StoreSeen}
use Rattle.tap_reading.specs.Readers.{Says, setup_for}
use Rattle.capture_reading.specs.Sources.{UnlessFault, WhereEnded, end_by}
use Rattle.tap_saving.specs.Saves.{marked}
use Rattle.tap_engine.specs.Commands.{Named, has_schedule}
use Rattle.tap_engine.specs.Complete.{AreSoundLast, AreSoundTicks, IsComplete, IsSound}
use Rattle.tap_running.specs.Captures.{AreWhole}
use Rattle.tap_running.specs.Texts.{IsSoundFilter, text_in}
use Rattle.tap_engine.specs.Complete.{IsSoundSchedule, NothingFails}
use Rattle.tap_engine.specs.Conclusions.{IsDone, IsFailed, Tells}
use Rattle.tap_running.specs.Prints.{IsPrinted}
use Rattle.tap_engine.specs.Findings.{IsFound, faults_in, lines_of, report_in}
use Rattle.tap_running.specs.Captures.{fault_at}
use Rattle.tap_engine.specs.Findings.{status_by_end, status_of, status_of_logs}
use Rattle.tap_running.specs.Captures.{AreCaptures, IsCapture}
use Rattle.tap_engine.specs.Headline.{CapturesFor, GivenFor, IsHeadline}
use Rattle.tap_engine.specs.Headline.{IsWorth, rules_for}
use Rattle.tap_engine.specs.Jobs.{HasBadFilter, HasBadSchedule, HasBadText, HasBadTicks, HasSetup}
use Rattle.tap_engine.specs.Jobs.{lines_for}
use Rattle.tap_engine.specs.Names.{filter_for, first_file, ticks_for}
use Rattle.tap_engine.specs.Sendings.{IsSent}
use Rattle.tap_engine.specs.declared.findings.CommandResult.{CommandResult}
use Rattle.tap_engine.specs.declared.findings.CommandResult.TheVariants as finding
use Rattle.tap_engine.specs.declared.outcomes.Outcome.{Outcome}
use Rattle.tap_engine.specs.declared.outcomes.Status.{Status}
use Rattle.tap_engine.specs.declared.outcomes.Status.TheVariants as statuses
use Rattle.tap_engine.specs.declared.sent_captures.Sending.{Sending}
use Rattle.tap_engine.proofs.Ends.{AreEnds, report_ends}
use Rattle.tap_running.proofs.Stores.{held_same, rose_less, saves_same}
use Rattle.tap_engine.proofs.Found.{unread_rose}
use Rattle.tap_running.proofs.TextLimits.{filters, not_both, same_value, says_held}
use Rattle.tap_engine.proofs.Texts.{moments, schedules}
use Rattle.tap_running.proofs.TextLimits.{setups}
use Rattle.tap_running.proofs.LastLines.{unprinted}
use Rattle.tap_running.proofs.Stores.{none_rose}
use Rattle.tap_running.proofs.TextLimits.{sound_filter}
use Rattle.tap_running.proofs.Wholes.{none_faults, whole_end}

worth_in : (old new : StoreSeen) (command : Option Named) (found : CommandResult)
    → IsFound command old new found
    → IsWorth command old new (report_in found)
worth_in old new None finding.NoCommand h = tt
worth_in old new None finding.Unread h = absurd h
worth_in old new None (finding.BadSetup error) h = absurd h
worth_in old new None (finding.BadText error) h = absurd h
worth_in old new None finding.Checked h = absurd h
worth_in old new None (finding.Ran rings setup report forwards) h = absurd h
worth_in old new None (finding.Sent setup sending) h = absurd h
worth_in old new (Some named) finding.NoCommand h = absurd h
worth_in old new (Some named) finding.Unread h = tt
worth_in old new (Some named) (finding.BadSetup error) h = tt
worth_in old new (Some named) (finding.BadText error) h = tt
worth_in old new (Some named) finding.Checked h = tt
worth_in old new (Some named) (finding.Ran rings setup report forwards) h = (named, refl, h.0.headline)
worth_in old new (Some named) (finding.Sent setup sending) h = tt

-- what was saved since has changed nothing of the record
headline_later : (old mid new : StoreSeen) (named : Named) (report : RunReport)
    → new.sources ≡ mid.sources → IsHeadline old mid named report → IsHeadline old new named report
headline_later old mid new named report same h = record {
  texts = h.texts;
  job = h.job;
  job_is = h.job_is;
  read = h.read;
  read_is = h.read_is;
  bytes = h.bytes;
  ends = h.ends;
  captures = h.captures;
  given = subst (λ (sources : SourcesSeen). GivenFor named.command h.read.sources sources
      h.job.setup.cpus h.bytes h.ends) (sym same) h.given;
  report_is = h.report_is;
  run = h.run;
}

worth_later : (command : Option Named) (old mid new : StoreSeen) (report : Option RunReport)
    → new.sources ≡ mid.sources → IsWorth command old mid report → IsWorth command old new report
worth_later command old mid new None same h = tt
worth_later command old mid new (Some report) same h =
    (h.0, h.1, headline_later old mid new h.0 report same h.2)

pub worth_of : (command : Option Named) (outcome : Outcome) (old new : StoreSeen)
    (before after : SinkSeen)
    → Tells command outcome old new before after → IsWorth command old new outcome.report
worth_of command outcome old new before after t =
    subst (λ (r : Option RunReport). IsWorth command old new r) (sym t.concludes.report)
    (worth_later command old t.read new (report_in t.finding)
    (ap (λ (s : StoreSeen). s.sources) t.concludes.touches.same)
    (worth_in old t.read command t.finding t.found))

-- ---- texts that are accepted aren't refused

the_setup : (files : Contents) (named : Named) (sound : IsSound files named) (text : List ℕ)
    (setup : Setup) → HasSetup (Some files) named text setup → sound.setup ≡ setup
the_setup files named sound text setup has =
    same_value (setup_for named.command) files named.setup text sound.setup setup
    (setups named.command) sound.setup_is has

sound_ticks : (files : Contents) (ticks : Option (List ℕ)) (name : List ℕ) (error : TextError)
    → ticks ≡ Some name → AreSoundTicks files ticks → (moments_of (text_in files name) ≡ Err error)
    → ⊥
sound_ticks files None name error e sound h = cc
sound_ticks files (Some x) name error e sound h = differ (sound.1)
    (ap (λ n. moments_of (text_in files n)) (same e) ∙ h) where
      same : ◌≡◌ {A = Option (List ℕ)} (Some x) (Some name) → x ≡ name
      same e = cc

      differ : moments_of (text_in files x) ≡ Ok sound.0
          → moments_of (text_in files x) ≡ Err error → ⊥
      differ a b = cc

no_filter : (files : Contents) (old new : StoreSeen) (named : Named) (error : TextError)
    → old.held ≡ Some files → IsSound files named
    → HasBadFilter old new named error → ⊥
no_filter files old new named error held sound h =
    sound_filter files (filter_for named.command h.setup) h.name error h.names
    (subst (λ (s : Setup). IsSoundFilter files (filter_for named.command s))
    (the_setup files named sound h.text h.setup
    (subst (λ (o : Option Contents). HasSetup o named h.text h.setup) held h.has)) sound.filter)
    (says_held filter_of files h.name h.refused.text (Err error) filters
    (subst (λ (o : Option Contents). Says filter_of o h.name h.refused.text (Err error)) held
    h.refused.says))

no_ticks : (files : Contents) (old new : StoreSeen) (named : Named) (error : TextError)
    → old.held ≡ Some files → IsSound files named
    → HasBadTicks old new named error → ⊥
no_ticks files old new named error held sound h =
    sound_ticks files (ticks_for named.command h.job.setup) h.name error h.names
    (subst (λ (s : Setup). AreSoundTicks files (ticks_for named.command s))
    (the_setup files named sound h.texts.setup h.job.setup
    (subst (λ (o : Option Contents). HasSetup o named h.texts.setup h.job.setup) held h.has.setup))
    sound.ticks)
    (says_held moments_of files h.name h.refused.text (Err error) moments
    (subst (λ (o : Option Contents). Says moments_of o h.name h.refused.text (Err error)) held
    h.refused.says))

last_of : (files : Contents) (named : Named) → IsSound files named
    → (command : Command) (text : List ℕ) (setup : Setup) → named.command ≡ command
    → HasSetup (Some files) named text setup → AreSoundLast command files named.schedule setup
last_of files named sound command text setup is has =
    subst (λ (s : Setup). AreSoundLast command files named.schedule s)
    (the_setup files named sound text setup has)
    (subst (λ (c : Command). AreSoundLast c files named.schedule sound.setup) is sound.last)

sound_schedule : (command : Command) (files : Contents) (name : List ℕ) (setup : Setup)
    → has_schedule command ≡ true → AreSoundLast command files name setup
    → IsSoundSchedule files name setup
sound_schedule Replay files name setup is sound = sound.0
sound_schedule Replay2 files name setup is sound = sound.0
sound_schedule Check files name setup is sound = cc
sound_schedule Capture files name setup is sound = cc
sound_schedule Forward files name setup is sound = cc
sound_schedule Send files name setup is sound = cc
sound_schedule Make files name setup is sound = cc

no_schedule : (files : Contents) (old new : StoreSeen) (named : Named) (error : TextError)
    → old.held ≡ Some files → IsSound files named
    → HasBadSchedule old new named error → ⊥
no_schedule files old new named error held sound h =
    let schedule = sound_schedule named.command files named.schedule h.job.setup h.command
    (last_of files named sound named.command h.texts.setup h.job.setup refl
    (subst (λ (o : Option Contents). HasSetup o named h.texts.setup h.job.setup) held h.has.setup)) in
    not_both (lines_for h.job) files named.schedule h.refused.text schedule.0 error
    (schedules (length h.job.setup.cpus) h.job.setup.plan.members) schedule.1
    (subst (λ (o : Option Contents). Says (lines_for h.job) o named.schedule h.refused.text
    (Err error)) held h.refused.says)

no_text : (files : Contents) (old new : StoreSeen) (named : Named) (error : TextError)
    → old.held ≡ Some files → IsSound files named
    → HasBadText old new named error → ⊥
no_text files old new named error held sound (inl filter) = no_filter files old new named error held
    sound filter
no_text files old new named error held sound (inr (inl ticks)) = no_ticks files old new named error
    held sound ticks
no_text files old new named error held sound (inr (inr schedule)) = no_schedule files old new named
    error held sound schedule

-- ---- captures that are whole end whole

behind_whole : (cpu : ℕ) (end : CpuEnd) (rest : Status) → end ≡ Whole → rest ≡ statuses.Fine
    → status_by_end cpu end rest ≡ statuses.Fine
behind_whole cpu Whole rest e fine = fine
behind_whole cpu Fault rest e fine = cc
behind_whole cpu (Damaged damage) rest e fine = cc

fine_logs : (files : Contents) (setups : List CpuSetup) (cpu : ℕ) (bytes : List (List ℕ))
    (ends : List CpuEnd) (logs : List CpuLog)
    → AreCaptures (Some files) setups bytes ends → AreEnds logs ends → AreWhole files setups
    → faults_in logs ≡ 0
    → status_of_logs cpu logs ≡ statuses.Fine
fine_logs files setups cpu bytes ends [] captures are whole none = refl
fine_logs files setups cpu bytes [] (log ∷ logs) captures are whole none = absurd are
fine_logs files [] cpu [] (end ∷ ends) (log ∷ logs) captures are whole none = absurd captures
fine_logs files [] cpu (b ∷ bytes) (end ∷ ends) (log ∷ logs) captures are whole none = absurd
    captures
fine_logs files (s ∷ setups) cpu [] (end ∷ ends) (log ∷ logs) captures are whole none = absurd
    captures
fine_logs files (s ∷ setups) cpu (b ∷ bytes) (end ∷ ends) (log ∷ logs) captures are whole none =
    let one = captures.0 in
    let counts : fault_at end ≡ fault_at log.end = ap fault_at (sym are.0) in
    let ended = whole_end (text_in files s.file) b one.front.rest end one.front.parts whole.0
    one.damage one.all
    (none_faults end (omega (arith, none, counts))) in
    behind_whole cpu log.end (status_of_logs (cpu + 1) logs) (are.0 ∙ ended)
    (fine_logs files setups (cpu + 1) bytes ends logs captures.1 are.1 whole.1
    (omega (arith, none)))

-- the captures of made frames ended whole
made_logs : (cpu : ℕ) (bytes : List (List ℕ)) (logs : List CpuLog)
    → AreEnds logs (map (λ text. Whole) bytes)
    → status_of_logs cpu logs ≡ statuses.Fine
made_logs cpu bytes [] are = refl
made_logs cpu [] (log ∷ logs) are = absurd are
made_logs cpu (b ∷ bytes) (log ∷ logs) are =
    behind_whole cpu log.end (status_of_logs (cpu + 1) logs) are.0
    (made_logs (cpu + 1) bytes logs are.1)

fine_captures : (files : Contents) (named : Named) (text : List ℕ) (setup : Setup)
    (bytes : List (List ℕ)) (ends : List CpuEnd) (logs : List CpuLog) (command : Command)
    → IsSound files named → named.command ≡ command → HasSetup (Some files) named text setup
    → CapturesFor command (Some files) setup bytes ends
    → AreEnds logs ends → faults_in logs ≡ 0 → status_of_logs 0 logs ≡ statuses.Fine
fine_captures files named text setup bytes ends logs Check sound is has captures are none = absurd
    captures
fine_captures files named text setup bytes ends logs Make sound is has captures are none =
    made_logs 0 bytes logs (subst (λ (es : List CpuEnd). AreEnds logs es) captures.whole are)
fine_captures files named text setup bytes ends logs Replay sound is has captures are none =
    fine_logs files setup.cpus 0 bytes ends logs captures are
    (last_of files named sound Replay text setup is has).1 none
fine_captures files named text setup bytes ends logs Replay2 sound is has captures are none =
    fine_logs files setup.cpus 0 bytes ends logs captures are
    (last_of files named sound Replay2 text setup is has).1 none
fine_captures files named text setup bytes ends logs Capture sound is has captures are none =
    fine_logs files setup.cpus 0 bytes ends logs captures are
    (last_of files named sound Capture text setup is has) none
fine_captures files named text setup bytes ends logs Forward sound is has captures are none =
    fine_logs files setup.cpus 0 bytes ends logs captures are
    (last_of files named sound Forward text setup is has) none
fine_captures files named text setup bytes ends logs Send sound is has captures are none = absurd
    captures

fine_report : (files : Contents) (old new : StoreSeen) (named : Named) (report : RunReport)
    → old.held ≡ Some files → IsSound files named → IsHeadline old new named report
    → faults_in report.cpus ≡ 0 → status_of_logs 0 report.cpus ≡ statuses.Fine
fine_report files old new named report held sound h none =
    fine_captures files named h.texts.setup h.job.setup h.bytes h.ends report.cpus named.command
    sound refl
    (subst (λ (o : Option Contents). HasSetup o named h.texts.setup h.job.setup) held h.job_is.setup)
    (subst (λ (o : Option Contents). CapturesFor named.command o h.job.setup h.bytes h.ends) held
    h.captures)
    (report_ends (rules_for named.command h.job) h.job h.bytes h.ends report h.report_is) none

-- the first capture is whole, if it is sent
first_whole : (files : Contents) (named : Named) (text : List ℕ) (setup : Setup) (job : Job)
    → IsSound files named → named.command ≡ Send
    → HasSetup (Some files) named text job.setup → job.setup ≡ setup
    → end_of (text_in files (first_file setup.cpus)) ≡ None
first_whole files named text setup job sound is has same =
    subst (λ (s : Setup). end_of (text_in files (first_file s.cpus)) ≡ None) same
    (last_of files named sound Send text job.setup is has)

fine_sending : (files : Contents) (old new : StoreSeen) (named : Named) (setup : Setup)
    (sending : Sending) → old.held ≡ Some files → IsSound files named
    → IsSent old new named setup sending
    → fault_at sending.end ≡ 0 → status_by_end 0 sending.end statuses.Fine ≡ statuses.Fine
fine_sending files old new named setup sending held sound h none =
    let capture : IsCapture (Some files) (first_file setup.cpus) h.sending_is.bytes sending.end =
    subst (λ (o : Option Contents). IsCapture o (first_file setup.cpus) h.sending_is.bytes
    sending.end) (held_same old h.read h.read_is.unfailed.only ∙ held) h.sending_is.capture in
    behind_whole 0 sending.end statuses.Fine
    (whole_end (text_in files (first_file setup.cpus)) h.sending_is.bytes capture.front.rest
    sending.end capture.front.parts
    (first_whole files named h.texts.setup setup h.job sound h.command
    (subst (λ (o : Option Contents). HasSetup o named h.texts.setup h.job.setup) held h.job_is.setup)
    h.setup_is)
    capture.damage
    capture.all (none_faults sending.end none))
    refl

fine_found : (files : Contents) (named : Named) (old new : StoreSeen) (found : CommandResult)
    → old.held ≡ Some files → IsSound files named
    → (RoseBy 1 old.read_faults new.read_faults → ⊥) → IsFound (Some named) old new found
    → status_of found ≡ statuses.Fine
fine_found files named old new finding.NoCommand is sound sane h = absurd h
fine_found files named old new finding.Unread is sound sane h =
    absurd (sane (unread_rose old new named h))
fine_found files named old new (finding.BadSetup error) is sound sane h =
    absurd (not_both (setup_for named.command) files named.setup h.text sound.setup error
    (setups named.command) sound.setup_is
    (subst (λ (o : Option Contents). Says (setup_for named.command) o named.setup h.text (Err error))
    is h.says))
fine_found files named old new (finding.BadText error) is sound sane h =
    absurd (no_text files old new named error is sound h)
fine_found files named old new finding.Checked is sound sane h = refl
fine_found files named old new (finding.Ran rings setup report forwards) is sound sane h =
    fine_report files old new named report is sound h.0.headline
    (none_rose (faults_in report.cpus) old.read_faults new.read_faults sane h.1.rose)
fine_found files named old new (finding.Sent setup sending) is sound sane h =
    fine_sending files old new named setup sending is sound h.0
    (none_rose (fault_at sending.end) old.read_faults new.read_faults sane h.1.rose)

-- a fault of saving or printing was counted
failed_count : (found : CommandResult) (status : Status) (old new : StoreSeen) (before after : SinkSeen)
    → IsFailed found status old new before after
    → (RoseBy 1 old.save_faults new.save_faults → ⊥) → (RoseBy 1 before.faults after.faults → ⊥) → ⊥
failed_count found status old new before after f saves prints = by f.cause where
  by : (0 < marked f.missed) ⊎ (f.printed ≡ false) → ⊥
  by (inl some) = saves (rose_less 1 (marked f.missed) old.save_faults new.save_faults
      (omega (arith, some)) f.counted)
  by (inr unsaid) = prints (unprinted before after (lines_of found) f.printed unsaid f.lines)

pub complete_of : (command : Option Named) (outcome : Outcome) (old new : StoreSeen)
    (before after : SinkSeen)
    → Tells command outcome old new before after
    → IsComplete command old new before after outcome.status
complete_of command outcome old new before after t = λ files named held is sound sane. inl
    (by files named held is sound sane t.concludes.ended) where
      by : (files : Contents) (named : Named) → old.held ≡ Some files → command ≡ Some named
          → IsSound files named → NothingFails old new before after
          → IsDone t.finding outcome.status t.read new before after
          ⊎ IsFailed t.finding outcome.status t.read new before after
          → outcome.status ≡ statuses.Fine
      by files named held is sound sane (inl d) =
          d.status_is ∙ fine_found files named old t.read t.finding held sound
          (λ rose. sane.reads (subst (λ n. RoseBy 1 old.read_faults n)
          (ap (λ (s : StoreSeen). s.read_faults) (sym t.concludes.touches.same)) rose))
          (subst (λ (c : Option Named). IsFound c old t.read t.finding) is t.found)
      by files named held is sound sane (inr f) =
          absurd (failed_count t.finding outcome.status t.read new before after f
          (λ rose. sane.saves
          (subst (λ n. RoseBy 1 n new.save_faults) (saves_same old t.read t.reads) rose))
          sane.prints)
