-- What is found, and the outcome of a text that stops a command, also if more was read before.
use Rattle.std.proofs.Common.{◌≡◌, ℕ, Bool, false, true, List, [], ◌∷◌, ◌++◌, length, inl, inr}
use Rattle.std.proofs.Common.{refl, sym, ap, ◌∙◌, Option, None, Some, subst}
use Rattle.std.specs.Prelude.{◌⊎◌, is_some, IfOk, IfErr, OnErr, Result, Ok, Err}
use Rattle.capture_file.specs.declared.cpu_end.CpuEnd.{CpuEnd}
use Rattle.frame_view.specs.declared.memory.Memory.{Memory}
use Rattle.setup_text.specs.Answers.{is_text_want}
use Rattle.setup_text.specs.Filters.{filter_of}
use Rattle.setup_text.specs.Moments.{moments_of}
use Rattle.setup_text.specs.declared.commands.Command.{Command}
use Rattle.setup_text.specs.declared.commands.Command.TheVariants.{Capture, Check, Forward, Make, Replay, Replay2, Send}
use Rattle.setup_text.specs.declared.jobs.Job.{Job}
use Rattle.run_reports.specs.declared.reports.Forwards.{Forwards}
use Rattle.run_reports.specs.declared.reports.RunReport.{RunReport}
use Rattle.setup_text.specs.declared.setups.Setup.{Setup}
use Rattle.setup_text.specs.declared.text_error.TextError.{TextError}
use Rattle.tap_outside.specs.Contents.{Contents}
use Rattle.tap_outside.specs.Seen.{Entry, OnlyReads, StoreSeen}
use Rattle.tap_outside.proofs.Taken.{none_open, none_open_then}
use Rattle.tap_outside.specs.Counts.{RoseBy}
use Rattle.tap_reading.specs.Fronts.{CantRead, RanOut, ReadTexts, text_entry}
use Rattle.tap_reading.specs.Readers.{Refuses, Says, StopsAtSetup, StopsAtText}
use Rattle.tap_reading.specs.declared.stops.LoadError.{LoadError}
use Rattle.tap_reading.specs.declared.stops.LoadError.TheVariants as stops
use Rattle.tap_saving.specs.Files.{names_from}
use Rattle.tap_engine.specs.Commands.{Named, has_schedule, sends}
use Rattle.tap_engine.specs.Findings.{IsFound, IsReady, IsReported, IsSentBy, command_result_of, names_of}
use Rattle.tap_engine.specs.Headline.{CapturesFor, IsHeadline, rules_for}
use Rattle.tap_engine.specs.Given.{Texts, first_texts}
use Rattle.tap_running.specs.Texts.{CantReadNext}
use Rattle.tap_engine.specs.Jobs.{CantReadText, HasSetup, IsAsked, IsLoaded, Stops}
use Rattle.tap_engine.specs.Jobs.{lines_for}
use Rattle.tap_engine.specs.Conclusions.{IsCut, IsSearched}
use Rattle.tap_engine.specs.declared.findings.CommandResult.{CommandResult}
use Rattle.tap_engine.specs.declared.findings.CommandResult.TheVariants as finding
use Rattle.tap_engine.specs.Names.{AreMeant, AreMeantToRead, AreMeantToSave, filter_for}
use Rattle.tap_engine.specs.Names.{names_to_read, saved_for, ticks_for}
use Rattle.tap_engine.proofs.Ends.{report_members}
use Rattle.tap_running.proofs.Stores.{held_same, rose_earlier, to_read_same, to_save_same}
use Rattle.tap_running.proofs.Stores.{unfailed_then}
use Rattle.tap_running.proofs.TextOrder.{read_none, read_then}
use Rattle.tap_running.proofs.MeantNames.{AllMeant, Untold}
use Rattle.tap_engine.proofs.Meant.{outputs_meant}
use Rattle.tap_running.proofs.TextOrder.{next_rose, ran_out_later, refuses_earlier, unread_next}

-- ---- why a text stops a command, from its start

pub at_setup : (old new : StoreSeen) (named : Named) (stop : LoadError)
    → StopsAtSetup named.command old new named.setup stop → Stops old new named stop
at_setup old new named stops.Unread h =
    inl (unread_next old old new [] named.setup (read_none old) h)
at_setup old new named (stops.Setup error) h = h
at_setup old new named (stops.Text error) h = absurd h
at_setup old new named stops.Memory h = inl h

pub at_filter : (old new : StoreSeen) (name : List ℕ) (stop : LoadError)
    → StopsAtText filter_of old new name stop
    → (start : StoreSeen) (named : Named) (text : List ℕ) (setup : Setup)
    → ReadTexts start old (text_entry named.setup text ∷ [])
    → HasSetup start.held named text setup → filter_for named.command setup ≡ Some name
    → Stops start new named stop
at_filter old new name stops.Unread h start named text setup texts has is =
    inr (inl (record {
      setup = setup;
      text = text;
      has = has;
      name = name;
      names = is;
      unread = unread_next start old new (text_entry named.setup text ∷ []) name texts h;
    }))
at_filter old new name (stops.Setup error) h start named text setup texts has is = absurd h
at_filter old new name (stops.Text error) h start named text setup texts has is =
    inl (record {
      setup = setup;
      text = text;
      has = has;
      name = name;
      names = is;
      refused = refuses_earlier filter_of is_text_want start old new
          (text_entry named.setup text ∷ []) name error texts h;
    })
at_filter old new name stops.Memory h start named text setup texts has is =
    inl (ran_out_later start old new (text_entry named.setup text ∷ []) texts h)

pub at_ticks : (old new : StoreSeen) (name : List ℕ) (stop : LoadError)
    → StopsAtText moments_of old new name stop
    → (start : StoreSeen) (named : Named) (texts : Texts) (job : Job)
    → IsLoaded start old named texts job
    → ticks_for named.command job.setup ≡ Some name → Stops start new named stop
at_ticks old new name stops.Unread h start named texts job loaded is =
    inr (inr (inl (record {
      job = job;
      texts = texts;
      has = loaded.job_is;
      name = name;
      names = is;
      unread = unread_next start old new (first_texts named job.setup texts) name loaded.read_is h;
    })))
at_ticks old new name (stops.Setup error) h start named texts job loaded is = absurd h
at_ticks old new name (stops.Text error) h start named texts job loaded is =
    inr (inl (record {
      job = job;
      texts = texts;
      has = loaded.job_is;
      name = name;
      names = is;
      refused = refuses_earlier moments_of is_text_want start old new
          (first_texts named job.setup texts) name error loaded.read_is h;
    }))
at_ticks old new name stops.Memory h start named texts job loaded is =
    inl (ran_out_later start old new (first_texts named job.setup texts) loaded.read_is h)

pub at_schedule : (old new : StoreSeen) (name : List ℕ) (job : Job) (stop : LoadError)
    → StopsAtText (lines_for job) old new name stop
    → (start : StoreSeen) (named : Named) (texts : Texts) → has_schedule named.command ≡ true
    → named.schedule ≡ name → IsLoaded start old named texts job → Stops start new named stop
at_schedule old new name job stops.Unread h start named texts command called loaded =
    inr (inr (inr (record {
      command = command;
      job = job;
      texts = texts;
      has = loaded.job_is;
      unread = unread_next start old new (first_texts named job.setup texts) named.schedule
          loaded.read_is (subst (λ (n : List ℕ). CantRead old new n) (sym called) h);
    })))
at_schedule old new name job (stops.Setup error) h start named texts command called loaded =
    absurd h
at_schedule old new name job (stops.Text error) h start named texts command called loaded =
    inr (inr (record {
      command = command;
      job = job;
      texts = texts;
      has = loaded.job_is;
      refused = refuses_earlier (lines_for job) is_text_want start old new
          (first_texts named job.setup texts) named.schedule error loaded.read_is
          (subst (λ (n : List ℕ). Refuses (lines_for job) is_text_want [] old new n error)
          (sym called) h);
    }))
at_schedule old new name job stops.Memory h start named texts command called loaded =
    inl (ran_out_later start old new (first_texts named job.setup texts) loaded.read_is h)

-- what is meant for reading is meant then
pub meant_later : (old new : StoreSeen) (command : Option Named) → OnlyReads old new
    → AreMeantToRead command old → AreMeantToRead command new
meant_later old new command reads all =
    subst (λ (held : Option Contents). AreMeant names_to_read command held new.to_read)
    (sym (held_same old new reads))
    (subst (λ (meant : List ℕ → Bool). AreMeant names_to_read command old.held meant)
    (sym (to_read_same old new reads)) all)

-- ---- a text that can't be read

pub unread_rose : (old new : StoreSeen) (named : Named) → CantReadText old new named
    → RoseBy 1 old.read_faults new.read_faults
unread_rose old new named (inl setup) = next_rose old new [] named.setup setup
unread_rose old new named (inr (inl filter)) =
    next_rose old new (text_entry named.setup filter.text ∷ []) filter.name filter.unread
unread_rose old new named (inr (inr (inl ticks))) =
    next_rose old new (first_texts named ticks.job.setup ticks.texts) ticks.name ticks.unread
unread_rose old new named (inr (inr (inr schedule))) =
    next_rose old new (first_texts named schedule.job.setup schedule.texts) named.schedule
    schedule.unread

-- what is found if a text stops the command
pub found_of : (old new : StoreSeen) (named : Named) (answer : Result CommandResult LoadError)
    → IfOk answer (IsFound (Some named) old new) → IfErr answer (Stops old new named)
    → IfOk (command_result_of answer) (IsFound (Some named) old new)
found_of old new named (Ok found) h k = h
found_of old new named (Err stops.Unread) h k = k
found_of old new named (Err (stops.Setup error)) h k = k
found_of old new named (Err (stops.Text error)) h k = k
found_of old new named (Err stops.Memory) h k = tt

pub cut_of : (command : Option Named) (old new : StoreSeen) (named : Named)
    (answer : Result CommandResult LoadError) → command ≡ Some named
    → OnlyReads old new → IfErr answer (Stops old new named)
    → OnErr (command_result_of answer) (IsCut command old new)
cut_of command old new named (Ok found) is reads h = tt
cut_of command old new named (Err stops.Unread) is reads h = tt
cut_of command old new named (Err (stops.Setup error)) is reads h = tt
cut_of command old new named (Err (stops.Text error)) is reads h = tt
cut_of command old new named (Err stops.Memory) is reads h = record { reads = reads; cause = by h }
  where
    by : RanOut old new ⊎ IsAsked old.held named → RanOut old new
        ⊎ ((n : Named) × (command ≡ Some n) × IsAsked old.held n)
    by (inl out) = inl out
    by (inr asked) = inr (named, is, asked)

pub ready_of : (answer : Result CommandResult LoadError) → IfOk answer IsReady
    → IfOk (command_result_of answer) IsReady
ready_of (Ok found) h = h
ready_of (Err stops.Unread) h = tt
ready_of (Err (stops.Setup error)) h = tt
ready_of (Err (stops.Text error)) h = tt
ready_of (Err stops.Memory) h = tt

-- ---- what is saved of it is what the command saves

members_count : (old new : StoreSeen) (named : Named) (report : RunReport)
    (h : IsHeadline old new named report)
    → length report.members ≡ h.job.setup.plan.members
members_count old new named report h =
    report_members (rules_for named.command h.job) h.job h.bytes h.ends report h.report_is

run_saves : (command : Command) (held : Option Contents) (setup : Setup) (bytes : List (List ℕ))
    (ends : List CpuEnd)
    → CapturesFor command held setup bytes ends
    → saved_for command setup ≡ names_from setup (sends command) 0 setup.plan.members
run_saves Check held setup bytes ends h = absurd h
run_saves Make held setup bytes ends h = refl
run_saves Replay held setup bytes ends h = refl
run_saves Replay2 held setup bytes ends h = refl
run_saves Capture held setup bytes ends h = refl
run_saves Forward held setup bytes ends h = refl
run_saves Send held setup bytes ends h = absurd h

-- something was sent if the command sends
sent_where : (sent : Bool) (setup : Setup) (report : RunReport) (forwards : Option Forwards)
    → IsSentBy sent setup report forwards → sent ≡ is_some forwards
sent_where true setup report None h = absurd h
sent_where true setup report (Some forwards) h = refl
sent_where false setup report None h = refl
sent_where false setup report (Some forwards) h = absurd h

report_names : (old new : StoreSeen) (named : Named) (setup : Setup) (report : RunReport)
    (forwards : Option Forwards) → (h : IsReported old new named setup report)
    → IsSentBy (sends named.command) setup report forwards
    → saved_for named.command h.headline.job.setup
    ≡ names_from setup (is_some forwards) 0 (length report.members)
report_names old new named setup report forwards h sent =
    let head = h.headline in
    run_saves named.command old.held head.job.setup head.bytes head.ends head.captures
    ∙ ap (λ count. names_from head.job.setup (sends named.command) 0 count)
    (sym (members_count old new named report head))
    ∙ ap (λ (s : Setup). names_from s (sends named.command) 0 (length report.members)) h.setup_is
    ∙ ap (λ (sent : Bool). names_from setup sent 0 (length report.members))
    (sent_where (sends named.command) setup report forwards sent)

pub saves_meant : (old new : StoreSeen) (command : Option Named) (found : CommandResult)
    → Untold old.held old.to_save
    → AreMeantToSave command old → IsFound command old new found
    → AllMeant old.to_save (names_of found)
saves_meant old new None finding.NoCommand untold all h = tt
saves_meant old new None finding.Unread untold all h = absurd h
saves_meant old new None (finding.BadSetup error) untold all h = absurd h
saves_meant old new None (finding.BadText error) untold all h = absurd h
saves_meant old new None finding.Checked untold all h = absurd h
saves_meant old new None (finding.Ran rings setup report forwards) untold all h = absurd h
saves_meant old new None (finding.Sent setup sending) untold all h = absurd h
saves_meant old new (Some named) finding.NoCommand untold all h = absurd h
saves_meant old new (Some named) finding.Unread untold all h = tt
saves_meant old new (Some named) (finding.BadSetup error) untold all h = tt
saves_meant old new (Some named) (finding.BadText error) untold all h = tt
saves_meant old new (Some named) finding.Checked untold all h = tt
saves_meant old new (Some named) (finding.Ran rings setup report forwards) untold all h =
    let head = h.0.headline in
    subst (λ (names : List (List ℕ)). AllMeant old.to_save names)
    (report_names old new named setup report forwards h.0 h.2)
    (outputs_meant old.held old.to_save named head.texts.setup head.job.setup untold all
    head.job_is.setup)
saves_meant old new (Some named) (finding.Sent setup sending) untold all h =
    let sent = h.0 in
    subst (λ (s : Setup). AllMeant old.to_save (saved_for Send s)) sent.setup_is
    (subst (λ (c : Command). AllMeant old.to_save (saved_for c sent.job.setup)) sent.command
    (outputs_meant old.held old.to_save named sent.texts.setup sent.job.setup untold all
    sent.job_is.setup))

-- ---- when it was searched for

-- what stopped a command or was found is what the search found
pub searched : (command : Option Named) (old new : StoreSeen) (named : Named)
    (answer : Result CommandResult LoadError) → command ≡ Some named → OnlyReads old new
    → IfOk answer (IsFound (Some named) old new) → IfErr answer (Stops old new named)
    → IsSearched command old new (command_result_of answer)
searched command old new named answer is reads found stops = record {
  reads = reads;
  found = subst (λ (c : Option Named). IfOk (command_result_of answer) (IsFound c old new)) (sym is)
      (found_of old new named answer found stops);
  cut = cut_of command old new named answer is reads stops;
}

-- and what is saved of it is meant for saving
pub searched_meant : (old new : StoreSeen) (command : Option Named)
    (answer : Result CommandResult Memory) → Untold old.held old.to_save → AreMeantToSave command old
    → IsSearched command old new answer
    → IfOk answer (λ found. AllMeant new.to_save (names_of found))
searched_meant old new command (Err error) untold all h = tt
searched_meant old new command (Ok found) untold all h =
    subst (λ (meant : List ℕ → Bool). AllMeant meant (names_of found))
    (sym (to_save_same old new h.reads)) (saves_meant old new command found untold all h.found)
