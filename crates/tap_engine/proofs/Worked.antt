-- The outcome of a command's work, if its job is accepted.
use Rattle.std.proofs.Common.{◌≡◌, ℕ, Bool, true, false, List, [], ◌∷◌, ◌++◌, map, refl, sym, ap, ◌∙◌, subst, inl, inr}
use Rattle.std.proofs.Common.{Option, None, Some, append-nil}
use Rattle.std.specs.Prelude.{◌⊎◌, if◌then◌else◌, IfSome, IsTrue, All, Ok}
use Rattle.setup_text.specs.declared.lines.Line.{Line}
use Rattle.setup_text.specs.Setups.{request_fault}
use Rattle.setup_text.specs.Sound.{IsSetup}
use Rattle.setup_text.specs.declared.commands.Command.{Command}
use Rattle.setup_text.specs.declared.commands.Command.TheVariants.{Capture, Check, Forward, Make, Replay, Replay2, Send}
use Rattle.setup_text.specs.declared.jobs.Job.{Job}
use Rattle.run_reports.specs.declared.reports.RunReport.{RunReport}
use Rattle.setup_text.specs.declared.setups.Setup.{Setup}
use Rattle.tap_outside.specs.Contents.{Contents}
use Rattle.tap_outside.specs.Seen.{Entry, OnlyReads, StoreSeen}
use Rattle.slot_layout.specs.SlotShapes.{IsSlotShape}
use Rattle.run_reports.specs.declared.ring_kind.RingKind.TheVariants.{Blocks, Slots}
use Rattle.tp_layout.specs.Requests.{slot_fault, transmit_fault}
use Rattle.tp_layout.specs.declared.requests.RingRequest.{RingRequest}
use Rattle.tap_engine.specs.Commands.{Named, has_schedule, is_threaded, rings_of, sends}
use Rattle.tap_reading.specs.Fronts.{ReadTexts, text_entry}
use Rattle.tap_reading.specs.Readers.{ReadsAs, Says, setup_for}
use Rattle.tap_running.specs.Counts.{IsCounted}
use Rattle.tap_engine.specs.Findings.{IsFound, IsReported}
use Rattle.tap_running.specs.Captures.{fault_at}
use Rattle.tap_engine.specs.Given.{Texts, all_texts, first_texts, last_texts}
use Rattle.tap_running.specs.Texts.{named_entry}
use Rattle.tap_engine.specs.Jobs.{HasJob, HasLast, HasLines, HasSchedule, HasTicks, IsAsked}
use Rattle.tap_running.specs.Texts.{HasProgram}
use Rattle.tap_engine.specs.Jobs.{IsLoaded, IsRead, LinesFor, lines_for}
use Rattle.tap_engine.specs.inside.Loads.{ReadsOne}
use Rattle.tap_engine.specs.Names.{filter_for, first_file, read_last, ticks_for}
use Rattle.tap_engine.specs.Sendings.{IsSending}
use Rattle.tap_engine.specs.declared.findings.CommandResult.TheVariants as finding
use Rattle.tap_engine.specs.declared.sent_captures.Sending.{Sending}
use Rattle.tap_running.proofs.Counted.{counts_later}
use Rattle.tap_running.proofs.Stores.{held_same}
use Rattle.tap_running.proofs.TextOrder.{read_then}
use Rattle.tap_engine.proofs.Meant.{AfterMeant}
use Rattle.tap_running.proofs.MeantNames.{AllMeant, captures_meant}

-- ---- the names that are read last are meant

scheduled_last : (meant : List ℕ → Bool) (schedule : List ℕ) (setup : Setup) (command : Command)
    → has_schedule command ≡ true → AllMeant meant (read_last command schedule setup)
    → AllMeant meant (schedule ∷ map (λ cpu. cpu.file) setup.cpus)
scheduled_last meant schedule setup Replay is all = all
scheduled_last meant schedule setup Replay2 is all = all
scheduled_last meant schedule setup Check is all = cc
scheduled_last meant schedule setup Capture is all = cc
scheduled_last meant schedule setup Forward is all = cc
scheduled_last meant schedule setup Send is all = cc
scheduled_last meant schedule setup Make is all = cc

last_meant : (meant : List ℕ → Bool) (named : Named) (setup : Setup) (command : Command)
    → named.command ≡ command
    → AfterMeant meant named setup → AllMeant meant (read_last command named.schedule setup)
last_meant meant named setup command is all =
    subst (λ (c : Command). AllMeant meant (read_last c named.schedule setup)) is all.last

pub ticks_meant : (meant : List ℕ → Bool) (named : Named) (setup : Setup)
    → ticks_for named.command setup ≡ setup.ticks
    → AfterMeant meant named setup → IfSome setup.ticks (λ name. IsTrue (meant name))
ticks_meant meant named setup are all =
    subst (λ (ticks : Option (List ℕ)). IfSome ticks (λ name. IsTrue (meant name))) are all.ticks

pub schedule_meant : (meant : List ℕ → Bool) (named : Named) (setup : Setup)
    → has_schedule named.command ≡ true
    → AfterMeant meant named setup → IsTrue (meant named.schedule)
schedule_meant meant named setup is all =
    (scheduled_last meant named.schedule setup named.command is all.last).0

pub run_meant : (meant : List ℕ → Bool) (named : Named) (setup : Setup)
    → has_schedule named.command ≡ true
    → AfterMeant meant named setup → All (λ cpu. IsTrue (meant cpu.file)) setup.cpus
run_meant meant named setup is all = captures_meant meant setup.cpus
    (scheduled_last meant named.schedule setup named.command is all.last).1

threaded_last : (meant : List ℕ → Bool) (schedule : List ℕ) (setup : Setup) (command : Command)
    → is_threaded command ≡ true → AllMeant meant (read_last command schedule setup)
    → All (λ cpu. IsTrue (meant cpu.file)) setup.cpus
threaded_last meant schedule setup Capture is all = captures_meant meant setup.cpus all
threaded_last meant schedule setup Forward is all = captures_meant meant setup.cpus all
threaded_last meant schedule setup Check is all = cc
threaded_last meant schedule setup Replay is all = cc
threaded_last meant schedule setup Replay2 is all = cc
threaded_last meant schedule setup Send is all = cc
threaded_last meant schedule setup Make is all = cc

pub threaded_meant : (meant : List ℕ → Bool) (named : Named) (setup : Setup)
    → is_threaded named.command ≡ true
    → AfterMeant meant named setup → All (λ cpu. IsTrue (meant cpu.file)) setup.cpus
threaded_meant meant named setup is all =
    threaded_last meant named.schedule setup named.command is all.last

pub first_meant : (meant : List ℕ → Bool) (named : Named) (setup : Setup) → named.command ≡ Send
    → AfterMeant meant named setup → IsTrue (meant (first_file setup.cpus))
first_meant meant named setup is all = (last_meant meant named setup Send is all).0

-- ---- the ring of a `send` is a transmit ring

pub transmits : (command : Command) (setup : Setup) → command ≡ Send
    → request_fault command setup.request ≡ None
    → transmit_fault setup.request ≡ None
transmits command setup is ring = subst (λ (c : Command). request_fault c setup.request ≡ None) is
    ring

-- ---- what is found

pub ticks_are : (named : Named) (setup : Setup) → named.command ≡ Check
    → ticks_for named.command setup ≡ setup.ticks
ticks_are named setup is = ap (λ (c : Command). ticks_for c setup) is

threaded_moments : (command : Command) (setup : Setup) → is_threaded command ≡ true
    → ticks_for command setup ≡ setup.ticks
threaded_moments Capture setup is = refl
threaded_moments Forward setup is = refl
threaded_moments Check setup is = cc
threaded_moments Replay setup is = cc
threaded_moments Replay2 setup is = cc
threaded_moments Send setup is = cc
threaded_moments Make setup is = cc

pub threaded_ticks : (named : Named) (setup : Setup) → is_threaded named.command ≡ true
    → ticks_for named.command setup ≡ setup.ticks
threaded_ticks named setup is = threaded_moments named.command setup is

ticks_since : (start old : StoreSeen) (ticks : Option (List ℕ)) (text moments : List ℕ)
    → OnlyReads start old → HasTicks old.held ticks text moments
    → HasTicks start.held ticks text moments
ticks_since start old ticks text moments reads has =
    subst (λ (held : Option Contents). HasTicks held ticks text moments)
    (held_same start old reads) has

-- ---- all texts, the last one among them

-- the texts with this one as the last
abbrev pub and_last : Texts → List ℕ → Texts
and_last texts text = record texts { last = text }

job_still : (held : Option Contents) (named : Named) (texts : Texts) (text : List ℕ) (job : Job)
    → HasJob held named texts job → HasJob held named (and_last texts text) job
job_still held named texts text job has = record { setup = has.setup; program = has.program }

scheduled_last_text : (named : Named) (setup : Setup) (texts : Texts)
    → has_schedule named.command ≡ true
    → text_entry named.schedule texts.last ∷ [] ≡ last_texts named setup texts
scheduled_last_text named setup texts is =
    ap (λ (b : Bool). if b then text_entry named.schedule texts.last ∷ []
    else named_entry (ticks_for named.command setup) texts.last) (sym is)

not_scheduled : (command : Command) → is_threaded command ≡ true → has_schedule command ≡ false
not_scheduled Capture is = refl
not_scheduled Forward is = refl
not_scheduled Check is = cc
not_scheduled Replay is = cc
not_scheduled Replay2 is = cc
not_scheduled Send is = cc
not_scheduled Make is = cc

-- what a command without a schedule reads last
unscheduled : (named : Named) (setup : Setup) (texts : Texts)
    → has_schedule named.command ≡ false
    → named_entry (ticks_for named.command setup) texts.last ≡ last_texts named setup texts
unscheduled named setup texts is =
    ap (λ (b : Bool). if b then text_entry named.schedule texts.last ∷ []
    else named_entry (ticks_for named.command setup) texts.last) (sym is)

scheduled_read : (start old mid : StoreSeen) (named : Named) (texts : Texts) (job : Job)
    (text : List ℕ) → has_schedule named.command ≡ true → IsLoaded start old named texts job
    → ReadTexts old mid (text_entry named.schedule text ∷ [])
    → IsRead start mid named (and_last texts text) job
scheduled_read start old mid named texts job text is loaded last = record {
  job_is = job_still start.held named texts text job loaded.job_is;
  read_is = read_then start old mid (first_texts named job.setup texts)
      (last_texts named job.setup (and_last texts text)) loaded.read_is
      (subst (λ (entries : List Entry). ReadTexts old mid entries)
      (scheduled_last_text named job.setup (and_last texts text) is) last);
}

ticked_read : (start old mid : StoreSeen) (named : Named) (texts : Texts) (job : Job)
    (text : List ℕ) → has_schedule named.command ≡ false
    → ticks_for named.command job.setup ≡ job.setup.ticks → IsLoaded start old named texts job
    → ReadTexts old mid (named_entry job.setup.ticks text)
    → IsRead start mid named (and_last texts text) job
ticked_read start old mid named texts job text is are loaded last = record {
  job_is = job_still start.held named texts text job loaded.job_is;
  read_is = read_then start old mid (first_texts named job.setup texts)
      (last_texts named job.setup (and_last texts text)) loaded.read_is
      (subst (λ (entries : List Entry). ReadTexts old mid entries)
      (ap (λ (name : Option (List ℕ)). named_entry name text) (sym are)
      ∙ unscheduled named job.setup (and_last texts text) is) last);
}

-- a command that reads none
none_last : (named : Named) (setup : Setup) (texts : Texts) → last_texts named setup texts ≡ []
    → first_texts named setup texts ≡ all_texts named setup texts
none_last named setup texts none =
    sym (ap (λ (last : List Entry). first_texts named setup texts ++ last) none
    ∙ append-nil (first_texts named setup texts))

last_by : (named : Named) (setup : Setup) (texts : Texts) (command : Command)
    → named.command ≡ command
    → (if has_schedule command then text_entry named.schedule texts.last ∷ []
    else named_entry (ticks_for command setup) texts.last) ≡ [] → last_texts named setup texts ≡ []
last_by named setup texts command is none =
    ap (λ (c : Command). if has_schedule c then text_entry named.schedule texts.last ∷ []
    else named_entry (ticks_for c setup) texts.last) is ∙ none

pub made_read : (start old : StoreSeen) (named : Named) (texts : Texts) (job : Job)
    → named.command ≡ Make → IsLoaded start old named texts job → IsRead start old named texts job
made_read start old named texts job is loaded = record {
  job_is = loaded.job_is;
  read_is = subst (λ (entries : List Entry). ReadTexts start old entries)
      (none_last named job.setup texts (last_by named job.setup texts Make is refl)) loaded.read_is;
}

send_read : (start old : StoreSeen) (named : Named) (texts : Texts) (job : Job)
    → named.command ≡ Send → IsLoaded start old named texts job → IsRead start old named texts job
send_read start old named texts job is loaded = record {
  job_is = loaded.job_is;
  read_is = subst (λ (entries : List Entry). ReadTexts start old entries)
      (none_last named job.setup texts (last_by named job.setup texts Send is refl)) loaded.read_is;
}

-- setup and filter, one after the other
pub loads_both : (old mid new : StoreSeen) (named : Named) (job : Job) (name : Option (List ℕ))
    → name ≡ filter_for named.command job.setup
    → ReadsAs (setup_for named.command) old mid named.setup (Ok job.setup)
    → ReadsOne mid new name (λ text. HasProgram mid.held name text job.program)
    → (texts : Texts) × IsLoaded old new named texts job
loads_both old mid new named job name is first filter =
    let held = held_same old mid first.texts.unfailed.only in (
      record { setup = first.text; filter = filter.text; last = [] },
      record {
        job_is = record {
          setup = first.says;
          program = subst (λ (n : Option (List ℕ)). HasProgram old.held n filter.text job.program) is
              (subst (λ (o : Option Contents). HasProgram o name filter.text job.program) held
              filter.has);
        };
        read_is = read_then old mid new (text_entry named.setup first.text ∷ [])
            (named_entry (filter_for named.command job.setup) filter.text) first.texts
            (subst (λ (n : Option (List ℕ)). ReadTexts mid new (named_entry n filter.text)) is
            filter.read_is);
      },
    )

-- ---- what is found

check_unscheduled : (command : Command) → command ≡ Check → has_schedule command ≡ false
check_unscheduled command is = ap has_schedule is

pub checks : (start old new : StoreSeen) (named : Named) (texts : Texts) (job : Job)
    (moments : List ℕ) → named.command ≡ Check → IsLoaded start old named texts job
    → ReadsOne old new job.setup.ticks (λ text. HasTicks old.held job.setup.ticks text moments)
    → IsFound (Some named) start new finding.Checked
checks start old new named texts job moments is loaded one =
    let read = ticked_read start old new named texts job one.text (check_unscheduled named.command is)
    (ticks_are named job.setup is) loaded one.read_is in
    record {
      command = is;
      texts = and_last texts one.text;
      job = job;
      job_is = read.job_is;
      moments = moments;
      ticks = subst (λ (name : Option (List ℕ)). HasTicks start.held name one.text moments)
          (sym (ticks_are named job.setup is)) (ticks_since start old job.setup.ticks one.text moments
          loaded.read_is.unfailed.only one.has);
      read_is = read.read_is;
    }

pub sent_found : (start old new : StoreSeen) (named : Named) (texts : Texts) (job : Job)
    (sending : Sending) → named.command ≡ Send → IsLoaded start old named texts job
    → IsSending old new job.setup sending → IsCounted old new (fault_at sending.end)
    → IsFound (Some named) start new (finding.Sent job.setup sending)
sent_found start old new named texts job sending is loaded sent faults =
    let read = send_read start old named texts job is loaded in (
      record {
        command = is;
        texts = texts;
        job = job;
        job_is = loaded.job_is;
        setup_is = refl;
        read = old;
        read_is = read.read_is;
        sending_is = sent;
      },
      counts_later (fault_at sending.end) start old new loaded.read_is.unfailed faults,
    )

-- ---- what was asked for, if memory ran out

pub made_asked : (held : Option Contents) (named : Named) (texts : Texts) (job : Job)
    → named.command ≡ Make → HasJob held named texts job → IsAsked held named
made_asked held named texts job is has =
    record {
      job = job;
      texts = texts;
      job_is = has;
      last = subst (λ (c : Command). HasLast c held named job texts.last) (sym is) tt;
    }

pub send_asked : (held : Option Contents) (named : Named) (texts : Texts) (job : Job)
    → named.command ≡ Send → HasJob held named texts job → IsAsked held named
send_asked held named texts job is has =
    record {
      job = job;
      texts = texts;
      job_is = has;
      last = subst (λ (c : Command). HasLast c held named job texts.last) (sym is) tt;
    }

threaded_texts : (held : Option Contents) (named : Named) (job : Job) (text moments : List ℕ)
    (command : Command) → is_threaded command ≡ true
    → HasTicks held job.setup.ticks text moments → HasLast command held named job text
threaded_texts held named job text moments Capture is ticks = (moments, ticks)
threaded_texts held named job text moments Forward is ticks = (moments, ticks)
threaded_texts held named job text moments Check is ticks = cc
threaded_texts held named job text moments Replay is ticks = cc
threaded_texts held named job text moments Replay2 is ticks = cc
threaded_texts held named job text moments Send is ticks = cc
threaded_texts held named job text moments Make is ticks = cc

threaded_asked : (held : Option Contents) (named : Named) (texts : Texts) (job : Job)
    (text moments : List ℕ) → is_threaded named.command ≡ true → HasJob held named texts job
    → HasTicks held job.setup.ticks text moments → IsAsked held named
threaded_asked held named texts job text moments is has ticks =
    record {
      job = job;
      texts = and_last texts text;
      job_is = job_still held named texts text job has;
      last = threaded_texts held named job text moments named.command is ticks;
    }

scheduled_texts : (held : Option Contents) (named : Named) (job : Job) (text : List ℕ)
    (lines : List Line) (command : Command) → has_schedule command ≡ true
    → HasSchedule held named job text lines → HasLast command held named job text
scheduled_texts held named job text lines Replay is schedule = (lines, schedule)
scheduled_texts held named job text lines Replay2 is schedule = (lines, schedule)
scheduled_texts held named job text lines Check is schedule = cc
scheduled_texts held named job text lines Capture is schedule = cc
scheduled_texts held named job text lines Forward is schedule = cc
scheduled_texts held named job text lines Send is schedule = cc
scheduled_texts held named job text lines Make is schedule = cc

replay_asked : (held : Option Contents) (named : Named) (texts : Texts) (job : Job)
    (text : List ℕ) (lines : List Line) → has_schedule named.command ≡ true
    → HasJob held named texts job → HasSchedule held named job text lines → IsAsked held named
replay_asked held named texts job text lines is has schedule =
    record {
      job = job;
      texts = and_last texts text;
      job_is = job_still held named texts text job has;
      last = scheduled_texts held named job text lines named.command is schedule;
    }

scheduled_lines : (held : Option Contents) (named : Named) (job : Job) (text : List ℕ)
    (lines : List Line) (command : Command) → has_schedule command ≡ true
    → HasSchedule held named job text lines → LinesFor command held named job text lines
scheduled_lines held named job text lines Replay is schedule = schedule
scheduled_lines held named job text lines Replay2 is schedule = schedule
scheduled_lines held named job text lines Check is schedule = cc
scheduled_lines held named job text lines Capture is schedule = cc
scheduled_lines held named job text lines Forward is schedule = cc
scheduled_lines held named job text lines Send is schedule = cc
scheduled_lines held named job text lines Make is schedule = cc

-- a `replay` and a `replay2` have one, and send nothing
pub replays_scheduled : (command : Command) → (command ≡ Replay) ⊎ (command ≡ Replay2)
    → has_schedule command ≡ true
replays_scheduled command (inl is) = ap has_schedule is
replays_scheduled command (inr is) = ap has_schedule is

pub replays_unsent : (command : Command) → (command ≡ Replay) ⊎ (command ≡ Replay2)
    → sends command ≡ false
replays_unsent command (inl is) = ap sends is
replays_unsent command (inr is) = ap sends is

-- the command that is named has a schedule, if the one that is carried out has
pub named_schedule : (command : Command) (named : Named) → has_schedule command ≡ true
    → named.command ≡ command → has_schedule named.command ≡ true
named_schedule command named is same =
    subst (λ (c : Command). has_schedule c ≡ true) (sym same) is

-- also by the name of its schedule
schedule_since : (start old : StoreSeen) (named : Named) (texts : Texts) (job : Job)
    (name text : List ℕ) (lines : List Line) → named.schedule ≡ name
    → IsLoaded start old named texts job
    → Says (lines_for job) old.held name text (Ok lines) → HasSchedule start.held named job text lines
schedule_since start old named texts job name text lines called loaded says =
    subst (λ (n : List ℕ). Says (lines_for job) start.held n text (Ok lines)) (sym called)
    (subst (λ (held : Option Contents). Says (lines_for job) held name text (Ok lines))
    (held_same start old loaded.read_is.unfailed.only) says)

pub asked_by_name : (start old mid : StoreSeen) (named : Named) (texts : Texts) (job : Job)
    (name : List ℕ) (lines : List Line) → has_schedule named.command ≡ true
    → named.schedule ≡ name → IsLoaded start old named texts job
    → ReadsAs (lines_for job) old mid name (Ok lines) → IsAsked start.held named
asked_by_name start old mid named texts job name lines is called loaded reads =
    replay_asked start.held named texts job reads.text lines is loaded.job_is
    (schedule_since start old named texts job name reads.text lines called loaded reads.says)

pub asked_in_time : (start old mid : StoreSeen) (named : Named) (texts : Texts) (job : Job)
    (moments : List ℕ) → is_threaded named.command ≡ true → IsLoaded start old named texts job
    → ReadsOne old mid job.setup.ticks (λ text. HasTicks old.held job.setup.ticks text moments)
    → IsAsked start.held named
asked_in_time start old mid named texts job moments is loaded one =
    threaded_asked start.held named texts job one.text moments is loaded.job_is
    (ticks_since start old job.setup.ticks one.text moments loaded.read_is.unfailed.only one.has)

-- what a report guarantees, whatever command with a schedule asks for it
abbrev pub IsWorthTo : Command → StoreSeen → StoreSeen → Job → List Line → RunReport → Type 0
IsWorthTo command mid new job lines report =
    (start : StoreSeen) (named : Named) (texts : Texts) → named.command ≡ command
    → IsRead start mid named texts job → HasLines start.held named job texts.last lines
    → IsReported start new named job.setup report

pub scheduled : (old mid new : StoreSeen) (command : Command) (job : Job) (name : List ℕ)
    (lines : List Line) (report : RunReport) → has_schedule command ≡ true
    → ReadsAs (lines_for job) old mid name (Ok lines) → IsWorthTo command mid new job lines report
    → (start : StoreSeen) (named : Named) (texts : Texts) → named.command ≡ command
    → named.schedule ≡ name → IsLoaded start old named texts job
    → IsReported start new named job.setup report
scheduled old mid new command job name lines report by_schedule reads worth start named texts is
    called loaded =
    let scheduled_is = named_schedule command named by_schedule is in
    let last = subst (λ (n : List ℕ). ReadTexts old mid (text_entry n reads.text ∷ [])) (sym called)
    reads.texts in
    worth start named (and_last texts reads.text) is
    (scheduled_read start old mid named texts job reads.text scheduled_is loaded last)
    (scheduled_lines start.held named job reads.text lines named.command scheduled_is
    (schedule_since start old named texts job name reads.text lines called loaded reads.says))

-- ---- what rings are made of

pub threaded_rings : (command : Command) → is_threaded command ≡ true → Blocks ≡ rings_of command
threaded_rings Capture is = refl
threaded_rings Forward is = refl
threaded_rings Check is = cc
threaded_rings Replay is = cc
threaded_rings Replay2 is = cc
threaded_rings Send is = cc
threaded_rings Make is = cc

slots_of : (command : Command) (request : RingRequest) → rings_of command ≡ Slots
    → request_fault command request ≡ None → slot_fault request ≡ None
slots_of Replay2 request is ring = ring
slots_of Replay request is ring = cc
slots_of Check request is ring = cc
slots_of Capture request is ring = cc
slots_of Forward request is ring = cc
slots_of Send request is ring = cc
slots_of Make request is ring = cc

pub slots_asked : (command : Command) (setup : Setup) → IsSetup setup
    → request_fault command setup.request ≡ None → rings_of command ≡ Slots
    → IsSlotShape setup.shape
slots_asked command setup sound ring is =
    subst (λ (request : RingRequest). slot_fault request ≡ None) (sym sound.shape)
    (slots_of command setup.request is ring)

-- and whatever command on threads asks for it
abbrev pub IsWorthTimed : StoreSeen → StoreSeen → Job → List ℕ → RunReport → Type 0
IsWorthTimed mid new job moments report =
    (start : StoreSeen) (named : Named) (texts : Texts) → is_threaded named.command ≡ true
    → IsRead start mid named texts job → HasTicks start.held job.setup.ticks texts.last moments
    → IsReported start new named job.setup report

pub timed : (old mid new : StoreSeen) (job : Job) (moments : List ℕ) (report : RunReport)
    → ReadsOne old mid job.setup.ticks (λ text. HasTicks old.held job.setup.ticks text moments)
    → IsWorthTimed mid new job moments report
    → (start : StoreSeen) (named : Named) (texts : Texts) → is_threaded named.command ≡ true
    → IsLoaded start old named texts job → IsReported start new named job.setup report
timed old mid new job moments report one worth start named texts is loaded =
    worth start named (and_last texts one.text) is
    (ticked_read start old mid named texts job one.text (not_scheduled named.command is)
    (threaded_moments named.command job.setup is) loaded one.read_is)
    (ticks_since start old job.setup.ticks one.text moments loaded.read_is.unfailed.only one.has)
