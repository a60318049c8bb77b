-- What a command needs, by the texts under its names: setup, filter, and then the moments or the
-- schedule.
use Rattle.std.specs.Prelude.{◌≡◌, ◌⊎◌, ℕ, true, List, [], ◌∷◌, length, ⊤, Option, None, Some}
use Rattle.std.specs.Prelude.{Result}
use Rattle.std.specs.Prelude.{Ok}
use Rattle.bpf_filter.specs.declared.insn.Insn.{Insn}
use Rattle.setup_text.specs.declared.lines.Line.{Line}
use Rattle.setup_text.specs.Answers.{is_setup_want, is_text_want}
use Rattle.setup_text.specs.Filters.{filter_of}
use Rattle.setup_text.specs.Moments.{moments_of}
use Rattle.made_captures.specs.Made.{made_lines}
use Rattle.setup_text.specs.declared.commands.Command.{Command}
use Rattle.setup_text.specs.declared.commands.Command.TheVariants.{Capture, Check, Forward, Make}
use Rattle.setup_text.specs.declared.commands.Command.TheVariants.{Replay, Replay2, Send}
use Rattle.setup_text.specs.declared.jobs.Job.{Job}
use Rattle.setup_text.specs.declared.setup_error.SetupError.{SetupError}
use Rattle.setup_text.specs.declared.setups.Setup.{Setup}
use Rattle.setup_text.specs.declared.text_error.TextError.{TextError}
use Rattle.tap_outside.specs.Contents.{Contents}
use Rattle.tap_outside.specs.Seen.{Entry, StoreSeen}
use Rattle.tap_reading.specs.Fronts.{CantRead, RanOut, ReadTexts, text_entry}
use Rattle.tap_reading.specs.Readers.{Refuses, Says, schedule_for, setup_for}
use Rattle.tap_reading.specs.declared.stops.LoadError.{LoadError}
use Rattle.tap_reading.specs.declared.stops.LoadError.TheVariants as stops
use Rattle.tap_running.specs.Texts.{CantReadNext, HasProgram}
use Rattle.tap_engine.specs.Commands.{Named, has_schedule}
use Rattle.tap_engine.specs.Given.{Texts, all_texts, first_texts}
use Rattle.tap_engine.specs.Names.{filter_for, ticks_for}
use Rattle.tap_running.specs.Texts.{CantReadNext, HasProgram}

-- ---- what is accepted

-- this text of the setup is accepted
abbrev pub HasSetup : Option Contents → Named → List ℕ → Setup → Type 0
HasSetup held named text setup = Says (setup_for named.command) held named.setup text (Ok setup)

pub record HasJob (held : Option Contents) (named : Named) (texts : Texts) (job : Job)
    : Type 0 where
  pub setup : HasSetup held named texts.setup job.setup
  pub program :
      HasProgram held (filter_for named.command job.setup) texts.filter job.program

-- so is this one of the moments; if none are read there are none
abbrev pub HasTicks : Option Contents → Option (List ℕ) → List ℕ → List ℕ → Type 0
HasTicks held None text moments = moments ≡ []
HasTicks held (Some name) text moments = Says moments_of held name text (Ok moments)

-- the reader of schedules for the CPUs and the members of a job
abbrev pub lines_for : Job → List ℕ → Result (List Line) TextError
lines_for job = schedule_for (length job.setup.cpus) job.setup.plan.members

-- so is this one of the schedule
abbrev pub HasSchedule : Option Contents → Named → Job → List ℕ → List Line → Type 0
HasSchedule held named job text lines =
    Says (lines_for job) held named.schedule text (Ok lines)

-- what a replay does line by line: the schedule of a `replay` or a `replay2`, or the one that
-- `make` makes itself
abbrev pub LinesFor : Command → Option Contents → Named → Job → List ℕ → List Line → Type 0
LinesFor Replay held named job text lines = HasSchedule held named job text lines
LinesFor Replay2 held named job text lines = HasSchedule held named job text lines
LinesFor Make held named job text lines =
    lines ≡ made_lines job.setup.count (length job.setup.cpus) job.setup.plan.members
LinesFor Check held named job text lines = ⊥
LinesFor Capture held named job text lines = ⊥
LinesFor Forward held named job text lines = ⊥
LinesFor Send held named job text lines = ⊥

abbrev pub HasLines : Option Contents → Named → Job → List ℕ → List Line → Type 0
HasLines held named job text lines = LinesFor named.command held named job text lines

-- a check ends when the texts were read, each once, and are accepted, the moments included
pub record IsChecked (old new : StoreSeen) (named : Named) : Type 0 where
  pub command : named.command ≡ Check
  pub texts : Texts
  pub job : Job
  pub job_is : HasJob old.held named texts job
  pub moments : List ℕ
  pub ticks : HasTicks old.held (ticks_for named.command job.setup) texts.last moments
  pub read_is : ReadTexts old new (all_texts named job.setup texts)

-- ---- what is refused; all texts before it were read, each once, and accepted, no read failed, and
-- nothing was read since

abbrev pub HasBadSetup : StoreSeen → StoreSeen → Named → SetupError → Type 0
HasBadSetup old new named error =
    Refuses (setup_for named.command) is_setup_want [] old new named.setup error

pub record HasBadFilter (old new : StoreSeen) (named : Named) (error : TextError) : Type 0 where
  pub setup : Setup
  pub text : List ℕ
  pub has : HasSetup old.held named text setup
  pub name : List ℕ
  pub names : filter_for named.command setup ≡ Some name
  pub refused :
      Refuses filter_of is_text_want (text_entry named.setup text ∷ []) old new name error

pub record HasBadTicks (old new : StoreSeen) (named : Named) (error : TextError) : Type 0 where
  pub job : Job
  pub texts : Texts
  pub has : HasJob old.held named texts job
  pub name : List ℕ
  pub names : ticks_for named.command job.setup ≡ Some name
  pub refused :
      Refuses moments_of is_text_want (first_texts named job.setup texts) old new name error

pub record HasBadSchedule (old new : StoreSeen) (named : Named) (error : TextError) : Type 0 where
  pub command : has_schedule named.command ≡ true
  pub job : Job
  pub texts : Texts
  pub has : HasJob old.held named texts job
  pub refused :
      Refuses (lines_for job) is_text_want (first_texts named job.setup texts) old new
      named.schedule error

abbrev pub HasBadText : StoreSeen → StoreSeen → Named → TextError → Type 0
HasBadText old new named error =
    HasBadFilter old new named error
    ⊎ (HasBadTicks old new named error ⊎ HasBadSchedule old new named error)

-- ---- what can't be read, all texts before it being accepted

pub record CantReadFilter (old new : StoreSeen) (named : Named) : Type 0 where
  pub setup : Setup
  pub text : List ℕ
  pub has : HasSetup old.held named text setup
  pub name : List ℕ
  pub names : filter_for named.command setup ≡ Some name
  pub unread : CantReadNext old new (text_entry named.setup text ∷ []) name

pub record CantReadTicks (old new : StoreSeen) (named : Named) : Type 0 where
  pub job : Job
  pub texts : Texts
  pub has : HasJob old.held named texts job
  pub name : List ℕ
  pub names : ticks_for named.command job.setup ≡ Some name
  pub unread : CantReadNext old new (first_texts named job.setup texts) name

pub record CantReadSchedule (old new : StoreSeen) (named : Named) : Type 0 where
  pub command : has_schedule named.command ≡ true
  pub job : Job
  pub texts : Texts
  pub has : HasJob old.held named texts job
  pub unread : CantReadNext old new (first_texts named job.setup texts) named.schedule

-- the setup, the filter, the moments or the schedule
abbrev pub CantReadText : StoreSeen → StoreSeen → Named → Type 0
CantReadText old new named =
    CantReadNext old new [] named.setup
    ⊎ (CantReadFilter old new named
    ⊎ (CantReadTicks old new named ⊎ CantReadSchedule old new named))

-- ---- what stops a command

-- the text that a run or a `send` needs after setup and filter was read and is accepted
abbrev pub HasLast : Command → Option Contents → Named → Job → List ℕ → Type 0
HasLast Check held named job text = ⊥
HasLast Make held named job text = ⊤
HasLast Replay held named job text = (lines : List Line) × HasSchedule held named job text lines
HasLast Replay2 held named job text = (lines : List Line) × HasSchedule held named job text lines
HasLast Capture held named job text =
    (moments : List ℕ) × HasTicks held job.setup.ticks text moments
HasLast Forward held named job text =
    (moments : List ℕ) × HasTicks held job.setup.ticks text moments
HasLast Send held named job text = ⊤

-- so were all its texts
pub record IsAsked (held : Option Contents) (named : Named) : Type 0 where
  pub job : Job
  pub texts : Texts
  pub job_is : HasJob held named texts job
  pub last : HasLast named.command held named job texts.last

-- setup and filter were read and are accepted, and nothing else was read
pub record IsLoaded (old new : StoreSeen) (named : Named) (texts : Texts) (job : Job)
    : Type 0 where
  pub job_is : HasJob old.held named texts job
  pub read_is : ReadTexts old new (first_texts named job.setup texts)

-- so were all its texts, the last one among them
pub record IsRead (old new : StoreSeen) (named : Named) (texts : Texts) (job : Job) : Type 0 where
  pub job_is : HasJob old.held named texts job
  pub read_is : ReadTexts old new (all_texts named job.setup texts)

-- a text can't be read, or is refused; or memory ran out: before all texts were accepted no read
-- had failed, and each source that was opened is closed
abbrev pub Stops : StoreSeen → StoreSeen → Named → LoadError → Type 0
Stops old new named stops.Unread = CantReadText old new named
Stops old new named (stops.Setup error) = HasBadSetup old new named error
Stops old new named (stops.Text error) = HasBadText old new named error
Stops old new named stops.Memory = RanOut old new ⊎ IsAsked old.held named
