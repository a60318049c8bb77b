-- What the texts under the two names say: a setup with its filter, and a reader; and what stops the
-- program there. The texts are read one after another, each once: the reader's text first, which
-- says whether the setup has to be one of TPACKET_V2, then the setup and then its filter. The
-- reader's text is accepted last, for the setup.
use Rattle.std.specs.Prelude.{◌≡◌, ◌⊎◌, ℕ, false, List, [], ◌∷◌, length, Option, None, Some, Result}
use Rattle.std.specs.Prelude.{Ok, Err, if◌then◌else◌}
use Rattle.bpf_filter.specs.declared.insn.Insn.{Insn}
use Rattle.reader_pace.specs.Answers.{is_reader_want}
use Rattle.reader_pace.specs.ReaderWords.{says_slots}
use Rattle.reader_pace.specs.Readers.{reader_of}
use Rattle.reader_pace.specs.declared.reader_error.ReaderError.{ReaderError}
use Rattle.reader_pace.specs.declared.readers.PacedReader.{PacedReader}
use Rattle.setup_text.specs.Answers.{is_setup_want, is_text_want}
use Rattle.setup_text.specs.Filters.{filter_of}
use Rattle.setup_text.specs.declared.commands.Command.{Command}
use Rattle.setup_text.specs.declared.commands.Command.TheVariants.{Replay, Replay2}
use Rattle.setup_text.specs.declared.jobs.Job.{Job}
use Rattle.setup_text.specs.declared.setup_error.SetupError.{SetupError}
use Rattle.setup_text.specs.declared.setups.Setup.{Setup}
use Rattle.setup_text.specs.declared.text_error.TextError.{TextError}
use Rattle.tap_outside.specs.Seen.{StoreSeen}
use Rattle.tap_reading.specs.Fronts.{CantRead, IsTextOf, RanOut, ReadTexts, text_entry}
use Rattle.tap_reading.specs.Readers.{ReadsAs, Refuses, StopsAtText, setup_for}
use Rattle.tap_reading.specs.declared.stops.LoadError.{LoadError}
use Rattle.tap_reading.specs.declared.stops.LoadError.TheVariants as stops
use Rattle.tap_sizes.specs.SizeWords.{SizeNamed}
use Rattle.tp_layout.specs.Requests.{time_out_of}

-- the command by which the setup is accepted: where the reader's text says `slots` it is `replay2`
abbrev pub command_for : List ℕ → Command
command_for text = if says_slots text then Replay2 else Replay

-- the reader of readers' texts, for the CPUs and the time-out of a setup
abbrev pub reader_for : Setup → List ℕ → Result PacedReader ReaderError
reader_for setup text = reader_of (length setup.cpus) (time_out_of setup.shape) text

-- ---- what is accepted

-- the text of a name was read
pub record IsTextRead (old new : StoreSeen) (name text : List ℕ) : Type 0 where
  pub texts : ReadTexts old new (text_entry name text ∷ [])
  pub text_is : IsTextOf old.held name text

-- the reader's text was read, and then the setup, which is accepted by the command for that text
pub record IsSetupRead (old new : StoreSeen) (named : SizeNamed) (text : List ℕ) (setup : Setup)
    : Type 0 where
  pub between : StoreSeen
  pub reader_is : IsTextRead old between named.reader text
  pub setup_is : ReadsAs (setup_for (command_for text)) between new named.setup (Ok setup)

-- so was the filter, if there is one
abbrev pub IsProgramRead : StoreSeen → StoreSeen → Option (List ℕ) → Option (List Insn) → Type 0
IsProgramRead old new None None = new ≡ old
IsProgramRead old new (Some name) (Some program) = ReadsAs filter_of old new name (Ok program)
IsProgramRead old new name program = ⊥

-- the reader's text, setup and then filter
pub record IsJobRead (old new : StoreSeen) (named : SizeNamed) (text : List ℕ) (job : Job)
    : Type 0 where
  pub between : StoreSeen
  pub setup_is : IsSetupRead old between named text job.setup
  pub program_is : IsProgramRead between new job.setup.filter job.program

-- and the reader's text is accepted too
pub record IsSizeAsked (old new : StoreSeen) (named : SizeNamed) (job : Job) (reader : PacedReader)
    : Type 0 where
  pub text : List ℕ
  pub job_is : IsJobRead old new named text job
  pub reader_is : reader_for job.setup text ≡ Ok reader

-- ---- what is refused, all texts before it being accepted, and the reader's text read

pub record HasBadSetup (old new : StoreSeen) (named : SizeNamed) (error : SetupError)
    : Type 0 where
  pub between : StoreSeen
  pub text : List ℕ
  pub reader_is : IsTextRead old between named.reader text
  pub refused :
      Refuses (setup_for (command_for text)) is_setup_want [] between new named.setup error

pub record HasBadFilter (old new : StoreSeen) (named : SizeNamed) (error : TextError)
    : Type 0 where
  pub between : StoreSeen
  pub text : List ℕ
  pub setup : Setup
  pub setup_is : IsSetupRead old between named text setup
  pub name : List ℕ
  pub names : setup.filter ≡ Some name
  pub refused : Refuses filter_of is_text_want [] between new name error

pub record HasBadReader (old new : StoreSeen) (named : SizeNamed) (error : ReaderError)
    : Type 0 where
  pub text : List ℕ
  pub job : Job
  pub job_is : IsJobRead old new named text job
  pub refused : reader_for job.setup text ≡ Err error
  pub not_memory : is_reader_want error ≡ false

-- ---- what can't be read, all texts before it being read, and setup and filter accepted

pub record CantReadSetup (old new : StoreSeen) (named : SizeNamed) : Type 0 where
  pub between : StoreSeen
  pub text : List ℕ
  pub reader_is : IsTextRead old between named.reader text
  pub unread : CantRead between new named.setup

pub record CantReadFilter (old new : StoreSeen) (named : SizeNamed) : Type 0 where
  pub between : StoreSeen
  pub text : List ℕ
  pub setup : Setup
  pub setup_is : IsSetupRead old between named text setup
  pub name : List ℕ
  pub names : setup.filter ≡ Some name
  pub unread : CantRead between new name

-- the reader's text, the setup or the filter
abbrev pub CantReadText : StoreSeen → StoreSeen → SizeNamed → Type 0
CantReadText old new named =
    CantRead old new named.reader ⊎ (CantReadSetup old new named ⊎ CantReadFilter old new named)

-- ---- what stops the program before all texts are read

-- why there is no filter, if one is named
abbrev pub StopsAtFilter : StoreSeen → StoreSeen → Option (List ℕ) → LoadError → Type 0
StopsAtFilter old new None stop = ⊥
StopsAtFilter old new (Some name) stop = StopsAtText filter_of old new name stop

-- why there are no setup and filter
abbrev pub StopsAtJob : StoreSeen → StoreSeen → SizeNamed → LoadError → Type 0
StopsAtJob old new named stops.Unread = CantReadText old new named
StopsAtJob old new named (stops.Setup error) = HasBadSetup old new named error
StopsAtJob old new named (stops.Text error) = HasBadFilter old new named error
StopsAtJob old new named stops.Memory = RanOut old new
