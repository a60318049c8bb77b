-- The outcome of reading a text.
use Rattle.std.specs.Prelude.{◌≡◌, ℕ, List, [], ◌∷◌, ◌++◌, Bool, false, if◌then◌else◌, Option}
use Rattle.std.specs.Prelude.{Result}
use Rattle.std.specs.Prelude.{Err}
use Rattle.setup_text.specs.declared.lines.Line.{Line}
use Rattle.setup_text.specs.Answers.{is_setup_want, is_text_want}
use Rattle.setup_text.specs.Schedules.{schedule_of}
use Rattle.setup_text.specs.Setups.{setup_of}
use Rattle.setup_text.specs.declared.commands.Command.{Command}
use Rattle.setup_text.specs.declared.setup_error.SetupError.{SetupError}
use Rattle.setup_text.specs.declared.setups.Setup.{Setup}
use Rattle.setup_text.specs.declared.text_error.TextError.{TextError}
use Rattle.tap_outside.specs.Contents.{Contents}
use Rattle.tap_outside.specs.Seen.{Entry, StoreSeen}
use Rattle.tap_reading.specs.Fronts.{CantRead, IsTextOf, RanOut, ReadTexts, text_entry}
use Rattle.tap_reading.specs.declared.stops.LoadError.{LoadError}
use Rattle.tap_reading.specs.declared.stops.LoadError.TheVariants as stops
use Rattle.tap_reading.specs.declared.texts.Unread.{Unread}
use Rattle.tap_reading.specs.declared.texts.Unread.TheVariants as unread

-- this text is one under a name, and this is what a reader of texts says about it
pub record Says {A : Type 0} (reader : List ℕ → A) (held : Option Contents) (name text : List ℕ)
    (answer : A) : Type 0 where
  pub read : IsTextOf held name text
  pub is : reader text ≡ answer

-- a text was read, by one source of its name and by nothing else, no read failed, and a reader of
-- texts says this about it
pub record ReadsAs {A : Type 0} (reader : List ℕ → A) (old new : StoreSeen) (name : List ℕ)
    (answer : A) : Type 0 where
  pub text : List ℕ
  pub texts : ReadTexts old new (text_entry name text ∷ [])
  pub says : Says reader old.held name text answer

-- the reader of setups for a command
abbrev pub setup_for : Command → List ℕ → Result Setup SetupError
setup_for command text = setup_of text command

-- the reader of schedules for these numbers of CPUs and members
abbrev pub schedule_for : ℕ → ℕ → List ℕ → Result (List Line) TextError
schedule_for cpus members text = schedule_of cpus members text

-- after these texts the one under a name was read without a fault, and the reader refuses it, for
-- a fault of the text
pub record Refuses {A E : Type 0} (reader : List ℕ → Result A E) (wanted : E → Bool)
    (before : List Entry) (old new : StoreSeen) (name : List ℕ) (error : E) : Type 0 where
  pub text : List ℕ
  pub texts : ReadTexts old new (before ++ text_entry name text ∷ [])
  pub says : Says reader old.held name text (Err error)
  pub not_memory : wanted error ≡ false

-- why a setup isn't there, and the store after it: it can't be read, or no read failed and each
-- source that was opened is closed
abbrev pub StopsAtSetup : Command → StoreSeen → StoreSeen → List ℕ → LoadError → Type 0
StopsAtSetup command old new name stops.Unread = CantRead old new name
StopsAtSetup command old new name (stops.Setup error) =
    Refuses (setup_for command) is_setup_want [] old new name error
StopsAtSetup command old new name (stops.Text error) = ⊥
StopsAtSetup command old new name stops.Memory = RanOut old new

-- the same for another text
abbrev pub StopsAtText : {A : Type 0} → (List ℕ → Result A TextError)
    → StoreSeen → StoreSeen → List ℕ → LoadError → Type 0
StopsAtText reader old new name stops.Unread = CantRead old new name
StopsAtText reader old new name (stops.Setup error) = ⊥
StopsAtText reader old new name (stops.Text error) =
    Refuses reader is_text_want [] old new name error
StopsAtText reader old new name stops.Memory = RanOut old new

-- ---- how a fault ends a command

abbrev pub stop_of_unread : Unread → LoadError
stop_of_unread unread.Failed = stops.Unread
stop_of_unread unread.Memory = stops.Memory

abbrev pub stop_of_setup : SetupError → LoadError
stop_of_setup error = if is_setup_want error then stops.Memory else stops.Setup error

abbrev pub stop_of_text : TextError → LoadError
stop_of_text error = if is_text_want error then stops.Memory else stops.Text error
