-- Which files the program reads.
use Rattle.std.specs.Prelude.{◌≡◌, ℕ, Bool, List, [], ◌∷◌, ◌++◌, map, option_to_list, ⊤, Option}
use Rattle.std.specs.Prelude.{None, Some, IsTrue, All, IfSome, Result, Ok, Err}
use Rattle.std.specs.List.{AllByRecursion}
use Rattle.reader_pace.specs.declared.reader_error.ReaderError.{ReaderError}
use Rattle.reader_pace.specs.declared.readers.PacedReader.{PacedReader}
use Rattle.setup_text.specs.declared.setup_error.SetupError.{SetupError}
use Rattle.setup_text.specs.declared.setups.Setup.{Setup}
use Rattle.tap_outside.specs.Contents.{Contents}
use Rattle.tap_outside.specs.Seen.{StoreSeen}
use Rattle.tap_reading.specs.Readers.{setup_for}
use Rattle.tap_running.specs.Texts.{text_in}
use Rattle.tap_sizes.specs.SizeTexts.{command_for, reader_for}
use Rattle.tap_sizes.specs.SizeWords.{SizeNamed}

-- the further files of the CPUs, if the reader's text is accepted
abbrev pub more_names : Result PacedReader ReaderError → List (List ℕ)
more_names (Err error) = []
more_names (Ok reader) = map (λ more. more.file) reader.more

-- only the reader's text and the setup if that isn't accepted; else the filter, the captures and
-- the further files too
abbrev pub size_names : Contents → SizeNamed → Result Setup SetupError → List (List ℕ)
size_names files named (Err error) = named.reader ∷ named.setup ∷ []
size_names files named (Ok setup) =
    named.reader ∷ named.setup
    ∷ (option_to_list setup.filter ++ (map (λ cpu. cpu.file) setup.cpus
    ++ more_names (reader_for setup (text_in files named.reader))))

-- the setup that the store holds, for the command by which the reader's text has it accepted; a
-- name that isn't held holds the empty text
abbrev pub size_setup_held : Contents → SizeNamed → Result Setup SetupError
size_setup_held files named =
    setup_for (command_for (text_in files named.reader)) (text_in files named.setup)

-- each of the names is meant for reading; nothing is required of a store that doesn't report what
-- it holds
abbrev pub AreMeantIn : SizeNamed → Option Contents → (List ℕ → Bool) → Type 0
AreMeantIn named None meant = ⊤
AreMeantIn named (Some files) meant =
    AllByRecursion (λ name. IsTrue (meant name))
    (size_names files named (size_setup_held files named))

abbrev pub AreMeantToSize : Option SizeNamed → StoreSeen → Type 0
AreMeantToSize None store = ⊤
AreMeantToSize (Some named) store = AreMeantIn named store.held store.to_read

-- the further files of a reader's text are meant for reading
abbrev pub AreMoreMeant : StoreSeen → List ℕ → Setup → Type 0
AreMoreMeant store text setup =
    (reader : PacedReader) → reader_for setup text ≡ Ok reader
    → All (λ more. IsTrue (store.to_read more.file)) reader.more

-- what is read after the setup is meant for reading
pub record IsRestMeant (store : StoreSeen) (text : List ℕ) (setup : Setup) : Type 0 where
  pub filter : IfSome setup.filter (λ name. IsTrue (store.to_read name))
  pub captures : All (λ cpu. IsTrue (store.to_read cpu.file)) setup.cpus
  pub more : AreMoreMeant store text setup
