-- The names that a command reads and saves are meant, if its setup is accepted.
use Rattle.std.proofs.Common.{◌≡◌, ℕ, Bool, List, [], ◌∷◌, ◌++◌, Option, None, Some, refl, sym}
use Rattle.std.proofs.Common.{subst}
use Rattle.std.specs.Prelude.{IsTrue, IfSome, Result, Ok, Err, map, option_map, option_to_list, All}
use Rattle.std.specs.List.{AllByRecursion}
use Rattle.std.proofs.lemmas.List.Elements.{All-from_recursion}
use Rattle.setup_text.specs.declared.cpu_setups.CpuSetup.{CpuSetup}
use Rattle.setup_text.specs.declared.setup_error.SetupError.{SetupError}
use Rattle.setup_text.specs.declared.setups.Setup.{Setup}
use Rattle.tap_outside.specs.Contents.{Contents}
use Rattle.tap_reading.specs.Readers.{setup_for}
use Rattle.tap_engine.specs.Commands.{Named}
use Rattle.tap_engine.specs.Jobs.{HasSetup}
use Rattle.tap_engine.specs.Names.{AreMeant, filter_for, names_to_read, names_to_save, read_after}
use Rattle.tap_engine.specs.Names.{read_by, read_last, saved_by, saved_for, setup_held, ticks_for}
use Rattle.tap_running.proofs.TextLimits.{says_held, setups}
use Rattle.tap_running.proofs.MeantNames.{AllMeant, Untold, any_name, option_meant}

first_meant : (meant : List ℕ → Bool) (named : Named) (setup : Result Setup SetupError)
    → AllMeant meant (read_by named setup) → IsTrue (meant named.setup)
first_meant meant named (Err error) all = all.0
first_meant meant named (Ok setup) all = all.0

-- a command's setup is meant for reading
pub setup_meant : (held : Option Contents) (meant : List ℕ → Bool) (named : Named)
    → Untold held meant → AreMeant names_to_read (Some named) held meant
    → IsTrue (meant named.setup)
setup_meant None meant named untold all = untold named.setup refl
setup_meant (Some files) meant named untold all = first_meant meant named (setup_held files named)
    all

held_setup : (files : Contents) (named : Named) (text : List ℕ) (setup : Setup)
    → HasSetup (Some files) named text setup → setup_held files named ≡ Ok setup
held_setup files named text setup has =
    says_held (setup_for named.command) files named.setup text (Ok setup) (setups named.command) has

-- so are the names after it
pub after_meant : (held : Option Contents) (meant : List ℕ → Bool) (named : Named)
    (text : List ℕ) (setup : Setup)
    → Untold held meant → AreMeant names_to_read (Some named) held meant
    → HasSetup held named text setup
    → AllMeant meant (read_after named setup)
after_meant None meant named text setup untold all has = any_name meant _ (λ name. untold name refl)
after_meant (Some files) meant named text setup untold all has =
    (subst (λ (s : Result Setup SetupError). AllMeant meant (read_by named s))
    (held_setup files named text setup has) all).1

-- the filter, the moments, and what is read last
pub record AfterMeant (meant : List ℕ → Bool) (named : Named) (setup : Setup) : Type 0 where
  pub filter : IfSome (filter_for named.command setup) (λ name. IsTrue (meant name))
  pub ticks : IfSome (ticks_for named.command setup) (λ name. IsTrue (meant name))
  pub last : AllMeant meant (read_last named.command named.schedule setup)

pub names_meant : (held : Option Contents) (meant : List ℕ → Bool) (named : Named)
    (text : List ℕ) (setup : Setup)
    → Untold held meant → AreMeant names_to_read (Some named) held meant
    → HasSetup held named text setup
    → AfterMeant meant named setup
names_meant held meant named text setup untold all has =
    let filter = option_meant meant (filter_for named.command setup) _
    (after_meant held meant named text setup untold all has) in
    let ticks = option_meant meant (ticks_for named.command setup) _ filter.1 in
    record { filter = filter.0; ticks = ticks.0; last = ticks.1 }

-- and what is saved is meant for saving
pub outputs_meant : (held : Option Contents) (meant : List ℕ → Bool) (named : Named)
    (text : List ℕ) (setup : Setup)
    → Untold held meant → AreMeant names_to_save (Some named) held meant
    → HasSetup held named text setup
    → AllMeant meant (saved_for named.command setup)
outputs_meant None meant named text setup untold all has = any_name meant _ (λ name. untold name refl)
outputs_meant (Some files) meant named text setup untold all has =
    subst (λ (s : Result Setup SetupError). AllMeant meant (saved_by named.command s))
    (held_setup files named text setup has) all
