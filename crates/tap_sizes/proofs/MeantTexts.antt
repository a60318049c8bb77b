-- The names that the program reads are meant, if its setup is accepted.
use Rattle.std.proofs.Common.{◌≡◌, ℕ, Bool, List, [], ◌∷◌, ◌++◌, Option, None, Some, refl, sym, ap, ◌∙◌, subst}
use Rattle.std.specs.Prelude.{All, IsTrue, IfSome, Result, Ok, Err, map, option_to_list}
use Rattle.std.specs.List.{AllByRecursion}
use Rattle.std.proofs.lemmas.List.Elements.{All-from_recursion}
use Rattle.reader_pace.specs.declared.paces.MoreFile.{MoreFile}
use Rattle.reader_pace.specs.declared.reader_error.ReaderError.{ReaderError}
use Rattle.reader_pace.specs.declared.readers.PacedReader.{PacedReader}
use Rattle.setup_text.specs.declared.commands.Command.{Command}
use Rattle.setup_text.specs.declared.setup_error.SetupError.{SetupError}
use Rattle.setup_text.specs.declared.setups.Setup.{Setup}
use Rattle.tap_outside.proofs.Kept.{held_kept}
use Rattle.tap_outside.specs.Contents.{Contents}
use Rattle.tap_outside.specs.Seen.{OnlyReads, StoreSeen}
use Rattle.tap_reading.specs.Fronts.{IsTextOf}
use Rattle.tap_reading.specs.Readers.{Says, setup_for}
use Rattle.tap_running.specs.Texts.{text_in}
use Rattle.tap_running.proofs.MeantNames.{AllMeant, Untold, any_name, captures_meant, option_meant}
use Rattle.tap_running.proofs.TextLimits.{same_answer, says_held, setups}
use Rattle.tap_sizes.specs.SizeNames.{AreMeantIn, IsRestMeant, more_names, size_names, size_setup_held}
use Rattle.tap_sizes.specs.SizeTexts.{IsSetupRead, command_for, reader_for}
use Rattle.tap_sizes.specs.SizeWords.{SizeNamed}
use Rattle.tap_sizes.proofs.Clean.{clean_texts}
use Rattle.tap_sizes.proofs.ReaderLimits.{commands, readers}

record AreBothMeant (meant : List ℕ → Bool) (named : SizeNamed) : Type 0 where
  reader : IsTrue (meant named.reader)
  setup : IsTrue (meant named.setup)

both_first : (meant : List ℕ → Bool) (files : Contents) (named : SizeNamed) (setup : Result Setup SetupError)
    → AllMeant meant (size_names files named setup) → AreBothMeant meant named
both_first meant files named (Err error) all = record { reader = all.0; setup = all.1.0 }
both_first meant files named (Ok setup) all = record { reader = all.0; setup = all.1.0 }

both_read : (held : Option Contents) (meant : List ℕ → Bool) (named : SizeNamed)
    → Untold held meant → AreMeantIn named held meant → AreBothMeant meant named
both_read None meant named untold all =
    record { reader = untold named.reader refl; setup = untold named.setup refl }
both_read (Some files) meant named untold all =
    both_first meant files named (size_setup_held files named) all

pub reader_meant : (held : Option Contents) (meant : List ℕ → Bool) (named : SizeNamed)
    → Untold held meant → AreMeantIn named held meant → IsTrue (meant named.reader)
reader_meant held meant named untold all = (both_read held meant named untold all).reader

pub setup_meant : (old new : StoreSeen) (named : SizeNamed) → Untold old.held old.to_read
    → AreMeantIn named old.held old.to_read → OnlyReads old new → IsTrue (new.to_read named.setup)
setup_meant old new named untold all only =
    subst (λ (store : StoreSeen). IsTrue (store.to_read named.setup)) (sym only.same)
    (both_read old.held old.to_read named untold all).setup

-- ---- the further files

both_meant : (meant : List ℕ → Bool) (names others : List (List ℕ)) → AllMeant meant (names ++ others)
    → AllMeant meant names × AllMeant meant others
both_meant meant [] others all = (tt, all)
both_meant meant (name ∷ names) others all =
    let rest = both_meant meant names others all.1 in ((all.0, rest.0), rest.1)

each_more : (meant : List ℕ → Bool) (more : List MoreFile) → AllMeant meant (map (λ file. file.file) more)
    → AllByRecursion (λ file. IsTrue (meant file.file)) more
each_more meant [] all = tt
each_more meant (file ∷ more) all = (all.0, each_more meant more all.1)

any_more : (meant : List ℕ → Bool) (more : List MoreFile) → ((name : List ℕ) → IsTrue (meant name))
    → AllByRecursion (λ file. IsTrue (meant file.file)) more
any_more meant [] any = tt
any_more meant (file ∷ more) any = (any file.file, any_more meant more any)

-- ---- all of them

record AreRestMeant (meant : List ℕ → Bool) (text : List ℕ) (setup : Setup) : Type 0 where
  filter : IfSome setup.filter (λ name. IsTrue (meant name))
  captures : All (λ cpu. IsTrue (meant cpu.file)) setup.cpus
  more :
      (reader : PacedReader) → reader_for setup text ≡ Ok reader
      → All (λ more. IsTrue (meant more.file)) reader.more

names_of : (files : Contents) (meant : List ℕ → Bool) (named : SizeNamed) (text said : List ℕ)
    (setup : Setup) → AreMeantIn named (Some files) meant
    → IsTextOf (Some files) named.reader text
    → Says (setup_for (command_for text)) (Some files) named.setup said (Ok setup)
    → AllMeant meant (size_names files named (Ok setup))
names_of files meant named text said setup all read has =
    subst (λ (s : Result Setup SetupError). AllMeant meant (size_names files named s))
    (ap (λ (c : Command). setup_for c (text_in files named.setup))
    (same_answer command_for files named.reader text commands read)
    ∙ says_held (setup_for (command_for text)) files named.setup said (Ok setup)
    (setups (command_for text)) has) all

rest_all : (held : Option Contents) (meant : List ℕ → Bool) (named : SizeNamed) (text said : List ℕ)
    (setup : Setup) → Untold held meant → AreMeantIn named held meant → IsTextOf held named.reader text
    → Says (setup_for (command_for text)) held named.setup said (Ok setup)
    → AreRestMeant meant text setup
rest_all None meant named text said setup untold all read has =
    let any : (name : List ℕ) → IsTrue (meant name) = λ name. untold name refl in record {
      filter = (option_meant meant setup.filter [] (any_name meant (option_to_list setup.filter ++ []) any)).0;
      captures = captures_meant meant setup.cpus (any_name meant (map (λ cpu. cpu.file) setup.cpus) any);
      more = λ reader says.
          All-from_recursion (λ (file : MoreFile). IsTrue (meant file.file)) reader.more
          (any_more meant reader.more any);
    }
rest_all (Some files) meant named text said setup untold all read has =
    let names = (names_of files meant named text said setup all read has).1.1 in
    let rest = option_meant meant setup.filter _ names in
    let both = both_meant meant (map (λ cpu. cpu.file) setup.cpus) _ rest.1 in
    record {
      filter = rest.0;
      captures = captures_meant meant setup.cpus both.0;
      more = λ reader says.
          All-from_recursion (λ (file : MoreFile). IsTrue (meant file.file)) reader.more
          (each_more meant reader.more
          (subst (λ (r : Result PacedReader ReaderError). AllMeant meant (more_names r))
          (same_answer (reader_for setup) files named.reader text (readers setup) read ∙ says) both.1));
    }

pub rest_meant : (old mid new : StoreSeen) (named : SizeNamed) (text : List ℕ) (setup : Setup)
    → Untold old.held old.to_read → AreMeantIn named old.held old.to_read
    → IsSetupRead old mid named text setup → OnlyReads old new → IsRestMeant new text setup
rest_meant old mid new named text setup untold all read only =
    let kept : read.between.held ≡ old.held =
    held_kept (clean_texts old read.between _ read.reader_is.texts).unfailed.only in
    let rest = rest_all old.held old.to_read named text read.setup_is.text setup untold all
    read.reader_is.text_is
    (subst (λ (o : Option Contents). Says (setup_for (command_for text)) o named.setup
    read.setup_is.text (Ok setup)) kept read.setup_is.says) in
    subst (λ (store : StoreSeen). IsRestMeant store text setup) (sym only.same) (record {
      filter = rest.filter;
      captures = rest.captures;
      more = rest.more;
    })
