-- Sound texts that the store holds aren't refused, and what is accepted is what they say.
use Rattle.std.proofs.Common.{◌≡◌, ℕ, List, Option, Some, sym, ◌∙◌, subst}
use Rattle.std.specs.Prelude.{Ok, Err}
use Rattle.reader_pace.specs.declared.reader_error.ReaderError.{ReaderError}
use Rattle.reader_pace.specs.declared.readers.PacedReader.{PacedReader}
use Rattle.setup_text.specs.Filters.{filter_of}
use Rattle.setup_text.specs.declared.commands.Command.{Command}
use Rattle.setup_text.specs.declared.jobs.Job.{Job}
use Rattle.setup_text.specs.declared.setup_error.SetupError.{SetupError}
use Rattle.setup_text.specs.declared.setups.Setup.{Setup}
use Rattle.setup_text.specs.declared.text_error.TextError.{TextError}
use Rattle.tap_outside.proofs.Kept.{held_kept}
use Rattle.tap_outside.specs.Contents.{Contents}
use Rattle.tap_outside.specs.Seen.{StoreSeen}
use Rattle.tap_reading.specs.Fronts.{IsTextOf}
use Rattle.tap_reading.specs.Readers.{Says, setup_for}
use Rattle.tap_running.specs.Texts.{IsSoundFilter, text_in}
use Rattle.tap_running.proofs.TextLimits.{filters, not_both, ok_err, ok_same, same_answer, same_value, says_held, setups}
use Rattle.tap_running.proofs.TextLimits.{sound_filter}
use Rattle.tap_sizes.specs.Complete.{IsSoundSize}
use Rattle.tap_sizes.specs.SizeTexts.{HasBadFilter, HasBadReader, HasBadSetup, IsJobRead, IsSetupRead, IsSizeAsked}
use Rattle.tap_sizes.specs.SizeTexts.{IsTextRead, command_for, reader_for}
use Rattle.tap_sizes.specs.SizeWords.{SizeNamed}
use Rattle.tap_sizes.proofs.Clean.{clean_setup, clean_texts}
use Rattle.tap_sizes.proofs.ReaderLimits.{commands, readers}

-- the setup is the one that the store holds
held_command : (files : Contents) (named : SizeNamed) (a b : StoreSeen) (text : List ℕ)
    → a.held ≡ Some files → IsTextRead a b named.reader text
    → command_for (text_in files named.reader) ≡ command_for text
held_command files named a b text held read =
    same_answer command_for files named.reader text commands
    (subst (λ (o : Option Contents). IsTextOf o named.reader text) held read.text_is)

-- and what a reader of setups says of it
said_held : (files : Contents) (named : SizeNamed) (sound : IsSoundSize files named) (a b : StoreSeen)
    (text : List ℕ) → a.held ≡ Some files → IsTextRead a b named.reader text
    → setup_for (command_for text) (text_in files named.setup) ≡ Ok sound.setup
said_held files named sound a b text held read =
    subst (λ (c : Command). setup_for c (text_in files named.setup) ≡ Ok sound.setup)
    (held_command files named a b text held read) sound.setup_is

still_held : (files : Contents) (named : SizeNamed) (a b : StoreSeen) (text : List ℕ)
    → a.held ≡ Some files → IsTextRead a b named.reader text → b.held ≡ Some files
still_held files named a b text held read =
    held_kept (clean_texts a b _ read.texts).unfailed.only ∙ held

the_setup : (files : Contents) (named : SizeNamed) (sound : IsSoundSize files named)
    (a b : StoreSeen) (text : List ℕ) (setup : Setup) → a.held ≡ Some files
    → IsSetupRead a b named text setup → sound.setup ≡ setup
the_setup files named sound a b text setup held read =
    same_value (setup_for (command_for text)) files named.setup read.setup_is.text sound.setup setup
    (setups (command_for text)) (said_held files named sound a read.between text held read.reader_is)
    (subst (λ (o : Option Contents). Says (setup_for (command_for text)) o named.setup
    read.setup_is.text (Ok setup))
    (still_held files named a read.between text held read.reader_is) read.setup_is.says)

pub bad_setup : (files : Contents) (named : SizeNamed) (a b : StoreSeen) (error : SetupError)
    → a.held ≡ Some files → IsSoundSize files named → HasBadSetup a b named error → ⊥
bad_setup files named a b error held sound h =
    not_both (setup_for (command_for h.text)) files named.setup h.refused.text sound.setup error
    (setups (command_for h.text)) (said_held files named sound a h.between h.text held h.reader_is)
    (subst (λ (o : Option Contents). Says (setup_for (command_for h.text)) o named.setup
    h.refused.text (Err error)) (still_held files named a h.between h.text held h.reader_is)
    h.refused.says)

pub bad_filter : (files : Contents) (named : SizeNamed) (a b : StoreSeen) (error : TextError)
    → a.held ≡ Some files → IsSoundSize files named → HasBadFilter a b named error → ⊥
bad_filter files named a b error held sound h =
    let kept : h.between.held ≡ Some files =
    held_kept (clean_setup a h.between named h.text h.setup h.setup_is).unfailed.only ∙ held in
    sound_filter files h.setup.filter h.name error h.names
    (subst (λ (s : Setup). IsSoundFilter files s.filter)
    (the_setup files named sound a h.between h.text h.setup held h.setup_is) sound.filter)
    (says_held filter_of files h.name h.refused.text (Err error) filters
    (subst (λ (o : Option Contents). Says filter_of o h.name h.refused.text (Err error)) kept
    h.refused.says))

job_setup : (files : Contents) (named : SizeNamed) (sound : IsSoundSize files named)
    (a b : StoreSeen) (text : List ℕ) (job : Job) → a.held ≡ Some files → IsJobRead a b named text job
    → sound.setup ≡ job.setup
job_setup files named sound a b text job held read =
    the_setup files named sound a read.between text job.setup held read.setup_is

-- what a reader of readers' texts says for the setup of a job
said_reader : (files : Contents) (named : SizeNamed) (sound : IsSoundSize files named)
    (a b : StoreSeen) (text : List ℕ) (job : Job) → a.held ≡ Some files → IsJobRead a b named text job
    → reader_for job.setup text ≡ Ok sound.reader
said_reader files named sound a b text job held read =
    let first = read.setup_is in
    sym (same_answer (reader_for job.setup) files named.reader text (readers job.setup)
    (subst (λ (o : Option Contents). IsTextOf o named.reader text) held first.reader_is.text_is))
    ∙ subst (λ (s : Setup). reader_for s (text_in files named.reader) ≡ Ok sound.reader)
    (job_setup files named sound a b text job held read) sound.reader_is

pub bad_reader : (files : Contents) (named : SizeNamed) (a b : StoreSeen) (error : ReaderError)
    → a.held ≡ Some files → IsSoundSize files named → HasBadReader a b named error → ⊥
bad_reader files named a b error held sound h =
    ok_err sound.reader error
    (sym (said_reader files named sound a b h.text h.job held h.job_is) ∙ h.refused)

pub asked_setup : (files : Contents) (named : SizeNamed) (sound : IsSoundSize files named)
    (a b : StoreSeen) (job : Job) (reader : PacedReader) → a.held ≡ Some files
    → IsSizeAsked a b named job reader → sound.setup ≡ job.setup
asked_setup files named sound a b job reader held asked =
    job_setup files named sound a b asked.text job held asked.job_is

pub asked_reader : (files : Contents) (named : SizeNamed) (sound : IsSoundSize files named)
    (a b : StoreSeen) (job : Job) (reader : PacedReader) → a.held ≡ Some files
    → IsSizeAsked a b named job reader → sound.reader ≡ reader
asked_reader files named sound a b job reader held asked =
    ok_same sound.reader reader
    (sym (said_reader files named sound a b asked.text job held asked.job_is) ∙ asked.reader_is)
