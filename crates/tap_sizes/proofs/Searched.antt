-- What is found, from where the texts were read.
use Rattle.std.proofs.Common.{◌≡◌, ℕ, Bool, true, false, List, [], ◌∷◌, Option, None, Some, inl, inr, refl, sym}
use Rattle.std.proofs.Common.{ap, ◌∙◌, subst}
use Rattle.std.specs.Prelude.{IfOk, Result, Ok, Err, if◌then◌else◌}
use Rattle.frame_deals.specs.Dealings.{Dealing}
use Rattle.frame_view.specs.declared.memory.Memory.{Memory}
use Rattle.reader_pace.specs.Answers.{is_reader_want}
use Rattle.reader_pace.specs.declared.reader_error.ReaderError.{ReaderError}
use Rattle.reader_pace.specs.declared.readers.PacedReader.{PacedReader}
use Rattle.setup_text.specs.Filters.{filter_of}
use Rattle.setup_text.specs.declared.commands.Command.{Command}
use Rattle.setup_text.specs.declared.jobs.Job.{Job}
use Rattle.setup_text.specs.declared.setups.Setup.{Setup}
use Rattle.size_printing.specs.declared.size_reports.ReadFile.{ReadFile}
use Rattle.tap_outside.proofs.Kept.{OnlyReads-none, OnlyReads-then}
use Rattle.tap_outside.specs.Seen.{OnlyReads, StoreSeen}
use Rattle.tap_reading.specs.Fronts.{CantRead, IsTextOf, RanOut, ReadTexts, text_entry}
use Rattle.tap_reading.specs.Readers.{ReadsAs, StopsAtSetup, StopsAtText, setup_for, stop_of_unread}
use Rattle.tap_reading.specs.declared.stops.LoadError.{LoadError}
use Rattle.tap_reading.specs.declared.stops.LoadError.TheVariants as stops
use Rattle.tap_reading.specs.declared.texts.Unread.{Unread}
use Rattle.tap_reading.specs.declared.texts.Unread.TheVariants as unread
use Rattle.tap_running.proofs.Counted.{counts_later}
use Rattle.tap_running.proofs.TextOrder.{read_none}
use Rattle.tap_sizes.specs.Endings.{IsSizeSearched}
use Rattle.tap_sizes.specs.Readings.{AreAllRead}
use Rattle.tap_sizes.specs.SizeFindings.{IsSizeFound}
use Rattle.tap_sizes.specs.RingParts.{parts_for}
use Rattle.tap_sizes.specs.SizeTexts.{IsJobRead, IsSetupRead, IsSizeAsked, IsTextRead, StopsAtFilter, StopsAtJob}
use Rattle.tap_sizes.specs.SizeTexts.{command_for, reader_for}
use Rattle.tap_sizes.specs.SizeWords.{SizeNamed}
use Rattle.tap_sizes.specs.Tried.{unanswered_by}
use Rattle.tap_sizes.specs.declared.outcomes.Unanswered.{Unanswered}
use Rattle.tap_sizes.specs.declared.size_findings.SizeFinding.{SizeFinding}
use Rattle.tap_sizes.specs.declared.size_findings.SizeFinding.TheVariants as finding
use Rattle.tap_sizes.specs.inside.Measured.{IsMeasured}
use Rattle.tap_sizes.specs.inside.Stopped.{finding_of_reader_error, finding_of_stop}
use Rattle.tap_sizes.proofs.Clean.{all_counted, clean_asked, clean_job, clean_setup, clean_texts, clean_then}

-- ---- the words

pub no_names : (command : Option SizeNamed) (a : StoreSeen) → command ≡ None
    → IsSizeSearched command a a (Ok finding.NoNames)
no_names command a none =
    subst (λ (c : Option SizeNamed). IsSizeSearched c a a (Ok finding.NoNames)) (sym none)
    (record { reads = OnlyReads-none a; found = read_none a; cut = tt })

-- ---- setup and filter

-- the reader's text can't be read
pub at_reader : (old new : StoreSeen) (named : SizeNamed) (fault : Unread)
    → (fault ≡ unread.Failed → CantRead old new named.reader)
    → (fault ≡ unread.Memory → RanOut old new) → StopsAtJob old new named (stop_of_unread fault)
at_reader old new named unread.Failed failed memory = inl (failed refl)
at_reader old new named unread.Memory failed memory = memory refl

-- the reader's text was read, and then the setup by the command for it
pub setup_read : (old mid new : StoreSeen) (named : SizeNamed) (text slice : List ℕ)
    (command : Command) (setup : Setup) → ReadTexts old mid (text_entry named.reader text ∷ [])
    → IsTextOf old.held named.reader text → slice ≡ text → command ≡ command_for slice
    → ReadsAs (setup_for command) mid new named.setup (Ok setup)
    → IsSetupRead old new named text setup
setup_read old mid new named text slice command setup texts is same by read = record {
  between = mid;
  reader_is = record { texts = texts; text_is = is };
  setup_is = subst (λ (c : Command). ReadsAs (setup_for c) mid new named.setup (Ok setup))
      (by ∙ ap command_for same) read;
}

-- why there is no setup
pub at_setup : (old mid new : StoreSeen) (named : SizeNamed) (text : List ℕ) (stop : LoadError)
    → IsTextRead old mid named.reader text
    → StopsAtSetup (command_for text) mid new named.setup stop → StopsAtJob old new named stop
at_setup old mid new named text stops.Unread read h =
    inr (inl (record { between = mid; text = text; reader_is = read; unread = h }))
at_setup old mid new named text (stops.Setup error) read h =
    record { between = mid; text = text; reader_is = read; refused = h }
at_setup old mid new named text (stops.Text error) read h = absurd h
at_setup old mid new named text stops.Memory read h =
    clean_then old mid new (clean_texts old mid _ read.texts) h

-- why there is no filter, after the setup
at_name : (old mid new : StoreSeen) (named : SizeNamed) (text : List ℕ) (setup : Setup)
    (name : List ℕ) (stop : LoadError) → setup.filter ≡ Some name
    → IsSetupRead old mid named text setup → StopsAtText filter_of mid new name stop
    → StopsAtJob old new named stop
at_name old mid new named text setup name stops.Unread is read h =
    inr (inr (record {
      between = mid;
      text = text;
      setup = setup;
      setup_is = read;
      name = name;
      names = is;
      unread = h;
    }))
at_name old mid new named text setup name (stops.Setup error) is read h = absurd h
at_name old mid new named text setup name (stops.Text error) is read h = record {
  between = mid;
  text = text;
  setup = setup;
  setup_is = read;
  name = name;
  names = is;
  refused = h;
}
at_name old mid new named text setup name stops.Memory is read h =
    clean_then old mid new (clean_setup old mid named text setup read) h

pub at_filter : (old mid new : StoreSeen) (named : SizeNamed) (text : List ℕ) (setup : Setup)
    (filter : Option (List ℕ)) (stop : LoadError) → filter ≡ setup.filter
    → IsSetupRead old mid named text setup → StopsAtFilter mid new filter stop
    → StopsAtJob old new named stop
at_filter old mid new named text setup None stop is read h = absurd h
at_filter old mid new named text setup (Some name) stop is read h =
    at_name old mid new named text setup name stop (sym is) read h

-- so the search ends there
pub stopped : (old new : StoreSeen) (named : SizeNamed) (stop : LoadError) → OnlyReads old new
    → StopsAtJob old new named stop → IsSizeSearched (Some named) old new (finding_of_stop stop)
stopped old new named stops.Unread only h = record { reads = only; found = h; cut = tt }
stopped old new named (stops.Setup error) only h = record { reads = only; found = h; cut = tt }
stopped old new named (stops.Text error) only h = record { reads = only; found = h; cut = tt }
stopped old new named stops.Memory only h =
    record { reads = only; found = tt; cut = record { reads = only; cause = inl h } }

-- ---- the reader's text

pub reader_refused : (start new : StoreSeen) (named : SizeNamed) (text : List ℕ) (job : Job)
    (error : ReaderError) → IsJobRead start new named text job
    → (is_reader_want error ≡ false → reader_for job.setup text ≡ Err error)
    → IsSizeSearched (Some named) start new (finding_of_reader_error error)
reader_refused start new named text job error read h = by (is_reader_want error) refl where
  clean : RanOut start new
  clean = clean_job start new named text job read

  by : (want : Bool) → is_reader_want error ≡ want
      → IsSizeSearched (Some named) start new
      (if want then Err (record {}) else Ok (finding.BadReader error))
  by true is = record {
    reads = clean.unfailed.only;
    found = tt;
    cut = record { reads = clean.unfailed.only; cause = inl clean };
  }
  by false is = record {
    reads = clean.unfailed.only;
    found = record { text = text; job = job; job_is = read; refused = h is; not_memory = is };
    cut = tt;
  }

pub asked_of : (start new : StoreSeen) (named : SizeNamed) (text : List ℕ) (job : Job)
    (reader : PacedReader) → IsJobRead start new named text job
    → reader_for job.setup text ≡ Ok reader → IsSizeAsked start new named job reader
asked_of start new named text job reader read h =
    record { text = text; job_is = read; reader_is = h }

-- ---- after the texts

pub unanswered_found : (start a : StoreSeen) (named : SizeNamed) (job : Job) (reader : PacedReader)
    (why : Unanswered) → IsSizeAsked start a named job reader → unanswered_by reader ≡ Some why
    → IsSizeSearched (Some named) start a (Ok (finding.Unanswered why))
unanswered_found start a named job reader why asked is = record {
  reads = (clean_asked start a named job reader asked).unfailed.only;
  found = record { job = job; reader = reader; asked = asked; why_is = is };
  cut = tt;
}

pub cut_later : (start mid new : StoreSeen) (named : SizeNamed) (job : Job) (reader : PacedReader)
    (memory : Memory) → IsSizeAsked start mid named job reader → OnlyReads mid new
    → IsSizeSearched (Some named) start new (Err memory)
cut_later start mid new named job reader memory asked only =
    let reads = OnlyReads-then start mid new
    (clean_asked start mid named job reader asked).unfailed.only only in
    record {
      reads = reads;
      found = tt;
      cut = record {
        reads = reads;
        cause = inr (record {
          named = named;
          command_is = refl;
          between = mid;
          job = job;
          reader = reader;
          asked = asked;
        });
      };
    }

measured_found : (start mid new : StoreSeen) (named : SizeNamed) (job : Job) (reader : PacedReader)
    (bytes : List (List (List ℕ))) (files : List ReadFile) (deals : List Dealing) (found : SizeFinding)
    → IsSizeAsked start mid named job reader → unanswered_by reader ≡ None
    → AreAllRead mid new job (parts_for job reader).room reader.more bytes files deals
    → IsMeasured job reader bytes files found → IsSizeFound (Some named) start new found
measured_found start mid new named job reader bytes files deals finding.NoNames asked none read h =
    absurd h
measured_found start mid new named job reader bytes files deals finding.Unread asked none read h =
    absurd h
measured_found start mid new named job reader bytes files deals (finding.BadSetup error) asked none
    read h = absurd h
measured_found start mid new named job reader bytes files deals (finding.BadFilter error) asked none
    read h = absurd h
measured_found start mid new named job reader bytes files deals (finding.BadReader error) asked none
    read h = absurd h
measured_found start mid new named job reader bytes files deals (finding.Unanswered why) asked none
    read h = absurd h
measured_found start mid new named job reader bytes files deals (finding.TooLong told) asked none
    read h =
    let here : AreAllRead mid new job (parts_for job reader).room reader.more bytes told deals =
    subst (λ (fs : List ReadFile). AreAllRead mid new job (parts_for job reader).room reader.more bytes fs deals)
    (sym h.0) read in (
      record {
        job = job;
        reader = reader;
        bytes = bytes;
        read_is = record {
          between = mid;
          asked = asked;
          answered = none;
          deals = deals;
          read_is = here;
        };
        long = h.1;
      },
      counts_later _ start mid new (clean_asked start mid named job reader asked).unfailed
          (all_counted mid new job _ reader.more bytes told deals here),
    )
measured_found start mid new named job reader bytes files deals (finding.Sized kind unit report)
    asked none read h =
    let here : AreAllRead mid new job (parts_for job reader).room reader.more bytes report.files deals =
    subst (λ (fs : List ReadFile). AreAllRead mid new job (parts_for job reader).room reader.more bytes fs deals)
    (sym h.files_are) read in (
      record {
        job = job;
        reader = reader;
        bytes = bytes;
        read_is = record {
          between = mid;
          asked = asked;
          answered = none;
          deals = deals;
          read_is = here;
        };
        kind_is = h.kind_is;
        unit_is = h.unit_is;
        answers = h.answers;
      },
      counts_later _ start mid new (clean_asked start mid named job reader asked).unfailed
          (all_counted mid new job _ reader.more bytes report.files deals here),
    )

pub measured : (start mid new : StoreSeen) (named : SizeNamed) (job : Job) (reader : PacedReader)
    (bytes : List (List (List ℕ))) (files : List ReadFile) (deals : List Dealing)
    (answer : Result SizeFinding Memory)
    → IsSizeAsked start mid named job reader → unanswered_by reader ≡ None
    → OnlyReads mid new
    → AreAllRead mid new job (parts_for job reader).room reader.more bytes files deals
    → IfOk answer (IsMeasured job reader bytes files)
    → IsSizeSearched (Some named) start new answer
measured start mid new named job reader bytes files deals (Ok found) asked none only read h =
    record {
      reads = OnlyReads-then start mid new
          (clean_asked start mid named job reader asked).unfailed.only only;
      found = measured_found start mid new named job reader bytes files deals found asked none read h;
      cut = tt;
    }
measured start mid new named job reader bytes files deals (Err memory) asked none only read h =
    cut_later start mid new named job reader memory asked only
