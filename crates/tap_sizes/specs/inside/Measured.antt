-- What is answered from what was read of the captures.
use Rattle.std.specs.Prelude.{◌≡◌, ℕ, ◌*◌, ◌<◌, List}
use Rattle.reader_pace.specs.Timelines.{end_of}
use Rattle.reader_pace.specs.declared.readers.PacedReader.{PacedReader}
use Rattle.run_reports.specs.declared.ring_kind.RingKind.{RingKind}
use Rattle.setup_text.specs.declared.jobs.Job.{Job}
use Rattle.size_printing.specs.declared.size_reports.ReadFile.{ReadFile}
use Rattle.size_printing.specs.declared.size_reports.SizeReport.{SizeReport}
use Rattle.tap_sizes.specs.Answers.{IsAnswered, sizing_by}
use Rattle.deal_rules.specs.Files.{times_by}
use Rattle.reader_pace.specs.declared.paces.MoreFile.{MoreFile}
use Rattle.frame_deals.specs.Dealings.{Dealing}
use Rattle.tap_outside.specs.Seen.{StoreSeen}
use Rattle.tap_sizes.specs.Readings.{AreAllRead}
use Rattle.tap_sizes.specs.RingParts.{parts_for}
use Rattle.tap_sizes.specs.declared.size_findings.SizeFinding.{SizeFinding}
use Rattle.tap_sizes.specs.declared.size_findings.SizeFinding.TheVariants as finding

-- the answers
pub record IsReportFor (job : Job) (reader : PacedReader) (bytes : List (List (List ℕ)))
    (files : List ReadFile) (kind : RingKind) (unit : ℕ) (report : SizeReport) : Type 0 where
  pub files_are : report.files ≡ files
  pub kind_is : kind ≡ (parts_for job reader).kind
  pub unit_is : unit ≡ (parts_for job reader).size
  pub answers : IsAnswered job reader (sizing_by job reader bytes) report

-- those of files that gave these bytes, or that their frames last too long
abbrev pub IsMeasured :
    Job → PacedReader → List (List (List ℕ)) → List ReadFile → SizeFinding → Type 0
IsMeasured job reader bytes files (finding.TooLong told) =
    (told ≡ files) × (4294967295 * 1000000 < end_of (times_by bytes))
IsMeasured job reader bytes files (finding.Sized kind unit report) =
    IsReportFor job reader bytes files kind unit report
IsMeasured job reader bytes files found = ⊥

-- these files were read of a store, for rings with this room
pub record AreSomeRead (job : Job) (room : ℕ) (more : List MoreFile) (files : List ReadFile)
    (deals : List Dealing) : Type 0 where
  pub old : StoreSeen
  pub new : StoreSeen
  pub bytes : List (List (List ℕ))
  pub read_is : AreAllRead old new job room more bytes files deals
