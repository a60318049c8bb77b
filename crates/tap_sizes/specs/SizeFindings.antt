-- What the program finds, from what the outside gives, and what it returns and prints from that.
use Rattle.std.specs.Prelude.{◌≡◌, ℕ, List, [], ◌∷◌, ◌++◌, codes, Option, None, Some}
use Rattle.capture_file.specs.declared.cpu_end.CpuEnd.{CpuEnd}
use Rattle.capture_file.specs.declared.cpu_end.CpuEnd.TheVariants.{Whole, Fault, Damaged}
use Rattle.reader_pace.specs.declared.readers.PacedReader.{PacedReader}
use Rattle.setup_text.specs.declared.jobs.Job.{Job}
use Rattle.size_printing.specs.SizeLines.{file_lines, reader_refusal, size_lines}
use Rattle.size_printing.specs.declared.size_reports.ReadFile.{ReadFile}
use Rattle.size_printing.specs.declared.size_reports.SizeReport.{SizeReport}
use Rattle.tap_outside.specs.Seen.{StoreSeen}
use Rattle.tap_printing.specs.Refusals.{setup_refusal, text_refusal}
use Rattle.tap_reading.specs.Fronts.{ReadTexts}
use Rattle.tap_running.specs.Counts.{IsCounted}
use Rattle.tap_sizes.specs.Answers.{IsSized, IsTooLong}
use Rattle.tap_sizes.specs.Readings.{file_faults}
use Rattle.tap_sizes.specs.SizeTexts.{CantReadText, HasBadFilter, HasBadReader, HasBadSetup}
use Rattle.tap_sizes.specs.SizeTexts.{IsSizeAsked}
use Rattle.tap_sizes.specs.SizeWords.{SizeNamed}
use Rattle.tap_sizes.specs.Tried.{unanswered_by}
use Rattle.tap_sizes.specs.declared.outcomes.SizeStatus.{SizeStatus}
use Rattle.tap_sizes.specs.declared.outcomes.SizeStatus.TheVariants as status
use Rattle.tap_sizes.specs.declared.outcomes.Unanswered.{Unanswered}
use Rattle.tap_sizes.specs.declared.outcomes.Unanswered.TheVariants.{Poll}
use Rattle.tap_sizes.specs.declared.size_findings.SizeFinding.{SizeFinding}
use Rattle.tap_sizes.specs.declared.size_findings.SizeFinding.TheVariants as finding

-- ---- what is found

-- the texts were read and are accepted, and the program can't answer them yet
pub record IsUnanswered (old new : StoreSeen) (named : SizeNamed) (why : Unanswered)
    : Type 0 where
  pub job : Job
  pub reader : PacedReader
  pub asked : IsSizeAsked old new named job reader
  pub why_is : unanswered_by reader ≡ Some why

-- The program finds this in a store; each source that it opened is closed. As many captures end
-- with a fault as reading failed, or fewer. Where no text can't be read and no capture ends with a
-- fault no read failed.
abbrev pub IsSizeFound : Option SizeNamed → StoreSeen → StoreSeen → SizeFinding → Type 0
IsSizeFound None old new finding.NoNames = ReadTexts old new []
IsSizeFound None old new found = ⊥
IsSizeFound (Some named) old new finding.NoNames = ⊥
IsSizeFound (Some named) old new finding.Unread = CantReadText old new named
IsSizeFound (Some named) old new (finding.BadSetup error) = HasBadSetup old new named error
IsSizeFound (Some named) old new (finding.BadFilter error) = HasBadFilter old new named error
IsSizeFound (Some named) old new (finding.BadReader error) = HasBadReader old new named error
IsSizeFound (Some named) old new (finding.Unanswered why) = IsUnanswered old new named why
IsSizeFound (Some named) old new (finding.TooLong files) =
    IsTooLong old new named files × IsCounted old new (file_faults files)
IsSizeFound (Some named) old new (finding.Sized kind unit report) =
    IsSized old new named kind unit report × IsCounted old new (file_faults report.files)

-- ---- what follows from it

-- the status of the first file that didn't end whole: a fault of any file comes before damage
abbrev pub status_by_end : ℕ → CpuEnd → SizeStatus → SizeStatus
status_by_end cpu Whole rest = rest
status_by_end cpu Fault rest = status.ReadFault
status_by_end cpu (Damaged damage) status.ReadFault = status.ReadFault
status_by_end cpu (Damaged damage) rest = status.Damaged cpu damage

-- and this one if all ended whole
abbrev pub status_of_files : List ReadFile → SizeStatus → SizeStatus
status_of_files [] last = last
status_of_files (file ∷ files) last =
    status_by_end file.cpu file.end (status_of_files files last)

abbrev pub status_of : SizeFinding → SizeStatus
status_of finding.NoNames = status.Usage
status_of finding.Unread = status.ReadFault
status_of (finding.BadSetup error) = status.Setup error
status_of (finding.BadFilter error) = status.Text error
status_of (finding.BadReader error) = status.Reader error
status_of (finding.Unanswered why) = status.Unanswered why
status_of (finding.TooLong files) = status_of_files files status.TooLong
status_of (finding.Sized kind unit report) = status_of_files report.files status.Fine

-- the report
abbrev pub report_in : SizeFinding → Option SizeReport
report_in (finding.Sized kind unit report) = Some report
report_in found = None

-- the line of texts that the program can't answer yet
unfoldable pub unanswered_line : Unanswered → List ℕ
unanswered_line Poll = codes "reader: poll has no answer yet\n"

-- those of captures whose frames last too long
abbrev pub too_long_lines : List ReadFile → List ℕ
too_long_lines files = file_lines files ++ codes "captures longer than 4294967295 ms\n"

-- the printed lines
abbrev pub lines_of : SizeFinding → List ℕ
lines_of finding.NoNames = codes "usage: ringsize CONF READER\n"
lines_of finding.Unread = codes "read fault\n"
lines_of (finding.BadSetup error) = setup_refusal error
lines_of (finding.BadFilter error) = text_refusal error
lines_of (finding.BadReader error) = reader_refusal error
lines_of (finding.Unanswered why) = unanswered_line why
lines_of (finding.TooLong files) = too_long_lines files
lines_of (finding.Sized kind unit report) = size_lines kind unit report
