-- What is found where a text stops the program.
use Rattle.std.specs.Prelude.{Result, Ok, Err, if◌then◌else◌}
use Rattle.frame_view.specs.declared.memory.Memory.{Memory}
use Rattle.reader_pace.specs.Answers.{is_reader_want}
use Rattle.reader_pace.specs.declared.reader_error.ReaderError.{ReaderError}
use Rattle.tap_reading.specs.declared.stops.LoadError.{LoadError}
use Rattle.tap_reading.specs.declared.stops.LoadError.TheVariants as stops
use Rattle.tap_sizes.specs.declared.size_findings.SizeFinding.{SizeFinding}
use Rattle.tap_sizes.specs.declared.size_findings.SizeFinding.TheVariants as finding

abbrev pub finding_of_stop : LoadError → Result SizeFinding Memory
finding_of_stop stops.Unread = Ok finding.Unread
finding_of_stop (stops.Setup error) = Ok (finding.BadSetup error)
finding_of_stop (stops.Text error) = Ok (finding.BadFilter error)
finding_of_stop stops.Memory = Err (record {})

abbrev pub finding_of_reader_error : ReaderError → Result SizeFinding Memory
finding_of_reader_error error =
    if is_reader_want error then Err (record {}) else Ok (finding.BadReader error)
