-- What the captures of a setup say about its rings.
use Rattle.std.specs.Prelude.{◌≡◌, ℕ, ◌*◌, ◌<◌, true, false, List, [], length, slice_get, None}
use Rattle.std.specs.Prelude.{MatchOption, Some}
use Rattle.fanout_group.specs.Plans.{rolls_over}
use Rattle.deal_rules.specs.Files.{captures_by, times_by}
use Rattle.frame_deals.specs.Dealings.{Dealing}
use Rattle.pace_laws.specs.JobSizings.{sizing_over}
use Rattle.pace_laws.specs.Sizings.{Sizing}
use Rattle.reader_pace.specs.Timelines.{end_of}
use Rattle.reader_pace.specs.declared.readers.PacedReader.{PacedReader}
use Rattle.ring_sizes.specs.declared.phase_losses.DropRange.{DropRange}
use Rattle.ring_sizes.specs.declared.tries.Reached.{Reached}
use Rattle.ring_sizes.specs.declared.tries.Tries.{Tries}
use Rattle.run_reports.specs.declared.ring_kind.RingKind.{RingKind}
use Rattle.setup_text.specs.declared.jobs.Job.{Job}
use Rattle.size_printing.specs.declared.size_reports.ReadFile.{ReadFile}
use Rattle.size_printing.specs.declared.size_reports.SizeReport.{SizeReport}
use Rattle.tap_outside.specs.Seen.{StoreSeen}
use Rattle.tap_sizes.specs.Readings.{AreAllRead}
use Rattle.tap_sizes.specs.RingParts.{AreFewestOf, AreFewestTotalOf, AreMostOf, AreMostTotalOf}
use Rattle.tap_sizes.specs.RingParts.{IsGroupLeastOf, IsLeastOf, parts_for}
use Rattle.tap_sizes.specs.SizeTexts.{IsSizeAsked}
use Rattle.tap_sizes.specs.SizeWords.{SizeNamed}
use Rattle.tap_sizes.specs.Tried.{tries_by, unanswered_by}
use Rattle.tp_layout.specs.Requests.{time_out_of}

-- the sizing of a job's rings, of blocks or of slots, over files of its CPUs that gave these bytes:
-- the frames of a CPU are those of its files, one after another, with one reassembly and rising
-- indices over all
abbrev pub sizing_by : Job → PacedReader → List (List (List ℕ)) → Sizing
sizing_by job reader all =
    sizing_over (parts_for job reader).room job reader (captures_by 0 all)

-- the texts were read and are accepted, and then the files of each CPU were read, which gave these
-- bytes
pub record AreCapturesRead (old new : StoreSeen) (named : SizeNamed) (job : Job)
    (reader : PacedReader) (bytes : List (List (List ℕ))) (files : List ReadFile) : Type 0 where
  pub between : StoreSeen
  pub asked : IsSizeAsked old between named job reader
  pub answered : unanswered_by reader ≡ None
  pub deals : List Dealing
  pub read_is :
      AreAllRead between new job (parts_for job reader).room reader.more bytes files deals

-- the frames last longer than the clock of a schedule goes
pub record IsTooLong (old new : StoreSeen) (named : SizeNamed) (files : List ReadFile)
    : Type 0 where
  pub job : Job
  pub reader : PacedReader
  pub bytes : List (List (List ℕ))
  pub read_is : AreCapturesRead old new named job reader bytes files
  pub long : 4294967295 * 1000000 < end_of (times_by bytes)

-- what is tried of the reader
abbrev pub tries_for : Job → PacedReader → Tries
tries_for job reader = tries_by reader (time_out_of job.setup.shape)

-- the fewest and the most packets that the setup's own ring of a member drops
pub record IsRangeOf (job : Job) (reader : PacedReader) (sizing : Sizing) (member : ℕ)
    (range : DropRange) : Type 0 where
  pub fewest :
      AreFewestOf (parts_for job reader).kind sizing member (parts_for job reader).count
      (tries_for job reader) range.fewest
  pub most :
      AreMostOf (parts_for job reader).kind sizing member (parts_for job reader).count
      (tries_for job reader) range.most

-- the fewest and the most packets that the setup's own rings of all members together drop
pub record IsTotalOf (job : Job) (reader : PacedReader) (sizing : Sizing) (range : DropRange)
    : Type 0 where
  pub fewest :
      AreFewestTotalOf (parts_for job reader).kind sizing (parts_for job reader).count
      (tries_for job reader) range.fewest
  pub most :
      AreMostTotalOf (parts_for job reader).kind sizing (parts_for job reader).count
      (tries_for job reader) range.most

-- a ring for each member, which is the least in the replays of the group, and what the setup's own
-- ring drops there, each and all together
pub record AreMembersAnswered (job : Job) (reader : PacedReader) (sizing : Sizing)
    (report : SizeReport) : Type 0 where
  pub count : length report.members ≡ job.setup.plan.members
  pub members : (member : ℕ) (ring : Reached) → slice_get report.members member ≡ Some ring
      → IsLeastOf (parts_for job reader).kind sizing member (tries_for job reader) ring
  pub ranges : length report.drops ≡ job.setup.plan.members
  pub drops : (member : ℕ) (range : DropRange) → slice_get report.drops member ≡ Some range
      → IsRangeOf job reader sizing member range
  pub total : MatchOption report.total ⊥ (IsTotalOf job reader sizing)

-- the answers over some captures: the least ring of the group, and without rollover those of the
-- members
pub record IsAnswered (job : Job) (reader : PacedReader) (sizing : Sizing) (report : SizeReport)
    : Type 0 where
  pub group :
      IsGroupLeastOf (parts_for job reader).kind sizing (tries_for job reader) report.group
  pub members : rolls_over job.setup.plan ≡ false → AreMembersAnswered job reader sizing report
  pub none : rolls_over job.setup.plan ≡ true
      → (report.members ≡ []) × (report.drops ≡ []) × (report.total ≡ None)

-- the answers of a run of the program
pub record IsSized (old new : StoreSeen) (named : SizeNamed) (kind : RingKind) (unit : ℕ)
    (report : SizeReport) : Type 0 where
  pub job : Job
  pub reader : PacedReader
  pub bytes : List (List (List ℕ))
  pub read_is : AreCapturesRead old new named job reader bytes report.files
  pub kind_is : kind ≡ (parts_for job reader).kind
  pub unit_is : unit ≡ (parts_for job reader).size
  pub answers : IsAnswered job reader (sizing_by job reader bytes) report
