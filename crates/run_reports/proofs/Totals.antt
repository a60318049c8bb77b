-- The arrivals of a run are those that the filter refused, those that members kept and those that
-- they dropped.
use Rattle.std.proofs.Common.{◌≡◌, ℕ, ◌+◌, List, length, ap, arith}
use Rattle.capture_file.specs.declared.cpu_end.CpuEnd.{CpuEnd}
use Rattle.ring_model.specs.Fates.{drops_of, kept_of, totals_of}
use Rattle.ring_model.specs.Ring.{Size}
use Rattle.ring_model.specs.declared.notes.Note.{Note}
use Rattle.ring_model.specs.declared.notes.Stats.{Stats}
use Rattle.run_reports.specs.Reports.{IsRunReport}
use Rattle.run_reports.specs.RingRules.{rules_by}
use Rattle.run_reports.specs.Totals.{TotalsAddUp}
use Rattle.run_reports.specs.declared.reports.RunReport.{RunReport}
use Rattle.run_reports.specs.declared.ring_kind.RingKind.{RingKind}
use Rattle.run_reports.specs.declared.ring_kind.RingKind.TheVariants.{Blocks, Slots}
use Rattle.run_reports.proofs.GroupTotals.{CountsSettled, kept_and_dropped, totals_add_up}
use Rattle.setup_text.specs.declared.jobs.Job.{Job}
use Rattle.slot_layout.specs.SlotFates.{slot_totals_of, without_freezes}
use Rattle.tp_layout.specs.Requests.{size_of}
use Rattle.tp_layout.specs.declared.requests.RingRequest.{RingRequest}

-- the statistics count what notes keep and drop
abbrev pub CountsEach : Type 0
CountsEach = (size : Size) (notes : List Note) → (totals_of size notes).packets
    ≡ length (kept_of notes) + length (drops_of notes)

abbrev pub CountsDrops : Type 0
CountsDrops = (size : Size) (notes : List Note) → (totals_of size notes).drops ≡ length (drops_of notes)

-- a ring of slots counts as a ring of blocks
abbrev pub CountsAsBlocks : Type 0
CountsAsBlocks = (size : Size) (notes : List Note)
    → slot_totals_of notes ≡ without_freezes (totals_of size notes)

module _ (packets : CountsEach) (drops : CountsDrops) (alike : CountsAsBlocks) where
  counts_settled : (kind : RingKind) (shape : RingRequest) → CountsSettled (rules_by kind shape).totals
  counts_settled Blocks shape = λ notes.
      let size = size_of shape in
      omega (arith, packets size notes, drops size notes, kept_and_dropped notes)
  counts_settled Slots shape = λ notes.
      let size = size_of shape in
      let counted = ap (λ (s : Stats). s.packets) (alike size notes) in
      let lost = ap (λ (s : Stats). s.drops) (alike size notes) in
      omega (arith, counted, lost, packets size notes, drops size notes, kept_and_dropped notes)

  pub report_adds_up : (kind : RingKind) (job : Job) (bytes : List (List ℕ)) (ends : List CpuEnd) (report : RunReport)
      → IsRunReport (rules_by kind job.setup.shape) job bytes ends report
      → TotalsAddUp (rules_by kind job.setup.shape).totals report
  report_adds_up kind job bytes ends report h =
      let rings = rules_by kind job.setup.shape in
      totals_add_up rings.totals (counts_settled kind job.setup.shape) job rings.steps.size.room bytes ends report h.logs
      h.group
