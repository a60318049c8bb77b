-- A job's sizing is one, and its rings are those of its reports.
use Rattle.std.proofs.Common.{◌≡◌, ℕ, suc, Bool, false, true, List, [], ◌∷◌, length, refl, sym, ap, ◌∙◌, Some}
use Rattle.std.specs.Prelude.{map}
use Rattle.capture_file.specs.declared.cpu_end.CpuEnd.{CpuEnd}
use Rattle.deal_rules.specs.Times.{times_of}
use Rattle.fanout_group.specs.Arrivals.{arrivals_at, arrivals_from, held_behind}
use Rattle.fanout_group.specs.Plans.{has_defrag}
use Rattle.frame_view.specs.declared.frames.Frame.{Frame}
use Rattle.reader_pace.specs.declared.readers.PacedReader.{PacedReader}
use Rattle.receive_ring.specs.Replay.{replayed}
use Rattle.replay_laws.specs.LargerJobs.{IsReshaped, block_report, slot_report}
use Rattle.replay_laws.proofs.LargerReports.{by_setup, of_blocks, of_slots}
use Rattle.replay_machine.specs.Runs.{report_of}
use Rattle.ring_model.specs.Rings.{Ring}
use Rattle.ring_sizes.specs.declared.paces.Timing.{Timing}
use Rattle.run_reports.specs.Jobs.{rules_of}
use Rattle.run_reports.specs.declared.reports.MemberReport.{MemberReport}
use Rattle.run_reports.specs.declared.reports.RunReport.{RunReport}
use Rattle.setup_text.specs.declared.jobs.Job.{Job}
use Rattle.setup_text.specs.declared.lines.Line.{Line}
use Rattle.tp_layout.specs.Requests.{time_out_of}
use Rattle.pace_laws.specs.JobSizings.{sizing_of, sizing_over, slot_sizing_of}
use Rattle.pace_laws.specs.Paces.{pace_of}
use Rattle.pace_laws.specs.Sizings.{IsSizing, IsSlotSizing, blocks_with, slots_with}

arrivals_count : (defrag : Bool) (held frames : List Frame) → length (arrivals_from defrag held frames) ≡ length frames
arrivals_count defrag held [] = refl
arrivals_count defrag held (frame ∷ frames) = ap suc (arrivals_count defrag (held_behind defrag held frame) frames)

times_count : (frames : List Frame) → length (times_of frames) ≡ length frames
times_count [] = refl
times_count (frame ∷ frames) = ap suc (times_count frames)

same_counts : (defrag : Bool) (captures : List (List Frame))
    → map (λ times. length times) (map times_of captures)
    ≡ map (λ waiting. length waiting) (map (arrivals_at defrag) captures)
same_counts defrag [] = refl
same_counts defrag (frames ∷ captures) =
    cc (times_count frames ∙ sym (arrivals_count defrag [] frames), same_counts defrag captures)

pub job_sizing : (room : ℕ) (job : Job) (reader : PacedReader) (captures : List (List Frame)) (pace : Timing)
    → reader.slots ≡ false → pace_of (time_out_of job.setup.shape) reader.pace ≡ Some pace
    → IsSizing (sizing_over room job reader captures) pace
job_sizing room job reader captures pace blocks pace_is =
    record { blocks = blocks; times = same_counts (has_defrag job.setup.plan.flags) captures; pace_is = pace_is }

pub job_slot_sizing : (room : ℕ) (job : Job) (reader : PacedReader) (captures : List (List Frame)) (pace : Timing)
    → reader.slots ≡ true → pace_of (time_out_of job.setup.shape) reader.pace ≡ Some pace
    → IsSlotSizing (sizing_over room job reader captures) pace
job_slot_sizing room job reader captures pace slots pace_is =
    record { slots = slots; times = same_counts (has_defrag job.setup.plan.flags) captures; pace_is = pace_is }

reported_notes : (reported : Ring → MemberReport) (rings : List Ring) → ((ring : Ring) → (reported ring).notes ≡ ring.notes)
    → map (λ (member : MemberReport). member.notes) (map reported rings) ≡ map (λ (ring : Ring). ring.notes) rings
reported_notes reported [] same = refl
reported_notes reported (ring ∷ rings) same = cc (same ring, reported_notes reported rings same)

-- the notes of the other job's report, with so many blocks
pub block_notes : (job other : Job) (reader : PacedReader) (lines : List Line) (all : List (List ℕ)) (ends : List CpuEnd)
    (blocks frames : ℕ) → IsReshaped blocks frames job other
    → map (λ (member : MemberReport). member.notes) (block_report other lines all ends).members
    ≡ map (λ (ring : Ring). ring.notes) (replayed (rules_of job) (blocks_with (sizing_of job reader all) blocks)
    (sizing_of job reader all).arriving lines).members
unfolding report_of
block_notes job other reader lines all ends blocks frames h =
    ap (λ (report : RunReport). map (λ (member : MemberReport). member.notes) report.members)
    (by_setup of_blocks job other blocks frames lines all ends h)
    ∙ reported_notes _ _ (λ ring. refl)

-- with so many slots
pub slot_notes : (job other : Job) (reader : PacedReader) (lines : List Line) (all : List (List ℕ)) (ends : List CpuEnd)
    (blocks slots : ℕ) → IsReshaped blocks slots job other
    → map (λ (member : MemberReport). member.notes) (slot_report other lines all ends).members
    ≡ map (λ (ring : Ring). ring.notes) (replayed (rules_of job) (slots_with (slot_sizing_of job reader all) slots)
    (slot_sizing_of job reader all).arriving lines).members
unfolding report_of
slot_notes job other reader lines all ends blocks slots h =
    ap (λ (report : RunReport). map (λ (member : MemberReport). member.notes) report.members)
    (by_setup of_slots job other blocks slots lines all ends h)
    ∙ reported_notes _ _ (λ ring. refl)
