-- A replay over rings of a kind is the replay of its job.
use Rattle.std.proofs.Common.{◌≡◌, ℕ, Bool, true, false, List, length, All, None, Option, refl, sym, ap, ◌∙◌, subst}
use Rattle.std.specs.Prelude.{IfOk, Result, Ok, Err}
use Rattle.capture_file.specs.declared.cpu_end.CpuEnd.{CpuEnd}
use Rattle.frame_view.specs.declared.frames.Packet.{Packet}
use Rattle.reader_walk.specs.Readers.{kept_texts, texts_by}
use Rattle.receive_ring.specs.ReadBack.{IsReadBack}
use Rattle.receive_ring.specs.Reports.{IsRingOf}
use Rattle.replay_machine.proofs.GroupReports.{same_reports}
use Rattle.replay_machine.specs.Reported.{reported_by}
use Rattle.replay_machine.specs.Runs.{IsReplayed, member_of, replay_of, report_of}
use Rattle.replay_machine.specs.inside.OverRings.{IsReplayedOver}
use Rattle.ring_model.specs.Rings.{Ring}
use Rattle.ring_model.specs.declared.notes.Note.{Note}
use Rattle.run_reports.specs.Members.{dump_where}
use Rattle.run_reports.specs.Reports.{IsRunReport}
use Rattle.run_reports.specs.RingRules.{RingRules, Serves, rules_by}
use Rattle.run_reports.specs.RingSteps.{RingSteps}
use Rattle.run_reports.specs.declared.reports.MemberReport.{MemberReport}
use Rattle.run_reports.specs.declared.reports.RunReport.{RunReport}
use Rattle.run_reports.specs.declared.ring_kind.RingKind.{RingKind}
use Rattle.setup_text.specs.TickOrder.{IsSchedule}
use Rattle.setup_text.specs.declared.jobs.Job.{Job}
use Rattle.setup_text.specs.declared.lines.Line.{Line}
use Rattle.tap_outside.specs.Seen.{SourceSeen}
use Rattle.tp_layout.specs.Layouts.{Taken}
use Rattle.tp_layout.specs.declared.requests.RingRequest.{RingRequest}

-- ---- what is reported of a closed ring is what its reader read

module _ (rings : RingRules) (text : RingRequest → Taken → List ℕ) (reads : RingRequest → List Note → List Taken)
    (shape : RingRequest) (back : (notes : List Note) → rings.IsWhole notes
    → IsReadBack rings text shape (reads shape notes) notes)
  where
    dump_is : (asked : Bool) (notes : List Note) → texts_by text shape (reads shape notes) ≡ rings.dump notes
        → kept_texts text asked shape (reads shape notes) ≡ dump_where rings asked notes
    dump_is true notes e = e
    dump_is false notes e = refl

    abbrev with : List Note → List Packet → List ℕ → ℕ → MemberReport
    with notes walked dump blocks = record { notes = notes; walked = walked; dump = dump; blocks = blocks; ring = None }

    read_back : (asked : Bool) (ring : Ring) → IsRingOf rings ring
        → reported_by text reads shape asked ring ≡ member_of rings asked ring
    read_back asked ring h =
        let read = reads shape ring.notes in
        let is = back ring.notes h.run in
        let member = member_of rings asked ring in
        ap (λ (ps : List Packet). with ring.notes ps (kept_texts text asked shape read) (length read)) is.packets
        ∙ ap (λ (bytes : List ℕ). with ring.notes member.walked bytes (length read)) (dump_is asked ring.notes is.bytes)
        ∙ ap (λ n. with ring.notes member.walked member.dump n) is.many

-- ---- so the replay is that of the job

abbrev pub JobsRun : Type 0
JobsRun = (kind : RingKind) (job : Job) (lines : List Line) (all : List (List ℕ)) (ends : List CpuEnd)
    → Serves kind job.setup.shape → IsSchedule lines → length ends ≡ length all
    → IsRunReport (rules_by kind job.setup.shape) job all ends (report_of (rules_by kind job.setup.shape) job lines all ends)

abbrev pub JobsRings : Type 0
JobsRings = (kind : RingKind) (job : Job) (lines : List Line) (all : List (List ℕ)) → Serves kind job.setup.shape
    → IsSchedule lines
    → All (IsRingOf (rules_by kind job.setup.shape)) (replay_of (rules_by kind job.setup.shape) job lines all).members

module _ (runs : JobsRun) (closed : JobsRings) (kind : RingKind) (job : Job) (lines : List Line)
    (serves : Serves kind job.setup.shape) (schedule : IsSchedule lines) (old : List (Option SourceSeen))
    (text : RingRequest → Taken → List ℕ) (reads : RingRequest → List Note → List Taken)
    (back : (notes : List Note) → (rules_by kind job.setup.shape).IsWhole notes
    → IsReadBack (rules_by kind job.setup.shape) text job.setup.shape (reads job.setup.shape notes) notes) where
  abbrev rings : RingRules
  rings = rules_by kind job.setup.shape

  abbrev reported : Ring → MemberReport
  reported = reported_by text reads job.setup.shape job.setup.dump

  abbrev IsOver : RingSteps → List (Option SourceSeen) → RunReport → Type 0
  IsOver steps new report = IsReplayedOver steps reported job lines old new report

  as_report : (new : List (Option SourceSeen)) (report : RunReport) → (h : IsOver rings.steps new report)
      → report ≡ report_of rings job lines h.bytes h.ends
  unfolding report_of
  as_report new report h =
      h.report_is
      ∙ same_reports reported (member_of rings job.setup.dump) (IsRingOf rings) h.bytes h.ends
      (replay_of rings job lines h.bytes)
      (closed kind job lines h.bytes serves schedule) (read_back rings text reads job.setup.shape back job.setup.dump)

  is_replayed : (new : List (Option SourceSeen)) (report : RunReport) → IsOver rings.steps new report
      → IsReplayed rings job lines old new report
  is_replayed new report h = record {
    bytes = h.bytes;
    ends = h.ends;
    gave = h.gave;
    run = subst (λ (r : RunReport). IsRunReport rings job h.bytes h.ends r) (sym (as_report new report h))
        (runs kind job lines h.bytes h.ends serves schedule h.many);
    report_is = as_report new report h;
  }

  pub told : (steps : RingSteps) → rings.steps ≡ steps → {A E : Type 0} (result : Result A E)
      (new : A → List (Option SourceSeen)) (report : A → RunReport)
      → IfOk result (λ ran. IsOver steps (new ran) (report ran))
      → IfOk result (λ ran. IsReplayed rings job lines old (new ran) (report ran))
  told steps same (Ok ran) new report h =
      is_replayed (new ran) (report ran) (subst (λ (s : RingSteps). IsOver s (new ran) (report ran)) (sym same) h)
  told steps same (Err error) new report h = tt
