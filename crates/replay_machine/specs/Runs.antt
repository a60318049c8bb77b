-- What the replay of a job reports of the bytes that its CPUs' sources gave.
use Rattle.std.specs.Prelude.{◌≡◌, ℕ, ◌+◌, Bool, List, [], ◌∷◌, length, map, Option, None}
use Rattle.capture_file.specs.Capture.{frames_of}
use Rattle.capture_file.specs.declared.cpu_end.CpuEnd.{CpuEnd}
use Rattle.capture_reading.specs.Sources.{AllGave}
use Rattle.fanout_group.specs.declared.runs.CpuLog.{CpuLog}
use Rattle.receive_ring.specs.Replay.{Cpu, Replay, replayed}
use Rattle.ring_model.specs.Fates.{kept_of}
use Rattle.ring_model.specs.Offers.{packet_of}
use Rattle.ring_model.specs.Rings.{Ring}
use Rattle.run_reports.specs.Jobs.{arriving_of, rules_of}
use Rattle.run_reports.specs.Members.{dump_where}
use Rattle.run_reports.specs.Reports.{IsRunReport}
use Rattle.run_reports.specs.RingRules.{RingRules}
use Rattle.run_reports.specs.RingSteps.{RingSteps}
use Rattle.setup_text.specs.declared.lines.Line.{Line}
use Rattle.setup_text.specs.declared.jobs.Job.{Job}
use Rattle.run_reports.specs.declared.reports.MemberReport.{MemberReport}
use Rattle.run_reports.specs.declared.reports.RunReport.{RunReport}
use Rattle.tap_outside.specs.Seen.{SourceSeen}

-- the replay of a job over rings that do these steps
abbrev pub replay_over : RingSteps → Job → List Line → List (List ℕ) → Replay
replay_over steps job lines all = replayed (rules_of job) steps (arriving_of job all) lines

-- the log of a CPU whose source gave these bytes and ended so
abbrev pub log_of : ℕ → List ℕ → CpuEnd → Cpu → CpuLog
log_of cpu bytes end of = record {
  frames = length (frames_of cpu bytes);
  given = length bytes;
  end = end;
  arrivals = of.log;
}

-- those of CPUs with the numbers from this one up
abbrev pub logs_from : ℕ → List (List ℕ) → List CpuEnd → List Cpu → List CpuLog
logs_from cpu (bytes ∷ all) (end ∷ ends) (of ∷ cpus) =
    log_of cpu bytes end of ∷ logs_from (cpu + 1) all ends cpus
logs_from cpu all ends cpus = []

-- the report of a replay of sources that gave these bytes and ended in this way, given what is
-- reported of each closed ring
abbrev pub report_with :
    (Ring → MemberReport) → List (List ℕ) → List CpuEnd → Replay → RunReport
report_with reported all ends replay = record {
  cpus = logs_from 0 all ends replay.cpus;
  members = map reported replay.members;
}

-- what is reported of a closed ring: the packets of the offers that it kept, the bytes of what it
-- handed over if they are asked for, and how many blocks or slots that was; one thread ran it
abbrev pub member_of : RingRules → Bool → Ring → MemberReport
member_of rings asked ring = record {
  notes = ring.notes;
  walked = map (packet_of rings.fills) (kept_of ring.notes);
  dump = dump_where rings asked ring.notes;
  blocks = rings.handed ring.notes;
  ring = None;
}

-- the replay of a job over such rings
abbrev pub replay_of : RingRules → Job → List Line → List (List ℕ) → Replay
replay_of rings job lines all = replay_over rings.steps job lines all

-- the report of a replay of sources that gave these bytes and ended in this way
unfoldable pub report_of :
    RingRules → Job → List Line → List (List ℕ) → List CpuEnd → RunReport
report_of rings job lines all ends =
    report_with (member_of rings job.setup.dump) all ends (replay_of rings job lines all)

-- the job was replayed by these lines over such rings: its sources gave these bytes and ended in
-- this way, the report is that of a run over them, and it is the replay report
pub record IsReplayed (rings : RingRules) (job : Job) (lines : List Line)
    (old new : List (Option SourceSeen)) (report : RunReport) : Type 0 where
  pub bytes : List (List ℕ)
  pub ends : List CpuEnd
  pub gave : AllGave old new bytes ends
  pub run : IsRunReport rings job bytes ends report
  pub report_is : report ≡ report_of rings job lines bytes ends
