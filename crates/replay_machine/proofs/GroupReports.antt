-- The report of a replay is one of its group.
use Rattle.std.proofs.Common.{◌≡◌, ℕ, suc, ◌+◌, List, [], ◌∷◌, length, get_or, Option, refl, sym, ap, subst, ◌∙◌, arith}
use Rattle.std.specs.Prelude.{All, map}
use Rattle.std.proofs.lemmas.List.{length-map}
use Rattle.std.proofs.lemmas.List.Elements.{All-map}
use Rattle.fanout_group.specs.Arrivals.{arrivals_at, somes}
use Rattle.fanout_group.specs.Joined.{Logged}
use Rattle.fanout_group.specs.Once.{IsGroupReport}
use Rattle.fanout_group.specs.Plans.{has_defrag}
use Rattle.capture_file.specs.declared.cpu_end.CpuEnd.{CpuEnd}
use Rattle.frame_view.specs.declared.frames.Frame.{Frame}
use Rattle.receive_ring.specs.Replay.{Cpu, Replay}
use Rattle.receive_ring.specs.Reports.{IsReplayReport, logged_of, notes_of}
use Rattle.run_reports.specs.RingSteps.{RingSteps}
use Rattle.ring_model.specs.Rings.{Ring}
use Rattle.ring_model.specs.declared.notes.Note.{Note}
use Rattle.run_reports.specs.Jobs.{arriving_of, captures_from, rules_of}
use Rattle.run_reports.specs.Logs.{AreLogsFrom}
use Rattle.run_reports.specs.Reports.{logged, notes_of as notes_in}
use Rattle.run_reports.proofs.ArrivalOrder.{count_from}
use Rattle.setup_text.specs.declared.lines.Line.{Line}
use Rattle.setup_text.specs.declared.jobs.Job.{Job}
use Rattle.run_reports.specs.declared.reports.MemberReport.{MemberReport}
use Rattle.replay_machine.specs.Runs.{logs_from, replay_over, report_with}

-- ---- logs and notes

logged_is : (number : ℕ) (arriving : List (List (Option Frame))) (all : List (List ℕ)) (ends : List CpuEnd) (cpus : List Cpu)
    → length all ≡ length cpus → length ends ≡ length all
    → logged_of arriving cpus ≡ logged arriving (logs_from number all ends cpus)
logged_is number [] all ends cpus e f = refl
logged_is number (a ∷ arriving) [] ends [] e f = refl
logged_is number (a ∷ arriving) [] ends (c ∷ cpus) e f = absurd (omega (arith, e))
logged_is number (a ∷ arriving) (b ∷ all) ends [] e f = absurd (omega (arith, e))
logged_is number (a ∷ arriving) (b ∷ all) [] (c ∷ cpus) e f = absurd (omega (arith, f))
logged_is number (a ∷ arriving) (b ∷ all) (end ∷ ends) (c ∷ cpus) e f =
    ap (λ (ls : List Logged). record { arrivals = somes a; log = c.log } ∷ ls)
    (logged_is (number + 1) arriving all ends cpus (omega (arith, e)) (omega (arith, f)))

-- there is a log for each source
logs_of : (number : ℕ) (all : List (List ℕ)) (ends : List CpuEnd) (cpus : List Cpu) → length all ≡ length cpus
    → length ends ≡ length all
    → AreLogsFrom number all ends (logs_from number all ends cpus)
logs_of number [] [] [] e f = tt
logs_of number [] [] (c ∷ cpus) e f = absurd (omega (arith, e))
logs_of number [] (end ∷ ends) cpus e f = absurd (omega (arith, f))
logs_of number (b ∷ all) [] cpus e f = absurd (omega (arith, f))
logs_of number (b ∷ all) (end ∷ ends) [] e f = absurd (omega (arith, e))
logs_of number (b ∷ all) (end ∷ ends) (c ∷ cpus) e f = (
  record { frames = refl; given = refl; end_is = refl },
  logs_of (number + 1) all ends cpus (omega (arith, e)) (omega (arith, f)),
)

-- a report of a closed ring has its notes
abbrev pub HasNotes : (Ring → MemberReport) → Type 0
HasNotes reported = (ring : Ring) → (reported ring).notes ≡ ring.notes

notes_are : (reported : Ring → MemberReport) (rings : List Ring) → HasNotes reported
    → notes_of rings ≡ notes_in (map reported rings)
notes_are reported [] has = refl
notes_are reported (ring ∷ rings) has =
    ap (λ (ns : List Note). ns ∷ notes_of rings) (sym (has ring))
    ∙ ap (λ (ns : List (List Note)). (reported ring).notes ∷ ns) (notes_are reported rings has)

module _ (steps : RingSteps) (reported : Ring → MemberReport) (IsRing : Ring → Type 0) (job : Job) (lines : List Line)
    (all : List (List ℕ)) (ends : List CpuEnd)
    (report : IsReplayReport (rules_of job) steps.size.room IsRing (arriving_of job all) (replay_over steps job lines all))
    (many : length ends ≡ length all) where
  abbrev replay : Replay
  replay = replay_over steps job lines all

  count : length all ≡ length replay.cpus
  count = sym (report.cpus ∙ length-map (captures_from 0 all) (arrivals_at (has_defrag job.setup.plan.flags))
      ∙ count_from 0 all)

  pub group_is : HasNotes reported → IsGroupReport (rules_of job) steps.size.room
      (logged (arriving_of job all) (report_with reported all ends replay).cpus)
      (notes_in (report_with reported all ends replay).members)
  group_is has =
      subst (λ (ns : List (List Note)). IsGroupReport (rules_of job) steps.size.room
      (logged (arriving_of job all) (logs_from 0 all ends replay.cpus)) ns)
      (notes_are reported replay.members has)
      (subst (λ (ls : List Logged). IsGroupReport (rules_of job) steps.size.room ls (notes_of replay.members))
      (logged_is 0 (arriving_of job all) all ends replay.cpus count many) report.group)

  pub members_are : (IsMember : MemberReport → Type 0) → ((ring : Ring) → IsRing ring → IsMember (reported ring))
      → All IsMember (report_with reported all ends replay).members
  members_are IsMember worth =
      All-map IsMember reported replay.members (λ k d l. worth (get_or replay.members k d) (report.rings k d l))

  pub logs_are : AreLogsFrom 0 all ends (report_with reported all ends replay).cpus
  logs_are = logs_of 0 all ends replay.cpus count many

-- ---- another way to report of a closed ring

map_same : (f g : Ring → MemberReport) (P : Ring → Type 0) (rings : List Ring) → All P rings
    → ((ring : Ring) → P ring → f ring ≡ g ring)
    → map f rings ≡ map g rings
map_same f g P [] all same = refl
map_same f g P (ring ∷ rings) all same =
    ap (λ (one : MemberReport). one ∷ map f rings) (same ring (all 0 ring (omega arith)))
    ∙ ap (λ (rest : List MemberReport). g ring ∷ rest) (map_same f g P rings (λ k d l. all (suc k) d (omega (arith, l))) same)

-- where both say the same of each ring of a replay, the reports are the same
pub same_reports : (reported other : Ring → MemberReport) (IsRing : Ring → Type 0) (all : List (List ℕ)) (ends : List CpuEnd)
    (replay : Replay)
    → All IsRing replay.members → ((ring : Ring) → IsRing ring → reported ring ≡ other ring)
    → report_with reported all ends replay ≡ report_with other all ends replay
same_reports reported other IsRing all ends replay rings same =
    ap (λ (members : List MemberReport). record { cpus = logs_from 0 all ends replay.cpus; members = members })
    (map_same reported other IsRing replay.members rings same)
