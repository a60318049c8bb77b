-- The report of a job that never froze is that of the job with more blocks, or slots.
use Rattle.std.proofs.Common.{◌≡◌, ℕ, ◌+◌, Bool, List, [], ◌∷◌, All, Option, refl, ap, subst, ◌∙◌}
use Rattle.std.specs.Prelude.{map, slice_get}
use Rattle.std.proofs.lemmas.List.Elements.{All-cons, All-head, All-nil, All-tail}
use Rattle.capture_file.specs.declared.cpu_end.CpuEnd.{CpuEnd}
use Rattle.fanout_group.specs.Arrivals.{arrivals_at}
use Rattle.fanout_group.specs.Judgements.{JudgeRules, rules_by}
use Rattle.fanout_group.specs.Plans.{has_defrag}
use Rattle.fanout_group.specs.Rules.{Rules}
use Rattle.frame_view.specs.declared.frames.Frame.{Frame}
use Rattle.receive_ring.specs.Replay.{replayed}
use Rattle.run_reports.specs.RingSteps.{RingSteps, block_steps}
use Rattle.run_reports.specs.RingSteps.{slot_steps}
use Rattle.replay_laws.specs.Larger.{IsLarger}
use Rattle.replay_laws.specs.LargerJobs.{HasMoreBlocks, HasMoreSlots, IsReshaped, reshaped}
use Rattle.replay_laws.proofs.AlikeRings.{Alike, AllAlike}
use Rattle.replay_laws.proofs.Helds.{all_never}
use Rattle.replay_laws.proofs.LargerRings.{replayed_tracks}
use Rattle.replay_laws.proofs.LargerTries.{Agree}
use Rattle.replay_laws.proofs.LargerSteps.{blocks_agree, slots_agree, state_larger}
use Rattle.replay_machine.specs.Runs.{logs_from, member_of, report_of, report_with}
use Rattle.ring_events.specs.Happenings.{IsNeverHeld}
use Rattle.ring_model.specs.Ring.{State, state_of}
use Rattle.ring_model.specs.Rings.{Ring, fresh}
use Rattle.ring_model.specs.declared.notes.Note.{Note}
use Rattle.ring_model.specs.declared.notes.Offer.{Offer}
use Rattle.run_reports.specs.Jobs.{captures_from, queue_in}
use Rattle.run_reports.specs.RingRules.{block_rules, slot_rules}
use Rattle.run_reports.specs.declared.reports.MemberReport.{MemberReport}
use Rattle.run_reports.specs.declared.reports.RunReport.{RunReport}
use Rattle.setup_text.specs.declared.jobs.Job.{Job}
use Rattle.setup_text.specs.declared.lines.Line.{Line}
use Rattle.setup_text.specs.declared.setups.Setup.{Setup}
use Rattle.slot_layout.specs.SlotShapes.{slot_size_of}
use Rattle.tp_layout.specs.Blocks.{block_text, descriptor_text}
use Rattle.tp_layout.specs.Dump.{dump_from, dump_of}
use Rattle.tp_layout.specs.Requests.{size_of}
use Rattle.tp_layout.specs.declared.requests.RingRequest.{RingRequest}

abbrev IsFreeRing : Ring → Type 0
IsFreeRing ring = IsNeverHeld ring.notes

abbrev IsFreeMember : MemberReport → Type 0
IsFreeMember member = IsNeverHeld member.notes

-- ---- reports of rings of any kind

module _ (steps larger : RingSteps) (agree : Agree steps larger) (reported other_reported : Ring → MemberReport)
    (same : (one other : Ring) → Alike one other → other_reported other ≡ reported one)
    (notes_are : (ring : Ring) → (reported ring).notes ≡ ring.notes) where
  members_same : (ones others : List Ring) → AllAlike ones others → map other_reported others ≡ map reported ones
  members_same [] [] h = refl
  members_same [] (other ∷ others) h = absurd h
  members_same (one ∷ ones) [] h = absurd h
  members_same (one ∷ ones) (other ∷ others) h = cc (same one other h.0, members_same ones others h.1)

  -- what is reported of rings that never froze is of rings that never froze
  unreported : (rings : List Ring) → All IsFreeMember (map reported rings) → All IsFreeRing rings
  unreported [] h = All-nil IsFreeRing
  unreported (ring ∷ rings) h =
      All-cons IsFreeRing ring rings
      (subst IsNeverHeld (notes_are ring) (All-head IsFreeMember (reported ring) (map reported rings) h))
      (unreported rings (All-tail IsFreeMember (reported ring) (map reported rings) h))

  reports_same : (rules : Rules) (arriving : List (List (Option Frame))) (lines : List Line) (all : List (List ℕ))
      (ends : List CpuEnd) → All IsFreeMember (report_with reported all ends (replayed rules steps arriving lines)).members
      → report_with other_reported all ends (replayed rules larger arriving lines)
      ≡ report_with reported all ends (replayed rules steps arriving lines)
  reports_same rules arriving lines all ends free =
      let one = replayed rules steps arriving lines in
      let track = replayed_tracks steps larger agree rules arriving lines
      (all_never one.members (unreported one.members free)) in
      let cpus = ap (logs_from 0 all ends) track.cpus in
      let members = members_same one.members _ track.members in
      cc (cpus, members)

-- ---- rings of blocks

-- the text of a block doesn't depend on how many there are
dump_same : (shape : RingRequest) (blocks frames number : ℕ) (done : List (List Offer × ℕ))
    → dump_from (reshaped shape blocks frames) number done ≡ dump_from shape number done
unfolding block_text descriptor_text
dump_same shape blocks frames number [] = refl
dump_same shape blocks frames number (block ∷ done) = cc (dump_same shape blocks frames (number + 1) done)

dumps_same : (shape : RingRequest) (blocks frames : ℕ) (notes : List Note)
    → dump_of (reshaped shape blocks frames) notes ≡ dump_of shape notes
unfolding dump_of
dumps_same shape blocks frames notes =
    dump_same shape blocks frames 1 (state_of (size_of (reshaped shape blocks frames)) notes).done
    ∙ ap (λ (s : State). dump_from shape 1 s.done)
    (state_larger (size_of shape) (size_of (reshaped shape blocks frames)) notes refl)

member_same : (shape : RingRequest) (blocks frames : ℕ) (asked : Bool) (one other : Ring) → Alike one other
    → member_of (block_rules (reshaped shape blocks frames)) asked other ≡ member_of (block_rules shape) asked one
member_same shape blocks frames asked one other h =
    let larger = size_of (reshaped shape blocks frames) in
    let state_is : (state_of larger other.notes).done ≡ (state_of (size_of shape) one.notes).done =
    ap (λ (notes : List Note). (state_of larger notes).done) h.notes
    ∙ ap (λ (s : State). s.done) (state_larger (size_of shape) larger one.notes refl) in
    let dump_is : dump_of (reshaped shape blocks frames) other.notes ≡ dump_of shape one.notes =
    ap (dump_of (reshaped shape blocks frames)) h.notes ∙ dumps_same shape blocks frames one.notes in
    cc (h.notes, state_is, dump_is)

-- ---- reports of jobs

-- what a kind of rings does, and what is reported of them
pub record Kind : Type 0 where
  pub steps : RingRequest → RingSteps
  pub reported : RingRequest → Bool → Ring → MemberReport

abbrev pub of_blocks : Kind
of_blocks = record {
  steps = λ shape. block_steps (size_of shape);
  reported = λ shape asked. member_of (block_rules shape) asked;
}

abbrev pub of_slots : Kind
of_slots = record {
  steps = λ shape. slot_steps (slot_size_of shape);
  reported = λ shape asked. member_of (slot_rules shape) asked;
}

-- the rules and arrivals of a setup, with the filter of a job
abbrev pub judge_rules_in : Job → Setup → JudgeRules
judge_rules_in job setup = record {
  key = setup.key;
  filter = job.program;
  own = setup.mac;
  queue = λ cpu. queue_in (slice_get setup.cpus cpu);
}

abbrev pub reported_in : Kind → JudgeRules → Setup → List Line → List (List ℕ) → List CpuEnd → RunReport
reported_in kind judge setup lines all ends =
    report_with (kind.reported setup.shape setup.dump) all ends
    (replayed (rules_by setup.plan judge) (kind.steps setup.shape)
    (map (arrivals_at (has_defrag setup.plan.flags)) (captures_from 0 all)) lines)

same_judge_rules : (job other : Job) (setup : Setup) → other.program ≡ job.program
    → judge_rules_in other setup ≡ judge_rules_in job setup
same_judge_rules job other setup e = cc e

-- the other job's report is that of the first one's setup with the other shape
pub by_setup : (kind : Kind) (job other : Job) (blocks frames : ℕ) (lines : List Line) (all : List (List ℕ))
    (ends : List CpuEnd)
    → IsReshaped blocks frames job other
    → reported_in kind (judge_rules_in other other.setup) other.setup lines all ends
    ≡ reported_in kind (judge_rules_in job job.setup)
    (record job.setup { shape = reshaped job.setup.shape blocks frames }) lines all ends
by_setup kind job other blocks frames lines all ends h =
    let more : Setup = record job.setup { request = other.setup.request; shape = reshaped job.setup.shape blocks frames } in
    ap (λ (setup : Setup). reported_in kind (judge_rules_in other setup) setup lines all ends) h.setup
    ∙ ap (λ (judge : JudgeRules). reported_in kind judge more lines all ends) (same_judge_rules job other more h.program)

pub blocks_never_froze : (job other : Job) (lines : List Line) (all : List (List ℕ)) (ends : List CpuEnd)
    → HasMoreBlocks job other
    → All IsFreeMember (report_of (block_rules job.setup.shape) job lines all ends).members
    → report_of (block_rules other.setup.shape) other lines all ends
    ≡ report_of (block_rules job.setup.shape) job lines all ends
unfolding report_of
blocks_never_froze job other lines all ends h free =
    let shape = job.setup.shape in
    let larger : IsLarger (size_of shape) (size_of (reshaped shape h.blocks h.frames)) =
    record { room = refl; tov = refl; more = h.more } in
    by_setup of_blocks job other h.blocks h.frames lines all ends h.reshaped_is
    ∙ reports_same (block_steps (size_of shape)) (block_steps (size_of (reshaped shape h.blocks h.frames)))
    (blocks_agree (size_of shape) (size_of (reshaped shape h.blocks h.frames)) larger)
    (member_of (block_rules shape) job.setup.dump)
    (member_of (block_rules (reshaped shape h.blocks h.frames)) job.setup.dump)
    (member_same shape h.blocks h.frames job.setup.dump)
    (λ ring. refl)
    (rules_by job.setup.plan (judge_rules_in job job.setup)) _ lines all ends free

pub slots_never_froze : (job other : Job) (lines : List Line) (all : List (List ℕ)) (ends : List CpuEnd)
    → HasMoreSlots job other
    → All IsFreeMember (report_of (slot_rules job.setup.shape) job lines all ends).members
    → report_of (slot_rules other.setup.shape) other lines all ends ≡ report_of (slot_rules job.setup.shape) job lines all ends
unfolding report_of
slots_never_froze job other lines all ends h free =
    let shape = job.setup.shape in
    let asked = job.setup.dump in
    let larger : IsLarger (slot_size_of shape) (slot_size_of (reshaped shape h.blocks h.frames)) =
    record { room = refl; tov = refl; more = h.more } in
    let reported : Ring → MemberReport = member_of (slot_rules shape) asked in
    let same : (one other : Ring) → Alike one other → reported other ≡ reported one =
    λ one other alike. ap (λ (notes : List Note). reported (record (fresh one.size) { notes = notes })) alike.notes in
    by_setup of_slots job other h.blocks h.frames lines all ends h.reshaped_is
    ∙ reports_same (slot_steps (slot_size_of shape)) (slot_steps (slot_size_of (reshaped shape h.blocks h.frames)))
    (slots_agree (slot_size_of shape) (slot_size_of (reshaped shape h.blocks h.frames)) larger) reported
    reported same (λ ring. refl)
    (rules_by job.setup.plan (judge_rules_in job job.setup)) _ lines all ends free
