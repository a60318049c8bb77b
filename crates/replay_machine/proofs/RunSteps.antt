-- A run is fed a frame, and stays one of its job.
use Rattle.std.proofs.Common.{◌≡◌, ℕ, zero, suc, ◌+◌, ◌%◌, ◌<◌, ◌≤◌, Bool, true, false, List, [], ◌∷◌, length, get_or, Option}
use Rattle.std.proofs.Common.{None, Some, inl, refl, sym, ap, ◌∙◌, subst, arith, length-set}
use Rattle.std.specs.Prelude.{Err, IfOk, MatchBool, Ok, Result, map, slice_set}
use Rattle.std.proofs.lemmas.List.{get_or-set_same, get_or_default, set-set}
use Rattle.fanout_group.specs.Deliveries.{AreTriesOf, Received, TakesAllOf}
use Rattle.fanout_group.specs.Judgements.{AgreesAt, IsJudged, JudgeRules, first_entry, offer_by}
use Rattle.fanout_group.specs.RulesOfJudging.{judge_rules_of as judge_rules_in}
use Rattle.fanout_group.specs.Paths.{Path, logged}
use Rattle.fanout_group.specs.Plans.{Shape}
use Rattle.fanout_group.specs.Routes.{IsRoute}
use Rattle.fanout_group.specs.Rules.{HasTicket}
use Rattle.fanout_group.specs.declared.judgements.ArrivalRules.{ArrivalRules}
use Rattle.fanout_group.specs.declared.logs.ArrivalLog.{ArrivalLog}
use Rattle.fanout_group.specs.declared.logs.Try.{Try}
use Rattle.frame_view.specs.declared.frames.Frame.{Frame}
use Rattle.receive_ring.specs.Replay.{Replay, arrived, feed, ticket_of}
use Rattle.run_reports.specs.RingSteps.{RingSteps}
use Rattle.ring_model.specs.Rings.{Ring}
use Rattle.ring_model.specs.declared.notes.Offer.{Offer}
use Rattle.setup_text.specs.declared.jobs.Job.{Job}
use Rattle.cpu_feed.specs.Fed.{FedOne, IsAtItsEnd}
use Rattle.cpu_feed.specs.CpuFeeds.{Feeding}
use Rattle.cpu_feed.specs.Feeds.{Feeds as CpuFeeds, HasNone, ReceivesIfAny}
use Rattle.run_reports.specs.Jobs.{judge_rules_of, rules_of}
use Rattle.replay_machine.specs.RingGroups.{GroupValue, IsDrawn, IsMadeBy, TakesAt}
use Rattle.replay_machine.specs.RunStates.{AreCpus, Does, Feeds, IsRun, RunValue, cpu_in, no_feeding, whole}
use Rattle.replay_machine.specs.inside.RunRules.{AreRulesAt}
use Rattle.tap_outside.specs.Seen.{SourceSeen}
use Rattle.replay_machine.proofs.RingGroups.{Draws, draws, group_with}
use Rattle.replay_machine.proofs.RunArrivals.{Arrives, IsTriedAs, Looked, arrives, as_changed, as_count, as_keep, cpus_are}
use Rattle.replay_machine.proofs.RunArrivals.{member_takes}
use Rattle.replay_machine.proofs.RunCounts.{drawn_most, has_arrived, made_most, none_fed, nothing_arrived, one_fed}
use Rattle.replay_machine.proofs.Whole.{Nexts, cpus-keep, cpus-number, cpus-shape, feeds_frame, feeds_nothing, next_does}
use Rattle.replay_machine.proofs.Whole.{with_cpu}

-- ---- an arrival

abbrev pub group_of : RunValue → GroupValue
group_of run = group_with run.members run.ticket

abbrev pub run_with : List Feeding → GroupValue → RunValue
run_with cpus group = record { cpus = cpus; members = group.members; ticket = group.ticket }

tried_as : (steps : RingSteps) (shape : Shape) (ticket : Option ℕ) (queue present : ℕ) (offer : Option Offer)
    (tries : List Try) (before after : GroupValue)
    → AreTriesOf IsRoute (IsMadeBy steps) shape ticket queue present offer tries before after
    → IsTriedAs steps shape present queue ticket offer tries before.members after.members × (after.ticket ≡ before.ticket)
tried_as steps shape ticket queue present None tries before after h =
    ((h.0, ap (λ (group : GroupValue). group.members) h.1), ap (λ (group : GroupValue). group.ticket) h.1)
tried_as steps shape ticket queue present (Some offer) tries before after h = ((h.0, h.1.tried), h.1.ticket_is)

-- what follows for each job follows of the result for all of them
pub by_each : {T E : Type 0} (result : Result T E) (Q : Job → Type 0) (P : Job → T → Type 0)
    → ((job : Job) → Q job → IfOk result (P job)) → IfOk result (λ value. (job : Job) → Q job → P job value)
by_each (Ok value) Q P each = each
by_each (Err error) Q P each = tt

-- what is received is judged by the job, draws the next ticket, and is tried at the rings
module _ (steps : RingSteps) (job : Job) (cpu : ℕ) (rules : ArrivalRules) (frame : Frame) (c d : Feeding) (run : RunValue)
    (after : GroupValue) (are : AreRulesAt steps job cpu rules) (within : cpu < length run.cpus) (place : frame.cpu ≡ cpu)
    (shape : c.path.shape ≡ job.setup.plan) (d_is : d ≡ record c { path = d.path })
    (r : Received (IsMadeBy steps) IsDrawn rules frame c.path d.path (group_of run) after) where
  judged_is : IsJudged (judge_rules_of job) rules.room frame r.entry r.offer
  judged_is = r.admitted.judged (judge_rules_of job)
      (subst (λ (n : ℕ). AgreesAt n (judge_rules_of job) (judge_rules_in rules)) (sym place) are.agrees)

  drawn_is : Draws job.setup.plan.mode r.entry.ticket (group_of run) r.mid
  drawn_is = draws job.setup.plan.mode r.entry.ticket (group_of run) r.mid
      (subst (λ (s : Shape). HasTicket s.mode r.entry.ticket) shape r.admitted.ticket) r.admitted.drawn

  entry_is : r.entry ≡ first_entry (judge_rules_of job) frame (ticket_of job.setup.plan.mode run.ticket)
  entry_is = judged_is.entry_is ∙ ap (λ (t : Option ℕ). first_entry (judge_rules_of job) frame t) drawn_is.ticket_is

  abbrev Tries : Shape → ℕ → Option ℕ → Option Offer → GroupValue → Type 0
  Tries plan queue ticket offer before =
      IsTriedAs steps plan c.path.present queue ticket offer r.tries before.members after.members

  told : IsTriedAs steps c.path.shape c.path.present rules.queue r.entry.ticket r.offer r.tries r.mid.members after.members
      × (after.ticket ≡ r.mid.ticket)
  told = tried_as steps c.path.shape r.entry.ticket rules.queue c.path.present r.offer r.tries r.mid after r.tried

  tried_is : Tries job.setup.plan ((judge_rules_of job).queue frame.cpu) (ticket_of job.setup.plan.mode run.ticket)
      (offer_by (judge_rules_of job) steps.size.room frame) (group_of run)
  tried_is =
      let plan = job.setup.plan in
      let judge = judge_rules_of job in
      let by_plan = subst (λ (s : Shape). Tries s rules.queue r.entry.ticket r.offer r.mid) shape told.0 in
      let by_queue = subst (λ (queue : ℕ). Tries plan queue r.entry.ticket r.offer r.mid)
      (are.queue_is ∙ ap (λ (n : ℕ). judge.queue n) (sym place)) by_plan in
      let by_ticket = subst (λ (ticket : Option ℕ). Tries plan (judge.queue frame.cpu) ticket r.offer r.mid)
      drawn_is.ticket_is by_queue in
      let by_offer = subst (λ (o : Option Offer). Tries plan (judge.queue frame.cpu) (ticket_of plan.mode run.ticket) o r.mid)
      (judged_is.offer_is ∙ ap (λ (room : ℕ). offer_by judge room frame) are.room_is) by_ticket in
      subst (λ (group : GroupValue). Tries plan (judge.queue frame.cpu) (ticket_of plan.mode run.ticket)
      (offer_by judge steps.size.room frame) group) drawn_is.new_is by_offer

  pub looked : Looked job.setup.plan (judge_rules_of job) steps cpu frame c (with_cpu cpu c run)
      (run_with (slice_set run.cpus cpu d) after)
  looked =
      let entry = first_entry (judge_rules_of job) frame (ticket_of job.setup.plan.mode run.ticket) in
      let logs : Feeding = record c { path = logged (record entry { tries = r.tries }) c.path } in
      let is : d ≡ logs = d_is ∙ ap (λ (p : Path). record c { path = p })
      (r.new_is ∙ ap (λ (e : ArrivalLog). logged (record e { tries = r.tries }) c.path) entry_is) in
      record {
        here = get_or-set_same run.cpus cpu c no_feeding within;
        shape_is = shape;
        tries = r.tries;
        tried = tried_is;
        cpus_are = ap (λ (x : Feeding). slice_set run.cpus cpu x) is ∙ sym (set-set run.cpus cpu c logs);
        ticket_is = told.1 ∙ ap (λ (group : GroupValue). group.ticket) drawn_is.new_is;
      }

module _ (steps : RingSteps) (job : Job) (cpu : ℕ) (frame : Frame) (c : Feeding) (old new : RunValue)
    (run : IsRun steps job old) (few : job.setup.plan.members ≤ 8) (within : cpu < length old.cpus)
    (l : Looked job.setup.plan (judge_rules_of job) steps cpu frame c old new) where
  abbrev plan : Shape
  plan = job.setup.plan

  abbrev judge : JudgeRules
  judge = judge_rules_of job

  abbrev drawn : Option ℕ
  drawn = ticket_of plan.mode old.ticket

  stays_run : IsRun steps job new
  stays_run = record {
    count = as_count steps plan c.path.present (judge.queue frame.cpu) drawn l.tries old.members new.members
        (offer_by judge steps.size.room frame) l.tried ∙ run.count;
    sizes = as_keep steps plan c.path.present (judge.queue frame.cpu) drawn l.tries old.members new.members
        (λ (ring : Ring). ring.size ≡ steps.size) (offer_by judge steps.size.room frame) (λ ring note e. e) l.tried
        run.sizes;
    cpus = subst (λ (cs : List Feeding). AreCpus plan 0 cs) (sym (cpus_are plan judge steps cpu frame c old new l within))
        (cpus-keep plan 0 old.cpus cpu _ run.cpus (sym (ap (λ (x : Feeding). x.number) l.here))
        (sym (ap (λ (x : Feeding). x.path.shape) l.here)));
  }

  pub arrives_as : Arrives steps job cpu frame c old new
  arrives_as = record {
    here = l.here;
    does = λ all h. arrives plan judge steps cpu frame c old new l within all h;
    run = stays_run;
    path = _;
    cpus_are = cpus_are plan judge steps cpu frame c old new l within;
    changed = as_changed steps plan c.path.present (judge.queue frame.cpu) drawn l.tries old.members new.members
        (offer_by judge steps.size.room frame) l.tried;
    ticket = subst (λ (ticket : ℕ). ticket ≤ old.ticket + 1) (sym l.ticket_is) (drawn_most plan.mode old.ticket);
    notes = λ most all. made_most steps plan c.path.present (judge.queue frame.cpu) drawn
        (offer_by judge steps.size.room frame) l.tries old.members new.members most few l.tried all;
  }

-- ---- a frame is fed

abbrev first : Feeding → Option SourceSeen
first cpu = cpu.first

firsts_set : (cpus : List Feeding) (at : ℕ) (c : Feeding) → c.first ≡ (get_or cpus at no_feeding).first
    → map first (slice_set cpus at c) ≡ map first cpus
firsts_set [] at c e = refl
firsts_set (d ∷ cpus) zero c e = ap (λ (f : Option SourceSeen). f ∷ map first cpus) e
firsts_set (d ∷ cpus) (suc at) c e = ap (λ (fs : List (Option SourceSeen)). d.first ∷ fs) (firsts_set cpus at c e)

pub next_run : (steps : RingSteps) (job : Job) (cpu : ℕ) (arrival : Option Frame) (run : RunValue) (c : Feeding)
    → Nexts cpu arrival run c → IsRun steps job run
    → IsRun steps job (with_cpu cpu c run)
next_run steps job cpu arrival run c n h = record {
  count = h.count;
  sizes = h.sizes;
  cpus = cpus-keep job.setup.plan 0 run.cpus cpu c h.cpus n.same.number n.same.shape;
}

module _ (steps : RingSteps) (job : Job) (cpu : ℕ) (run : RunValue) (c : Feeding) (h : IsRun steps job run)
    (within : cpu < length run.cpus) where
  -- if nothing arrives
  does_nothing : Nexts cpu None run c → Does (λ replay. feed (rules_of job) steps cpu replay) run (with_cpu cpu c run)
  does_nothing n = λ all a.
      let t = next_does cpu None all run c n within a in
      (t.before, t.rest_is ∙ feeds_nothing (rules_of job) steps cpu (whole all run) t.arrival_is)

  pub feeds_none : Nexts cpu None run c → FedOne (cpu_in run cpu) c → Feeds steps job cpu true run (with_cpu cpu c run)
  feeds_none n one = record {
    does = does_nothing n;
    run = next_run steps job cpu None run c n h;
    goes = record { one = c; cpus_are = refl; goes = one };
    firsts = firsts_set run.cpus cpu c n.same.first;
    changed = inl refl;
    counted = λ lines counted. nothing_arrived lines (with_cpu cpu c run) (one_fed lines cpu run c within counted one);
  }

  pub feeds_end : Nexts cpu None run c → IsAtItsEnd c → c.fed ≡ (cpu_in run cpu).fed
      → Feeds steps job cpu false run (with_cpu cpu c run)
  feeds_end n end idle = record {
    does = does_nothing n;
    run = next_run steps job cpu None run c n h;
    goes = record { one = c; cpus_are = refl; goes = end };
    firsts = firsts_set run.cpus cpu c n.same.first;
    changed = inl refl;
    counted = λ lines counted. none_fed lines cpu run c within counted idle;
  }

  pub feeds_arrival : (frame : Frame) (new : RunValue) → Nexts cpu (Some frame) run c → FedOne (cpu_in run cpu) c
      → Arrives steps job cpu frame c (with_cpu cpu c run) new
      → Feeds steps job cpu true run new
  feeds_arrival frame new n one a =
      let mid : RunValue = with_cpu cpu c run in
      let many = length-set run.cpus cpu c in
      let set : new.cpus ≡ slice_set run.cpus cpu (record c { path = a.path }) =
      a.cpus_are ∙ set-set run.cpus cpu c (record c { path = a.path }) in
      record {
        does = λ all b.
            let last = a.does all b in
            let t = next_does cpu (Some frame) all run c n within last.0 in (
              t.before,
              last.1 ∙ ap (λ (r : Replay). arrived (rules_of job) steps cpu frame r) t.rest_is
                  ∙ feeds_frame (rules_of job) steps cpu frame (whole all run) t.arrival_is,
            );
        run = a.run;
        goes = record { one = record c { path = a.path }; cpus_are = set; goes = record { one = one.one; few = one.few } };
        firsts = ap (λ (cs : List Feeding). map first cs) set
            ∙ firsts_set run.cpus cpu (record c { path = a.path }) n.same.first;
        changed = a.changed;
        counted = λ lines counted. has_arrived steps job lines cpu frame c mid new (omega (arith, many, within)) a
            (one_fed lines cpu run c within counted one);
      }

-- ---- what a CPU of the run is fed

module _ (steps : RingSteps) (job : Job) (cpu : ℕ) (rules : ArrivalRules) (run : RunValue) (h : IsRun steps job run)
    (few : job.setup.plan.members ≤ 8) (are : AreRulesAt steps job cpu rules) (within : cpu < length run.cpus) where
  number_is : (cpu_in run cpu).number ≡ cpu
  number_is = let is = cpus-number job.setup.plan 0 run.cpus cpu h.cpus within in omega (arith, is)

  shape_is : (cpu_in run cpu).path.shape ≡ job.setup.plan
  shape_is = cpus-shape job.setup.plan 0 run.cpus cpu h.cpus within

  fed_by : (more : Bool) (c d : Feeding) (arrival : Option Frame) (after : GroupValue) → Nexts cpu arrival run c
      → MatchBool more (FedOne (cpu_in run cpu) c) (HasNone (cpu_in run cpu) c arrival)
      → ReceivesIfAny (IsMadeBy steps) IsDrawn rules arrival c d (group_of run) after
      → Feeds steps job cpu more run (run_with (slice_set run.cpus cpu d) after)
  fed_by true c d None after n one r =
      subst (λ (new : RunValue). Feeds steps job cpu true run new)
      (sym (ap (λ (x : Feeding). run_with (slice_set run.cpus cpu x) after) r.0
      ∙ ap (λ (group : GroupValue). run_with (slice_set run.cpus cpu c) group) r.1))
      (feeds_none steps job cpu run c h within n one)
  fed_by false c d None after n none r =
      subst (λ (new : RunValue). Feeds steps job cpu false run new)
      (sym (ap (λ (x : Feeding). run_with (slice_set run.cpus cpu x) after) r.0
      ∙ ap (λ (group : GroupValue). run_with (slice_set run.cpus cpu c) group) r.1))
      (feeds_end steps job cpu run c h within n none.end none.fed)
  fed_by false c d (Some frame) after n none r = let e = none.none in cc
  fed_by true c d (Some frame) after n one r =
      let many = length-set run.cpus cpu c in
      let l = looked steps job cpu rules frame c d run after are within (r.place ∙ n.same.number ∙ number_is)
      (n.same.shape ∙ shape_is) r.new_is r.received in
      feeds_arrival steps job cpu run c h within frame (run_with (slice_set run.cpus cpu d) after) n one
      (arrives_as steps job cpu frame c (with_cpu cpu c run) (run_with (slice_set run.cpus cpu d) after)
      (next_run steps job cpu (Some frame) run c n h) few (omega (arith, many, within)) l)

  pub fed_as : (more : Bool) (d : Feeding) (after : GroupValue)
      → CpuFeeds (IsMadeBy steps) IsDrawn rules more (cpu_in run cpu) d (group_of run) after
      → Feeds steps job cpu more run (run_with (slice_set run.cpus cpu d) after)
  fed_as more d after f = fed_by more f.mid d f.arrival after (record { same = f.same; takes = f.takes }) f.goes f.receives

-- the fields of a run are those of its value
module _ (steps : RingSteps) (job : Job) (cpu : ℕ) (rules : ArrivalRules) (cpus : List Feeding) (group : GroupValue)
    (x : Feeding) (now : RunValue)
    (view : run_with cpus group ≡ now) (here : x ≡ get_or cpus cpu x) (inside : cpu < length now.cpus) where
  within : cpu < length cpus
  within = subst (λ (run : RunValue). cpu < length run.cpus) (sym view) inside

  cpu_is : x ≡ cpu_in (run_with cpus group) cpu
  cpu_is = here ∙ get_or_default cpus cpu x no_feeding within

  pub told_fed : {E : Type 0} (result : Result Bool E) (d : Feeding) (after : GroupValue) → IsRun steps job now
      → job.setup.plan.members ≤ 8 → AreRulesAt steps job cpu rules
      → IfOk result (λ more. CpuFeeds (IsMadeBy steps) IsDrawn rules more x d group after)
      → IfOk result (λ more. Feeds steps job cpu more now (run_with (slice_set cpus cpu d) after))
  told_fed (Ok more) d after h few are f =
      let run : IsRun steps job (run_with cpus group) = subst (λ (r : RunValue). IsRun steps job r) (sym view) h in
      let fed : CpuFeeds (IsMadeBy steps) IsDrawn rules more (cpu_in (run_with cpus group) cpu) d group after =
      subst (λ (c : Feeding). CpuFeeds (IsMadeBy steps) IsDrawn rules more c d group after) cpu_is f in
      subst (λ (r : RunValue). Feeds steps job cpu more r (run_with (slice_set cpus cpu d) after)) view
      (fed_as steps job cpu rules (run_with cpus group) run few are within more d after fed)
  told_fed (Err error) d after h few are f = tt

  -- each member takes each offer that is sound for its rings
  pub takes_all : IsRun steps job now → rules.room ≡ steps.size.room → rules.room % 8 ≡ 0
      → TakesAllOf (λ member offer. TakesAt group.members member offer) x.path.shape.members rules.room x.number
  takes_all h room_is even = λ member offer less place sound.
      let run : IsRun steps job (run_with cpus group) = subst (λ (r : RunValue). IsRun steps job r) (sym view) h in
      let there : member < (cpu_in (run_with cpus group) cpu).path.shape.members =
      subst (λ (c : Feeding). member < c.path.shape.members) cpu_is less in
      member_takes steps job (run_with cpus group) cpu rules.room member offer run within room_is even there sound
