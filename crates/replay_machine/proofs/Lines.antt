-- The lines of a schedule, and what follows the last one.
use Rattle.std.proofs.Common.{◌≡◌, ℕ, zero, suc, ◌+◌, ◌-◌, ◌<◌, ◌≤◌, Bool, true, false, cond, List, [], ◌∷◌, ◌++◌, length, take}
use Rattle.std.proofs.Common.{drop, get_or, append-nil, Option, None, Some, inl, inr, refl, sym, ap, ◌∙◌, subst, arith}
use Rattle.std.proofs.Common.{length-set}
use Rattle.std.specs.Prelude.{IsSome, MatchBool, OnOk, Result, Ok, Err, map, nat_lt, slice_index_or, slice_set}
use Rattle.std.specs.List.{AllByRecursion}
use Rattle.std.proofs.lemmas.Bool.{cases_eq}
use Rattle.std.proofs.lemmas.List.{drop_all, get_or-set_other, get_or-set_same, get_or_past, length-map, set-set}
use Rattle.std.proofs.lemmas.List.Elements.{All-map}
use Rattle.fanout_group.specs.Arrivals.{arrivals_from}
use Rattle.fanout_group.specs.Plans.{has_defrag}
use Rattle.fanout_group.specs.Rules.{Rules}
use Rattle.frame_view.specs.declared.frames.Frame.{Frame}
use Rattle.receive_ring.specs.Replay.{Cpu, Replay, cpu_at, fed_by, feed, feed_from, feed_times, no_cpu, no_ring, noted_at}
use Rattle.run_reports.specs.RingSteps.{RingSteps, read_by, ticked as ticked_ring, ticked_by}
use Rattle.setup_text.specs.declared.lines.Line.{Line}
use Rattle.setup_text.specs.declared.lines.Line.TheVariants.{Feed, Read, Tick, Stats}
use Rattle.receive_ring.proofs.KeptArrivals.{arrived_is}
use Rattle.ring_model.specs.Rings.{Ring, noted}
use Rattle.ring_model.specs.declared.notes.Found.{Found}
use Rattle.ring_model.specs.declared.notes.Note.TheVariants.{Counted}
use Rattle.setup_text.specs.declared.jobs.Job.{Job}
use Rattle.cpu_feed.specs.Fed.{FedOne, IsAtItsEnd}
use Rattle.cpu_feed.specs.CpuFeeds.{Feeding, IsAllOfCpu, frames_in}
use Rattle.replay_machine.specs.RingGroups.{GroupValue}
use Rattle.replay_machine.specs.RunStates.{AreAllOf, Feeds, HasCount, IsCounted, IsRun, RunValue, cpu_in, cpus_of, firsts_of}
use Rattle.replay_machine.specs.RunStates.{no_feeding, whole, cpu_of}
use Rattle.run_reports.specs.Jobs.{rules_of}
use Rattle.replay_machine.specs.inside.RunEffects.{FedRest, FedWhole, LineDone, fed_whole}
use Rattle.replay_machine.proofs.RunCounts.{keeps_count, more_lines, read_counted, stats_counted, tick_counted}
use Rattle.replay_machine.proofs.RingGroups.{group_with}
use Rattle.replay_machine.proofs.RunSteps.{run_with}
use Rattle.replay_machine.proofs.Timed.{set_one}
use Rattle.replay_machine.proofs.Whole.{all-set, as-many, cpus-at, no_frames, set_same}

has-cpu : (cpus : List Cpu) (cpu : ℕ) (arrival : Option Frame) (rest : List (Option Frame))
    → (get_or cpus cpu no_cpu).waiting ≡ arrival ∷ rest → cpu < length cpus
has-cpu [] cpu arrival rest e = cc
has-cpu (c ∷ cpus) zero arrival rest e = omega arith
has-cpu (c ∷ cpus) (suc cpu) arrival rest e = omega (arith, has-cpu cpus cpu arrival rest e)

fed_cpu : (rules : Rules) (steps : RingSteps) (count cpu : ℕ) (old new : Replay) → cpu < count
    → new ≡ feed_times rules steps cpu (length (cpu_at old cpu).waiting) old
    → feed_from rules steps (cpu + 1) (count - (cpu + 1)) new ≡ feed_from rules steps cpu (count - cpu) old
fed_cpu rules steps count cpu old new h e =
    let less : suc (count - (cpu + 1)) ≡ count - cpu = omega (arith, h) in
    ap (λ (r : Replay). feed_from rules steps (cpu + 1) (count - (cpu + 1)) r) e
    ∙ ap (λ left. feed_from rules steps cpu left old) less

-- ---- a tick

take_all : (n : ℕ) (xs : List Ring) → length xs ≤ n → take n xs ≡ xs
take_all zero [] h = refl
take_all zero (x ∷ xs) h = absurd (omega (arith, h))
take_all (suc n) [] h = refl
take_all (suc n) (x ∷ xs) h = ap (λ (ys : List Ring). x ∷ ys) (take_all n xs (omega (arith, h)))

rings_past : (n : ℕ) (xs : List Ring) → length xs ≤ n → drop n xs ≡ []
rings_past zero [] h = refl
rings_past (suc n) [] h = refl
rings_past zero (x ∷ xs) h = absurd (omega (arith, h))
rings_past (suc n) (x ∷ xs) h = rings_past n xs (omega (arith, h))

pub all_changed : (f : Ring → Ring) (n : ℕ) (xs ys : List Ring) → length xs ≤ n → ys ≡ map f (take n xs) ++ drop n xs
    → ys ≡ map f xs
all_changed f n xs ys h e =
    e ∙ ap (λ (rs : List Ring). map f rs ++ drop n xs) (take_all n xs h)
    ∙ ap (λ (rs : List Ring). map f xs ++ rs) (rings_past n xs h)
    ∙ append-nil (map f xs)

pub ticked : (f : Ring → Ring) (rings after : List Ring) (ticket next : ℕ) (now : GroupValue) → next ≡ ticket
    → after ≡ map f rings → group_with rings ticket ≡ now → group_with after next ≡ record now { members = map f now.members }
ticked f rings after ticket next now t m is =
    ap (λ (n : ℕ). group_with after n) t ∙ ap (λ (rs : List Ring). group_with rs ticket) m
    ∙ ap (λ (group : GroupValue). record group { members = map f group.members }) is

-- what a line makes of the group it makes of the run
pub group_done : (f : List Ring → List Ring) (cpus : List Feeding) (before after : GroupValue) (now : RunValue)
    → after ≡ record before { members = f before.members }
    → run_with cpus before ≡ now → run_with cpus after ≡ record now { members = f now.members }
group_done f cpus before after now e is =
    ap (λ (group : GroupValue). run_with cpus group) e ∙ ap (λ (run : RunValue). record run { members = f run.members }) is

tick_size : (found : Option Found) (ms : ℕ) (ring : Ring) → (ticked_by found ms ring).size ≡ ring.size
tick_size None ms ring = refl
tick_size (Some found) ms ring = refl

pub tick_done : {A E : Type 0} (result : Result A E) (steps : RingSteps) (job : Job) (line : Line) (ms : ℕ)
    (old new : RunValue) → IsRun steps job old → line ≡ Tick ms
    → OnOk result (new ≡ record old { members = map (ticked_ring steps ms) old.members })
    → OnOk result (LineDone steps job line old new)
tick_done (Err e) steps job line ms old new h is new_is = tt
tick_done (Ok a) steps job line ms old new h is new_is =
    let f : Ring → Ring = ticked_ring steps ms in
    let P : Ring → Type 0 = λ ring. ring.size ≡ steps.size in
    let done : LineDone steps job (Tick ms) old (record old { members = map f old.members }) = record {
      does = λ all g. (g, refl);
      run = record {
        count = length-map old.members f ∙ h.count;
        sizes = All-map P f old.members (λ k d l. tick_size _ ms _ ∙ h.sizes k d l);
        cpus = h.cpus;
      };
      firsts = refl;
      members = refl;
      counted = λ lines counted. tick_counted steps lines ms old _ refl counted;
    } in
    subst (λ (l : Line). LineDone steps job l old new) (sym is)
    (subst (λ (run : RunValue). LineDone steps job (Tick ms) old run) (sym new_is) done)

-- ---- a CPU that doesn't exist

pub no_such_cpu : (steps : RingSteps) (job : Job) (cpu : ℕ) (run : RunValue) → IsRun steps job run → length run.cpus ≤ cpu
    → LineDone steps job (Feed cpu) run run
no_such_cpu steps job cpu run h past = record {
  does = λ all g.
      let many = as-many all run.cpus g in
      let none : (cpu_at (whole all run) cpu).waiting ≡ [] =
      ap (λ (c : Cpu). c.waiting) (get_or_past (cpus_of all run.cpus) cpu no_cpu (omega (arith, many, past))) in
      (g, sym (ap (λ (ws : List (Option Frame)). fed_by (rules_of job) steps cpu ws (whole all run)) none));
  run = h;
  firsts = refl;
  members = inl refl;
  counted = λ lines counted. more_lines lines (lines + 1) run (omega arith) counted;
}

-- ---- one line of a CPU or a member

one_set : (steps : RingSteps) (job : Job) (run : RunValue) (member : ℕ) (ring : Ring) → IsRun steps job run
    → ((get_or run.members member no_ring).size ≡ steps.size → ring.size ≡ steps.size)
    → IsRun steps job (record run { members = slice_set run.members member ring })
one_set steps job run member ring h keeps = record {
  count = length-set run.members member ring ∙ h.count;
  sizes = set_one (λ (r : Ring). r.size ≡ steps.size) run.members member ring h.sizes keeps;
  cpus = h.cpus;
}

same_size : (goes : Bool) (x y : Ring) → x.size ≡ y.size → (cond goes x y).size ≡ y.size
same_size true x y e = e
same_size false x y e = refl

read_size : (steps : RingSteps) (ring : Ring) → (read_by steps ring).size ≡ ring.size
read_size steps ring = same_size (nat_lt ring.released (steps.retired ring)) (record ring { released = ring.released + 1 })
    ring refl

pub read_done : {A E : Type 0} (result : Result A E) (steps : RingSteps) (job : Job) (line : Line) (member : ℕ)
    (old new : RunValue) → IsRun steps job old → line ≡ Read member
    → OnOk result (new ≡ record old {
      members = slice_set old.members member
          (read_by steps (slice_index_or old.members member no_ring));
    })
    → OnOk result (LineDone steps job line old new)
read_done (Err e) steps job line member old new h is new_is = tt
read_done (Ok a) steps job line member old new h is new_is =
    let here = get_or old.members member no_ring in
    let done : LineDone steps job (Read member) old
    (record old { members = slice_set old.members member (read_by steps here) }) = record {
      does = λ all g. (g, refl);
      run = one_set steps job old member (read_by steps here) h (λ e. read_size steps here ∙ e);
      firsts = refl;
      members = refl;
      counted = λ lines counted. read_counted steps lines member old _ refl counted;
    } in
    subst (λ (l : Line). LineDone steps job l old new) (sym is)
    (subst (λ (run : RunValue). LineDone steps job (Read member) old run) (sym new_is) done)

pub stats_done : {A E : Type 0} (result : Result A E) (steps : RingSteps) (job : Job) (line : Line) (member : ℕ)
    (old new : RunValue) → IsRun steps job old → line ≡ Stats member
    → OnOk result (new ≡ record old { members = noted_at member Counted old.members })
    → OnOk result (LineDone steps job line old new)
stats_done (Err e) steps job line member old new h is new_is = tt
stats_done (Ok a) steps job line member old new h is new_is =
    let done : LineDone steps job (Stats member) old (record old { members = noted_at member Counted old.members }) = record {
      does = λ all g. (g, refl);
      run = one_set steps job old member (noted (get_or old.members member no_ring) Counted) h (λ e. e);
      firsts = refl;
      members = refl;
      counted = λ lines counted. stats_counted lines member old _ refl counted;
    } in
    subst (λ (l : Line). LineDone steps job l old new) (sym is)
    (subst (λ (run : RunValue). LineDone steps job (Stats member) old run) (sym new_is) done)

pub fed_line : (steps : RingSteps) (job : Job) (cpu : ℕ) (more : Bool) (old new : RunValue)
    → Feeds steps job cpu more old new → LineDone steps job (Feed cpu) old new
fed_line steps job cpu more old new f = record {
  does = f.does;
  run = f.run;
  firsts = f.firsts;
  members = f.changed;
  counted = λ lines counted. more_lines lines (lines + 1) new (omega arith) (f.counted lines counted);
}

-- ---- a CPU to its end

waiting_fed : (rules : Rules) (steps : RingSteps) (cpu : ℕ) (next : Option Frame) (rest : List (Option Frame))
    (replay : Replay) → cpu < length replay.cpus
    → (cpu_at (fed_by rules steps cpu (next ∷ rest) replay) cpu).waiting ≡ rest
waiting_fed rules steps cpu None rest replay h = ap (λ (c : Cpu). c.waiting) (get_or-set_same replay.cpus cpu _ no_cpu h)
waiting_fed rules steps cpu (Some frame) rest replay h =
    ap (λ (r : Replay). (cpu_at r cpu).waiting) (arrived_is rules steps cpu frame rest replay h)
    ∙ ap (λ (c : Cpu). c.waiting) (get_or-set_same replay.cpus cpu _ no_cpu h)

more_by : (rules : Rules) (steps : RingSteps) (cpu : ℕ) (waiting : List (Option Frame)) (replay : Replay)
    → (cpu_at replay cpu).waiting ≡ waiting
    → feed_times rules steps cpu (length (cpu_at (fed_by rules steps cpu waiting replay) cpu).waiting)
    (fed_by rules steps cpu waiting replay)
    ≡ feed_times rules steps cpu (length waiting) replay
more_by rules steps cpu [] replay e = ap (λ (ws : List (Option Frame)). feed_times rules steps cpu (length ws) replay) e
more_by rules steps cpu (next ∷ rest) replay e =
    let within = has-cpu replay.cpus cpu next rest e in
    ap (λ (ws : List (Option Frame)). feed_times rules steps cpu (length ws) (fed_by rules steps cpu (next ∷ rest) replay))
    (waiting_fed rules steps cpu next rest replay within)
    ∙ ap (λ (ws : List (Option Frame)). feed_times rules steps cpu (length rest) (fed_by rules steps cpu ws replay)) (sym e)

-- one fewer frame waits, and all else is still to come
pub fed_more : (steps : RingSteps) (job : Job) (cpu : ℕ) (replay : Replay)
    → fed_whole steps job cpu (feed (rules_of job) steps cpu replay) ≡ fed_whole steps job cpu replay
fed_more steps job cpu replay = more_by (rules_of job) steps cpu (cpu_at replay cpu).waiting replay refl

none_left : (all : List Frame) (cpu : Feeding) → IsAllOfCpu all cpu → IsAtItsEnd cpu → (cpu_of all cpu).waiting ≡ []
none_left all cpu h end =
    let whole : all ≡ frames_in cpu = h.1 ∙ ap (λ (fs : List Frame). frames_in cpu ++ fs) (h.2 end.ended)
    ∙ append-nil (frames_in cpu) in
    ap (λ (fs : List Frame). arrivals_from (has_defrag cpu.path.shape.flags) cpu.path.held fs)
    (ap (λ (fs : List Frame). drop cpu.fed fs) whole ∙ drop_all cpu.fed (frames_in cpu) end.all)

-- a CPU at its end has nothing that waits
pub fed_to_end : (steps : RingSteps) (job : Job) (cpu : ℕ) (all : List (List Frame)) (cpus : List Feeding) (one : Feeding)
    (new : RunValue) → cpu < length cpus
    → new.cpus ≡ slice_set cpus cpu one → IsAtItsEnd one → AreAllOf all new.cpus
    → fed_whole steps job cpu (whole all new) ≡ whole all new
fed_to_end steps job cpu all cpus one new within is end h =
    let g : AreAllOf all (slice_set cpus cpu one) = subst (λ (cs : List Feeding). AreAllOf all cs) is h in
    let here = all-set all cpus cpu one g within in
    let many = ap (λ (cs : List Feeding). length cs) is ∙ length-set cpus cpu one in
    let inside : cpu < length new.cpus = omega (arith, many, within) in
    let same : cpu_in new cpu ≡ one = ap (λ (cs : List Feeding). get_or cs cpu no_feeding) is
    ∙ get_or-set_same cpus cpu one no_feeding within in
    let none : (cpu_at (whole all new) cpu).waiting ≡ [] =
    ap (λ (c : Cpu). c.waiting) (cpus-at all new.cpus cpu h inside)
    ∙ ap (λ (c : Feeding). (cpu_of (get_or all cpu no_frames) c).waiting) same
    ∙ none_left (get_or all cpu no_frames) one here end in
    ap (λ (ws : List (Option Frame)). feed_times (rules_of job) steps cpu (length ws) (whole all new)) none

-- what holds between two frames
pub record Goes (steps : RingSteps) (job : Job) (cpu : ℕ) (first now : RunValue) : Type 0 where
  pub run : IsRun steps job now
  pub does : (all : List (List Frame)) → AreAllOf all now.cpus
      → AreAllOf all first.cpus × (fed_whole steps job cpu (whole all now) ≡ fed_whole steps job cpu (whole all first))
  pub firsts : firsts_of now ≡ firsts_of first
  pub cpus : (one : Feeding) × (now.cpus ≡ slice_set first.cpus cpu one)
  pub counted : (lines : ℕ) → IsCounted lines first → IsCounted lines now

pub goes_first : (steps : RingSteps) (job : Job) (cpu : ℕ) (run : RunValue) → IsRun steps job run → Goes steps job cpu run run
goes_first steps job cpu run h =
    record {
      run = h;
      does = λ all g. (g, refl);
      firsts = refl;
      cpus = (cpu_in run cpu, sym (set_same run.cpus cpu no_feeding));
      counted = λ lines counted. counted;
    }

goes_cpus : (steps : RingSteps) (job : Job) (cpu : ℕ) (more : Bool) (first now new : RunValue)
    → Goes steps job cpu first now → (f : Feeds steps job cpu more now new)
    → new.cpus ≡ slice_set first.cpus cpu f.goes.one
goes_cpus steps job cpu more first now new h f =
    f.goes.cpus_are ∙ ap (λ (cs : List Feeding). slice_set cs cpu f.goes.one) h.cpus.1
    ∙ set-set first.cpus cpu h.cpus.0 f.goes.one

pub goes_on : (steps : RingSteps) (job : Job) (cpu : ℕ) (more : Bool) (first now new : RunValue)
    → Goes steps job cpu first now → Feeds steps job cpu more now new → Goes steps job cpu first new
goes_on steps job cpu more first now new h f = record {
  run = f.run;
  does = λ all g.
      let b = f.does all g in
      let i = h.does all b.0 in
      (i.0, ap (λ (r : Replay). fed_whole steps job cpu r) b.1 ∙ fed_more steps job cpu (whole all now) ∙ i.1);
  firsts = f.firsts ∙ h.firsts;
  cpus = (f.goes.one, goes_cpus steps job cpu more first now new h f);
  counted = λ lines counted. f.counted lines (h.counted lines counted);
}

pub goes_to_end : (steps : RingSteps) (job : Job) (cpu : ℕ) (more : Bool) (first now new : RunValue)
    → cpu < length first.cpus → Goes steps job cpu first now → Feeds steps job cpu more now new
    → more ≡ false → FedWhole steps job cpu first new
goes_to_end steps job cpu more first now new within h f last =
    let next = goes_on steps job cpu more first now new h f in
    let end : IsAtItsEnd f.goes.one = subst (λ (b : Bool). MatchBool b (FedOne (cpu_in now cpu) f.goes.one)
    (IsAtItsEnd f.goes.one)) last f.goes.goes in
    record {
      does = λ all g.
          let i = next.does all g in (
            i.0,
            sym (fed_to_end steps job cpu all first.cpus f.goes.one new
                within (goes_cpus steps job cpu more first now new h f) end g) ∙ i.1,
          );
      run = next.run;
      firsts = next.firsts;
      one = f.goes.one;
      cpus_are = goes_cpus steps job cpu more first now new h f;
      ended = end;
      counted = next.counted;
    }

-- ---- all CPUs

pub record Rest (steps : RingSteps) (job : Job) (many cpu : ℕ) (first now : RunValue) : Type 0 where
  pub run : IsRun steps job now
  pub count : length now.cpus ≡ many
  pub does : (all : List (List Frame)) → AreAllOf all now.cpus → AreAllOf all first.cpus
      × (feed_from (rules_of job) steps cpu (many - cpu) (whole all now)
      ≡ feed_from (rules_of job) steps 0 many (whole all first))
  pub firsts : firsts_of now ≡ firsts_of first
  pub counted : HasCount now
  pub ended : (k : ℕ) → k < cpu → IsAtItsEnd (cpu_in now k)

ended_more : (cpu k : ℕ) (cpus : List Feeding) (one : Feeding) → cpu < length cpus → IsAtItsEnd one
    → ((k : ℕ) → k < cpu → IsAtItsEnd (get_or cpus k no_feeding))
    → k < cpu + 1 → IsAtItsEnd (get_or (slice_set cpus cpu one) k no_feeding)
ended_more cpu k cpus one within end ended less = elim (cases_eq cpu k) [
  | inl same ↦ subst (λ (n : ℕ). IsAtItsEnd (get_or (slice_set cpus cpu one) n no_feeding)) same
      (subst (λ (c : Feeding). IsAtItsEnd c) (sym (get_or-set_same cpus cpu one no_feeding within)) end)
  | inr other ↦ subst (λ (c : Feeding). IsAtItsEnd c)
      (sym (get_or-set_other cpus cpu k one no_feeding (λ e. other (sym e)))) (ended k (omega (arith, less, other)))
]

pub rest_on : (steps : RingSteps) (job : Job) (count cpu : ℕ) (first now new : RunValue) → cpu < count
    → Rest steps job count cpu first now → FedWhole steps job cpu now new
    → Rest steps job count (cpu + 1) first new
rest_on steps job count cpu first now new within h f =
    let many = h.count in
    let inside : cpu < length now.cpus = omega (arith, within, many) in
    record {
      run = f.run;
      count = ap (λ (cs : List Feeding). length cs) f.cpus_are ∙ length-set now.cpus cpu f.one ∙ h.count;
      does = λ all g.
          let b = f.does all g in
          let i = h.does all b.0 in
          (i.0, fed_cpu (rules_of job) steps count cpu (whole all now) (whole all new) within b.1 ∙ i.1);
      firsts = f.firsts ∙ h.firsts;
      counted = keeps_count now new f.counted h.counted;
      ended = λ k less. subst (λ (cs : List Feeding). IsAtItsEnd (get_or cs k no_feeding)) (sym f.cpus_are)
          (ended_more cpu k now.cpus f.one inside f.ended h.ended less);
    }

all_ended : (cpus : List Feeding) → ((k : ℕ) → k < length cpus → IsAtItsEnd (get_or cpus k no_feeding))
    → AllByRecursion (λ cpu. IsSome cpu.ended) cpus
all_ended [] h = tt
all_ended (c ∷ cpus) h = let here = h 0 (omega arith) in (
  here.ended,
  all_ended cpus
      (λ k less. h (suc k) (omega (arith, less))),
)

pub rest_done : (steps : RingSteps) (job : Job) (count cpu : ℕ) (first now : RunValue) → count ≡ length first.cpus
    → count ≤ cpu → Rest steps job count cpu first now → FedRest steps job first now
rest_done steps job count cpu first now is past h =
    let none : count - cpu ≡ 0 = omega (arith, past) in
    let many = h.count in
    record {
      does = λ all g.
          let i = h.does all g in (
            i.0,
            sym (ap (λ (left : ℕ). feed_from (rules_of job) steps cpu left (whole all now)) none) ∙ i.1
                ∙ ap (λ (n : ℕ). feed_from (rules_of job) steps 0 n (whole all first)) is,
          );
      run = h.run;
      firsts = h.firsts;
      ended = all_ended now.cpus (λ k less. h.ended k (omega (arith, less, many, past)));
    }
