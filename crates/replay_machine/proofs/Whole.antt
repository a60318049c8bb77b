-- The CPUs of a run, and those of the replay of all their frames, place by place.
use Rattle.std.proofs.Common.{◌≡◌, ℕ, zero, suc, ◌+◌, ◌<◌, List, [], ◌∷◌, length, drop, get_or, Option, None, Some, refl, sym}
use Rattle.std.proofs.Common.{ap, ◌∙◌, arith}
use Rattle.std.specs.Prelude.{slice_set}
use Rattle.fanout_group.specs.Paths.{Path}
use Rattle.fanout_group.specs.Plans.{Shape}
use Rattle.frame_view.specs.declared.frames.Frame.{Frame}
use Rattle.receive_ring.specs.Replay.{Cpu, Replay, arrived, cpu_at, fed_by, feed, no_cpu}
use Rattle.fanout_group.specs.Rules.{Rules}
use Rattle.run_reports.specs.RingSteps.{RingSteps}
use Rattle.cpu_feed.specs.CpuFeeds.{Feeding, IsAllOfCpu, IsSameCpu, next_of, Takes, waiting_of}
use Rattle.replay_machine.specs.RunStates.{AreAllOf, AreCpus, RunValue, cpu_in, cpus_of, no_feeding, whole, cpu_of}

-- a CPU has one fewer waiting frame
abbrev pub with_rest : ℕ → List (Option Frame) → Replay → Replay
with_rest cpu rest replay = record replay { cpus = slice_set replay.cpus cpu (record (cpu_at replay cpu) { waiting = rest }) }

abbrev pub no_frames : List Frame
no_frames = []

pub cpus-set : (all : List (List Frame)) (cpus : List Feeding) (at : ℕ) (c : Feeding) → AreAllOf all (slice_set cpus at c)
    → cpus_of all (slice_set cpus at c) ≡ slice_set (cpus_of all cpus) at (cpu_of (get_or all at no_frames) c)
cpus-set [] [] at c h = refl
cpus-set [] (d ∷ cpus) zero c h = absurd h
cpus-set [] (d ∷ cpus) (suc at) c h = absurd h
cpus-set (a ∷ all) [] at c h = absurd h
cpus-set (a ∷ all) (d ∷ cpus) zero c h = refl
cpus-set (a ∷ all) (d ∷ cpus) (suc at) c h = ap (λ (cs : List Cpu). cpu_of a d ∷ cs) (cpus-set all cpus at c h.1)

pub cpus-at : (all : List (List Frame)) (cpus : List Feeding) (at : ℕ) → AreAllOf all cpus → at < length cpus
    → get_or (cpus_of all cpus) at no_cpu ≡ cpu_of (get_or all at no_frames) (get_or cpus at no_feeding)
cpus-at [] [] at h less = absurd (omega (arith, less))
cpus-at [] (d ∷ cpus) at h less = absurd h
cpus-at (a ∷ all) [] at h less = absurd h
cpus-at (a ∷ all) (d ∷ cpus) zero h less = refl
cpus-at (a ∷ all) (d ∷ cpus) (suc at) h less = cpus-at all cpus at h.1 (omega (arith, less))

pub all-at : (all : List (List Frame)) (cpus : List Feeding) (at : ℕ) → AreAllOf all cpus → at < length cpus
    → IsAllOfCpu (get_or all at no_frames) (get_or cpus at no_feeding)
all-at [] [] at h less = absurd (omega (arith, less))
all-at [] (d ∷ cpus) at h less = absurd h
all-at (a ∷ all) [] at h less = absurd h
all-at (a ∷ all) (d ∷ cpus) zero h less = h.0
all-at (a ∷ all) (d ∷ cpus) (suc at) h less = all-at all cpus at h.1 (omega (arith, less))

pub all-set : (all : List (List Frame)) (cpus : List Feeding) (at : ℕ) (c : Feeding) → AreAllOf all (slice_set cpus at c)
    → at < length cpus
    → IsAllOfCpu (get_or all at no_frames) c
all-set [] [] at c h less = absurd (omega (arith, less))
all-set [] (d ∷ cpus) zero c h less = absurd h
all-set [] (d ∷ cpus) (suc at) c h less = absurd h
all-set (a ∷ all) [] at c h less = absurd h
all-set (a ∷ all) (d ∷ cpus) zero c h less = h.0
all-set (a ∷ all) (d ∷ cpus) (suc at) c h less = all-set all cpus at c h.1 (omega (arith, less))

pub all-back : (all : List (List Frame)) (cpus : List Feeding) (at : ℕ) (c : Feeding) → AreAllOf all (slice_set cpus at c)
    → IsAllOfCpu (get_or all at no_frames) (get_or cpus at no_feeding) → AreAllOf all cpus
all-back [] [] at c h one = tt
all-back [] (d ∷ cpus) zero c h one = absurd h
all-back [] (d ∷ cpus) (suc at) c h one = absurd h
all-back (a ∷ all) [] at c h one = absurd h
all-back (a ∷ all) (d ∷ cpus) zero c h one = (one, h.1)
all-back (a ∷ all) (d ∷ cpus) (suc at) c h one = (h.0, all-back all cpus at c h.1 one)

pub as-many : (all : List (List Frame)) (cpus : List Feeding) → AreAllOf all cpus → length (cpus_of all cpus) ≡ length cpus
as-many [] [] h = refl
as-many [] (d ∷ cpus) h = absurd h
as-many (a ∷ all) [] h = absurd h
as-many (a ∷ all) (d ∷ cpus) h = let rest = as-many all cpus h.1 in omega (arith, rest)

-- ---- the next frame of a CPU

-- the next frame of the CPU of a replay of all frames is taken
taken_cpu : (all : List Frame) (old new : Feeding) (arrival : Option Frame) → Takes all old arrival new
    → cpu_of all new ≡ record (cpu_of all old) { waiting = drop 1 (cpu_of all old).waiting }
taken_cpu all old new arrival t =
    ap (λ (ws : List (Option Frame)). record { waiting = ws; present = new.path.present; log = new.path.log }) t.waiting_is
    ∙ ap (λ (path : Path). record { waiting = drop 1 (waiting_of all old); present = path.present; log = path.log }) t.path_is

-- the run after a CPU became this one
abbrev pub with_cpu : ℕ → Feeding → RunValue → RunValue
with_cpu cpu c run = record run { cpus = slice_set run.cpus cpu c }

-- a CPU takes the next of all its frames, and this arrives with it
pub record Nexts (cpu : ℕ) (arrival : Option Frame) (run : RunValue) (c : Feeding) : Type 0 where
  pub same : IsSameCpu (cpu_in run cpu) c
  pub takes : (all : List Frame) → IsAllOfCpu all c → Takes all (cpu_in run cpu) arrival c

pub record Taken (cpu : ℕ) (arrival : Option Frame) (all : List (List Frame)) (old new : RunValue) : Type 0 where
  pub before : AreAllOf all old.cpus
  pub rest_is : whole all new ≡ with_rest cpu (drop 1 (cpu_at (whole all old) cpu).waiting) (whole all old)
  pub arrival_is : arrival ≡ next_of (cpu_at (whole all old) cpu).waiting

pub next_does : (cpu : ℕ) (arrival : Option Frame) (all : List (List Frame)) (run : RunValue) (c : Feeding)
    → Nexts cpu arrival run c → cpu < length run.cpus
    → AreAllOf all (slice_set run.cpus cpu c) → Taken cpu arrival all run (with_cpu cpu c run)
next_does cpu arrival all run c n within h =
    let a = get_or all cpu no_frames in
    let t = n.takes a (all-set all run.cpus cpu c h within) in
    let before = all-back all run.cpus cpu c h t.before in
    let was : cpu_at (whole all run) cpu ≡ cpu_of a (cpu_in run cpu) = cpus-at all run.cpus cpu before within in
    record {
      before = before;
      rest_is = ap (λ (cs : List Cpu). record (whole all run) { cpus = cs }) (cpus-set all run.cpus cpu c h)
          ∙ ap (λ (x : Cpu). record (whole all run) { cpus = slice_set (cpus_of all run.cpus) cpu x })
          (taken_cpu a (cpu_in run cpu) c arrival t ∙ ap (λ (x : Cpu). record x { waiting = drop 1 x.waiting }) (sym was));
      arrival_is = t.arrival_is ∙ ap (λ (x : Cpu). next_of x.waiting) (sym was);
    }

pub set_same : {X : Type 0} (xs : List X) (at : ℕ) (d : X) → slice_set xs at (get_or xs at d) ≡ xs
set_same [] at d = refl
set_same (x ∷ xs) zero d = refl
set_same (x ∷ xs) (suc at) d = ap (λ ys. x ∷ ys) (set_same xs at d)

-- what is fed, if nothing arrives, and where a frame does
nothing_fed : (rules : Rules) (steps : RingSteps) (cpu : ℕ) (waiting : List (Option Frame)) (replay : Replay)
    → waiting ≡ (cpu_at replay cpu).waiting → None ≡ next_of waiting
    → with_rest cpu (drop 1 waiting) replay ≡ fed_by rules steps cpu waiting replay
nothing_fed rules steps cpu [] replay is e =
    ap (λ (ws : List (Option Frame)). with_rest cpu ws replay) is
    ∙ ap (λ (cs : List Cpu). record replay { cpus = cs }) (set_same replay.cpus cpu no_cpu)
nothing_fed rules steps cpu (None ∷ rest) replay is e = refl
nothing_fed rules steps cpu (Some frame ∷ rest) replay is e = cc

frame_fed : (rules : Rules) (steps : RingSteps) (cpu : ℕ) (waiting : List (Option Frame)) (frame : Frame) (replay : Replay)
    → Some frame ≡ next_of waiting
    → arrived rules steps cpu frame (with_rest cpu (drop 1 waiting) replay) ≡ fed_by rules steps cpu waiting replay
frame_fed rules steps cpu [] frame replay e = cc
frame_fed rules steps cpu (None ∷ rest) frame replay e = cc
frame_fed rules steps cpu (Some other ∷ rest) frame replay e =
    let same : frame ≡ other = cc in
    ap (λ (f : Frame). arrived rules steps cpu f (with_rest cpu rest replay)) same

pub feeds_nothing : (rules : Rules) (steps : RingSteps) (cpu : ℕ) (replay : Replay) → None ≡ next_of (cpu_at replay cpu).waiting
    → with_rest cpu (drop 1 (cpu_at replay cpu).waiting) replay ≡ feed rules steps cpu replay
feeds_nothing rules steps cpu replay e = nothing_fed rules steps cpu (cpu_at replay cpu).waiting replay refl e

pub feeds_frame : (rules : Rules) (steps : RingSteps) (cpu : ℕ) (frame : Frame) (replay : Replay)
    → Some frame ≡ next_of (cpu_at replay cpu).waiting
    → arrived rules steps cpu frame (with_rest cpu (drop 1 (cpu_at replay cpu).waiting) replay) ≡ feed rules steps cpu replay
feeds_frame rules steps cpu frame replay e = frame_fed rules steps cpu (cpu_at replay cpu).waiting frame replay e

-- ---- numbers and shapes

pub cpus-number : (plan : Shape) (number : ℕ) (cpus : List Feeding) (at : ℕ) → AreCpus plan number cpus → at < length cpus
    → (get_or cpus at no_feeding).number ≡ number + at
cpus-number plan number [] at h less = absurd (omega (arith, less))
cpus-number plan number (c ∷ cpus) zero h less = let is = h.0 in omega (arith, is)
cpus-number plan number (c ∷ cpus) (suc at) h less =
    let rest = cpus-number plan (number + 1) cpus at h.2 (omega (arith, less)) in omega (arith, rest)

pub cpus-shape : (plan : Shape) (number : ℕ) (cpus : List Feeding) (at : ℕ) → AreCpus plan number cpus → at < length cpus
    → (get_or cpus at no_feeding).path.shape ≡ plan
cpus-shape plan number [] at h less = absurd (omega (arith, less))
cpus-shape plan number (c ∷ cpus) zero h less = h.1
cpus-shape plan number (c ∷ cpus) (suc at) h less = cpus-shape plan (number + 1) cpus at h.2 (omega (arith, less))

pub cpus-keep : (plan : Shape) (number : ℕ) (cpus : List Feeding) (at : ℕ) (c : Feeding) → AreCpus plan number cpus
    → c.number ≡ (get_or cpus at no_feeding).number → c.path.shape ≡ (get_or cpus at no_feeding).path.shape
    → AreCpus plan number (slice_set cpus at c)
cpus-keep plan number [] at c h n s = tt
cpus-keep plan number (d ∷ cpus) zero c h n s = (n ∙ h.0, s ∙ h.1, h.2)
cpus-keep plan number (d ∷ cpus) (suc at) c h n s = (h.0, h.1, cpus-keep plan (number + 1) cpus at c h.2 n s)
