-- A replay goes on line by line, and in the end no CPU has a frame left.
use Rattle.std.proofs.Common.{◌≡◌, ◌≢◌, ℕ, zero, suc, ◌+◌, ◌<◌, List, [], ◌∷◌, ◌++◌, length, drop, get_or, inl, inr, refl, sym}
use Rattle.std.proofs.Common.{ap, subst, ◌∙◌, arith}
use Rattle.std.specs.Prelude.{Option, None, Some, sum_by, slice_set}
use Rattle.std.proofs.lemmas.Bool.{cases_eq, cases_lt}
use Rattle.std.proofs.lemmas.List.{drop_all, get_or-set_other, get_or-set_same, get_or_past, length-set}
use Rattle.std.proofs.lemmas.List.Sums.{sum_by-set}
use Rattle.frame_view.specs.declared.frames.Frame.{Frame}
use Rattle.ring_model.specs.Rings.{Ring}
use Rattle.fanout_group.specs.Arrivals.{somes}
use Rattle.fanout_group.specs.Joined.{Rises, tickets_of}
use Rattle.fanout_group.specs.Rules.{Rules}
use Rattle.fanout_group.specs.declared.logs.ArrivalLog.{ArrivalLog}
use Rattle.receive_ring.specs.Replay.{Cpu, Replay, cpu_at, done_lines, fed_by, feed, feed_from, feed_times, no_cpu, no_ring}
use Rattle.run_reports.specs.RingSteps.{RingSteps}
use Rattle.setup_text.specs.TickOrder.{AreAscending}
use Rattle.setup_text.specs.declared.lines.Line.{Line}
use Rattle.setup_text.specs.declared.lines.Line.TheVariants.{Feed, Read, Tick, Stats}
use Rattle.receive_ring.proofs.KeptOpen.{KeepOpen}
use Rattle.receive_ring.proofs.KeptArrivals.{arrived_goes, arrived_is}
use Rattle.receive_ring.proofs.ReplayStates.{Waiting, Goes, Joins, Logs, count_goes, read_goes, tick_goes}
use Rattle.receive_ring.proofs.Places.{set_everywhere}

-- a CPU whose next frame isn't an arrival
module _ (P : ℕ → Ring → Type 0) (rules : Rules) (steps : RingSteps) (arriving : List Waiting) (clock cpu : ℕ)
    (waiting : Waiting) (replay : Replay)
    (inside : cpu < length replay.cpus) (next_frame : (cpu_at replay cpu).waiting ≡ None ∷ waiting)
    (h : Goes P rules steps arriving clock replay) where
  log_passes : Logs rules cpu (somes (get_or arriving cpu [])) (record (cpu_at replay cpu) { waiting = waiting })
  log_passes =
      let was =
      subst (λ (ws : Waiting). Logs rules cpu (somes (get_or arriving cpu []))
      (record (cpu_at replay cpu) { waiting = ws }))
      next_frame (h.logs cpu) in
      record { present = was.present; least = was.least; of = was.of; lawful = was.lawful }

  joins_pass : (member : ℕ) → member < length replay.members
      → Joins steps.size.room rules.own cpu member (somes (get_or arriving cpu []))
      (record (cpu_at replay cpu) { waiting = waiting })
      (get_or replay.members member no_ring).notes
  joins_pass member below =
      let was =
      subst (λ (ws : Waiting). Joins steps.size.room rules.own cpu member (somes (get_or arriving cpu []))
      (record (cpu_at replay cpu) { waiting = ws })
      (get_or replay.members member no_ring).notes) next_frame (h.joins cpu member below) in
      record { joined = was.joined }

  same_logs : (f : List ArrivalLog → ℕ)
      → sum_by (λ c. f c.log) (slice_set replay.cpus cpu (record (cpu_at replay cpu) { waiting = waiting }))
      ≡ sum_by (λ c. f c.log) replay.cpus
  same_logs f =
      let count : Cpu → ℕ = λ c. f c.log in
      omega (arith, sum_by-set count replay.cpus cpu (record (cpu_at replay cpu) { waiting = waiting }) no_cpu inside)

  runt_goes : Goes P rules steps arriving clock
      (record replay { cpus = slice_set replay.cpus cpu (record (cpu_at replay cpu) { waiting = waiting }) })
  runt_goes =
      let new : Cpu = record (cpu_at replay cpu) { waiting = waiting } in
      record {
        cpus = length-set replay.cpus cpu new ∙ h.cpus;
        members = h.members;
        opens = h.opens;
        logs = set_everywhere (λ k c. Logs rules k (somes (get_or arriving k [])) c) replay.cpus cpu new no_cpu
            inside log_passes
            (λ k other. h.logs k);
        joins = λ number member below.
            set_everywhere
            (λ k c. Joins steps.size.room rules.own k member (somes (get_or arriving k [])) c
            (get_or replay.members member no_ring).notes)
            replay.cpus cpu new no_cpu inside (joins_pass member below) (λ k other. h.joins k member below) number;
        tickets = λ lb. let t = h.tickets lb in record {
          rising = set_everywhere (λ k (c : Cpu). (more : List ℕ) → Rises replay.ticket more
              → Rises 0 (tickets_of c.log ++ more))
              replay.cpus cpu new no_cpu inside
              (t.rising cpu) (λ k other. t.rising k);
          once = λ ticket. same_logs _ ∙ t.once ticket;
          total = t.total ∙ sym (same_logs _);
        };
      }

-- after n frames of a CPU
record Feeds (P : ℕ → Ring → Type 0) (rules : Rules) (steps : RingSteps) (arriving : List Waiting) (clock cpu times : ℕ)
    (old new : Replay) : Type 0 where
  goes : Goes P rules steps arriving clock new
  here : (cpu_at new cpu).waiting ≡ drop times (cpu_at old cpu).waiting
  others : (k : ℕ) → k ≢ cpu → (cpu_at new k).waiting ≡ (cpu_at old k).waiting

some_waiting : (cpus : List Cpu) (cpu : ℕ) (next : Option Frame) (waiting : Waiting)
    → (get_or cpus cpu no_cpu).waiting ≡ next ∷ waiting
    → cpu < length cpus
some_waiting cpus cpu next waiting e = elim (cases_lt cpu (length cpus)) [
  | inl below ↦ below
  | inr past ↦ let none = ap (λ (c : Cpu). c.waiting) (get_or_past cpus cpu no_cpu past) in cc
]

-- all CPUs below one are fed to their ends
pub record Emptied (P : ℕ → Ring → Type 0) (rules : Rules) (steps : RingSteps) (arriving : List Waiting) (clock upto : ℕ)
    (replay : Replay) : Type 0 where
  pub goes : Goes P rules steps arriving clock replay
  pub waiting : (k : ℕ) → k < upto → (cpu_at replay k).waiting ≡ []

drop_none : {X : Type 0} (n : ℕ) → drop {A = X} n [] ≡ []
drop_none zero = refl
drop_none (suc n) = refl

drop_next : {X : Type 0} (n : ℕ) (xs : List X) → drop n (drop 1 xs) ≡ drop (suc n) xs
drop_next n [] = drop_none n
drop_next n (x ∷ xs) = refl

module _ (P : ℕ → Ring → Type 0) (rules : Rules) (steps : RingSteps) (keep : KeepOpen steps P) (arriving : List Waiting)
    (some : 0 < rules.members) where
  fed : (clock cpu : ℕ) (waiting : Waiting) (replay : Replay) → (cpu_at replay cpu).waiting ≡ waiting
      → Goes P rules steps arriving clock replay
      → Feeds P rules steps arriving clock cpu 1 replay (fed_by rules steps cpu waiting replay)
  fed clock cpu [] replay e h = record { goes = h; here = e ∙ sym (ap (drop 1) e); others = λ k other. refl }
  fed clock cpu (None ∷ waiting) replay e h =
      let inside = some_waiting replay.cpus cpu None waiting e in
      record {
        goes = runt_goes P rules steps arriving clock cpu waiting replay inside e h;
        here = ap (λ (c : Cpu). c.waiting) (get_or-set_same replay.cpus cpu _ no_cpu inside) ∙ sym (ap (drop 1) e);
        others = λ k other. ap (λ (c : Cpu). c.waiting) (get_or-set_other replay.cpus cpu k _ no_cpu other);
      }
  fed clock cpu (Some frame ∷ waiting) replay e h =
      let inside = some_waiting replay.cpus cpu (Some frame) waiting e in
      subst (λ (new : Replay). Feeds P rules steps arriving clock cpu 1 replay new)
      (sym (arrived_is rules steps cpu frame waiting replay inside)) (record {
        goes = arrived_goes P rules steps keep arriving clock cpu frame waiting replay some inside e h;
        here = ap (λ (c : Cpu). c.waiting) (get_or-set_same replay.cpus cpu _ no_cpu inside) ∙ sym (ap (drop 1) e);
        others = λ k other. ap (λ (c : Cpu). c.waiting) (get_or-set_other replay.cpus cpu k _ no_cpu other);
      })

  feed_goes : (clock cpu : ℕ) (replay : Replay) → Goes P rules steps arriving clock replay
      → Feeds P rules steps arriving clock cpu 1 replay (feed rules steps cpu replay)
  feed_goes clock cpu replay h = fed clock cpu (cpu_at replay cpu).waiting replay refl h

  pub lines_go : (lines : List Line) (clock : ℕ) (replay : Replay) → Goes P rules steps arriving clock replay
      → AreAscending clock lines
      → (now : ℕ) × Goes P rules steps arriving now (done_lines rules steps lines replay)
  lines_go [] clock replay h ascending = (clock, h)
  lines_go (Feed cpu ∷ lines) clock replay h ascending = lines_go lines clock _ (feed_goes clock cpu replay h).goes ascending
  lines_go (Read member ∷ lines) clock replay h ascending =
      lines_go lines clock _ (read_goes P rules steps keep arriving clock member replay h) ascending
  lines_go (Tick ms ∷ lines) clock replay h ascending =
      lines_go lines ms _ (tick_goes P rules steps keep arriving clock ms replay ascending.0 h) ascending.2
  lines_go (Stats member ∷ lines) clock replay h ascending =
      lines_go lines clock _ (count_goes P rules steps keep arriving clock member replay h) ascending

  times_go : (times clock cpu : ℕ) (replay : Replay) → Goes P rules steps arriving clock replay
      → Feeds P rules steps arriving clock cpu times replay (feed_times rules steps cpu times replay)
  times_go zero clock cpu replay h = record { goes = h; here = refl; others = λ k other. refl }
  times_go (suc times) clock cpu replay h =
      let first = feed_goes clock cpu replay h in
      let rest = times_go times clock cpu (feed rules steps cpu replay) first.goes in
      record {
        goes = rest.goes;
        here = rest.here ∙ ap (drop times) first.here ∙ drop_next times (cpu_at replay cpu).waiting;
        others = λ k other. rest.others k other ∙ first.others k other;
      }

  -- from the first CPU that isn't fed to its end, the others follow
  pub all_fed : (left clock cpu : ℕ) (replay : Replay) → Goes P rules steps arriving clock replay
      → ((k : ℕ) → k < cpu → (cpu_at replay k).waiting ≡ [])
      → Emptied P rules steps arriving clock (cpu + left) (feed_from rules steps cpu left replay)
  all_fed zero clock cpu replay h empty = record { goes = h; waiting = λ k below. empty k (omega arith) }
  all_fed (suc left) clock cpu replay h empty =
      let times = length (cpu_at replay cpu).waiting in
      let next = times_go times clock cpu replay h in
      let rest = all_fed left clock (cpu + 1) (feed_times rules steps cpu times replay) next.goes
      (λ k below. elim (cases_eq cpu k) [
        | inl same ↦ subst (λ (n : ℕ). (cpu_at (feed_times rules steps cpu times replay) n).waiting ≡ []) same
            (next.here ∙ drop_all times (cpu_at replay cpu).waiting (omega arith))
        | inr other ↦ next.others k (λ e. other (sym e)) ∙ empty k (omega arith)
      ]) in
      record { goes = rest.goes; waiting = λ k below. rest.waiting k (omega arith) }
