-- How a replay begins and ends: what holds at each moment yields the report of a group.
use Rattle.std.proofs.Common.{◌≡◌, ℕ, zero, suc, ◌+◌, ◌<◌, eqb, ltb, List, [], ◌∷◌, ◌++◌, length, get_or, inl, inr, refl, sym}
use Rattle.std.proofs.Common.{ap, subst, ◌∙◌, arith}
use Rattle.std.specs.Prelude.{map, replicate, sum_by, count_by, All}
use Rattle.std.proofs.lemmas.Bool.{cases_lt, le-ltb}
use Rattle.std.proofs.lemmas.List.{append-nil, get_or-map, get_or-replicate, get_or_past, length-map, length-replicate}
use Rattle.std.proofs.lemmas.List.Sums.{sum_by-cons}
use Rattle.ring_model.specs.Fates.{frame_notes}
use Rattle.ring_model.specs.Rings.{Ring, fresh, noted}
use Rattle.ring_model.specs.declared.notes.Note.{Note}
use Rattle.ring_model.specs.declared.notes.Note.TheVariants as notes
use Rattle.fanout_group.specs.Arrivals.{somes}
use Rattle.fanout_group.specs.Joined.{AreJoined, AreNotesOf, Logged, Rises, attempts_at, nothing_logged, tickets_of}
use Rattle.fanout_group.specs.Logs.{IsLawful, IsLawfulFrom}
use Rattle.fanout_group.specs.Once.{AreOf, IsGroupReport}
use Rattle.fanout_group.specs.Rules.{Rules}
use Rattle.fanout_group.specs.declared.logs.ArrivalLog.{ArrivalLog}
use Rattle.fanout_group.proofs.Members.{one_if}
use Rattle.receive_ring.specs.Replay.{Cpu, Replay, closed, cpu_at, feed_from, done_lines, no_cpu, no_ring, replayed, started}
use Rattle.receive_ring.specs.Reports.{AreArrivals, IsReplayReport, logged_of, notes_of}
use Rattle.run_reports.specs.RingSteps.{RingSteps}
use Rattle.setup_text.specs.TickOrder.{IsSchedule}
use Rattle.setup_text.specs.declared.lines.Line.{Line}
use Rattle.receive_ring.proofs.FedLines.{all_fed, lines_go}
use Rattle.receive_ring.proofs.ReplayStates.{Waiting, Goes, Joins}
use Rattle.receive_ring.proofs.KeptOpen.{KeepOpen}

-- a CPU before the first line
abbrev new_cpu : Waiting → Cpu
new_cpu waiting = record { waiting = waiting; present = 0; log = [] }

started_at : (arriving : List Waiting) (cpu : ℕ) → get_or (map new_cpu arriving) cpu no_cpu ≡ new_cpu (get_or arriving cpu [])
started_at [] cpu = refl
started_at (waiting ∷ arriving) zero = refl
started_at (waiting ∷ arriving) (suc cpu) = started_at arriving cpu

nothing_yet : (f : List ArrivalLog → ℕ) (arriving : List Waiting) → f [] ≡ 0
    → sum_by (λ cpu. f cpu.log) (map new_cpu arriving) ≡ 0
nothing_yet f [] e = refl
nothing_yet f (waiting ∷ arriving) e =
    let count : Cpu → ℕ = λ cpu. f cpu.log in
    omega (arith, sum_by-cons count (new_cpu waiting) (map new_cpu arriving), nothing_yet f arriving e)

started_goes : (P : ℕ → Ring → Type 0) (rules : Rules) (steps : RingSteps) (keep : KeepOpen steps P) (arriving : List Waiting)
    → 0 < rules.members → AreArrivals arriving
    → Goes P rules steps arriving 0 (started rules steps arriving)
started_goes P rules steps keep arriving some of =
    let rings = replicate rules.members (fresh steps.size) in
    let count : length rings ≡ rules.members = length-replicate rules.members (fresh steps.size) in
    let ring_at : (member : ℕ) → member < length rings → fresh steps.size ≡ get_or rings member no_ring =
    λ member below. sym (get_or-replicate rules.members member (fresh steps.size) no_ring (omega arith)) in
    record {
      cpus = length-map arriving new_cpu;
      members = count;
      opens = λ member below. subst (λ (ring : Ring). P 0 ring) (ring_at member below) (keep.first);
      logs = λ cpu. rw (started_at arriving cpu)
          (record { present = some; least = 0; of = of cpu; lawful = λ more rest. rest });
      joins = λ cpu member below.
          subst (λ (ring : Ring). Joins steps.size.room rules.own cpu member (somes (get_or arriving cpu []))
          (cpu_at (started rules steps arriving) cpu)
          ring.notes) (ring_at member below)
          (rw (started_at arriving cpu) (record { joined = λ log more k. k }));
      tickets = λ lb. record {
        rising = λ cpu more rises. rw (started_at arriving cpu) rises;
        once = λ ticket. nothing_yet (λ log. count_by (λ drawn. eqb drawn ticket) (tickets_of log)) arriving refl
            ∙ sym (ap one_if (le-ltb ticket 0 (omega arith)));
        total = sym (nothing_yet length arriving refl);
      };
    }

-- the arrivals and logs, CPU by CPU
logged_at : (arriving : List Waiting) (cpus : List Cpu) (cpu : ℕ) → length cpus ≡ length arriving
    → record { arrivals = somes (get_or arriving cpu []); log = (get_or cpus cpu no_cpu).log }
    ≡ get_or (logged_of arriving cpus) cpu nothing_logged
logged_at [] [] cpu e = refl
logged_at [] (c ∷ cpus) cpu e = absurd (omega arith)
logged_at (waiting ∷ arriving) [] cpu e = absurd (omega arith)
logged_at (waiting ∷ arriving) (c ∷ cpus) zero e = refl
logged_at (waiting ∷ arriving) (c ∷ cpus) (suc cpu) e = logged_at arriving cpus cpu (omega arith)

logged_sum : (f : List ArrivalLog → ℕ) (arriving : List Waiting) (cpus : List Cpu) → length cpus ≡ length arriving
    → sum_by (λ logged. f logged.log) (logged_of arriving cpus) ≡ sum_by (λ cpu. f cpu.log) cpus
logged_sum f [] [] e = refl
logged_sum f [] (c ∷ cpus) e = absurd (omega arith)
logged_sum f (waiting ∷ arriving) [] e = absurd (omega arith)
logged_sum f (waiting ∷ arriving) (c ∷ cpus) e =
    let a : Logged → ℕ = λ logged. f logged.log in
    let b : Cpu → ℕ = λ cpu. f cpu.log in
    let first = sum_by-cons a (record { arrivals = somes waiting; log = c.log }) (logged_of arriving cpus) in
    let same = logged_sum f arriving cpus (omega arith) in
    omega (arith, first, same, sum_by-cons b c cpus)

-- a replay whose CPUs are all fed to their ends
module _ (P : ℕ → Ring → Type 0) (rules : Rules) (steps : RingSteps) (arriving : List Waiting) (clock : ℕ) (replay : Replay)
    (h : Goes P rules steps arriving clock replay)
    (fed : (k : ℕ) → (cpu_at replay k).waiting ≡ []) where
  count : length (closed replay).members ≡ length replay.members
  count = length-map replay.members (λ ring. noted ring notes.Finished)

  closed_at : (member : ℕ) (d : Ring) → member < length replay.members
      → get_or (closed replay).members member d ≡ noted (get_or replay.members member no_ring) notes.Finished
  closed_at member d below = get_or-map (λ ring. noted ring notes.Finished) replay.members member no_ring d below

  notes_at : (member : ℕ) → member < length replay.members
      → (get_or replay.members member no_ring).notes ++ notes.Finished ∷ []
      ≡ get_or (notes_of (closed replay).members) member []
  notes_at member below =
      let there : member < length (closed replay).members = omega (arith, count) in
      ap (λ (ring : Ring). ring.notes) (sym (closed_at member no_ring below))
      ∙ sym (get_or-map (λ ring. ring.notes) (closed replay).members member no_ring [] there)

  lawful_at : (cpu : ℕ) → IsLawful rules (somes (get_or arriving cpu [])) (cpu_at replay cpu).log
  lawful_at cpu =
      let of = cpu_at replay cpu in
      let none = subst (λ (ws : Waiting). IsLawfulFrom rules of.present (somes ws) []) (sym (fed cpu)) tt in
      subst (λ (log : List ArrivalLog). IsLawful rules (somes (get_or arriving cpu [])) log) (append-nil of.log)
      ((h.logs cpu).lawful [] none)

  joined_at : (cpu member : ℕ) → member < length replay.members
      → AreNotesOf steps.size.room rules.own (attempts_at member (somes (get_or arriving cpu [])) (cpu_at replay cpu).log)
      (frame_notes cpu ((get_or replay.members member no_ring).notes ++ notes.Finished ∷ []))
  joined_at cpu member below =
      let of = cpu_at replay cpu in
      let ns = (get_or replay.members member no_ring).notes ++ notes.Finished ∷ [] in
      let none = subst (λ (ws : Waiting). AreNotesOf steps.size.room rules.own (attempts_at member (somes ws) []) [])
      (sym (fed cpu)) tt in
      subst (λ (log : List ArrivalLog). AreNotesOf steps.size.room rules.own
      (attempts_at member (somes (get_or arriving cpu [])) log) (frame_notes cpu ns))
      (append-nil of.log) ((h.joins cpu member below).joined [] (notes.Finished ∷ []) none)

  closed_rings : (IsRing : Ring → Type 0) → ((clock : ℕ) (ring : Ring) → P clock ring → IsRing (noted ring notes.Finished))
      → All IsRing (closed replay).members
  closed_rings IsRing closes = λ member d below.
      let there : member < length replay.members = omega (arith, count) in
      rw (closed_at member d there) (closes clock (get_or replay.members member no_ring) (h.opens member there))

  joined : AreJoined rules steps.size.room (logged_of arriving replay.cpus) (notes_of (closed replay).members)
  joined = record {
    each = λ cpu member below.
        let there : member < length replay.members =
        omega (arith, count, length-map (closed replay).members (λ ring. ring.notes)) in
        subst (λ (logged : Logged). AreNotesOf steps.size.room rules.own (attempts_at member logged.arrivals logged.log)
        (frame_notes cpu (get_or (notes_of (closed replay).members) member []))) (logged_at arriving replay.cpus cpu h.cpus)
        (subst (λ (ns : List Note). AreNotesOf steps.size.room rules.own
        (attempts_at member (somes (get_or arriving cpu [])) (cpu_at replay cpu).log) (frame_notes cpu ns))
        (notes_at member there) (joined_at cpu member there));
    rising = λ cpu lb.
        subst (λ (logged : Logged). Rises 0 (tickets_of logged.log)) (logged_at arriving replay.cpus cpu h.cpus)
        (subst (λ (tickets : List ℕ). Rises 0 tickets) (append-nil (tickets_of (cpu_at replay cpu).log))
        ((h.tickets lb).rising cpu [] tt));
    once = λ ticket lb.
        logged_sum (λ log. count_by (λ drawn. eqb drawn ticket) (tickets_of log)) arriving replay.cpus h.cpus
        ∙ (h.tickets lb).once ticket
        ∙ ap (λ n. one_if (ltb ticket n)) ((h.tickets lb).total ∙ sym (logged_sum length arriving replay.cpus h.cpus));
  }

  group : 0 < rules.members → AreArrivals arriving
      → IsGroupReport rules steps.size.room (logged_of arriving replay.cpus) (notes_of (closed replay).members)
  group some of = record {
    some = some;
    count = length-map (closed replay).members (λ ring. ring.notes) ∙ count ∙ h.members;
    frames = λ cpu. subst (λ (logged : Logged). AreOf cpu 0 logged.arrivals)
        (logged_at arriving replay.cpus cpu h.cpus) (of cpu);
    lawful = λ cpu. subst (λ (logged : Logged). IsLawful rules logged.arrivals logged.log)
        (logged_at arriving replay.cpus cpu h.cpus) (lawful_at cpu);
    joined = joined;
  }

none_past : (cpus : List Cpu) (upto : ℕ) → length cpus ≡ upto → ((k : ℕ) → k < upto → (get_or cpus k no_cpu).waiting ≡ [])
    → (k : ℕ) → (get_or cpus k no_cpu).waiting ≡ []
none_past cpus upto e empty k = elim (cases_lt k upto) [
  | inl below ↦ empty k below
  | inr past ↦ ap (λ (cpu : Cpu). cpu.waiting) (get_or_past cpus k no_cpu (omega arith))
]

pub report_is : (P : ℕ → Ring → Type 0) (rules : Rules) (steps : RingSteps) (keep : KeepOpen steps P) (IsRing : Ring → Type 0)
    (closes : (clock : ℕ) (ring : Ring) → P clock ring → IsRing (noted ring notes.Finished)) (arriving : List Waiting)
    (lines : List Line)
    → 0 < rules.members → AreArrivals arriving → IsSchedule lines
    → IsReplayReport rules steps.size.room IsRing arriving (replayed rules steps arriving lines)
unfolding replayed
report_is P rules steps keep IsRing closes arriving lines some of ascending =
    let first = started rules steps arriving in
    let going = lines_go P rules steps keep arriving some lines 0 first
    (started_goes P rules steps keep arriving some of) ascending in
    let last = done_lines rules steps lines first in
    let clock = going.0 in
    let emptied = all_fed P rules steps keep arriving some (length last.cpus) clock 0 last going.1
    (λ k below. absurd (omega arith)) in
    let fed = feed_from rules steps 0 (length last.cpus) last in
    let same : length fed.cpus ≡ 0 + length last.cpus = omega (arith, emptied.goes.cpus, going.1.cpus) in
    let empty = none_past fed.cpus (0 + length last.cpus) same emptied.waiting in
    record {
      cpus = emptied.goes.cpus;
      group = group P rules steps arriving clock fed emptied.goes empty some of;
      rings = closed_rings P rules steps arriving clock fed emptied.goes empty IsRing closes;
    }
