-- What holds of a replay at each moment, and that the lines that feed nothing keep it.
use Rattle.std.proofs.Common.{◌≡◌, ℕ, ◌<◌, ◌≤◌, eqb, ltb, List, [], ◌∷◌, ◌++◌, length, get_or, refl, sym, ap, subst, ◌∙◌, arith}
use Rattle.std.proofs.Common.{append_assoc}
use Rattle.std.specs.Prelude.{Option, None, Some, map, sum_by, count_by, slice_set}
use Rattle.std.proofs.lemmas.List.{append-nil, get_or-map, length-map, length-set}
use Rattle.frame_view.specs.declared.frames.Frame.{Frame}
use Rattle.ring_model.specs.Fates.{frame_notes}
use Rattle.ring_model.specs.Rings.{Ring}
use Rattle.ring_model.specs.declared.notes.Found.{Found}
use Rattle.ring_model.specs.declared.notes.Note.{Note}
use Rattle.ring_model.specs.declared.notes.Note.TheVariants as notes
use Rattle.fanout_group.specs.Arrivals.{somes}
use Rattle.fanout_group.specs.Joined.{AreNotesOf, Rises, attempts_at, tickets_of}
use Rattle.fanout_group.specs.Logs.{IsLawful, IsLawfulFrom}
use Rattle.fanout_group.specs.Once.{AreOf}
use Rattle.fanout_group.specs.Rules.{Rules}
use Rattle.fanout_group.specs.declared.logs.ArrivalLog.{ArrivalLog}
use Rattle.fanout_group.specs.declared.modes.Mode.TheVariants.{Lb}
use Rattle.fanout_group.proofs.Members.{one_if}
use Rattle.receive_ring.specs.Replay.{Cpu, Replay, cpu_at, no_ring, noted_at}
use Rattle.receive_ring.proofs.Places.{set_within}
use Rattle.run_reports.specs.RingSteps.{RingSteps, read_by, ticked, ticked_by}
use Rattle.receive_ring.proofs.KeptOpen.{KeepOpen, read_notes}
use Rattle.receive_ring.proofs.AddedNotes.{frame_notes-append}

-- what arrives with each frame that isn't fed yet
abbrev pub Waiting : Type 0
Waiting = List (Option Frame)

-- The log of a CPU so far is lawful: a lawful log of what waits completes it.
pub record Logs (rules : Rules) (number : ℕ) (arrivals : List Frame) (cpu : Cpu) : Type 0 where
  pub present : cpu.present < rules.members
  pub least : ℕ
  pub of : AreOf number least (somes cpu.waiting)
  pub lawful : (more : List ArrivalLog) → IsLawfulFrom rules cpu.present (somes cpu.waiting) more
      → IsLawful rules arrivals (cpu.log ++ more)

-- The log of a CPU and the notes of a member are joined so far: what is joined for the waiting
-- frames completes them.
pub record Joins (room : ℕ) (own : Option (List ℕ)) (number member : ℕ) (arrivals : List Frame) (cpu : Cpu) (notes : List Note)
    : Type 0 where
  pub joined : (log : List ArrivalLog) (more : List Note)
      → AreNotesOf room own (attempts_at member (somes cpu.waiting) log) (frame_notes number more)
      → AreNotesOf room own (attempts_at member arrivals (cpu.log ++ log)) (frame_notes number (notes ++ more))

-- the tickets drawn so far are those below the next one, each once
pub record Tickets (replay : Replay) : Type 0 where
  pub rising : (cpu : ℕ) (more : List ℕ) → Rises replay.ticket more → Rises 0 (tickets_of (cpu_at replay cpu).log ++ more)
  pub once : (ticket : ℕ)
      → sum_by (λ cpu. count_by (λ drawn. eqb drawn ticket) (tickets_of cpu.log)) replay.cpus
      ≡ one_if (ltb ticket replay.ticket)
  pub total : replay.ticket ≡ sum_by (λ cpu. length cpu.log) replay.cpus

pub record Goes (P : ℕ → Ring → Type 0) (rules : Rules) (steps : RingSteps) (arriving : List Waiting) (clock : ℕ)
    (replay : Replay) : Type 0 where
  pub cpus : length replay.cpus ≡ length arriving
  pub members : length replay.members ≡ rules.members
  pub opens : (member : ℕ) → member < length replay.members → P clock (get_or replay.members member no_ring)
  pub logs : (cpu : ℕ) → Logs rules cpu (somes (get_or arriving cpu [])) (cpu_at replay cpu)
  pub joins : (cpu member : ℕ) → member < length replay.members
      → Joins steps.size.room rules.own cpu member (somes (get_or arriving cpu [])) (cpu_at replay cpu)
      (get_or replay.members member no_ring).notes
  pub tickets : rules.mode ≡ Lb → Tickets replay

-- notes that aren't about frames of this CPU change nothing for it
pub silent_joins : (room : ℕ) (own : Option (List ℕ)) (number member : ℕ) (arrivals : List Frame) (cpu : Cpu)
    (old new more : List Note)
    → new ≡ old ++ more → frame_notes number more ≡ [] → Joins room own number member arrivals cpu old
    → Joins room own number member arrivals cpu new
silent_joins room own number member arrivals cpu old new added new_is silent h = record {
  joined = λ log more k.
      let same = frame_notes-append number added more ∙ ap (λ (ns : List Note). ns ++ frame_notes number more) silent in
      rw (new_is, append_assoc) (h.joined log (added ++ more) (rw same k));
}

-- a ring after a line that feeds nothing
record Quiet (P : ℕ → Ring → Type 0) (now : ℕ) (old new : Ring) : Type 0 where
  opens : P now new
  notes : List Note
  new_is : new.notes ≡ old.notes ++ notes
  silent : (cpu : ℕ) → frame_notes cpu notes ≡ []

quiet_goes : (P : ℕ → Ring → Type 0) (rules : Rules) (steps : RingSteps) (arriving : List Waiting) (clock now : ℕ)
    (replay : Replay) (rings : List Ring)
    → Goes P rules steps arriving clock replay → length rings ≡ length replay.members
    → ((member : ℕ) → member < length replay.members
    → Quiet P now (get_or replay.members member no_ring) (get_or rings member no_ring))
    → Goes P rules steps arriving now (record replay { members = rings })
quiet_goes P rules steps arriving clock now replay rings h count quiet = record {
  cpus = h.cpus;
  members = count ∙ h.members;
  opens = λ member below. (quiet member (omega arith)).opens;
  logs = h.logs;
  joins = λ cpu member below.
      let q = quiet member (omega arith) in
      silent_joins steps.size.room rules.own cpu member _ (cpu_at replay cpu) _ _ q.notes q.new_is (q.silent cpu)
      (h.joins cpu member (omega arith));
  tickets = λ e. let t = h.tickets e in record { rising = t.rising; once = t.once; total = t.total };
}

-- a tick, which a ring without a timer doesn't note
tick_quiet : (P : ℕ → Ring → Type 0) (ms : ℕ) (found : Option Found) (old : Ring) → P ms (ticked_by found ms old)
    → Quiet P ms old (ticked_by found ms old)
tick_quiet P ms None old opens = record { opens = opens; notes = []; new_is = sym (append-nil old.notes); silent = λ cpu. refl }
tick_quiet P ms (Some found) old opens =
    record { opens = opens; notes = notes.Ticked ms found ∷ []; new_is = refl; silent = λ cpu. refl }

pub tick_goes : (P : ℕ → Ring → Type 0) (rules : Rules) (steps : RingSteps) (keep : KeepOpen steps P) (arriving : List Waiting)
    (clock ms : ℕ) (replay : Replay) → clock ≤ ms
    → Goes P rules steps arriving clock replay
    → Goes P rules steps arriving ms (record replay { members = map (ticked steps ms) replay.members })
tick_goes P rules steps keep arriving clock ms replay later h =
    quiet_goes P rules steps arriving clock ms replay _ h (length-map replay.members _) (λ member below.
    subst (λ (ring : Ring). Quiet P ms (get_or replay.members member no_ring) ring)
    (sym (get_or-map _ replay.members member no_ring no_ring below))
    (tick_quiet P ms (steps.ticks (get_or replay.members member no_ring) ms) (get_or replay.members member no_ring)
    (keep.tick clock ms _ later (h.opens member below))))

-- one ring changes, if it exists
one_quiet : (P : ℕ → Ring → Type 0) (clock at : ℕ) (rings : List Ring) (new : Ring)
    → ((member : ℕ) → member < length rings → P clock (get_or rings member no_ring))
    → (at < length rings → Quiet P clock (get_or rings at no_ring) new)
    → (member : ℕ) → member < length rings
    → Quiet P clock (get_or rings member no_ring) (get_or (slice_set rings at new) member no_ring)
one_quiet P clock at rings new opens here =
    set_within (λ member ring. Quiet P clock (get_or rings member no_ring) ring) rings at new no_ring here
    (λ member below other.
    record { opens = opens member below; notes = []; new_is = sym (append-nil _); silent = λ cpu. refl })

pub read_goes : (P : ℕ → Ring → Type 0) (rules : Rules) (steps : RingSteps) (keep : KeepOpen steps P) (arriving : List Waiting)
    (clock at : ℕ) (replay : Replay) → Goes P rules steps arriving clock replay
    → Goes P rules steps arriving clock
    (record replay { members = slice_set replay.members at (read_by steps (get_or replay.members at no_ring)) })
read_goes P rules steps keep arriving clock at replay h =
    quiet_goes P rules steps arriving clock clock replay _ h (length-set replay.members at _)
    (one_quiet P clock at replay.members _ h.opens (λ inside.
    record {
      opens = keep.read clock _ (h.opens at inside);
      notes = [];
      new_is = read_notes steps _ ∙ sym (append-nil _);
      silent = λ cpu. refl;
    }))

pub count_goes : (P : ℕ → Ring → Type 0) (rules : Rules) (steps : RingSteps) (keep : KeepOpen steps P) (arriving : List Waiting)
    (clock at : ℕ) (replay : Replay) → Goes P rules steps arriving clock replay
    → Goes P rules steps arriving clock (record replay { members = noted_at at notes.Counted replay.members })
count_goes P rules steps keep arriving clock at replay h =
    quiet_goes P rules steps arriving clock clock replay _ h (length-set replay.members at _)
    (one_quiet P clock at replay.members _ h.opens (λ inside.
    record { opens = keep.count clock _ (h.opens at inside); notes = notes.Counted ∷ []; new_is = refl; silent = λ cpu. refl }))
