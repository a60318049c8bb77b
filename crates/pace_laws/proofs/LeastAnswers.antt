-- What passes report at what is tried is so of each replay.
use Rattle.std.proofs.Common.{◌≡◌, ◌↔◌, ℕ, ◌<◌, ◌≤◌, List, length, get_or, sym, ap, ◌∙◌, subst, arith, Some}
use Rattle.std.specs.List.{sum_by}
use Rattle.std.proofs.lemmas.Option.{slice_get-get_or}
use Rattle.reader_pace.specs.Timelines.{schedule_at}
use Rattle.receive_ring.specs.Replay.{no_ring, replayed}
use Rattle.ring_events.specs.Happenings.{IsNeverHeld}
use Rattle.ring_model.specs.Rings.{Ring}
use Rattle.ring_model.specs.declared.notes.Note.{Note}
use Rattle.ring_model.specs.declared.notes.Stats.{Stats}
use Rattle.ring_sizes.specs.Phases.{IsBeginning, IsFirst, IsFirstMost, IsPhase}
use Rattle.ring_sizes.specs.declared.tries.Reached.{Reached}
use Rattle.ring_sizes.specs.declared.tries.Tries.{Tries}
use Rattle.run_reports.specs.RingSteps.{RingSteps}
use Rattle.setup_text.specs.declared.lines.Line.{Line}
use Rattle.pace_laws.specs.LeastRings.{AreFirstBy, Drops, IsLeastBy, TotalDrops, total_of}
use Rattle.pace_laws.specs.Sizings.{InGroup, InReplay, Sizing, judged_with}
use Rattle.pace_laws.proofs.Sums.{sum_each}

-- there is a schedule, and its replay has a ring for each member
pub record IsRun (sizing : Sizing) (steps : RingSteps) (phase from : ℕ) : Type 0 where
  pub lines : List Line
  pub lines_are : schedule_at (judged_with sizing steps.size.blocks) sizing.reader phase from ≡ Some lines
  pub count : length (replayed sizing.rules steps sizing.arriving lines).members ≡ sizing.rules.members

-- what holds of a member's ring, and has nothing to do with it
pub in_run : (P : Type 0) (sizing : Sizing) (steps : RingSteps) (member phase from : ℕ) → member < sizing.rules.members
    → IsRun sizing steps phase from → InReplay (λ ring. P) sizing steps member phase from → P
in_run P sizing steps member phase from inside run h =
    let rings = (replayed sizing.rules steps sizing.arriving run.lines).members in
    h run.lines run.lines_are (get_or rings member no_ring)
    (slice_get-get_or rings member no_ring (omega (arith, inside, run.count)))

-- at what is tried a number decides whether a ring with so many blocks or slots is free
module _ (sizing : Sizing) (steps_with : ℕ → RingSteps) (member : ℕ) (tries : Tries) (number_at : ℕ → ℕ → ℕ)
    (some : (phase from : ℕ) → 1 ≤ number_at phase from)
    (decides : (places phase from : ℕ) → IsPhase tries phase → IsBeginning tries from → 1 ≤ places
    → InReplay (λ ring. IsNeverHeld ring.notes ↔ (number_at phase from ≤ places)) sizing (steps_with places) member phase from)
  where
    pub is_least : (found : Reached) → member < sizing.rules.members
        → ((places : ℕ) → 1 ≤ places → IsRun sizing (steps_with places) found.phase found.from)
        → IsFirstMost tries number_at found → IsLeastBy steps_with sizing member tries found
    is_least found inside runs h = record {
      phase = h.phase;
      from = h.from;
      enough = λ places phase from more p b lines lines_are ring found_ring.
          let one : 1 ≤ places = omega (arith, some phase from, h.best phase from p b, more) in
          (decides places phase from p b one lines lines_are ring found_ring).1 (omega (arith, h.best phase from p b, more));
      reached = λ places one fewer free.
          in_run ⊥ sizing (steps_with places) member found.phase found.from inside (runs places one)
          (λ lines lines_are ring found_ring.
          let least = (decides places found.phase found.from h.phase h.from one lines lines_are ring found_ring).0
          (free lines lines_are ring found_ring) in absurd (omega (arith, least, fewer, h.reached)));
      first = λ places phase from one less p b earlier lines lines_are ring found_ring.
          (decides places phase from p b one lines lines_are ring found_ring).1
          (omega (arith, h.first phase from p b earlier, less));
    }

-- at what is tried a number of replays is one of a course, and what follows from a number of replays is so of them
pub are_first : (Best Better : ℕ → ℕ → Type 0) (Has : (ℕ → Type 0) → ℕ → ℕ → Type 0) (tries : Tries) (number_at : ℕ → ℕ → ℕ)
    (found : Reached)
    → ((P Q : ℕ → Type 0) (phase from : ℕ) → ((number : ℕ) → P number → Q number) → Has P phase from → Has Q phase from)
    → ((phase from : ℕ) → IsPhase tries phase → IsBeginning tries from
    → Has (λ number. number ≡ number_at phase from) phase from)
    → IsFirst Best Better tries number_at found → AreFirstBy Best Better Has tries found
are_first Best Better Has tries number_at found follows counts h = record {
  phase = h.phase;
  from = h.from;
  reached = follows (λ number. number ≡ number_at found.phase found.from) (λ number. number ≡ found.number) found.phase
      found.from (λ number is. is ∙ sym h.reached) (counts found.phase found.from h.phase h.from);
  best = λ phase from p b.
      follows (λ number. number ≡ number_at phase from) (Best found.number) phase from
      (λ number is. subst (Best found.number) (sym is) (h.best phase from p b)) (counts phase from p b);
  first = λ phase from p b earlier.
      follows (λ number. number ≡ number_at phase from) (Better found.number) phase from
      (λ number is. subst (Better found.number) (sym is) (h.first phase from p b earlier)) (counts phase from p b);
}

module _ (Best Better : ℕ → ℕ → Type 0) (totals : List Note → Stats) (sizing : Sizing) (steps : RingSteps) (tries : Tries)
    (found : Reached) where
  -- at what is tried the statistics are those that a course reports
  pub are_drops : (member : ℕ) (stats_at : ℕ → ℕ → Stats)
      → ((phase from : ℕ) → IsPhase tries phase → IsBeginning tries from
      → InReplay (λ ring. totals ring.notes ≡ stats_at phase from) sizing steps member phase from)
      → IsFirst Best Better tries (λ phase from. (stats_at phase from).drops) found
      → AreFirstBy Best Better (λ P phase from. Drops P totals sizing steps member phase from) tries found
  are_drops member stats_at counts h =
      are_first Best Better (λ P phase from. Drops P totals sizing steps member phase from) tries
      (λ phase from. (stats_at phase from).drops) found
      (λ P Q phase from follows has lines lines_are ring found_ring.
      follows (totals ring.notes).drops (has lines lines_are ring found_ring))
      (λ phase from p b lines lines_are ring found_ring.
      ap (λ (stats : Stats). stats.drops) (counts phase from p b lines lines_are ring found_ring)) h

  abbrev dropped : Ring → ℕ
  dropped ring = (totals ring.notes).drops

  -- and those of all members
  pub are_total_drops : (stats_at : ℕ → ℕ → ℕ → Stats)
      → ((member phase from : ℕ) → IsPhase tries phase → IsBeginning tries from
      → InReplay (λ ring. totals ring.notes ≡ stats_at member phase from) sizing steps member phase from)
      → ((phase from : ℕ) → IsPhase tries phase → IsBeginning tries from
      → InGroup (λ rings. length rings ≡ sizing.rules.members) sizing steps phase from)
      → IsFirst Best Better tries (λ phase from. total_of (λ member. (stats_at member phase from).drops) sizing.rules.members)
      found
      → AreFirstBy Best Better (λ P phase from. TotalDrops P totals sizing steps phase from) tries found
  are_total_drops stats_at counts all h =
      are_first Best Better (λ P phase from. TotalDrops P totals sizing steps phase from) tries
      (λ phase from. total_of (λ member. (stats_at member phase from).drops) sizing.rules.members) found
      (λ P Q phase from follows has lines lines_are. follows
      (sum_by dropped (replayed sizing.rules steps sizing.arriving lines).members) (has lines lines_are))
      (λ phase from p b lines lines_are.
      let rings = (replayed sizing.rules steps sizing.arriving lines).members in
      sum_each dropped rings no_ring (λ member. (stats_at member phase from).drops)
      (λ member inside. ap (λ (stats : Stats). stats.drops) (counts member phase from p b lines lines_are
      (get_or rings member no_ring) (slice_get-get_or rings member no_ring inside)))
      ∙ ap (total_of (λ member. (stats_at member phase from).drops)) (all phase from p b lines lines_are)) h
