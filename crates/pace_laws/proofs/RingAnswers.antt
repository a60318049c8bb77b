-- What the notes of a ring say that had the events of a schedule.
use Rattle.std.proofs.Common.{◌≡◌, ◌↔◌, ℕ, ◌≤◌, List, [], ◌∷◌, ◌++◌, refl, sym, ap, ◌∙◌, subst, None, Some}
use Rattle.std.specs.Prelude.{All}
use Rattle.std.proofs.lemmas.List.Elements.{All-cons, All-head, All-nil, All-push, All-tail}
use Rattle.reader_pace.specs.declared.paces.Pace as texts
use Rattle.reader_pace.specs.declared.paces.Pace.TheVariants.{Pause, Blocks, Poll}
use Rattle.receive_ring.specs.Replay.{finished_ring}
use Rattle.replay_laws.specs.Alone.{all_happened_by}
use Rattle.replay_laws.proofs.Alone.{as_blocks}
use Rattle.ring_events.specs.Happenings.{IsNeverHeld, all_happened}
use Rattle.ring_events.specs.declared.events.Happening.{Happening}
use Rattle.ring_events.specs.declared.events.Happening.TheVariants.{Put, Try, Tick, Read, ReadAll, Count}
use Rattle.ring_model.specs.Fates.{stats_of, stretches_from, sum_of, totals_of}
use Rattle.ring_model.specs.Ring.{Size, State, after, first_state}
use Rattle.ring_model.specs.Rings.{Ring, fresh}
use Rattle.ring_model.specs.Unreleased.{held_number}
use Rattle.ring_model.specs.declared.notes.Note.{Note}
use Rattle.ring_model.specs.declared.notes.Note.TheVariants as notes
use Rattle.ring_model.specs.declared.notes.Stats.{Stats}
use Rattle.ring_sizes.specs.Courses.{all_went_on, course_stats, first_course}
use Rattle.ring_sizes.specs.Passes.{first_pass, passed_all}
use Rattle.ring_sizes.specs.declared.paces.Timing.{Timing}
use Rattle.ring_sizes.proofs.Never.{all_grow, threshold_at}
use Rattle.ring_sizes.proofs.Runs.{totals_at}
use Rattle.run_reports.specs.RingSteps.{block_steps, slot_steps}
use Rattle.setup_text.proofs.PassedTests.{some_same}
use Rattle.slot_layout.specs.SlotFates.{slot_stats_of, slot_stretches_from, slot_totals_of}
use Rattle.slot_layout.specs.SlotSteps.{SlotState, first_slot_state, slot_after}
use Rattle.slot_sizes.specs.SlotHappenings.{all_slots_happened, slot_happened}
use Rattle.slot_sizes.specs.SlotPasses.{first_slot_pass}
use Rattle.slot_sizes.proofs.SlotNever as slots
use Rattle.slot_sizes.proofs.SlotRuns as slots_runs
use Rattle.pace_laws.specs.LeastRings.{least_at, least_slots_by, slot_stats_at, stats_at}
use Rattle.pace_laws.specs.Paces.{pace_of}
use Rattle.pace_laws.specs.Sizings.{HadEvents, Sizing, blocks_with, events_at, size_with, slot_events_at, slot_size_with}
use Rattle.pace_laws.specs.Sizings.{slots_with}

-- ---- a ring that is closed

abbrev NotHeld : Note → Type 0
NotHeld note = held_number note ≡ None

front_free : (all more : List Note) → All NotHeld (all ++ more) → All NotHeld all
front_free [] more h = All-nil NotHeld
front_free (note ∷ all) more h =
    All-cons NotHeld note all (All-head NotHeld note (all ++ more) h)
    (front_free all more (All-tail NotHeld note (all ++ more) h))

closed_free : (all : List Note) → IsNeverHeld (all ++ notes.Finished ∷ []) ↔ IsNeverHeld all
closed_free all = (front_free all (notes.Finished ∷ []), λ h. All-push NotHeld all notes.Finished h refl)

closed_stretches : (size : Size) (state : State) (all : List Note)
    → stretches_from size state (all ++ notes.Finished ∷ []) ≡ stretches_from size state all
closed_stretches size state [] = refl
closed_stretches size state (notes.Counted ∷ all) =
    ap (λ (rest : List Stats). stats_of state ∷ rest) (closed_stretches size (after size state notes.Counted) all)
closed_stretches size state (note ∷ all) = closed_stretches size (after size state note) all

closed_slot_stretches : (state : SlotState) (all : List Note)
    → slot_stretches_from state (all ++ notes.Finished ∷ []) ≡ slot_stretches_from state all
closed_slot_stretches state [] = refl
closed_slot_stretches state (notes.Counted ∷ all) =
    ap (λ (rest : List Stats). slot_stats_of state ∷ rest) (closed_slot_stretches (slot_after state notes.Counted) all)
closed_slot_stretches state (note ∷ all) = closed_slot_stretches (slot_after state note) all

-- ---- rings of blocks

pace_tov : (of : texts.Pace) (tov : ℕ) (pace : Timing) → pace_of tov of ≡ Some pace → pace.tov ≡ tov
pace_tov (Pause period) tov pace e = ap (λ (pace : Timing). pace.tov) (sym (some_same _ pace e))
pace_tov (Blocks count) tov pace e = ap (λ (pace : Timing). pace.tov) (sym (some_same _ pace e))
pace_tov (Poll delay) tov pace e = cc

-- the notes of a ring of blocks that is closed
block_notes : (size : Size) (given : List Happening) (ring : Ring)
    → ring ≡ finished_ring (all_happened_by (block_steps size) given (fresh size))
    → ring.notes ≡ (all_happened given (fresh size)).notes ++ notes.Finished ∷ []
block_notes size given ring e =
    ap (λ (ring : Ring). ring.notes) e
    ∙ ap (λ (ring : Ring). ring.notes ++ notes.Finished ∷ []) (as_blocks size given (fresh size))

module _ (sizing : Sizing) (pace : Timing) (pace_is : pace_of sizing.tov sizing.reader.pace ≡ Some pace)
    (member places phase from : ℕ) (ring : Ring) where
  tov_is : pace.tov ≡ sizing.tov
  tov_is = pace_tov sizing.reader.pace sizing.tov pace pace_is

  pub free_iff : 1 ≤ places → HadEvents (blocks_with sizing places) (events_at sizing pace member phase from) ring
      → IsNeverHeld ring.notes ↔ (least_at sizing pace member phase from ≤ places)
  free_iff some had =
      let closed = closed_free (all_happened had.given (fresh (size_with sizing places))).notes in
      let notes_are = block_notes (size_with sizing places) had.given ring had.ring_is in
      let events = events_at sizing pace member phase from in
      let pass = passed_all sizing.room sizing.tov events (first_pass sizing.tov) in
      let iff = threshold_at sizing.room sizing.tov places had.given events pass had.events_are refl some in
      let least_is : pass.least ≡ least_at sizing pace member phase from =
      ap (λ (tov : ℕ). (passed_all sizing.room tov events (first_pass tov)).least) (sym tov_is) in (
        λ h. subst (λ (least : ℕ). least ≤ places) least_is (iff.0 (closed.0 (subst IsNeverHeld notes_are h))),
        λ h. subst IsNeverHeld (sym notes_are) (closed.1 (iff.1 (subst (λ (least : ℕ). least ≤ places) (sym least_is) h))),
      )

  pub stats_are : HadEvents (blocks_with sizing places) (events_at sizing pace member phase from) ring
      → totals_of (size_with sizing places) ring.notes ≡ stats_at sizing pace member places phase from
  stats_are had =
      let size = size_with sizing places in
      let events = events_at sizing pace member phase from in
      let course = all_went_on sizing.room places sizing.tov events (first_course sizing.tov) in
      ap (totals_of size) (block_notes size had.given ring had.ring_is)
      ∙ ap sum_of (closed_stretches size (first_state size) (all_happened had.given (fresh size)).notes)
      ∙ sym (totals_at sizing.room places sizing.tov had.given events course had.events_are had.plain refl)
      ∙ ap (λ (tov : ℕ). course_stats (all_went_on sizing.room places tov events (first_course tov))) (sym tov_is)

pub least_some : (sizing : Sizing) (pace : Timing) (member phase from : ℕ) → 1 ≤ least_at sizing pace member phase from
least_some sizing pace member phase from =
    all_grow sizing.room pace.tov (events_at sizing pace member phase from) (first_pass pace.tov)

-- ---- rings of slots

as_slots : (size : Size) (given : List Happening) (ring : Ring)
    → all_happened_by (slot_steps size) given ring ≡ all_slots_happened given ring
as_slots size [] ring = refl
as_slots size (Put offer ∷ given) ring = as_slots size given (slot_happened (Put offer) ring)
as_slots size (Try offer ∷ given) ring = as_slots size given (slot_happened (Try offer) ring)
as_slots size (Tick ms ∷ given) ring = as_slots size given ring
as_slots size (Read ∷ given) ring = as_slots size given (slot_happened Read ring)
as_slots size (ReadAll ∷ given) ring = as_slots size given (slot_happened ReadAll ring)
as_slots size (Count ∷ given) ring = as_slots size given (slot_happened Count ring)

slot_notes : (size : Size) (given : List Happening) (ring : Ring)
    → ring ≡ finished_ring (all_happened_by (slot_steps size) given (fresh size))
    → ring.notes ≡ (all_slots_happened given (fresh size)).notes ++ notes.Finished ∷ []
slot_notes size given ring e =
    ap (λ (ring : Ring). ring.notes) e
    ∙ ap (λ (ring : Ring). ring.notes ++ notes.Finished ∷ []) (as_slots size given (fresh size))

module _ (sizing : Sizing) (pace : Timing) (member places phase from : ℕ) (ring : Ring) where
  pub slots_free_iff : 1 ≤ places → HadEvents (slots_with sizing places) (slot_events_at sizing pace member phase from) ring
      → IsNeverHeld ring.notes ↔ (least_slots_by sizing pace member phase from ≤ places)
  slots_free_iff some had =
      let size = slot_size_with sizing places in
      let closed = closed_free (all_slots_happened had.given (fresh size)).notes in
      let notes_are = slot_notes size had.given ring had.ring_is in
      let iff = slots.threshold_at size had.given (slot_events_at sizing pace member phase from)
      (least_slots_by sizing pace member phase from) had.events_are refl some in (
        λ h. iff.0 (closed.0 (subst IsNeverHeld notes_are h)),
        λ h. subst IsNeverHeld (sym notes_are) (closed.1 (iff.1 h)),
      )

  pub slot_stats_are : HadEvents (slots_with sizing places) (slot_events_at sizing pace member phase from) ring
      → slot_totals_of ring.notes ≡ slot_stats_at sizing pace member places phase from
  slot_stats_are had =
      let size = slot_size_with sizing places in
      ap slot_totals_of (slot_notes size had.given ring had.ring_is)
      ∙ ap sum_of (closed_slot_stretches first_slot_state (all_slots_happened had.given (fresh size)).notes)
      ∙ sym (slots_runs.totals_at size had.given (slot_events_at sizing pace member phase from)
      (slot_stats_at sizing pace member places phase from) had.events_are had.plain refl)

pub least_slots_some : (sizing : Sizing) (pace : Timing) (member phase from : ℕ)
    → 1 ≤ least_slots_by sizing pace member phase from
least_slots_some sizing pace member phase from =
    slots.all_grow (slot_events_at sizing pace member phase from) first_slot_pass
