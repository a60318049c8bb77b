-- The rings of a sizing by the schedule of its reader had the events of ring_sizes' schedule.
use Rattle.std.proofs.Common.{◌≡◌, ◌↔◌, ℕ, ◌+◌, ◌<◌, ◌≤◌, Bool, true, false, List, [], ◌++◌, length, refl, sym, ap, ◌∙◌, subst}
use Rattle.std.proofs.Common.{Option, Some}
use Rattle.std.specs.Prelude.{All, map}
use Rattle.std.proofs.lemmas.List.Elements.{All-nil}
use Rattle.reader_pace.specs.Orders.{RiseFrom}
use Rattle.reader_pace.specs.Timelines.{Timed, end_of, feeds_of, in_order, line_of, lines_of_timeline, reads_of, reads_to}
use Rattle.reader_pace.specs.Timelines.{schedule_at, ticks_to, ticks_unless, timeline_of, timeline_with}
use Rattle.reader_pace.specs.declared.paces.Pace as texts
use Rattle.reader_pace.specs.declared.paces.Pace.TheVariants.{Pause, Blocks, Poll}
use Rattle.reader_pace.specs.declared.paces.Stall as text_stalls
use Rattle.reader_pace.proofs.Schedules.{lines_made, made_with}
use Rattle.reader_pace.proofs.Timelines.{reads_to_all, ticks_to_all}
use Rattle.ring_sizes.specs.Phases.{begun}
use Rattle.ring_sizes.specs.Schedules.{IsPace, step_moment, steps_before, ticks_by}
use Rattle.ring_sizes.specs.declared.paces.Timing.{Timing}
use Rattle.setup_text.specs.declared.lines.Line.{Line}
use Rattle.pace_laws.specs.Paces.{pace_of, stalls_of}
use Rattle.pace_laws.specs.Sizings.{IsSizing, IsSlotSizing, Sizing, blocks_with, events_at, judged_with, size_with}
use Rattle.pace_laws.specs.Sizings.{slot_events_at, slot_size_with}
use Rattle.pace_laws.specs.Sizings.{slots_with}
use Rattle.pace_laws.proofs.Beats.{each, steps_on}
use Rattle.pace_laws.proofs.BlockReads.{blocks_read}
use Rattle.pace_laws.proofs.MemberRuns.{AreHad, are_had}
use Rattle.pace_laws.proofs.Members.{read_stamps, reads_made, reads_rise, ticks_made, ticks_rise}
use Rattle.pace_laws.proofs.Merged.{is_read_line, is_tick_line}
use Rattle.pace_laws.proofs.MergedRings.{blocks_merged, slots_merged}
use Rattle.pace_laws.proofs.Rankings.{rises}
use Rattle.pace_laws.proofs.SlotReads.{slots_read}
use Rattle.pace_laws.proofs.StepCounts.{same_steps}
use Rattle.pace_laws.proofs.TextReads.{text_reads}

-- its rings are of slots, or of blocks
pub record IsSizingOf (slots : Bool) (sizing : Sizing) (pace : Timing) : Type 0 where
  pub kind : sizing.reader.slots ≡ slots
  pub times : map (λ times. length times) sizing.times ≡ map (λ waiting. length waiting) sizing.arriving
  pub pace_is : pace_of sizing.tov sizing.reader.pace ≡ Some pace

pub of_blocks : (sizing : Sizing) (pace : Timing) → IsSizing sizing pace → IsSizingOf false sizing pace
of_blocks sizing pace h = record { kind = h.blocks; times = h.times; pace_is = h.pace_is }

pub of_slots : (sizing : Sizing) (pace : Timing) → IsSlotSizing sizing pace → IsSizingOf true sizing pace
of_slots sizing pace h = record { kind = h.slots; times = h.times; pace_is = h.pace_is }

module _ (slots : Bool) (sizing : Sizing) (pace : Timing) (sizing_is : IsSizingOf slots sizing pace) (places phase from : ℕ)
  where
    abbrev last_at : ℕ
    last_at = end_of sizing.times

    abbrev at_pace : Timing
    at_pace = begun pace phase from

    -- the lines of these ticks, feeds and reads
    abbrev lines_by : List Timed → List Timed → List Line
    lines_by ticks reads = map line_of (in_order (ticks ++ (feeds_of sizing.times ++ reads)))

    -- the reads of so many steps
    abbrev reads_by : (ℕ → ℕ) → ℕ → List Timed
    reads_by moment_of steps =
        reads_to moment_of sizing.reader.stalls (each (stalls_of sizing.reader.stalls) at_pace places) sizing.rules.members
        steps

    -- these are the moments of steps, and so many come by the end
    pub record AreSteps (moment_of : ℕ → ℕ) (steps : ℕ) : Type 0 where
      pub same : (step : ℕ) → moment_of step ≡ step_moment at_pace (step + 1)
      pub counted : (step : ℕ) → (moment_of step ≤ last_at) ↔ (step < steps)

    -- what holds of the lines of a pace holds of the schedule
    pub by_pace : (P : List Line → Type 0) → IsPace at_pace
        → ((moment_of : ℕ → ℕ) (steps : ℕ) → AreSteps moment_of steps
        → P (lines_by (ticks_unless slots pace.tov phase last_at) (reads_by moment_of steps)))
        → (all : List Line) → schedule_at (judged_with sizing places) sizing.reader phase from ≡ Some all → P all
    unfolding timeline_of
    by_pace P sound holds all lines_are =
        lines_made P (timeline_of (judged_with sizing places) sizing.reader phase from) all
        (λ items e. made_with (λ (items : List Timed). P (map line_of items))
        (ticks_unless sizing.reader.slots sizing.tov phase last_at) (feeds_of sizing.times)
        (reads_of sizing.reader.pace sizing.reader.stalls places sizing.rules.members from last_at) items of_reads e) lines_are
      where
        of_reads : (reads : List Timed)
            → reads_of sizing.reader.pace sizing.reader.stalls places sizing.rules.members from last_at ≡ Some reads
            → P (lines_by (ticks_unless sizing.reader.slots sizing.tov phase last_at) reads)
        of_reads reads e =
            let are = text_reads sizing.reader.pace sizing.reader.stalls sizing.tov places sizing.rules.members phase from
            last_at pace reads sizing_is.pace_is sound e in
            let ticks_are = ap (λ (tov : ℕ). ticks_unless slots tov phase last_at) are.tov_is
            ∙ ap (λ (slots : Bool). ticks_unless slots sizing.tov phase last_at) (sym sizing_is.kind) in
            subst (λ (ticks : List Timed). P (lines_by ticks reads)) ticks_are
            (subst (λ (reads : List Timed). P (lines_by (ticks_unless slots pace.tov phase last_at) reads))
            (sym are.reads_are) (holds are.moment_of are.steps (record { same = are.same; counted = are.counted })))

    -- ---- there is a schedule

    some_reads : (of : texts.Pace) (stalls : List text_stalls.Stall) (tov members end : ℕ) → pace_of tov of ≡ Some pace
        → (reads : List Timed) × (reads_of of stalls places members from end ≡ Some reads)
    some_reads (Pause period) stalls tov members end e = (_, refl)
    some_reads (Blocks count) stalls tov members end e = (_, refl)
    some_reads (Poll delay) stalls tov members end e = cc

    pub some_lines : (all : List Line) × (schedule_at (judged_with sizing places) sizing.reader phase from ≡ Some all)
    unfolding timeline_of
    some_lines =
        let reads = some_reads sizing.reader.pace sizing.reader.stalls sizing.tov sizing.rules.members last_at
        sizing_is.pace_is in (
          _,
          ap (λ (reads : Option (List Timed)). lines_of_timeline (timeline_with
              (ticks_unless sizing.reader.slots sizing.tov phase last_at) (feeds_of sizing.times) reads)) reads.1,
        )

    -- ---- the reads of one member

    module _ (sound : IsPace at_pace) (member : ℕ) (inside : member < sizing.rules.members) (moment_of : ℕ → ℕ) (steps : ℕ)
        (are : AreSteps moment_of steps) where
      pub rise : RiseFrom 0 (reads_by moment_of steps)
      rise =
          rises 0 (reads_by moment_of steps) last_at
          (reads_rise sizing.reader.stalls at_pace places moment_of are.same member sizing.rules.members inside sound steps
          last_at
          (λ step few. (are.counted step).1 few))

      pub made : read_stamps member (reads_by moment_of steps)
          ≡ steps_on (stalls_of sizing.reader.stalls) at_pace places 0 (steps_before at_pace (last_at + 1))
      made =
          reads_made sizing.reader.stalls at_pace places moment_of are.same member sizing.rules.members inside steps
          ∙ ap (steps_on (stalls_of sizing.reader.stalls) at_pace places 0)
          (same_steps at_pace moment_of last_at steps sound are.same are.counted)

    pub read_lines : (moment_of : ℕ → ℕ) (steps : ℕ) → All (λ item. is_read_line item.line ≡ true) (reads_by moment_of steps)
    read_lines moment_of steps =
        reads_to_all (λ item. is_read_line item.line ≡ true) moment_of sizing.reader.stalls
        (each (stalls_of sizing.reader.stalls) at_pace places) sizing.rules.members steps (λ moment member awake. refl)

-- ---- rings of blocks

pub blocks_had : (sizing : Sizing) (pace : Timing) (sizing_is : IsSizingOf false sizing pace) (blocks phase from member : ℕ)
    → IsPace (begun pace phase from) → 1 ≤ blocks → (all : List Line)
    → schedule_at (judged_with sizing blocks) sizing.reader phase from ≡ Some all
    → AreHad sizing.rules (blocks_with sizing blocks) sizing.arriving member (events_at sizing pace member phase from) all
blocks_had sizing pace sizing_is blocks phase from member sound some =
    by_pace false sizing pace sizing_is blocks phase from
    (AreHad sizing.rules (blocks_with sizing blocks) sizing.arriving member (events_at sizing pace member phase from)) sound
    (λ moment_of steps are.
    let paced : Timing = begun pace phase from in
    let count = ticks_by paced (end_of sizing.times) in
    let ticks = ticks_to pace.tov phase count in
    let tick_lines = ticks_to_all (λ item. is_tick_line item.line ≡ true) pace.tov phase count (λ n one few. refl) in
    let lines = read_lines false sizing pace sizing_is blocks phase from moment_of steps in
    are_had sizing.rules (blocks_with sizing blocks) sizing.arriving sizing.times member
    (events_at sizing pace member phase from) ticks _ tick_lines lines (blocks_read (size_with sizing blocks) some)
    sizing_is.times
    (λ inside. blocks_merged sizing.rules sizing.room member sizing.arriving sizing.reader.stalls paced sound blocks
    sizing.times _ lines (rise false sizing pace sizing_is blocks phase from sound member inside moment_of steps are)
    (made false sizing pace sizing_is blocks phase from sound member inside moment_of steps are) ticks tick_lines
    (rises 0 ticks _ (ticks_rise paced count)) (ticks_made paced count)))

-- ---- rings of slots

pub slots_had : (sizing : Sizing) (pace : Timing) (sizing_is : IsSizingOf true sizing pace) (slots phase from member : ℕ)
    → IsPace (begun pace phase from) → (all : List Line)
    → schedule_at (judged_with sizing slots) sizing.reader phase from ≡ Some all
    → AreHad sizing.rules (slots_with sizing slots) sizing.arriving member (slot_events_at sizing pace member phase from) all
slots_had sizing pace sizing_is slots phase from member sound =
    by_pace true sizing pace sizing_is slots phase from
    (AreHad sizing.rules (slots_with sizing slots) sizing.arriving member (slot_events_at sizing pace member phase from)) sound
    (λ moment_of steps are.
    let tick_lines = All-nil (λ (item : Timed). is_tick_line item.line ≡ true) in
    let lines = read_lines true sizing pace sizing_is slots phase from moment_of steps in
    are_had sizing.rules (slots_with sizing slots) sizing.arriving sizing.times member
    (slot_events_at sizing pace member phase from) [] _ tick_lines lines (slots_read (slot_size_with sizing slots))
    sizing_is.times
    (λ inside. slots_merged sizing.rules sizing.room member sizing.arriving sizing.reader.stalls (begun pace phase from) sound
    slots sizing.times _ lines (rise true sizing pace sizing_is slots phase from sound member inside moment_of steps are)
    (made true sizing pace sizing_is slots phase from sound member inside moment_of steps are) tick_lines))
