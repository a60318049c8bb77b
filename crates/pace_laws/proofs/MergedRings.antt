-- What a timeline gives a member is the schedule of its ring, of blocks or of slots.
use Rattle.std.proofs.Common.{◌≡◌, ℕ, ◌+◌, ◌-◌, ◌*◌, true, List, [], sym, ap, ◌∙◌, arith, Option}
use Rattle.std.specs.Prelude.{All}
use Rattle.fanout_group.specs.Rules.{Rules}
use Rattle.frame_view.specs.declared.frames.Frame.{Frame}
use Rattle.reader_pace.specs.Orders.{RiseFrom}
use Rattle.reader_pace.specs.Timelines.{Timed, end_of}
use Rattle.reader_pace.specs.declared.paces.Stall as text_stalls
use Rattle.ring_sizes.specs.Schedules.{IsPace, schedule_to, steps_before, ticks_by}
use Rattle.ring_sizes.specs.declared.paces.Arrival.{Arrival}
use Rattle.ring_sizes.specs.declared.paces.Timing.{Timing}
use Rattle.slot_sizes.specs.SlotSchedules.{slot_schedule_to}
use Rattle.pace_laws.specs.Paces.{stalls_of}
use Rattle.pace_laws.proofs.BeatKinds.{ComeIn, stamped_packets, stamped_reads, stamped_ticks}
use Rattle.pace_laws.proofs.BeatOrder.{stamped_run}
use Rattle.pace_laws.proofs.Beats.{stamped_events, stamped_from, steps_on, ticks_on}
use Rattle.pace_laws.proofs.Members.{read_stamps, tick_stamps}
use Rattle.pace_laws.proofs.Merged.{frames_come, given_arrivals, is_read_line, is_tick_line, items, merged}
use Rattle.pace_laws.proofs.Orders.{Rises, Runs, Stamped, rises_sooner, rising}
use Rattle.pace_laws.proofs.SlotBeats.{slots_events, slots_packets, slots_reads, slots_run, slots_stamped, slots_ticks}
use Rattle.pace_laws.proofs.Spreads.{events_in, spread}
use Rattle.pace_laws.proofs.StepCounts.{no_step, no_tick}
use Rattle.pace_laws.proofs.Taken.{taken}

less_none : (number none : ℕ) → none ≡ 0 → number - none ≡ number
less_none number none e = omega (arith, e)

rises_all : (all : List Stamped) (end : ℕ) → Runs (3 * 0 + 1) all end → Rises 0 all
rises_all all end run = rises_sooner 0 (3 * 0 + 1) all (omega arith) (rising (3 * 0 + 1) all end run)

-- these reads are those of a pace
module _ (rules : Rules) (room member : ℕ) (arriving : List (List (Option Frame))) (stalls : List text_stalls.Stall)
    (pace : Timing) (sound : IsPace pace) (places : ℕ) (times : List (List ℕ)) (reads : List Timed)
    (read_lines : All (λ item. is_read_line item.line ≡ true) reads) (read_rise : RiseFrom 0 reads)
    (reads_are : read_stamps member reads
    ≡ steps_on (stalls_of stalls) pace places 0 (steps_before pace (end_of times + 1))) where
  abbrev end : ℕ
  end = end_of times

  abbrev arrivals : List Arrival
  arrivals = given_arrivals rules room arriving times member

  come : ComeIn 0 arrivals end
  come = frames_come rules room member arriving times

  all_steps : steps_on (stalls_of stalls) pace places (steps_before pace 0) (steps_before pace (end + 1) - steps_before pace 0)
      ≡ read_stamps member reads
  all_steps =
      let none = no_step pace sound in
      ap (λ (n : ℕ). steps_on (stalls_of stalls) pace places n (steps_before pace (end + 1) - steps_before pace 0)) none
      ∙ ap (steps_on (stalls_of stalls) pace places 0) (less_none (steps_before pace (end + 1)) (steps_before pace 0) none)
      ∙ sym reads_are

  pub blocks_merged : (ticks : List Timed) (tick_lines : All (λ item. is_tick_line item.line ≡ true) ticks) → RiseFrom 0 ticks
      → tick_stamps ticks ≡ ticks_on pace 0 (ticks_by pace end)
      → events_in (taken rules room member 0 arriving (items ticks times reads tick_lines read_lines))
      ≡ spread places (schedule_to (stalls_of stalls) pace arrivals end)
  blocks_merged ticks tick_lines tick_rise ticks_are =
      let scheduled = stamped_from (stalls_of stalls) pace places end 0 arrivals in
      let none = no_tick pace sound in
      let all_ticks = ap (λ (n : ℕ). ticks_on pace n (ticks_by pace end - ticks_by pace 0)) none
      ∙ ap (ticks_on pace 0) (less_none (ticks_by pace end) (ticks_by pace 0) none) in
      ap events_in (merged rules room member arriving times ticks reads tick_lines read_lines scheduled tick_rise read_rise
      (rises_all scheduled (3 * (end + 1)) (stamped_run (stalls_of stalls) pace places sound end 0 arrivals come))
      (stamped_ticks (stalls_of stalls) pace places sound end 0 arrivals come ∙ all_ticks ∙ sym ticks_are)
      (stamped_reads (stalls_of stalls) pace places sound end 0 arrivals come ∙ all_steps)
      (stamped_packets (stalls_of stalls) pace places end 0 arrivals come))
      ∙ stamped_events (stalls_of stalls) pace places end 0 arrivals

  pub slots_merged : (tick_lines : All (λ (item : Timed). is_tick_line item.line ≡ true) [])
      → events_in (taken rules room member 0 arriving (items [] times reads tick_lines read_lines))
      ≡ spread places (slot_schedule_to (stalls_of stalls) pace arrivals end)
  slots_merged tick_lines =
      let scheduled = slots_stamped (stalls_of stalls) pace places end 0 arrivals in
      ap events_in (merged rules room member arriving times [] reads tick_lines read_lines scheduled tt read_rise
      (rises_all scheduled (3 * (end + 1)) (slots_run (stalls_of stalls) pace places sound end 0 arrivals come))
      (slots_ticks (stalls_of stalls) pace places end 0 arrivals come)
      (slots_reads (stalls_of stalls) pace places sound end 0 arrivals come ∙ all_steps)
      (slots_packets (stalls_of stalls) pace places end 0 arrivals come))
      ∙ slots_events (stalls_of stalls) pace places end 0 arrivals
