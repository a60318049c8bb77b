-- Each ring of a group without rollover had the events that its member was given.
use Rattle.std.proofs.Common.{◌≡◌, ℕ, ◌<◌, true, false, List, [], length, get_or, sym, ap, ◌∙◌, subst}
use Rattle.std.proofs.Common.{arith, Option, Some}
use Rattle.std.specs.Prelude.{All, IsTrue, map, slice_get}
use Rattle.std.proofs.lemmas.List.{get_or-map, length-map}
use Rattle.std.proofs.lemmas.List.Elements.{All-nil}
use Rattle.std.proofs.lemmas.Option.{get_or_from_slice_get, slice_get_within}
use Rattle.fanout_group.specs.Rules.{Rules, rolls_over}
use Rattle.frame_view.specs.declared.frames.Frame.{Frame}
use Rattle.reader_pace.specs.Timelines.{Timed, line_of, schedule_at}
use Rattle.receive_ring.specs.Replay.{finished_ring, no_ring, replayed}
use Rattle.replay_laws.specs.Alone.{alone, dealt}
use Rattle.replay_laws.proofs.Alone.{stands_alone}
use Rattle.ring_events.specs.Happenings.{IsPlain, is_plain}
use Rattle.ring_events.specs.declared.events.Happening.{Happening}
use Rattle.ring_model.specs.Rings.{Ring}
use Rattle.ring_sizes.specs.EventLists.{events_of}
use Rattle.ring_sizes.specs.declared.events.Event.{Event}
use Rattle.run_reports.specs.RingSteps.{RingSteps}
use Rattle.setup_text.specs.declared.lines.Line.{Line}
use Rattle.pace_laws.specs.Sizings.{HadEvents, InReplay, Sizing, judged_with}
use Rattle.pace_laws.proofs.AllReads.{ReadsAll, gathers}
use Rattle.pace_laws.proofs.GroupDeals.{all_dealt, dealt_count, gives}
use Rattle.pace_laws.proofs.Merged.{is_read_line, is_tick_line, items}
use Rattle.pace_laws.proofs.Spreads.{events_in, spread}
use Rattle.pace_laws.proofs.Taken.{taken}

-- a member's ring alone had these events, and there is one for each member
pub record AreHad (rules : Rules) (steps : RingSteps) (arriving : List (List (Option Frame))) (member : ℕ)
    (events : List Event) (all : List Line) : Type 0 where
  pub count : length (dealt rules steps.size.room arriving all) ≡ rules.members
  pub had : member < rules.members
      → HadEvents steps events (alone steps (get_or (dealt rules steps.size.room arriving all) member []))

had_alone : (steps : RingSteps) (events : List Event) (given : List Happening) → ReadsAll steps → IsPlain given
    → events_of given ≡ spread steps.size.blocks events → HadEvents steps events (alone steps given)
had_alone steps events given reads_all plain events_are =
    let gathered = gathers steps reads_all events [] given (All-nil (λ happening. IsTrue (is_plain happening))) plain events_are
    in
    record {
      given = gathered.gathered;
      plain = gathered.plain;
      events_are = gathered.events_are;
      ring_is = ap finished_ring gathered.ring;
    }

pub are_had : (rules : Rules) (steps : RingSteps) (arriving : List (List (Option Frame))) (times : List (List ℕ)) (member : ℕ)
    (events : List Event) (ticks reads : List Timed) (tick_lines : All (λ item. is_tick_line item.line ≡ true) ticks)
    (read_lines : All (λ item. is_read_line item.line ≡ true) reads) → ReadsAll steps
    → map (λ times. length times) times ≡ map (λ waiting. length waiting) arriving
    → (member < rules.members
    → events_in (taken rules steps.size.room member 0 arriving (items ticks times reads tick_lines read_lines))
    ≡ spread steps.size.blocks events)
    → AreHad rules steps arriving member events (map line_of (items ticks times reads tick_lines read_lines))
are_had rules steps arriving times member events ticks reads tick_lines read_lines reads_all shape taken_are = record {
  count = dealt_count rules steps.size.room member arriving times shape ticks reads tick_lines read_lines;
  had = λ inside.
      let given = gives rules steps.size.room member arriving times shape ticks reads tick_lines read_lines inside in
      let dealt_is = ap (λ (all : List (List Happening)). get_or all member [])
      (all_dealt rules steps.size.room member arriving times shape ticks reads tick_lines read_lines) in
      had_alone steps events _ reads_all (subst IsPlain (sym dealt_is) given.plain)
      (ap events_of dealt_is ∙ given.events ∙ taken_are inside);
}

module _ (sizing : Sizing) (steps : RingSteps) (member phase from : ℕ) (events : List Event)
    (rolls : rolls_over sizing.rules ≡ false)
    (had : (all : List Line) → schedule_at (judged_with sizing steps.size.blocks) sizing.reader phase from ≡ Some all
    → AreHad sizing.rules steps sizing.arriving member events all) where
  abbrev dealt_by : List Line → List (List Happening)
  dealt_by all = dealt sizing.rules steps.size.room sizing.arriving all

  alone_are : (all : List Line) → (replayed sizing.rules steps sizing.arriving all).members ≡ map (alone steps) (dealt_by all)
  alone_are all = stands_alone steps sizing.rules rolls sizing.arriving all

  pub member_had : InReplay (HadEvents steps events) sizing steps member phase from
  member_had all lines_are ring found =
      let found_in : slice_get (map (alone steps) (dealt_by all)) member ≡ Some ring =
      ap (λ (rings : List Ring). slice_get rings member) (sym (alone_are all)) ∙ found in
      let within = slice_get_within (map (alone steps) (dealt_by all)) member ring found_in in
      let inside : member < length (dealt_by all) = omega (arith, within, length-map (dealt_by all) (alone steps)) in
      let ring_is : alone steps (get_or (dealt_by all) member []) ≡ ring =
      sym (get_or-map (alone steps) (dealt_by all) member [] no_ring inside)
      ∙ get_or_from_slice_get (map (alone steps) (dealt_by all)) member ring no_ring found_in in
      let are = had all lines_are in
      subst (HadEvents steps events) ring_is (are.had (omega (arith, inside, are.count)))

  pub members_are : (all : List Line) → schedule_at (judged_with sizing steps.size.blocks) sizing.reader phase from ≡ Some all
      → length (replayed sizing.rules steps sizing.arriving all).members ≡ sizing.rules.members
  members_are all lines_are =
      ap (λ (rings : List Ring). length rings) (alone_are all) ∙ length-map (dealt_by all) (alone steps)
      ∙ (had all lines_are).count
