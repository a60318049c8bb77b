-- What a group without rollover is given by a timeline.
use Rattle.std.proofs.Common.{◌≡◌, ℕ, zero, suc, ◌<◌, true, List, [], length, get_or}
use Rattle.std.proofs.Common.{refl, sym, ap, ◌∙◌, subst, arith, Option}
use Rattle.std.specs.Prelude.{All, IsTrue, map, replicate}
use Rattle.std.proofs.lemmas.List.{length-replicate}
use Rattle.std.proofs.lemmas.List.Elements.{All-nil}
use Rattle.fanout_group.specs.Rules.{Rules}
use Rattle.frame_view.specs.declared.frames.Frame.{Frame}
use Rattle.reader_pace.specs.Timelines.{Timed, line_of}
use Rattle.replay_laws.specs.Alone.{Deal, dealt, dealt_lines}
use Rattle.ring_events.specs.Happenings.{IsPlain, is_plain}
use Rattle.ring_events.specs.declared.events.Happening.{Happening}
use Rattle.ring_sizes.specs.EventLists.{events_of}
use Rattle.setup_text.specs.declared.lines.Line.{Line}
use Rattle.pace_laws.proofs.Deals.{Gives, lines_do}
use Rattle.pace_laws.proofs.Merged.{is_read_line, is_tick_line, items, items_feeds, items_uncounted}
use Rattle.pace_laws.proofs.Spreads.{events_in}
use Rattle.pace_laws.proofs.Taken.{taken}
use Rattle.pace_laws.proofs.Waits.{no_rest, nothing_left}

first_given : (members member : ℕ) → get_or (replicate members []) member [] ≡ (let none : List Happening = [] in none)
first_given zero member = refl
first_given (suc members) zero = refl
first_given (suc members) (suc member) = first_given members member

-- what a group is given by a timeline
module _ (rules : Rules) (room member : ℕ) (arriving : List (List (Option Frame))) (times : List (List ℕ))
    (shape : map (λ times. length times) times ≡ map (λ waiting. length waiting) arriving) (ticks reads : List Timed)
    (tick_lines : All (λ item. is_tick_line item.line ≡ true) ticks)
    (read_lines : All (λ item. is_read_line item.line ≡ true) reads) where
  abbrev pub made : List Timed
  made = items ticks times reads tick_lines read_lines

  abbrev pub lines : List Line
  lines = map line_of made

  abbrev pub first : Deal
  first = record { waiting = arriving; ticket = 0; given = replicate rules.members [] }

  pub all_dealt : dealt rules room arriving lines ≡ (dealt_lines rules room lines first).given
  unfolding dealt
  all_dealt =
      let done = lines_do rules room member made first (items_uncounted ticks times reads tick_lines read_lines) in
      let last = dealt_lines rules room lines first in
      ap (λ (deal : Deal). deal.given) (no_rest rules room member 0 (length last.waiting) last
      (λ cpu. ap (λ (waiting : List (List (Option Frame))). get_or waiting cpu []) done.waiting
      ∙ nothing_left rules room member _ cpu times arriving made shape
      (items_feeds ticks times reads tick_lines read_lines)))

  pub dealt_count : length (dealt rules room arriving lines) ≡ rules.members
  dealt_count =
      let done = lines_do rules room member made first (items_uncounted ticks times reads tick_lines read_lines) in
      ap (λ (given : List (List Happening)). length given) all_dealt ∙ done.count ∙ length-replicate rules.members []

  pub gives : member < rules.members
      → Gives rules room member (dealt_lines rules room lines first) (events_in (taken rules room member 0 arriving made))
  gives inside =
      let done = lines_do rules room member made first (items_uncounted ticks times reads tick_lines read_lines) in
      let none = first_given rules.members member in
      done.gives [] (record {
        inside = omega (arith, inside, length-replicate {A = List Happening} rules.members []);
        events = ap events_of none;
        plain = subst IsPlain (sym none) (All-nil (λ happening. IsTrue (is_plain happening)));
      })
