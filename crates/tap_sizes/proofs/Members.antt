-- The rings of the members so far, and of one more; what members are given comes by the end.
use Rattle.std.proofs.Common.{◌≡◌, ℕ, ◌+◌, ◌<◌, ◌≤◌, ◌^◌, Bool, true, false, List, [], ◌∷◌, ◌++◌, max, get_or, length}
use Rattle.std.proofs.Common.{take}
use Rattle.std.proofs.Common.{Option, arith}
use Rattle.std.specs.Prelude.{◌==◌, if◌then◌else◌, nat_le}
use Rattle.std.specs.List.{AllByRecursion}
use Rattle.std.proofs.lemmas.List.Elements.{All-from_recursion}
use Rattle.deal_rules.specs.Marks.{arrival_by, arrival_if, arrivals_for, if_fed, mark_of, marked, ticket_after, waiting_after}
use Rattle.deal_rules.specs.declared.marks.Mark.{Mark}
use Rattle.deal_rules.specs.declared.marks.Mark.TheVariants.{Given, Nothing, Refused}
use Rattle.fanout_group.specs.Rules.{Rules}
use Rattle.frame_view.specs.declared.frames.Frame.{Frame}
use Rattle.reader_pace.specs.Timelines.{Timed, end_of, feeds_of, in_order, latest, put_in}
use Rattle.ring_sizes.specs.Phases.{IsFirstMost}
use Rattle.ring_sizes.specs.declared.paces.Arrival.{Arrival}
use Rattle.ring_sizes.specs.declared.phase_losses.DropRange.{DropRange}
use Rattle.ring_sizes.specs.declared.tries.Reached.{Reached}
use Rattle.ring_sizes.specs.declared.tries.Tries.{Tries}
use Rattle.setup_text.specs.declared.lines.Line.{Line}
use Rattle.setup_text.specs.declared.lines.Line.TheVariants as line
use Rattle.tap_running.proofs.Growing.{one_more}
use Rattle.tap_sizes.specs.declared.ring_parts.RingParts.{RingParts}
use Rattle.tap_sizes.specs.inside.Passes.{AreDropRanges, AreFirstMost, Clocks, IsDropRange, IsEarly, least_by}

-- ---- one ring more

first_then : (parts : RingParts) (clocks : Clocks) (tries : Tries) (all : List (List Arrival))
    (rings : List Reached) (arrivals : List Arrival) (ring : Reached)
    → AreFirstMost parts clocks tries all rings
    → IsFirstMost tries (least_by parts clocks arrivals) ring
    → AreFirstMost parts clocks tries (all ++ arrivals ∷ []) (rings ++ ring ∷ [])
first_then parts clocks tries [] [] arrivals ring are is = (is, tt)
first_then parts clocks tries [] (r ∷ rings) arrivals ring are is = absurd are
first_then parts clocks tries (a ∷ all) [] arrivals ring are is = absurd are
first_then parts clocks tries (a ∷ all) (r ∷ rings) arrivals ring are is =
    (are.0, first_then parts clocks tries all rings arrivals ring are.1 is)

pub one_ring_more : (parts : RingParts) (clocks : Clocks) (tries : Tries) (all : List (List Arrival))
    (rings more : List Reached) (at : ℕ) (arrivals : List Arrival) (ring : Reached)
    → arrivals ≡ get_or all at arrivals → at < length all → more ≡ rings ++ ring ∷ []
    → AreFirstMost parts clocks tries (take at all) rings
    → IsFirstMost tries (least_by parts clocks arrivals) ring
    → AreFirstMost parts clocks tries (take (at + 1) all) more
one_ring_more parts clocks tries all rings more at arrivals ring here less added are is =
    rw (one_more all at arrivals here less, added)
    (first_then parts clocks tries (take at all) rings arrivals ring are is)

ranges_then : (parts : RingParts) (clocks : Clocks) (tries : Tries) (all : List (List Arrival))
    (ranges : List DropRange) (arrivals : List Arrival) (range : DropRange)
    → AreDropRanges parts clocks tries all ranges
    → IsDropRange parts clocks tries arrivals range
    → AreDropRanges parts clocks tries (all ++ arrivals ∷ []) (ranges ++ range ∷ [])
ranges_then parts clocks tries [] [] arrivals range are is = (is, tt)
ranges_then parts clocks tries [] (r ∷ ranges) arrivals range are is = absurd are
ranges_then parts clocks tries (a ∷ all) [] arrivals range are is = absurd are
ranges_then parts clocks tries (a ∷ all) (r ∷ ranges) arrivals range are is =
    (are.0, ranges_then parts clocks tries all ranges arrivals range are.1 is)

pub one_range_more : (parts : RingParts) (clocks : Clocks) (tries : Tries)
    (all : List (List Arrival)) (ranges more : List DropRange) (at : ℕ) (arrivals : List Arrival)
    (range : DropRange)
    → arrivals ≡ get_or all at arrivals → at < length all → more ≡ ranges ++ range ∷ []
    → AreDropRanges parts clocks tries (take at all) ranges
    → IsDropRange parts clocks tries arrivals range
    → AreDropRanges parts clocks tries (take (at + 1) all) more
one_range_more parts clocks tries all ranges more at arrivals range here less added are is =
    rw (one_more all at arrivals here less, added)
    (ranges_then parts clocks tries (take at all) ranges arrivals range are is)

-- ---- moments by the end

abbrev IsBy : ℕ → Timed → Type 0
IsBy end item = item.moment ≤ end

put_if : (end : ℕ) (b : Bool) (item next : Timed) (items : List Timed) → IsBy end item
    → AllByRecursion (IsBy end) (next ∷ items) → AllByRecursion (IsBy end) (put_in item items)
    → AllByRecursion (IsBy end) (if b then item ∷ next ∷ items else next ∷ put_in item items)
put_if end true item next items is all rest = (is, all)
put_if end false item next items is all rest = (all.0, rest)

put_by : (end : ℕ) (item : Timed) (items : List Timed) → IsBy end item
    → AllByRecursion (IsBy end) items → AllByRecursion (IsBy end) (put_in item items)
put_by end item [] is all = (is, tt)
put_by end item (next ∷ items) is all =
    put_if end (nat_le item.moment next.moment) item next items is all
    (put_by end item items is all.1)

order_by : (end : ℕ) (items : List Timed) → AllByRecursion (IsBy end) items
    → AllByRecursion (IsBy end) (in_order items)
order_by end [] all = tt
order_by end (item ∷ items) all =
    put_by end item (in_order items) all.0 (order_by end items all.1)

weaker : (end later : ℕ) (items : List Timed) → end ≤ later → AllByRecursion (IsBy end) items
    → AllByRecursion (IsBy later) items
weaker end later [] less all = tt
weaker end later (item ∷ items) less all =
    ((let is = all.0 in omega (arith, less, is)), weaker end later items less all.1)

by_latest : (items : List Timed) → AllByRecursion (IsBy (latest items)) items
by_latest [] = tt
by_latest (item ∷ items) = (
  omega arith,
  weaker (latest items) (max item.moment (latest items)) items (omega arith)
      (by_latest items),
)

abbrev IsMarkBy : ℕ → ℕ × Mark → Type 0
IsMarkBy end feed = feed.0 ≤ end

fed_by : (end : ℕ) (its_line : Line) (feed : ℕ × Mark) (rest : List (ℕ × Mark)) → IsMarkBy end feed
    → AllByRecursion (IsMarkBy end) rest
    → AllByRecursion (IsMarkBy end) (if_fed its_line feed ++ rest)
fed_by end (line.Feed cpu) feed rest is all = (is, all)
fed_by end (line.Read member) feed rest is all = all
fed_by end (line.Tick ms) feed rest is all = all
fed_by end (line.Stats member) feed rest is all = all

marked_by : (end : ℕ) (rules : Rules) (room ticket : ℕ) (waiting : List (List (Option Frame)))
    (items : List Timed) → AllByRecursion (IsBy end) items
    → AllByRecursion (IsMarkBy end) (marked rules room ticket waiting items)
marked_by end rules room ticket waiting [] all = tt
marked_by end rules room ticket waiting (item ∷ items) all =
    let arrival = arrival_by waiting item.line in
    fed_by end item.line (item.moment, mark_of rules room ticket arrival)
    (marked rules room (ticket_after rules ticket arrival) (waiting_after waiting item.line) items)
    all.0
    (marked_by end rules room (ticket_after rules ticket arrival)
    (waiting_after waiting item.line) items all.1)

abbrev ComesBy : ℕ → Arrival → Type 0
ComesBy end arrival = arrival.at ≤ end

one_by : (end member moment : ℕ) (mark : Mark) (rest : List Arrival) → moment ≤ end
    → AllByRecursion (ComesBy end) rest
    → AllByRecursion (ComesBy end) (arrival_if member moment mark ++ rest)
one_by end member moment Nothing rest is all = all
one_by end member moment Refused rest is all = all
one_by end member moment (Given home need) rest is all = by (home == member) where
  by : (b : Bool)
      → AllByRecursion (ComesBy end)
      ((if b then record { at = moment; need = need } ∷ [] else []) ++ rest)
  by true = (is, all)
  by false = all

given_by : (end member : ℕ) (feeds : List (ℕ × Mark)) → AllByRecursion (IsMarkBy end) feeds
    → AllByRecursion (ComesBy end) (arrivals_for member feeds)
given_by end member [] all = tt
given_by end member (feed ∷ feeds) all =
    one_by end member feed.0 feed.1 (arrivals_for member feeds) all.0
    (given_by end member feeds all.1)

early_by : (end : ℕ) (arrivals : List Arrival) → end < 2 ^ 53
    → AllByRecursion (ComesBy end) arrivals
    → AllByRecursion (λ (arrival : Arrival). arrival.at < 2 ^ 53) arrivals
early_by end [] soon all = tt
early_by end (arrival ∷ arrivals) soon all =
    ((let is = all.0 in omega (arith, is, soon)), early_by end arrivals soon all.1)

-- what a member is given comes early where the last frame does
pub members_early : (rules : Rules) (room member : ℕ) (times : List (List ℕ))
    (arriving : List (List (Option Frame))) → end_of times < 2 ^ 53
    → IsEarly (arrivals_for member (marked rules room 0 arriving (in_order (feeds_of times))))
members_early rules room member times arriving soon =
    let given = arrivals_for member (marked rules room 0 arriving (in_order (feeds_of times))) in
    All-from_recursion (λ (arrival : Arrival). arrival.at < 2 ^ 53) given
    (early_by (end_of times) given soon
    (given_by (end_of times) member _
    (marked_by (end_of times) rules room 0 arriving (in_order (feeds_of times))
    (order_by (end_of times) (feeds_of times) (by_latest (feeds_of times))))))
