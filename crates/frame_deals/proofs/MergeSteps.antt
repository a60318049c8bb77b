-- One step of the merge.
use Rattle.std.proofs.Common.{◌≡◌, ℕ, ◌<◌, ◌≤◌, max, List, [], ◌∷◌, ◌++◌, length}
use Rattle.std.proofs.Common.{Option, Some, sym, ap, ◌∙◌, subst, arith, zero-add, length-append}
use Rattle.std.specs.Prelude.{drop, replicate, slice_get, slice_index_or, slice_set, unwrap_or}
use Rattle.std.specs.List.{AllByRecursion}
use Rattle.std.proofs.lemmas.Grind.{common_steps}
use Rattle.std.proofs.Math.Seq.{get_or-append_seam, set-append_seam}
use Rattle.deal_rules.specs.declared.marks.Mark.{Mark}
use Rattle.fanout_group.specs.Plans.{Shape}
use Rattle.frame_deals.specs.Dealings.{IsRising}
use Rattle.frame_deals.specs.inside.Merges.{AreAfter, AreFrom, IsFirst, dealt_all, dealt_left, feeds_left, given_by, moment_of}
use Rattle.frame_deals.specs.inside.Merges.{IsDealtFrom, dealt_of, end_from, first_of, front_mark, ticket_behind, with_ticket}
use Rattle.frame_deals.specs.declared.mark_queue.MarkedFrame.{MarkedFrame}
use Rattle.frame_deals.specs.declared.merge.Merge.{Merge}
use Rattle.frame_deals.specs.declared.merge.NextFrame.{NextFrame}
use Rattle.frame_deals.proofs.LeftFeeds.{feeds_append, in_order_middle, latest_middle, left_all, length_middle, none_left}
use Rattle.frame_deals.proofs.NextFrames.{rest_rises}
use Rattle.reader_pace.specs.Timelines.{Timed, feed_at, in_order, latest}
use Rattle.ring_sizes.specs.declared.paces.Arrival.{Arrival}

-- the queue of the next frame
pub queue_is : (first : ℕ) (queues : List (List MarkedFrame)) (next : NextFrame) (h : IsFirst first queues next)
    → slice_index_or queues next.cpu [] ≡ h.frame ∷ h.rest
queue_is first queues next h =
    ap (λ (qs : List (List MarkedFrame)). slice_index_or qs next.cpu []) h.parts
    ∙ ap (λ (n : ℕ). slice_index_or (h.before ++ (h.frame ∷ h.rest) ∷ h.behind) n []) h.cpu_is
    ∙ get_or-append_seam h.before (h.frame ∷ h.rest) h.behind []

-- there is such a CPU
pub cpu_below : (first : ℕ) (queues : List (List MarkedFrame)) (next : NextFrame) → IsFirst first queues next
    → next.cpu < length queues
cpu_below first queues next h =
    omega (arith, h.cpu_is, ap length h.parts, length-append h.before ((h.frame ∷ h.rest) ∷ h.behind))

-- the queues after it
pub queues_after : (first : ℕ) (queues : List (List MarkedFrame)) (next : NextFrame) (h : IsFirst first queues next)
    → slice_set queues next.cpu h.rest ≡ h.before ++ h.rest ∷ h.behind
queues_after first queues next h =
    ap (λ (qs : List (List MarkedFrame)). slice_set qs next.cpu h.rest) h.parts
    ∙ ap (λ (n : ℕ). slice_set (h.before ++ (h.frame ∷ h.rest) ∷ h.behind) n h.rest) h.cpu_is
    ∙ set-append_seam h.before (h.frame ∷ h.rest) h.behind h.rest

-- the feeds of the lower CPUs, and those after the next one
abbrev pub lower : {first : ℕ} {queues : List (List MarkedFrame)} {next : NextFrame} → IsFirst first queues next → List Timed
lower {first} h = feeds_left first 0 h.before

abbrev pub upper : {first : ℕ} {queues : List (List MarkedFrame)} {next : NextFrame} → IsFirst first queues next → List Timed
upper {first} {queues} {next} h = feeds_left first next.cpu (h.rest ∷ h.behind)

abbrev pub next_feed : ℕ → NextFrame → MarkedFrame → Timed
next_feed first next frame = feed_at first next.cpu frame.time

feeds_before : (first : ℕ) (queues : List (List MarkedFrame)) (next : NextFrame) (h : IsFirst first queues next)
    → feeds_left first 0 queues ≡ lower h ++ next_feed first next h.frame ∷ upper h
feeds_before first queues next h =
    ap (feeds_left first 0) h.parts
    ∙ feeds_append first 0 h.before ((h.frame ∷ h.rest) ∷ h.behind)
    ∙ ap (λ (n : ℕ). lower h ++ feeds_left first n ((h.frame ∷ h.rest) ∷ h.behind))
    (zero-add (length h.before) ∙ sym h.cpu_is)

feeds_after : (first : ℕ) (queues : List (List MarkedFrame)) (next : NextFrame) (h : IsFirst first queues next)
    → feeds_left first 0 (slice_set queues next.cpu h.rest) ≡ lower h ++ upper h
feeds_after first queues next h =
    ap (feeds_left first 0) (queues_after first queues next h)
    ∙ feeds_append first 0 h.before (h.rest ∷ h.behind)
    ∙ ap (λ (n : ℕ). lower h ++ feeds_left first n (h.rest ∷ h.behind)) (zero-add (length h.before) ∙ sym h.cpu_is)

-- the next frame's feed is the first in order
pub first_in_order : (first : ℕ) (queues : List (List MarkedFrame)) (next : NextFrame) (h : IsFirst first queues next)
    → in_order (feeds_left first 0 queues)
    ≡ next_feed first next h.frame ∷ in_order (feeds_left first 0 (slice_set queues next.cpu h.rest))
first_in_order first queues next h =
    let moment : ℕ = moment_of first h.frame in
    let is = h.moment_is in
    ap in_order (feeds_before first queues next h)
    ∙ in_order_middle (lower h) (next_feed first next h.frame) (upper h)
    (left_all (λ at. moment < at) first 0 h.before
    (subst (λ (m : ℕ). AllByRecursion (AreAfter first m) h.before) is h.later))
    (left_all (λ at. moment ≤ at) first next.cpu (h.rest ∷ h.behind) (
      subst (λ (m : ℕ). AreFrom first m h.rest) is h.rest_later,
      subst (λ (m : ℕ). AllByRecursion (AreFrom first m) h.behind) is h.behind_later,
    ))
    ∙ ap (λ (items : List Timed). next_feed first next h.frame ∷ in_order items) (sym (feeds_after first queues next h))

-- what was dealt and what is left stay what they are together
pub deals_next : (shape : Shape) (first ticket : ℕ) (queues : List (List MarkedFrame)) (members : List (List Arrival))
    (next : NextFrame) (h : IsFirst first queues next)
    → dealt_all shape first (ticket_behind shape.mode ticket h.frame.mark) (slice_set queues next.cpu h.rest)
    (given_by next.moment (with_ticket shape.mode shape.members ticket h.frame.mark) members)
    ≡ dealt_all shape first ticket queues members
deals_next shape first ticket queues members next h = sym (
    ap (λ (items : List Timed). dealt_left shape ticket queues items members) (first_in_order first queues next h)
    ∙ ap (λ (queue : List MarkedFrame). stepped queue (moment_of first h.frame)) (queue_is first queues next h)
    ∙ ap (stepped (h.frame ∷ h.rest)) (sym h.moment_is))
  where
    left : List Timed
    left = in_order (feeds_left first 0 (slice_set queues next.cpu h.rest))

    stepped : List MarkedFrame → ℕ → List (List Arrival)
    stepped queue moment =
        let mark = front_mark queue in
        dealt_left shape (ticket_behind shape.mode ticket mark) (slice_set queues next.cpu (drop 1 queue)) left
        (given_by moment (with_ticket shape.mode shape.members ticket mark) members)

max_more : (end moment left : ℕ) → max (max end moment) left ≡ max end (max moment left)
max_more end moment left = grind (arith, common_steps)

-- and the moment of the last
pub ends_next : (first end : ℕ) (queues : List (List MarkedFrame)) (next : NextFrame) (h : IsFirst first queues next)
    → max (max end next.moment) (latest (feeds_left first 0 (slice_set queues next.cpu h.rest)))
    ≡ max end (latest (feeds_left first 0 queues))
ends_next first end queues next h =
    ap (λ (items : List Timed). max (max end next.moment) (latest items)) (feeds_after first queues next h)
    ∙ max_more end next.moment (latest (lower h ++ upper h))
    ∙ ap (λ (moment : ℕ). max end (max moment (latest (lower h ++ upper h)))) h.moment_is
    ∙ sym (ap (max end)
    (ap latest (feeds_before first queues next h) ∙ latest_middle (lower h) (next_feed first next h.frame) (upper h)))

-- one frame less is left
pub fewer_left : (first : ℕ) (queues : List (List MarkedFrame)) (next : NextFrame) (h : IsFirst first queues next)
    → length (feeds_left first 0 (slice_set queues next.cpu h.rest)) < length (feeds_left first 0 queues)
fewer_left first queues next h =
    omega (
      arith,
      ap length (feeds_before first queues next h),
      ap length (feeds_after first queues next h),
      length_middle (lower h) (next_feed first next h.frame) (upper h),
    )

one_rises : (before : List (List MarkedFrame)) (frame : MarkedFrame) (rest : List MarkedFrame)
    (behind : List (List MarkedFrame)) → AllByRecursion IsRising (before ++ (frame ∷ rest) ∷ behind)
    → AllByRecursion IsRising (before ++ rest ∷ behind)
one_rises [] frame rest behind all = (rest_rises frame rest all.0, all.1)
one_rises (queue ∷ before) frame rest behind all = (all.0, one_rises before frame rest behind all.1)

-- the times of the rest still rise
pub still_rise : (first : ℕ) (queues : List (List MarkedFrame)) (next : NextFrame) (h : IsFirst first queues next)
    → AllByRecursion IsRising queues → AllByRecursion IsRising (slice_set queues next.cpu h.rest)
still_rise first queues next h all =
    subst (AllByRecursion IsRising) (sym (queues_after first queues next h))
    (one_rises h.before h.frame h.rest h.behind (subst (AllByRecursion IsRising) h.parts all))

-- ---- as the code takes it

-- what was popped of the next frame's queue
pub record IsPopped {first : ℕ} {queues : List (List MarkedFrame)} {next : NextFrame} (h : IsFirst first queues next)
    (frame : MarkedFrame) (left : List MarkedFrame) : Type 0 where
  pub frame_is : frame ≡ h.frame
  pub left_is : left ≡ h.rest

pub popped : (first : ℕ) (queues : List (List MarkedFrame)) (next : NextFrame) (h : IsFirst first queues next)
    (queue : List MarkedFrame) (frame : MarkedFrame) (left : List MarkedFrame)
    → queue ≡ slice_index_or queues next.cpu [] → slice_get queue 0 ≡ Some frame → left ≡ drop 1 queue
    → IsPopped h frame left
popped first queues next h queue frame left is some rest =
    let all : queue ≡ h.frame ∷ h.rest = is ∙ queue_is first queues next h in
    record {
      frame_is = some_same frame h.frame (sym some ∙ ap (λ (q : List MarkedFrame). slice_get q 0) all);
      left_is = rest ∙ ap (λ (q : List MarkedFrame). drop 1 q) all;
    }
  where
    some_same : (x y : MarkedFrame) → Some x ≡ Some y → x ≡ y
    some_same x y e = ap (λ (o : Option MarkedFrame). unwrap_or o x) e

pub deals_taken : (shape : Shape) (first ticket : ℕ) (queues : List (List MarkedFrame)) (members : List (List Arrival))
    (next : NextFrame) (h : IsFirst first queues next) (frame : MarkedFrame) (left : List MarkedFrame)
    (later : ℕ) (mark : Mark) (given : List (List Arrival))
    → IsPopped h frame left
    → later ≡ ticket_behind shape.mode ticket frame.mark
    → mark ≡ with_ticket shape.mode shape.members ticket frame.mark
    → given ≡ given_by next.moment mark members
    → dealt_all shape first later (slice_set queues next.cpu left) given ≡ dealt_all shape first ticket queues members
deals_taken shape first ticket queues members next h frame left later mark given p l m g =
    ap (λ (t : ℕ). dealt_all shape first t (slice_set queues next.cpu left) given)
    (l ∙ ap (λ (f : MarkedFrame). ticket_behind shape.mode ticket f.mark) p.frame_is)
    ∙ ap (λ (q : List MarkedFrame). dealt_all shape first behind (slice_set queues next.cpu q) given) p.left_is
    ∙ ap (dealt_all shape first behind (slice_set queues next.cpu h.rest))
    (g ∙ ap (λ (k : Mark). given_by next.moment k members)
    (m ∙ ap (λ (f : MarkedFrame). with_ticket shape.mode shape.members ticket f.mark) p.frame_is))
    ∙ deals_next shape first ticket queues members next h
  where
    behind : ℕ
    behind = ticket_behind shape.mode ticket h.frame.mark

pub ends_taken : (first end later : ℕ) (queues : List (List MarkedFrame)) (next : NextFrame) (h : IsFirst first queues next)
    (frame : MarkedFrame) (left : List MarkedFrame) → IsPopped h frame left → later ≡ max end next.moment
    → max later (latest (feeds_left first 0 (slice_set queues next.cpu left)))
    ≡ max end (latest (feeds_left first 0 queues))
ends_taken first end later queues next h frame left p l =
    ap (λ (e : ℕ). max e (latest (feeds_left first 0 (slice_set queues next.cpu left)))) l
    ∙ ap (λ (q : List MarkedFrame). max (max end next.moment) (latest (feeds_left first 0 (slice_set queues next.cpu q))))
    p.left_is
    ∙ ends_next first end queues next h

pub fewer_taken : (first : ℕ) (queues : List (List MarkedFrame)) (next : NextFrame) (h : IsFirst first queues next)
    (frame : MarkedFrame) (left : List MarkedFrame) → IsPopped h frame left
    → length (feeds_left first 0 (slice_set queues next.cpu left)) < length (feeds_left first 0 queues)
fewer_taken first queues next h frame left p =
    subst (λ (q : List MarkedFrame). length (feeds_left first 0 (slice_set queues next.cpu q))
    < length (feeds_left first 0 queues)) (sym p.left_is) (fewer_left first queues next h)

pub rise_taken : (first : ℕ) (queues : List (List MarkedFrame)) (next : NextFrame) (h : IsFirst first queues next)
    (frame : MarkedFrame) (left : List MarkedFrame) → IsPopped h frame left → AllByRecursion IsRising queues
    → AllByRecursion IsRising (slice_set queues next.cpu left)
rise_taken first queues next h frame left p all =
    subst (λ (q : List MarkedFrame). AllByRecursion IsRising (slice_set queues next.cpu q)) (sym p.left_is)
    (still_rise first queues next h all)

-- no frame is left
pub all_dealt : (shape : Shape) (merge : Merge) (queues : List (List MarkedFrame))
    → AllByRecursion (λ queue. queue ≡ []) merge.queues.items
    → dealt_of shape merge ≡ dealt_all shape (first_of queues) 0 queues (replicate shape.members [])
    → end_from merge ≡ latest (feeds_left (first_of queues) 0 queues)
    → IsDealtFrom shape queues (record { members = merge.members; end = merge.end })
all_dealt shape merge queues none dealt end =
    let left : feeds_left merge.first 0 merge.queues.items ≡ [] = none_left merge.first 0 merge.queues.items none in
    record {
      members = sym (ap (λ (items : List Timed).
          dealt_left shape merge.ticket merge.queues.items (in_order items) merge.members.items) left) ∙ dealt;
      end = sym (ap (λ (items : List Timed). max merge.end (latest items)) left ∙ max_zero merge.end) ∙ end;
    }
  where
    max_zero : (n : ℕ) → max n 0 ≡ n
    max_zero n = grind (arith, common_steps)
