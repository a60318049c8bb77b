-- Which frame comes next.
use Rattle.std.proofs.Common.{◌≡◌, ℕ, zero, suc, ◌+◌, ◌-◌, ◌<◌, ◌≤◌, Bool, true, false, List, [], ◌∷◌, ◌++◌, length, map}
use Rattle.std.proofs.Common.{get_or, take, take-suc, add-one, length-take-le}
use Rattle.std.proofs.Common.{Option, None, Some, refl, sym, ap, ◌∙◌, subst, arith, append_assoc}
use Rattle.std.specs.Prelude.{nat_le, if◌then◌else◌}
use Rattle.std.specs.List.{AllByRecursion}
use Rattle.std.proofs.lemmas.Bool.{leb-false, leb-true}
use Rattle.frame_deals.specs.Dealings.{IsRising, RisesFrom}
use Rattle.frame_deals.specs.inside.Merges.{AreAfter, AreFrom, IsFirst, IsNext, earlier_of, moment_of, sooner_of}
use Rattle.frame_deals.specs.declared.mark_queue.MarkedFrame.{MarkedFrame}
use Rattle.frame_deals.specs.declared.merge.NextFrame.{NextFrame}
use Rattle.reader_pace.specs.Timelines.{first_time}

-- ---- rising times

all_rise : (time : ℕ) (frames : List MarkedFrame) → RisesFrom time frames → AllByRecursion (λ frame. time ≤ frame.time) frames
all_rise time [] r = tt
all_rise time (frame ∷ frames) r = (r.0, weaker frames (all_rise frame.time frames r.1))
  where
    weaker : (frames : List MarkedFrame) → AllByRecursion (λ f. frame.time ≤ f.time) frames
        → AllByRecursion (λ f. time ≤ f.time) frames
    weaker [] all = tt
    weaker (f ∷ frames) all = (omega (arith, r.0, all.0), weaker frames all.1)

-- the frames after one come no sooner
from_time : (first moment time : ℕ) (frames : List MarkedFrame) → moment ≤ time - first
    → AllByRecursion (λ frame. time ≤ frame.time) frames → AreFrom first moment frames
from_time first moment time [] l all = tt
from_time first moment time (frame ∷ frames) l all =
    (omega (arith, l, all.0), from_time first moment time frames l all.1)

pub rest_from : (first moment : ℕ) (frame : MarkedFrame) (rest : List MarkedFrame) → IsRising (frame ∷ rest)
    → moment ≤ moment_of first frame → AreFrom first moment rest
rest_from first moment frame rest r l =
    from_time first moment frame.time rest l (all_rise frame.time rest r.1)

rise_sooner : (before after : ℕ) (frames : List MarkedFrame) → before ≤ after → RisesFrom after frames → RisesFrom before frames
rise_sooner before after [] l r = tt
rise_sooner before after (frame ∷ frames) l r = (omega (arith, l, r.0), r.1)

-- the rest of what rises rises
pub rest_rises : (frame : MarkedFrame) (rest : List MarkedFrame) → IsRising (frame ∷ rest) → IsRising rest
rest_rises frame rest r = rise_sooner 0 frame.time rest (omega arith) r.1

-- ---- one CPU more

after_from : (first sooner later : ℕ) (frames : List MarkedFrame) → sooner < later → AreFrom first later frames
    → AreAfter first sooner frames
after_from first sooner later [] l all = tt
after_from first sooner later (frame ∷ frames) l all =
    (omega (arith, l, all.0), after_from first sooner later frames l all.1)

after_after : (first sooner later : ℕ) (frames : List MarkedFrame) → sooner < later → AreAfter first later frames
    → AreAfter first sooner frames
after_after first sooner later [] l all = tt
after_after first sooner later (frame ∷ frames) l all =
    (omega (arith, l, all.0), after_after first sooner later frames l all.1)

each : (P Q : List MarkedFrame → Type 0) (queues : List (List MarkedFrame)) → ((queue : List MarkedFrame) → P queue → Q queue)
    → AllByRecursion P queues → AllByRecursion Q queues
each P Q [] f all = tt
each P Q (queue ∷ queues) f all = (f queue all.0, each P Q queues f all.1)

joined : (P : List MarkedFrame → Type 0) (xs ys : List (List MarkedFrame)) → AllByRecursion P xs → AllByRecursion P ys
    → AllByRecursion P (xs ++ ys)
joined P [] ys one two = two
joined P (x ∷ xs) ys one two = (one.0, joined P xs ys one.1 two)

-- all frames of CPUs come after a moment, if they come after a later one or no sooner
all_after : (first moment : ℕ) (queues : List (List MarkedFrame)) (next : NextFrame) → IsFirst first queues next
    → moment < next.moment → AllByRecursion (AreAfter first moment) queues
all_after first moment queues next h l =
    let is = h.moment_is in
    subst (AllByRecursion (AreAfter first moment)) (sym h.parts)
    (joined (AreAfter first moment) h.before ((h.frame ∷ h.rest) ∷ h.behind)
    (each (AreAfter first next.moment) (AreAfter first moment) h.before
    (λ q. after_after first moment next.moment q l) h.later) (
      (omega (arith, l, is), after_from first moment next.moment h.rest l h.rest_later),
      each (AreFrom first next.moment) (AreAfter first moment) h.behind (λ q. after_from first moment next.moment q l)
          h.behind_later,
    ))

none_after : (first moment : ℕ) (queues : List (List MarkedFrame)) → AllByRecursion (λ queue. queue ≡ []) queues
    → AllByRecursion (AreAfter first moment) queues
none_after first moment queues all =
    each (λ queue. queue ≡ []) (AreAfter first moment) queues (λ q e. subst (AreAfter first moment) (sym e) tt) all

-- the last CPU's first frame comes first
comes_first : (first : ℕ) (queues : List (List MarkedFrame)) (frame : MarkedFrame) (rest : List MarkedFrame)
    → IsRising (frame ∷ rest) → AllByRecursion (AreAfter first (moment_of first frame)) queues
    → IsFirst first (queues ++ (frame ∷ rest) ∷ [])
    (record { cpu = length queues; moment = moment_of first frame })
comes_first first queues frame rest rises after = record {
  before = queues;
  frame = frame;
  rest = rest;
  behind = [];
  parts = refl;
  cpu_is = refl;
  moment_is = refl;
  later = after;
  rest_later = rest_from first (moment_of first frame) frame rest rises (omega arith);
  behind_later = tt;
}

-- the one that was found still comes first
stays_first : (first : ℕ) (queues : List (List MarkedFrame)) (queue : List MarkedFrame) (next : NextFrame)
    → IsFirst first queues next → AreFrom first next.moment queue → IsFirst first (queues ++ queue ∷ []) next
stays_first first queues queue next h from = record {
  before = h.before;
  frame = h.frame;
  rest = h.rest;
  behind = h.behind ++ queue ∷ [];
  parts = ap (λ (qs : List (List MarkedFrame)). qs ++ queue ∷ []) h.parts
      ∙ append_assoc h.before ((h.frame ∷ h.rest) ∷ h.behind) (queue ∷ []);
  cpu_is = h.cpu_is;
  moment_is = h.moment_is;
  later = h.later;
  rest_later = h.rest_later;
  behind_later = joined (AreFrom first next.moment) h.behind (queue ∷ []) h.behind_later (from, tt);
}

next_than : (first : ℕ) (queues : List (List MarkedFrame)) (frame : MarkedFrame) (rest : List MarkedFrame) (next : NextFrame)
    (test : Bool) → nat_le next.moment (moment_of first frame) ≡ test
    → IsRising (frame ∷ rest) → IsFirst first queues next
    → IsNext first (queues ++ (frame ∷ rest) ∷ [])
    (if test then Some next else Some (record { cpu = length queues; moment = moment_of first frame }))
next_than first queues frame rest next true t rises h =
    let l = leb-true next.moment (moment_of first frame) t in
    stays_first first queues (frame ∷ rest) next h (l, rest_from first next.moment frame rest rises l)
next_than first queues frame rest next false t rises h =
    comes_first first queues frame rest rises
    (all_after first (moment_of first frame) queues next h
    (omega (arith, leb-false next.moment (moment_of first frame) t)))

-- the frame that comes first of some CPUs and one more
pub next_more : (first : ℕ) (queues : List (List MarkedFrame)) (queue : List MarkedFrame) (found : Option NextFrame)
    → IsRising queue → IsNext first queues found
    → IsNext first (queues ++ queue ∷ []) (sooner_of found first (length queues) queue)
next_more first queues [] None rises h = joined (λ queue. queue ≡ []) queues ([] ∷ []) h (refl, tt)
next_more first queues [] (Some next) rises h = stays_first first queues [] next h tt
next_more first queues (frame ∷ rest) None rises h =
    comes_first first queues frame rest rises (none_after first (moment_of first frame) queues h)
next_more first queues (frame ∷ rest) (Some next) rises h =
    next_than first queues frame rest next (nat_le next.moment (moment_of first frame)) refl rises h

-- ---- the first time

abbrev pub times_left : List (List MarkedFrame) → List (List ℕ)
times_left queues = map (λ queue. map (λ (frame : MarkedFrame). frame.time) queue) queues

pub earlier_more : (queue : List MarkedFrame) (queues : List (List MarkedFrame))
    → earlier_of queue (first_time (times_left queues)) ≡ first_time (times_left (queue ∷ queues))
earlier_more [] queues = refl
earlier_more (frame ∷ queue) queues = refl

-- ---- as the code finds it

rising_at : (queues : List (List MarkedFrame)) (cpu : ℕ) → AllByRecursion IsRising queues → IsRising (get_or queues cpu [])
rising_at [] zero all = tt
rising_at [] (suc cpu) all = tt
rising_at (queue ∷ queues) zero all = all.0
rising_at (queue ∷ queues) (suc cpu) all = rising_at queues cpu all.1

pub next_found : (first : ℕ) (queues : List (List MarkedFrame)) (cpu : ℕ) (queue : List MarkedFrame)
    (found later : Option NextFrame)
    → cpu < length queues → queue ≡ get_or queues cpu [] → AllByRecursion IsRising queues
    → IsNext first (take cpu queues) found → later ≡ sooner_of found first cpu queue
    → IsNext first (take (cpu + 1) queues) later
next_found first queues cpu queue found later l is rise h e =
    let long : length (take cpu queues) ≡ cpu = length-take-le cpu queues (omega (arith, l)) in
    let more : take (cpu + 1) queues ≡ take cpu queues ++ queue ∷ [] =
    ap (λ (n : ℕ). take n queues) (add-one cpu) ∙ take-suc queues cpu [] l
    ∙ ap (λ (q : List MarkedFrame). take cpu queues ++ q ∷ []) (sym is) in
    let rises : IsRising queue = subst IsRising (sym is) (rising_at queues cpu rise) in
    subst (λ (qs : List (List MarkedFrame)). IsNext first qs later) (sym more)
    (subst (IsNext first (take cpu queues ++ queue ∷ []))
    (ap (λ (n : ℕ). sooner_of found first n queue) long ∙ sym e)
    (next_more first (take cpu queues) queue found rises h))
