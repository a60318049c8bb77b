-- A timeline feeds each frame of each CPU, so that nothing waits after it.
use Rattle.std.proofs.Common.{◌≡◌, ◌≢◌, ℕ, zero, suc, ◌+◌, ◌-◌, ◌<◌, ◌≤◌, ◌⊎◌, inl, inr, Bool, true, false, cond, List, [], ◌∷◌}
use Rattle.std.proofs.Common.{◌++◌, length, get_or, set, drop, refl, ap, ◌∙◌, arith, Option, max}
use Rattle.std.specs.Prelude.{map, nat_le, ◌==◌, if◌then◌else◌}
use Rattle.std.specs.List.{filter}
use Rattle.std.proofs.lemmas.Bool.{cases_lt}
use Rattle.std.proofs.lemmas.Grind.{common_steps}
use Rattle.std.proofs.lemmas.List.{get_or-set_other, get_or-set_same, length-drop}
use Rattle.deal_rules.specs.Marks.{waiting_after}
use Rattle.fanout_group.specs.Rules.{Rules}
use Rattle.frame_view.specs.declared.frames.Frame.{Frame}
use Rattle.reader_pace.specs.Orders.{is_feed, is_feed_line}
use Rattle.reader_pace.specs.Timelines.{Timed, feed_at, feeds_from, in_order, put_in, rising}
use Rattle.replay_laws.specs.Alone.{Deal, dealt_rest, dealt_times}
use Rattle.setup_text.specs.declared.lines.Line.{Line}
use Rattle.setup_text.specs.declared.lines.Line.TheVariants as line
use Rattle.pace_laws.proofs.Deals.{left_after}

abbrev Waiting : Type 0
Waiting = List (Option Frame)

-- how often a CPU is fed
abbrev fed_by : ℕ → Line → ℕ
fed_by cpu (line.Feed of) = if of == cpu then 1 else 0
fed_by cpu of = 0

abbrev pub fed_in : ℕ → List Timed → ℕ
fed_in cpu [] = 0
fed_in cpu (item ∷ items) = fed_by cpu item.line + fed_in cpu items

put_fed-by : (cpu : ℕ) (item next : Timed) (items rest : List Timed) (test : Bool)
    → fed_in cpu rest ≡ fed_by cpu item.line + fed_in cpu items
    → fed_in cpu (if test then item ∷ next ∷ items else next ∷ rest)
    ≡ fed_by cpu item.line + (fed_by cpu next.line + fed_in cpu items)
put_fed-by cpu item next items rest true e = refl
put_fed-by cpu item next items rest false e = omega (arith, e)

put_fed : (cpu : ℕ) (item : Timed) (items : List Timed)
    → fed_in cpu (put_in item items) ≡ fed_by cpu item.line + fed_in cpu items
put_fed cpu item [] = refl
put_fed cpu item (next ∷ items) =
    put_fed-by cpu item next items (put_in item items) (nat_le item.moment next.moment) (put_fed cpu item items)

order_fed : (cpu : ℕ) (items : List Timed) → fed_in cpu (in_order items) ≡ fed_in cpu items
order_fed cpu [] = refl
order_fed cpu (item ∷ items) = let rest = order_fed cpu items in let one = put_fed cpu item (in_order items) in
    omega (arith, one, rest)

line_fed : (cpu moment : ℕ) (of : Line) (items left : List Timed) → fed_in cpu items ≡ fed_in cpu left
    → fed_by cpu of + fed_in cpu items
    ≡ fed_in cpu (cond (is_feed_line of) (record { moment = moment; line = of } ∷ left) left)
line_fed cpu moment (line.Feed of) items left e = ap (λ (n : ℕ). fed_by cpu (line.Feed of) + n) e
line_fed cpu moment (line.Tick ms) items left e = omega (arith, e)
line_fed cpu moment (line.Read of) items left e = omega (arith, e)
line_fed cpu moment (line.Stats of) items left e = omega (arith, e)

feeds_fed : (cpu : ℕ) (items : List Timed) → fed_in cpu items ≡ fed_in cpu (filter is_feed items)
feeds_fed cpu [] = refl
feeds_fed cpu (item ∷ items) =
    line_fed cpu item.moment item.line items (filter is_feed items) (feeds_fed cpu items)

append_fed : (cpu : ℕ) (items more : List Timed) → fed_in cpu (items ++ more) ≡ fed_in cpu items + fed_in cpu more
append_fed cpu [] more = omega arith
append_fed cpu (item ∷ items) more = let rest = append_fed cpu items more in omega (arith, rest)

rising_length : (latest : ℕ) (times : List ℕ) → length (rising latest times) ≡ length times
rising_length latest [] = refl
rising_length latest (time ∷ times) = ap suc (rising_length (max latest time) times)

one_fed : (cpu first of : ℕ) (times : List ℕ) (test : Bool) → (of == cpu) ≡ test
    → fed_in cpu (map (feed_at first of) times) ≡ cond test (length times) 0
one_fed cpu first of [] true e = refl
one_fed cpu first of [] false e = refl
one_fed cpu first of (time ∷ times) true e =
    let rest = one_fed cpu first of times true e in
    let one = ap {B = ℕ} (λ (test : Bool). cond test 1 0) e in omega (arith, rest, one)
one_fed cpu first of (time ∷ times) false e =
    let rest = one_fed cpu first of times false e in
    let one = ap {B = ℕ} (λ (test : Bool). cond test 1 0) e in omega (arith, rest, one)

is_it : (cpu of : ℕ) (test : Bool) → (of == cpu) ≡ test → of ≡ cpu → test ≡ true
is_it cpu of true e h = refl
is_it cpu of false e h = absurd (grind (arith, common_steps))

is_other : (cpu of : ℕ) (test : Bool) → (of == cpu) ≡ test → of ≢ cpu → test ≡ false
is_other cpu of true e h = absurd (grind (arith, common_steps))
is_other cpu of false e h = refl

none_fed : (cpu first from : ℕ) (all : List (List ℕ)) → cpu < from → fed_in cpu (feeds_from first from all) ≡ 0
none_fed cpu first from [] h = refl
none_fed cpu first from (times ∷ all) h =
    let off = is_other cpu from (from == cpu) refl (omega (arith, h)) in
    let here = one_fed cpu first from (rising 0 times) (from == cpu) refl
    ∙ ap (λ (test : Bool). cond test (length (rising 0 times)) 0) off in
    let rest = none_fed cpu first (from + 1) all (omega (arith, h)) in
    omega (arith, append_fed cpu (map (feed_at first from) (rising 0 times)) (feeds_from first (from + 1) all), here, rest)

-- each of a CPU's frames is fed
all_fed : (cpu first from place : ℕ) (all : List (List ℕ)) → cpu ≡ from + place
    → fed_in cpu (feeds_from first from all) ≡ length (get_or all place [])
all_fed cpu first from place [] e = refl
all_fed cpu first from zero (times ∷ all) e =
    let on = is_it cpu from (from == cpu) refl (omega (arith, e)) in
    let here = one_fed cpu first from (rising 0 times) (from == cpu) refl
    ∙ ap (λ (test : Bool). cond test (length (rising 0 times)) 0) on ∙ rising_length 0 times in
    let rest = none_fed cpu first (from + 1) all (omega (arith, e)) in
    omega (arith, append_fed cpu (map (feed_at first from) (rising 0 times)) (feeds_from first (from + 1) all), here, rest)
all_fed cpu first from (suc place) (times ∷ all) e =
    let off = is_other cpu from (from == cpu) refl (omega (arith, e)) in
    let here = one_fed cpu first from (rising 0 times) (from == cpu) refl
    ∙ ap (λ (test : Bool). cond test (length (rising 0 times)) 0) off in
    let rest = all_fed cpu first (from + 1) place all (omega (arith, e)) in
    omega (arith, append_fed cpu (map (feed_at first from) (rising 0 times)) (feeds_from first (from + 1) all), here, rest)

-- ---- what waits

taken_one : (waiting : List Waiting) (of cpu : ℕ) (test : Bool) → (of == cpu) ≡ test
    → length (get_or (set waiting of (drop 1 (get_or waiting of []))) cpu []) ≡ length (get_or waiting cpu []) - cond test 1 0
taken_one waiting of cpu false e =
    let off : cpu ≢ of = grind (arith, common_steps) in
    let same = ap (λ (waiting : Waiting). length waiting)
    (get_or-set_other waiting of cpu (drop 1 (get_or waiting of [])) [] off) in
    omega (arith, same)
taken_one waiting of cpu true e =
    let on : of ≡ cpu = grind (arith, common_steps) in
    ap (λ (of : ℕ). length (get_or (set waiting of (drop 1 (get_or waiting of []))) cpu [])) on
    ∙ by_case (cases_lt cpu (length waiting)) where
      by_case : (cpu < length waiting) ⊎ (length waiting ≤ cpu)
          → length (get_or (set waiting cpu (drop 1 (get_or waiting cpu []))) cpu []) ≡ length (get_or waiting cpu []) - 1
      by_case (inl h) =
          ap (λ (waiting : Waiting). length waiting) (get_or-set_same waiting cpu (drop 1 (get_or waiting cpu [])) [] h)
          ∙ length-drop 1 (get_or waiting cpu [])
      by_case (inr h) = grind (arith, common_steps)

line_takes : (waiting : List Waiting) (cpu : ℕ) (of : Line)
    → length (get_or (waiting_after waiting of) cpu []) ≡ length (get_or waiting cpu []) - fed_by cpu of
line_takes waiting cpu (line.Feed of) = taken_one waiting of cpu (of == cpu) refl
line_takes waiting cpu (line.Tick ms) = omega arith
line_takes waiting cpu (line.Read of) = omega arith
line_takes waiting cpu (line.Stats of) = omega arith

module _ (rules : Rules) (room member : ℕ) where
  left_over : (waiting : List Waiting) (cpu : ℕ) (items : List Timed)
      → length (get_or (left_after rules room member waiting items) cpu []) ≡ length (get_or waiting cpu []) - fed_in cpu items
  left_over waiting cpu [] = omega arith
  left_over waiting cpu (item ∷ items) =
      let rest = left_over (waiting_after waiting item.line) cpu items in
      let one = line_takes waiting cpu item.line in omega (arith, rest, one)

  same_length : (times : List (List ℕ)) (arriving : List Waiting) (cpu : ℕ)
      → map (λ times. length times) times ≡ map (λ waiting. length waiting) arriving
      → length (get_or times cpu []) ≡ length (get_or arriving cpu [])
  same_length [] [] cpu e = refl
  same_length [] (waiting ∷ arriving) cpu e = cc
  same_length (one ∷ times) [] cpu e = cc
  same_length (one ∷ times) (waiting ∷ arriving) zero e = cc
  same_length (one ∷ times) (waiting ∷ arriving) (suc cpu) e = same_length times arriving cpu (cc)

  empty_list : (waiting : Waiting) → length waiting ≡ 0 → waiting ≡ []
  empty_list [] e = refl
  empty_list (first ∷ waiting) e = absurd (omega (arith, e))

  pub nothing_left : (first cpu : ℕ) (times : List (List ℕ)) (arriving : List Waiting) (items : List Timed)
      → map (λ times. length times) times ≡ map (λ waiting. length waiting) arriving
      → filter is_feed items ≡ in_order (feeds_from first 0 times)
      → get_or (left_after rules room member arriving items) cpu [] ≡ []
  nothing_left first cpu times arriving items e feeds =
      let all = feeds_fed cpu items ∙ ap (fed_in cpu) feeds ∙ order_fed cpu (feeds_from first 0 times)
      ∙ all_fed cpu first 0 cpu times (omega arith) in
      empty_list (get_or (left_after rules room member arriving items) cpu [])
      (omega (arith, left_over arriving cpu items, all, same_length times arriving cpu e))

  pub no_rest : (cpu left : ℕ) (deal : Deal) → ((cpu : ℕ) → get_or deal.waiting cpu [] ≡ [])
      → dealt_rest rules room cpu left deal ≡ deal
  no_rest cpu zero deal e = refl
  no_rest cpu (suc left) deal e =
      ap (λ (waiting : Waiting). dealt_rest rules room (cpu + 1) left (dealt_times rules room cpu (length waiting) deal))
      (e cpu)
      ∙ no_rest (cpu + 1) left deal e
