-- How a new frame relates to held ones: any one that it conflicts with decides it, and if it shares
-- no place with any, its place and the end do.
use Rattle.std.proofs.Common.{◌≡◌, ◌⊎◌, ℕ, zero, suc, ◌-◌, ◌*◌, ◌/◌, ◌<◌, ◌≤◌, max, Bool, true, false, ◌&&◌, ◌||◌, nat_lt}
use Rattle.std.proofs.Common.{length, get_or, inl, inr, List, [], ◌∷◌, Option, None, Some, option_map, is_some, find, cond}
use Rattle.std.proofs.Common.{if◌then◌else◌, arith, refl, ap, ◌∙◌, sym}
use Rattle.std.specs.List.{list_any, AllByRecursion}
use Rattle.std.proofs.lemmas.Bool.{cases_lt, lt-ltb, or_parts, or_from, both_ways}
use Rattle.std.proofs.lemmas.Bool.Decides.{nat_tests}
use Rattle.frame_view.specs.declared.frames.Frame.{Frame}
use Rattle.ip_defrag.specs.Datagrams.{covers, is_covered, shares}
use Rattle.ip_defrag.specs.Extents.{AreKept, reach_of, end_of, extent_of}
use Rattle.ip_defrag.specs.Fold.{conflicts, contradicts, is_copy}
use Rattle.ip_defrag.specs.Fragments.{takes_part, from_of, to_of, is_last}
use Rattle.ip_defrag.specs.Grouped.{judgement}
use Rattle.ip_defrag.specs.Held.{AreHeld}
use Rattle.ip_defrag.specs.declared.extents.Extent.{Extent}
use Rattle.ip_defrag.specs.declared.rules.Judgement.{Judgement}
use Rattle.ip_defrag.specs.declared.rules.Judgement.TheVariants.{Copy, Conflict, Fits}
use Rattle.ip_defrag.specs.Marks.{AreMarks, own_marks}
use Rattle.ip_defrag.proofs.Cases.{by_cases}
use Rattle.ip_defrag.proofs.Covers.{all_past, before_no_end, has_data}
use Rattle.ip_defrag.proofs.Places.{shares_is}
use Rattle.ip_defrag.proofs.Marked.{none_met, one_met, unit_of_from}

-- a copy has the places of the other, and is last if that is
record AreAlike (frame other : Frame) : Type 0 where
  from : from_of frame ≡ from_of other
  to : to_of frame ≡ to_of other
  last : is_last frame ≡ is_last other

alike : (frame other : Frame) → is_copy frame other ≡ true → AreAlike frame other
unfolding is_copy
alike frame other e = record { from = grind (arith, nat_tests); to = grind (arith, nat_tests); last = grind (arith, nat_tests) }

alike_conflicts : (new held other : Frame) → AreAlike new held → conflicts new other ≡ conflicts held other
unfolding conflicts contradicts shares
alike_conflicts new held other same = cc (same.from, same.to, same.last)

copy_conflicts : (new held : Frame) → takes_part held ≡ true → is_copy new held ≡ true → conflicts new held ≡ true
unfolding conflicts
copy_conflicts new held taken e =
    let a = alike new held e in
    let some = (has_data held taken).0 in
    let s = shares_is new held (omega (arith, a.from, a.to, some)) some in
    grind (arith, nat_tests)

no_copy : (new held : Frame) (frames : List Frame) → list_any (λ later. conflicts later held) frames ≡ false
    → conflicts new held ≡ true → list_any (is_copy new) frames ≡ false
no_copy new held [] none is = refl
no_copy new held (frame ∷ frames) none is =
    let parts = or_parts (conflicts frame held) (list_any (λ later. conflicts later held) frames) none in
    let here : is_copy new frame ≡ false = by_cases (is_copy new frame)
    (λ e. absurd (both_ways _ parts.0 (sym (alike_conflicts new frame held (alike new frame e)) ∙ is))) (λ e. e) in
    or_from _ _ here (no_copy new held frames parts.1 is)

-- how a frame relates, by the first that it conflicts with
abbrev pub by_first : Frame → Option Frame → Judgement
by_first new None = Fits
by_first new (Some held) = if is_copy new held then Copy else Conflict

pub judged : (new : Frame) (frames : List Frame) → AreHeld frames
    → judgement new frames ≡ by_first new (find (conflicts new) frames)
judged new [] held = refl
judged new (frame ∷ frames) held =
    by_cases (conflicts new frame)
    (λ is. let none = no_copy new frame frames held.1 is in
    by_cases (is_copy new frame) (λ copies. simp (is, copies)) (λ copies. simp (is, copies, none)))
    (λ is. by_cases (is_copy new frame) (λ copies. absurd (both_ways _ is (copy_conflicts new frame held.0 copies)))
    (λ copies. simp (is, copies) (judged new frames held.2)))

-- a frame after another one
after_one : (new frame : Frame) → takes_part frame ≡ true → from_of new < to_of new → to_of frame ≤ from_of new
    → (is_copy new frame ≡ false) × (conflicts new frame ≡ is_last frame)
unfolding is_copy conflicts contradicts
after_one new frame taken some after =
    let s = shares_is new frame some (has_data frame taken).0 in
    let d = (has_data frame taken).0 in
    (grind (arith, nat_tests), grind (arith, nat_tests))

after_each : (new : Frame) (frames : List Frame) → AreHeld frames → from_of new < to_of new → reach_of frames ≤ from_of new
    → (list_any (is_copy new) frames ≡ false) × (list_any (conflicts new) frames ≡ is_some (find is_last frames))
after_each new [] held some after = (refl, refl)
after_each new (frame ∷ frames) held some after =
    let one = after_one new frame held.0 some (omega (arith, after)) in
    let rest = after_each new frames held.2 some (omega (arith, after)) in
    (or_from _ _ one.0 rest.0, by_cases (is_last frame) (λ e. simp (one.1, e)) (λ e. simp (one.1, e) rest.1))

-- a frame after all
pub after_all : (new : Frame) (frames : List Frame) (extent : Extent) → AreKept frames extent → from_of new < to_of new
    → extent.reach ≤ from_of new → judgement new frames ≡ (if is_some extent.end then Conflict else Fits)
unfolding extent_of
after_all new frames extent kept some after =
    let reach : extent.reach ≡ reach_of frames = ap (λ (e : Extent). e.reach) kept.counted in
    let end : extent.end ≡ end_of frames = ap (λ (e : Extent). e.end) kept.counted in
    let each = after_each new frames kept.held some (omega (arith, reach, after)) in
    simp (each.0, each.1) (by_end (find is_last frames) ∙ sym (ap (λ (o : Option ℕ). cond (is_some o) Conflict Fits) end))
  where
    by_end : (o : Option Frame) → cond (is_some o) Conflict Fits ≡ cond (is_some (option_map to_of o)) Conflict Fits
    by_end None = refl
    by_end (Some last) = refl

-- a frame that shares no place with another one: after it, if that isn't last, and before it
apart_after : (new frame : Frame) → takes_part frame ≡ true → from_of new < to_of new → to_of frame ≤ from_of new
    → is_last frame ≡ false
    → (is_copy new frame ≡ false) × (conflicts new frame ≡ (is_last new && nat_lt (to_of new) (to_of frame)))
unfolding is_copy conflicts contradicts
apart_after new frame taken some after more =
    let s = shares_is new frame some (has_data frame taken).0 in
    let d = (has_data frame taken).0 in
    (grind (arith, nat_tests), grind (arith, nat_tests))

apart_before : (new frame : Frame) → takes_part frame ≡ true → from_of new < to_of new → to_of new ≤ from_of frame
    → (is_copy new frame ≡ false) × (conflicts new frame ≡ (is_last new && nat_lt (to_of new) (to_of frame)))
unfolding is_copy conflicts contradicts
apart_before new frame taken some before =
    let s = shares_is new frame some (has_data frame taken).0 in
    let d = (has_data frame taken).0 in
    (grind (arith, nat_tests), grind (arith, nat_tests))

-- if a frame is last, a new one begins before its end
abbrev IsEarly : Frame → Frame → Type 0
IsEarly new frame = is_last frame ≡ true → from_of new < to_of frame

apart_one : (new frame : Frame) → takes_part frame ≡ true → from_of new < to_of new
    → (to_of frame ≤ from_of new) ⊎ (to_of new ≤ from_of frame) → IsEarly new frame
    → (is_copy new frame ≡ false) × (conflicts new frame ≡ (is_last new && nat_lt (to_of new) (to_of frame)))
apart_one new frame taken some (inl after) early =
    by_cases (is_last frame) (λ is. let e = early is in absurd (omega (arith, e, after)))
    (λ is. apart_after new frame taken some after is)
apart_one new frame taken some (inr before) early = apart_before new frame taken some before

-- frames with which a new one shares no place
abbrev AreApart : Frame → List Frame → Type 0
AreApart new frames = AllByRecursion (λ frame. (to_of frame ≤ from_of new) ⊎ (to_of new ≤ from_of frame)) frames

apart_each : (new : Frame) (frames : List Frame) → AreHeld frames → from_of new < to_of new → AreApart new frames
    → AllByRecursion (IsEarly new) frames
    → (list_any (is_copy new) frames ≡ false)
    × (list_any (conflicts new) frames ≡ (is_last new && nat_lt (to_of new) (reach_of frames)))
apart_each new [] held some apart early = (refl, grind (arith, nat_tests))
apart_each new (frame ∷ frames) held some apart early =
    let one = apart_one new frame held.0 some apart.0 early.0 in
    let rest = apart_each new frames held.2 some apart.1 early.1 in (
      or_from _ _ one.0 rest.0,
      ap (λ (b : Bool). b || list_any (conflicts new) frames) one.1
          ∙ ap (λ (b : Bool). (is_last new && nat_lt (to_of new) (to_of frame)) || b) rest.1
          ∙ both (is_last new) (to_of new) (to_of frame) (reach_of frames),
    )
  where
    both : (last : Bool) (to a b : ℕ) → ((last && nat_lt to a) || (last && nat_lt to b)) ≡ (last && nat_lt to (max a b))
    both true to a b = grind (arith, nat_tests)
    both false to a b = refl

-- a last frame ends where all of them do
reach_below : (frames : List Frame) (end : ℕ) → AllByRecursion (λ frame. to_of frame ≤ end) frames → reach_of frames ≤ end
reach_below [] end within = omega arith
reach_below (frame ∷ frames) end within = let rest = reach_below frames end within.1 in omega (arith, rest, within.0)

last_reaches : (frames : List Frame) → AreHeld frames
    → AllByRecursion (λ frame. is_last frame ≡ true → reach_of frames ≤ to_of frame) frames
last_reaches [] held = tt
last_reaches (first ∷ frames) held = (
  λ is. let rest = reach_below frames (to_of first) (all_past first frames held.1 is) in omega (arith, rest),
  more frames held.1 (last_reaches frames held.2),
)
  where
    more : (some : List Frame) → list_any (λ later. conflicts later first) some ≡ false
        → AllByRecursion (λ frame. is_last frame ≡ true → reach_of frames ≤ to_of frame) some
        → AllByRecursion (λ frame. is_last frame ≡ true → reach_of (first ∷ frames) ≤ to_of frame) some
    more [] none rest = tt
    more (frame ∷ some) none rest =
        let parts = or_parts (conflicts frame first) (list_any (λ later. conflicts later first) some) none in (
          λ is. let reach = rest.0 is in let ends = before_no_end frame first parts.0 is in omega (arith, reach, ends),
          more some parts.1 rest.1,
        )

early_each : (new : Frame) (reach : ℕ) (frames : List Frame) → from_of new < reach
    → AllByRecursion (λ frame. is_last frame ≡ true → reach ≤ to_of frame) frames → AllByRecursion (IsEarly new) frames
early_each new reach [] before each = tt
early_each new reach (frame ∷ frames) before each =
    (λ is. let ends = each.0 is in omega (arith, ends, before), early_each new reach frames before each.1)

-- a frame that begins before the end of all ends before it
ends_before : (new : Frame) (frames : List Frame) → AreHeld frames → AreApart new frames → from_of new < reach_of frames
    → to_of new < reach_of frames
ends_before new [] held apart before = absurd (omega arith)
ends_before new (frame ∷ frames) held apart before =
    elim apart.0 [
      | inl after ↦ let rest = ends_before new frames held.2 apart.1 (omega (arith, after, before)) in omega (arith, rest)
      | inr past ↦ let some = (has_data frame held.0).0 in omega (arith, past, some)
    ]

-- two frames that share no unit's first place are apart
apart_from : (new : Frame) (frames : List Frame) → from_of new < to_of new → AreHeld frames
    → ((unit : ℕ) → from_of new ≤ 8 * unit → 8 * unit < to_of new → is_covered frames (8 * unit) ≡ false) → AreApart new frames
apart_from new [] some held none = tt
apart_from new (frame ∷ frames) some held none = (
  here,
  apart_from new frames some held.2
      (λ unit low high. (or_parts (covers frame (8 * unit)) (is_covered frames (8 * unit)) (none unit low high)).1),
)
  where
    clear : (unit : ℕ) → from_of new ≤ 8 * unit → 8 * unit < to_of new → covers frame (8 * unit) ≡ false
    clear unit low high = (or_parts (covers frame (8 * unit)) (is_covered frames (8 * unit)) (none unit low high)).0

    here : (to_of frame ≤ from_of new) ⊎ (to_of new ≤ from_of frame)
    here =
        let mine = unit_of_from new in
        let other = unit_of_from frame in
        elim (cases_lt (from_of new) (to_of frame)) [
          | inr after ↦ inl after
          | inl ends ↦ elim (cases_lt (from_of frame) (to_of new)) [
            | inr before ↦ inr before
            | inl begins ↦ elim (cases_lt (from_of frame) (from_of new)) [
              | inl early ↦ let no = clear (from_of new / 8) (omega (arith, mine)) (omega (arith, mine, some)) in
                  absurd (grind (arith, nat_tests))
              | inr late ↦ let no = clear (from_of frame / 8) (omega (arith, other, late)) (omega (arith, other, begins)) in
                  let other_some = (has_data frame held.0).0 in absurd (grind (arith, nat_tests))
            ]
          ]
        ]

-- a frame that meets none, and begins before the end of all
pub unmet : (new : Frame) (frames : List Frame) (extent : Extent) (marks : List ℕ) → AreKept frames extent
    → AreMarks marks frames → from_of new < to_of new → from_of new < extent.reach
    → find (λ mark. nat_lt 0 mark) (own_marks new marks) ≡ None
    → judgement new frames ≡ (if is_last new then Conflict else Fits)
unfolding extent_of
unmet new frames extent marks kept are some before none =
    let reach : extent.reach ≡ reach_of frames = ap (λ (e : Extent). e.reach) kept.counted in
    let early : from_of new < reach_of frames = omega (arith, reach, before) in
    let apart = apart_from new frames some kept.held (λ unit low high. none_met marks frames new unit are none low high) in
    let each = apart_each new frames kept.held some apart
    (early_each new (reach_of frames) frames early (last_reaches frames kept.held)) in
    let past = lt-ltb (to_of new) (reach_of frames) (ends_before new frames kept.held apart early) in
    let any : list_any (conflicts new) frames ≡ is_last new =
    each.1 ∙ ap (λ (b : Bool). is_last new && b) past
    ∙ by_cases (is_last new) (λ e. simp e) (λ e. simp e) in
    ap (λ (b : Bool). cond b Copy (cond (list_any (conflicts new) frames) Conflict Fits)) each.0
    ∙ ap (λ (b : Bool). cond b Conflict Fits) any

-- two frames conflict with one another
both_conflict : (a b : Frame) → takes_part a ≡ true → takes_part b ≡ true → conflicts a b ≡ conflicts b a
unfolding conflicts contradicts
both_conflict a b taken_a taken_b =
    let some_a = (has_data a taken_a).0 in
    let some_b = (has_data b taken_b).0 in
    let s = shares_is a b some_a some_b in
    let t = shares_is b a some_b some_a in
    grind (arith, nat_tests)

none_at : {X : Type 0} (p : X → Bool) (xs : List X) (at : ℕ) (d : X) → list_any p xs ≡ false → at < length xs
    → p (get_or xs at d) ≡ false
none_at p [] at d none within = absurd (omega arith)
none_at p (x ∷ xs) zero d none within = (or_parts (p x) (list_any p xs) none).0
none_at p (x ∷ xs) (suc at) d none within = none_at p xs at d (or_parts (p x) (list_any p xs) none).1 (omega arith)

taken_at : (frames : List Frame) (at : ℕ) (d : Frame) → AreHeld frames → at < length frames
    → takes_part (get_or frames at d) ≡ true
taken_at [] at d held within = absurd (omega arith)
taken_at (frame ∷ frames) zero d held within = held.0
taken_at (frame ∷ frames) (suc at) d held within = taken_at frames at d held.2 (omega arith)

-- any one that a frame conflicts with decides
pub decided : (new : Frame) (frames : List Frame) (at : ℕ) (d : Frame) → AreHeld frames → at < length frames
    → conflicts new (get_or frames at d) ≡ true
    → judgement new frames ≡ (if is_copy new (get_or frames at d) then Copy else Conflict)
decided new [] at d held within is = absurd (omega arith)
decided new (frame ∷ frames) zero d held within is =
    judged new (frame ∷ frames) held ∙ ap (λ (b : Bool). by_first new (cond b (Some frame) (find (conflicts new) frames))) is
decided new (frame ∷ frames) (suc at) d held within is =
    by_cases (conflicts new frame) (λ here. judged new (frame ∷ frames) held ∙ simp (here, no_first, no_other here))
    (λ here. judged new (frame ∷ frames) held
    ∙ simp here (sym (judged new frames held.2) ∙ decided new frames at d held.2 below is))
  where
    below : at < length frames
    below = omega arith

    none : conflicts (get_or frames at d) frame ≡ false
    none = none_at (λ later. conflicts later frame) frames at d held.1 below

    no_first : is_copy new frame ≡ false
    no_first = by_cases (is_copy new frame)
        (λ e. absurd (both_ways _ none (both_conflict (get_or frames at d) frame (taken_at frames at d held.2 below) held.0
        ∙ sym (alike_conflicts new frame (get_or frames at d) (alike new frame e)) ∙ is))) (λ e. e)

    no_other : conflicts new frame ≡ true → is_copy new (get_or frames at d) ≡ false
    no_other here = by_cases (is_copy new (get_or frames at d))
        (λ e. absurd (both_ways _ none (sym (alike_conflicts new (get_or frames at d) frame
        (alike new (get_or frames at d) e)) ∙ here))) (λ e. e)

-- two frames that share a place conflict
sharing : (new frame : Frame) → from_of new < to_of new → takes_part frame ≡ true → from_of new < to_of frame
    → from_of frame < to_of new → conflicts new frame ≡ true
unfolding conflicts
sharing new frame some taken ends begins =
    let s = shares_is new frame some (has_data frame taken).0 in
    grind (arith, nat_tests)

-- a frame with a marked unit
pub met_one : (new : Frame) (frames : List Frame) (marks : List ℕ) (mark : ℕ) → AreHeld frames → AreMarks marks frames
    → from_of new < to_of new
    → find (λ mark. nat_lt 0 mark) (own_marks new marks) ≡ Some mark
    → (0 < mark) × (mark - 1 < length frames)
    × ((d : Frame) → judgement new frames ≡ (if is_copy new (get_or frames (mark - 1) d) then Copy else Conflict))
met_one new frames marks mark held are some is =
    let one = one_met marks frames new mark are is in (
      one.some,
      one.within,
      λ d. decided new frames (mark - 1) d held one.within
          (shared one.unit one.low one.high d (one.covers_it d)),
    )
  where
    shared : (unit : ℕ) → from_of new ≤ 8 * unit → 8 * unit < to_of new → (d : Frame)
        → covers (get_or frames (mark - 1) d) (8 * unit) ≡ true → conflicts new (get_or frames (mark - 1) d) ≡ true
    shared unit low high d here =
        let ends : from_of new < to_of (get_or frames (mark - 1) d) = grind (arith, nat_tests) in
        let begins : from_of (get_or frames (mark - 1) d) < to_of new = grind (arith, nat_tests) in
        let one = one_met marks frames new mark are is in
        sharing new (get_or frames (mark - 1) d) some (taken_at frames (mark - 1) d held one.within) ends begins

-- the highest place, by the extent
pub reach_is : (frames : List Frame) (extent : Extent) → AreKept frames extent → extent.reach ≡ reach_of frames
unfolding extent_of
reach_is frames extent kept = ap (λ (e : Extent). e.reach) kept.counted
