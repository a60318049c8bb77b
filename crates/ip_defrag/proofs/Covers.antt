-- Frames that don't conflict share no place, so they cover as many places as they have bytes in
-- all.
use Rattle.std.proofs.Common.{◌≡◌, ℕ, zero, suc, ◌+◌, ◌-◌, ◌<◌, ◌≤◌, min, max, Bool, true, false, ◌&&◌, ◌||◌, nat_lt, nat_le}
use Rattle.std.proofs.Common.{nat_eq, List, [], ◌∷◌, ◌++◌, length, cond, arith, refl, ap, ◌∙◌, sym, subst, Some}
use Rattle.std.specs.List.{list_any, list_all, count_by, AllByRecursion, find}
use Rattle.std.proofs.lemmas.Option.{same_Some, none-some}
use Rattle.std.proofs.lemmas.List.Folds.{list_any-append}
use Rattle.std.proofs.lemmas.List.Sums.{sum_by-cons, count_by-le-length}
use Rattle.std.proofs.lemmas.Bool.{or_parts, or_from}
use Rattle.std.proofs.lemmas.Bool.Decides.{nat_tests}
use Rattle.frame_view.specs.declared.frames.Frame.{Frame}
use Rattle.ip_defrag.specs.Fragments.{takes_part, from_of, to_of, is_last}
use Rattle.ip_defrag.specs.Datagrams.{places, covers, is_covered, covers_all, shares}
use Rattle.ip_defrag.specs.Fold.{conflicts, contradicts}
use Rattle.ip_defrag.specs.Held.{AreHeld, filled}
use Rattle.ip_defrag.proofs.Cases.{by_cases}
use Rattle.ip_defrag.proofs.Places.{shares_is}
use Rattle.ip_defrag.proofs.Taken.{read_of}

-- a frame that takes part has data, and ends within the most that a datagram has
pub has_data : (frame : Frame) → takes_part frame ≡ true → (from_of frame < to_of frame) × (to_of frame ≤ 65475)
has_data frame taken =
    let r = read_of frame taken in
    (omega (arith, r.begins, r.ends, r.some), omega (arith, r.ends, r.most))

-- one more frame, which conflicts with none of those
pub held_push : (frames : List Frame) (new : Frame) → AreHeld frames → takes_part new ≡ true
    → list_any (conflicts new) frames ≡ false → AreHeld (frames ++ new ∷ [])
held_push [] new held taken none = (taken, refl, tt)
held_push (frame ∷ frames) new held taken none =
    let parts = or_parts (conflicts new frame) (list_any (conflicts new) frames) none in (
      held.0,
      list_any-append (λ later. conflicts later frame) frames (new ∷ []) ∙ or_from _ _ held.1 (or_from _ _ parts.0 refl),
      held_push frames new held.2 taken parts.1,
    )

conflict_parts : (frame other : Frame) → conflicts frame other ≡ false
    → (shares frame other ≡ false) × (contradicts frame other ≡ false)
unfolding conflicts
conflict_parts frame other e = or_parts _ _ e

-- if two frames don't share a place
apart : (frame other : Frame) (place : ℕ) → takes_part frame ≡ true → takes_part other ≡ true → shares other frame ≡ false
    → covers frame place ≡ true → covers other place ≡ false
apart frame other place taken taken_other e here =
    let a = has_data frame taken in
    let b = has_data other taken_other in
    let s : (nat_lt (from_of other) (to_of frame) && nat_lt (from_of frame) (to_of other)) ≡ false =
    sym (shares_is other frame b.0 a.0) ∙ e in
    grind (arith, nat_tests)

-- a place of the first frame is in no later one
pub first_alone : (frame : Frame) (frames : List Frame) (place : ℕ) → takes_part frame ≡ true
    → list_any (λ later. conflicts later frame) frames ≡ false → AreHeld frames → covers frame place ≡ true
    → is_covered frames place ≡ false
first_alone frame [] place taken none held here = refl
first_alone frame (other ∷ frames) place taken none held here =
    let parts = or_parts (conflicts other frame) (list_any (λ later. conflicts later frame) frames) none in
    or_from _ _ (apart frame other place taken held.0 (conflict_parts other frame parts.0).0 here)
    (first_alone frame frames place taken parts.1 held.2 here)

count_by-cons : {X : Type 0} (p : X → Bool) (x : X) (xs : List X) → count_by p (x ∷ xs) ≡ cond (p x) 1 0 + count_by p xs
count_by-cons p x xs = sum_by-cons (λ y. cond (p y) 1 0) x xs

-- the places of a stretch that lie between two ends
count_within : (from count low high : ℕ) → count_by (λ place. nat_le low place && nat_lt place high) (places from count)
    ≡ min (from + count) high - max from low
count_within from zero low high = omega arith
count_within from (suc count) low high =
    let rest = count_within (from + 1) count low high in
    let first = count_by-cons (λ place. nat_le low place && nat_lt place high) from (places (from + 1) count) in
    grind (arith, nat_tests)

-- two tests that no element passes both
count_or : {X : Type 0} (p q : X → Bool) → ((x : X) → p x ≡ true → q x ≡ false) → (xs : List X)
    → count_by (λ x. p x || q x) xs ≡ count_by p xs + count_by q xs
count_or p q one [] = refl
count_or p q one (x ∷ xs) =
    let rest = count_or p q one xs in
    let a = count_by-cons (λ y. p y || q y) x xs in
    let b = count_by-cons p x xs in
    let c = count_by-cons q x xs in
    let d : cond (p x || q x) 1 0 ≡ cond (p x) 1 0 + cond (q x) 1 0 =
    by_cases (p x) (λ e. let other = one x e in simp (e, other)) (λ e. simp e (omega arith)) in
    omega arith

none_covered : (xs : List ℕ) → count_by (is_covered []) xs ≡ 0
none_covered [] = refl
none_covered (x ∷ xs) =
    let rest = none_covered xs in
    let first = count_by-cons (is_covered []) x xs in
    omega arith

-- the places that are covered, below an end that no frame passes
count_filled : (frames : List Frame) (end : ℕ) → AreHeld frames → AllByRecursion (λ frame. to_of frame ≤ end) frames
    → count_by (is_covered frames) (places 0 end) ≡ filled frames
count_filled [] end held within = none_covered (places 0 end)
count_filled (frame ∷ frames) end held within =
    let rest = count_filled frames end held.2 within.1 in
    let both = count_or (covers frame) (is_covered frames)
    (λ place here. first_alone frame frames place held.0 held.1 held.2 here) (places 0 end) in
    let here = count_within 0 end (from_of frame) (to_of frame) in
    let all = sum_by-cons (λ (f : Frame). to_of f - from_of f) frame frames in
    let fits : to_of frame ≤ end = within.0 in
    omega arith

pub length-places : (from count : ℕ) → length (places from count) ≡ count
length-places from zero = refl
length-places from (suc count) = ap suc (length-places (from + 1) count)

-- all pass if the number that pass is the number there are
all_count : {X : Type 0} (p : X → Bool) (xs : List X) → list_all p xs ≡ nat_eq (count_by p xs) (length xs)
all_count p [] = refl
all_count p (x ∷ xs) =
    let rest = all_count p xs in
    let first = count_by-cons p x xs in
    let most = count_by-le-length p xs in
    by_test (p x) rest first most
  where
    by_test : (a : Bool) → list_all p xs ≡ nat_eq (count_by p xs) (length xs) → count_by p (x ∷ xs) ≡ cond a 1 0 + count_by p xs
        → count_by p xs ≤ length xs → (a && list_all p xs) ≡ nat_eq (count_by p (x ∷ xs)) (length (x ∷ xs))
    by_test true rest first most = grind (arith, nat_tests)
    by_test false rest first most = grind (arith, nat_tests)

pub covers_all_is : (frames : List Frame) (end : ℕ) → AreHeld frames → AllByRecursion (λ frame. to_of frame ≤ end) frames
    → covers_all frames end ≡ nat_eq (filled frames) end
unfolding covers_all
covers_all_is frames end held within =
    all_count (is_covered frames) (places 0 end) ∙ cc (count_filled frames end held within, length-places 0 end)

all_within : (frames : List Frame) → AreHeld frames → AllByRecursion (λ frame. to_of frame ≤ 65475) frames
all_within [] held = tt
all_within (frame ∷ frames) held = ((has_data frame held.0).1, all_within frames held.2)

filled_within : (frames : List Frame) (end : ℕ) → AreHeld frames → AllByRecursion (λ frame. to_of frame ≤ end) frames
    → filled frames ≤ end
filled_within frames end held within =
    let counted = count_filled frames end held within in
    let most = count_by-le-length (is_covered frames) (places 0 end) in
    let long = length-places 0 end in
    omega arith

-- a datagram has at most that many bytes
pub filled-most : (frames : List Frame) → AreHeld frames → filled frames ≤ 65475
filled-most frames held = filled_within frames 65475 held (all_within frames held)

-- and so at most this many frames
pub length-filled : (frames : List Frame) → AreHeld frames → length frames ≤ filled frames
length-filled [] held = omega arith
length-filled (frame ∷ frames) held =
    let rest = length-filled frames held.2 in
    let all = sum_by-cons (λ (f : Frame). to_of f - from_of f) frame frames in
    let some = (has_data frame held.0).0 in
    omega arith

-- what is found passes
pub found_passes : {X : Type 0} (p : X → Bool) (xs : List X) (x : X) → find p xs ≡ Some x → p x ≡ true
found_passes p [] x e = absurd (none-some x e)
found_passes {X} p (y ∷ xs) x e =
    by_cases (p y) (λ is. subst (λ (z : X). p z ≡ true) (same_Some _ _ (simp is at e)) is)
    (λ is. found_passes p xs x (simp is at e))

-- and doesn't pass what none passes
found_none : {X : Type 0} (p q : X → Bool) (xs : List X) (x : X) → find p xs ≡ Some x → list_any q xs ≡ false → q x ≡ false
found_none p q [] x e none = absurd (none-some x e)
found_none {X} p q (y ∷ xs) x e none =
    let parts = or_parts (q y) (list_any q xs) none in
    by_cases (p y) (λ is. subst (λ (z : X). q z ≡ false) (same_Some _ _ (simp is at e)) parts.0)
    (λ is. found_none p q xs x (simp is at e) parts.1)

-- a frame that doesn't conflict with a last one doesn't reach past it, on either side
past_no_end : (frame last : Frame) → conflicts frame last ≡ false → is_last last ≡ true → to_of frame ≤ to_of last
unfolding contradicts
past_no_end frame last e is = let parts = (conflict_parts frame last e).1 in grind (arith, nat_tests)

pub before_no_end : (last frame : Frame) → conflicts last frame ≡ false → is_last last ≡ true → to_of frame ≤ to_of last
unfolding contradicts
before_no_end last frame e is = let parts = (conflict_parts last frame e).1 in grind (arith, nat_tests)

pub all_past : (last : Frame) (frames : List Frame) → list_any (λ later. conflicts later last) frames ≡ false
    → is_last last ≡ true → AllByRecursion (λ frame. to_of frame ≤ to_of last) frames
all_past last [] none is = tt
all_past last (frame ∷ frames) none is =
    let parts = or_parts (conflicts frame last) (list_any (λ later. conflicts later last) frames) none in
    (past_no_end frame last parts.0 is, all_past last frames parts.1 is)

-- if one is last, none reaches past it
pub last_within : (frames : List Frame) (last : Frame) → AreHeld frames → find is_last frames ≡ Some last
    → AllByRecursion (λ frame. to_of frame ≤ to_of last) frames
last_within [] last held e = absurd (none-some last e)
last_within (frame ∷ frames) last held e =
    by_cases (is_last frame)
    (λ is.
    let same : frame ≡ last = same_Some _ _ (simp is at e) in
    subst (λ (l : Frame). AllByRecursion (λ other. to_of other ≤ to_of l) (frame ∷ frames)) same
    (omega arith, all_past frame frames held.1 is))
    (λ is.
    let found = simp is at e in
    let clear : conflicts last frame ≡ false = found_none is_last (λ later. conflicts later frame) frames last found held.1 in
    (before_no_end last frame clear (found_passes is_last frames last found), last_within frames last held.2 found))
