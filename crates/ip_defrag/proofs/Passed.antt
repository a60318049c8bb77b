-- A fragment's pass does to the groups what it does to the flat list.
use Rattle.std.proofs.Common.{◌≡◌, ℕ, zero, suc, ◌+◌, ◌-◌, ◌<◌, ◌≤◌, Bool, true, false, not, ◌&&◌, nat_eq, List, [], ◌∷◌}
use Rattle.std.proofs.Common.{◌++◌, length, length-append, map, filter, set, get_or, Option, None, Some, cond, if◌then◌else◌}
use Rattle.std.proofs.Common.{arith, refl, ap, ◌∙◌, sym, subst}
use Rattle.std.specs.List.{list_any, remove, position_from}
use Rattle.std.proofs.lemmas.List.{length-map, append-nil, length-set}
use Rattle.std.proofs.lemmas.List.Elements.{filter-append}
use Rattle.std.proofs.lemmas.List.Filters.{length-filter_both}
use Rattle.std.proofs.lemmas.List.Folds.{list_any_at}
use Rattle.std.proofs.lemmas.List.Sums.{sum_by-cons}
use Rattle.std.proofs.lemmas.Bool.{and_parts, cond_both, ne_eqb, eqb-true, eqb-false}
use Rattle.std.proofs.lemmas.Option.{same_Some, none-some}
use Rattle.frame_view.specs.declared.frames.Frame.{Frame}
use Rattle.ip_defrag.specs.Fragments.{takes_part, name_of, from_of, to_of, is_last}
use Rattle.ip_defrag.specs.Datagrams.{completed, completed_at}
use Rattle.ip_defrag.specs.Fold.{same_name, is_named, of_name, without, without_first, names_of, is_stale, fresh, with_room}
use Rattle.ip_defrag.specs.Fold.{kept_for, most_names, is_copy, conflicts, Passed, join_by, judge, pass}
use Rattle.ip_defrag.specs.Grouped.{Group, group_of, groups, has_name, is_fresh, is_live, with_frame, updated, opened_by}
use Rattle.ip_defrag.specs.Grouped.{with_place, after_opening, Agrees, joined, joined_by, held_by, joined_whole, completed_with}
use Rattle.ip_defrag.specs.Grouped.{judgement}
use Rattle.ip_defrag.specs.declared.rules.Judgement.{Judgement}
use Rattle.ip_defrag.specs.declared.rules.Judgement.TheVariants.{Copy, Conflict, Fits}
use Rattle.ip_defrag.specs.Held.{filled}
use Rattle.ip_defrag.specs.declared.names.Name.{Name}
use Rattle.ip_defrag.proofs.Cases.{by_cases}
use Rattle.ip_defrag.proofs.Completed.{not_completed}
use Rattle.ip_defrag.proofs.Covers.{has_data}
use Rattle.ip_defrag.proofs.Groups.{same_name_refl, same_name_is, differs, by_name, by_group, filter_twice, of_name_filter}
use Rattle.ip_defrag.proofs.Groups.{groups_filter}
use Rattle.ip_defrag.proofs.Pushed.{none_filter, none_named, filter-map, any_groups, groups_push_old, groups_push_new}
use Rattle.ip_defrag.proofs.Pushed.{groups_distinct, groups-cons, remove_is, set_is}
use Rattle.ip_defrag.proofs.Taken.{begins_later}

-- whether the name of some held frames isn't stale
abbrev fresh_name : ℕ → List Frame → Name → Bool
fresh_name now held name = not (is_stale now held name)

pub groups_fresh : (now : ℕ) (held : List Frame) → groups (fresh now held) ≡ filter (is_fresh now) (groups held)
unfolding groups
groups_fresh now held =
    groups_filter (fresh_name now held) held
    ∙ filter-map (group_of held) (by_group (fresh_name now held)) (names_of held)
    ∙ sym (filter-map (group_of held) (is_fresh now) (names_of held))

any_filter : {X : Type 0} (p q : X → Bool) (xs : List X) → list_any p (filter q xs) ≡ list_any (λ x. p x && q x) xs
any_filter p q [] = refl
any_filter p q (x ∷ xs) =
    let rest = any_filter p q xs in
    by_cases (q x) (λ e. by_cases (p x) (λ d. simp (d, e)) (λ d. simp (d, e) rest))
    (λ e. by_cases (p x) (λ d. simp (d, e) rest) (λ d. simp (d, e) rest))

live_fresh : (name : Name) (now : ℕ) (held : List Frame)
    → list_any (is_live name now) (groups held) ≡ list_any (is_named name) (fresh now held)
live_fresh name now held =
    sym (any_filter (has_name name) (is_fresh now) (groups held)) ∙ ap (list_any (has_name name)) (sym (groups_fresh now held))
    ∙ any_groups name (fresh now held)

-- a fragment alone isn't a datagram
alone : (frame : Frame) → takes_part frame ≡ true → completed (frame ∷ []) frame ≡ None
unfolding completed
alone frame taken =
    by_cases (is_last frame)
    (λ e.
    let begins = begins_later frame taken e in
    let some = (has_data frame taken).0 in
    let count = sum_by-cons (λ (f : Frame). to_of f - from_of f) frame [] in
    let counted : nat_eq (filled (frame ∷ [])) (to_of frame) ≡ false = ne_eqb _ _ (λ same. omega arith) in
    not_completed (frame ∷ []) frame frame (taken, refl, tt) (ap (λ (b : Bool). cond b (Some frame) None) e) counted)
    (λ e. ap (λ (b : Bool). completed_at (cond b (Some frame) None) (frame ∷ []) frame) e)

-- a group is that of its name
group_in : (held : List Frame) (names : List Name) (at : ℕ) (d : Group) → at < length (map (group_of held) names)
    → get_or (map (group_of held) names) at d ≡ group_of held (get_or (map (group_of held) names) at d).name
group_in held [] at d h = absurd (omega arith)
group_in held (name ∷ names) zero d h = refl
group_in held (name ∷ names) (suc at) d h = group_in held names at d (omega arith)

group_at : (held : List Frame) (at : ℕ) (d : Group) → at < length (groups held)
    → get_or (groups held) at d ≡ group_of held (get_or (groups held) at d).name
unfolding groups
group_at held at d h = group_in held (names_of held) at d h

pass_taken : (held : List Frame) (frame : Frame) → takes_part frame ≡ true
    → pass held frame ≡ judge frame (kept_for frame held) (length held - length (kept_for frame held))
unfolding pass
pass_taken held frame taken = simp taken

length_groups : (held : List Frame) → length (groups held) ≡ length (names_of held)
unfolding groups
length_groups held = length-map (names_of held) (group_of held)

-- the groups if the name is a new one: as many as are allowed, or one fewer
groups_without_first : (held : List Frame) → length (groups held) ≡ most_names
    → groups (without_first held) ≡ remove (groups held) 0
groups_without_first [] many = absurd (omega (arith, length_groups []))
groups_without_first (frame ∷ held) many =
    let first : get_or (groups (frame ∷ held)) 0 (group_of (frame ∷ held) (name_of frame))
    ≡ group_of (frame ∷ held) (name_of frame) =
    ap (λ (gs : List Group). get_or gs 0 (group_of (frame ∷ held) (name_of frame))) (groups-cons frame held) in
    groups_filter (differs (name_of frame)) (frame ∷ held)
    ∙ sym (remove_is (groups (frame ∷ held)) 0 (group_of (frame ∷ held) (name_of frame))
    (groups_distinct (frame ∷ held)) (omega arith)
    ∙ ap (λ (g : Group). filter (by_group (differs g.name)) (groups (frame ∷ held))) first)

groups_with_room : (name : Name) (held : List Frame) → list_any (is_named name) held ≡ false
    → groups (with_room name held) ≡ with_place (groups held)
groups_with_room name held none =
    let many = length_groups held in
    by_cases (nat_eq (length (names_of held)) most_names)
    (λ e. simp (none, many, e) (groups_without_first held (many ∙ eqb-true _ _ e))) (λ e. simp (none, many, e))

-- no frame of a name that isn't there is there afterwards
none_without_first : (name : Name) (held : List Frame) → list_any (is_named name) held ≡ false
    → list_any (is_named name) (without_first held) ≡ false
none_without_first name [] none = refl
none_without_first name (frame ∷ held) none =
    none_filter (is_named name) (λ f. not (is_named (name_of frame) f)) (frame ∷ held) none

none_with_room : (name : Name) (held : List Frame) → list_any (is_named name) held ≡ false
    → list_any (is_named name) (with_room name held) ≡ false
none_with_room name held none =
    cond_both _ _ _ (λ (some : List Frame). list_any (is_named name) some ≡ false) (λ e. none_without_first name held none)
    (λ e. none)

length_filter-le : {X : Type 0} (p : X → Bool) (xs : List X) → length (filter p xs) ≤ length xs
length_filter-le p xs = omega (arith, length-filter_both p (λ x. not (p x)) (λ x. refl) xs)

length_without_first : (held : List Frame) → length (without_first held) ≤ length held
length_without_first [] = omega arith
length_without_first (frame ∷ held) = length_filter-le (λ f. not (is_named (name_of frame) f)) (frame ∷ held)

length_with_room : (name : Name) (held : List Frame) → length (with_room name held) ≤ length held
length_with_room name held =
    cond_both _ (without_first held) held (λ (some : List Frame). length some ≤ length held)
    (λ e. length_without_first held) (λ e. omega arith)

length_kept : (frame : Frame) (held : List Frame) → length (kept_for frame held) ≤ length held
unfolding kept_for
length_kept frame held =
    let room = length_with_room (name_of frame) (fresh frame.sec held) in
    let all = length_filter-le (by_name (fresh_name frame.sec held)) held in
    omega arith

-- a new name's frame among those that are kept: the judgement finds nothing, and it is held
judge_new : (frame : Frame) (kept : List Frame) (gone : ℕ) → takes_part frame ≡ true
    → list_any (is_named (name_of frame)) kept ≡ false
    → judge frame kept gone ≡ record { held = kept ++ frame ∷ []; whole = None; discarded = gone }
judge_new frame kept gone taken none =
    simp empty (simp (mine, alone frame taken))
  where
    empty : of_name (name_of frame) kept ≡ []
    empty = none_named (is_named (name_of frame)) kept none

    mine : of_name (name_of frame) (kept ++ frame ∷ []) ≡ frame ∷ []
    mine = filter-append (is_named (name_of frame)) kept (frame ∷ []) ∙ simp (empty, same_name_refl (name_of frame))

pub opens : (held : List Frame) (frame : Frame) → takes_part frame ≡ true
    → list_any (is_live (name_of frame) frame.sec) (groups held) ≡ false
    → Agrees (pass held frame) (length held) (after_opening frame (groups held)) None 0
unfolding after_opening kept_for
opens held frame taken none =
    subst (λ (p : Passed). Agrees p (length held) (after_opening frame (groups held)) None 0) (sym is)
    (record { left_is = left; whole_is = refl; counted = count })
  where
    none_fresh : list_any (is_named (name_of frame)) (fresh frame.sec held) ≡ false
    none_fresh = sym (live_fresh (name_of frame) frame.sec held) ∙ none

    kept : List Frame
    kept = kept_for frame held

    none_kept : list_any (is_named (name_of frame)) (kept_for frame held) ≡ false
    none_kept = none_with_room (name_of frame) (fresh frame.sec held) none_fresh

    is : pass held frame ≡ record {
      held = kept_for frame held ++ frame ∷ [];
      whole = None;
      discarded = length held - length (kept_for frame held);
    }
    is = pass_taken held frame taken ∙ judge_new frame (kept_for frame held) (length held - length (kept_for frame held))
        taken none_kept

    left : after_opening frame (groups held) ≡ groups (kept_for frame held ++ frame ∷ [])
    left =
        let room : groups (kept_for frame held) ≡ with_place (filter (is_fresh frame.sec) (groups held)) =
        groups_with_room (name_of frame) (fresh frame.sec held) none_fresh ∙ ap with_place (groups_fresh frame.sec held) in
        sym (groups_push_new (kept_for frame held) frame none_kept ∙ ap (λ (gs : List Group). gs ++ opened_by frame ∷ []) room)

    count : length held - length (kept_for frame held) + length (kept_for frame held ++ frame ∷ []) + 0 ≡ length held + 1
    count = omega (arith, length-append (kept_for frame held) (frame ∷ []), length_kept frame held)

-- the judgement, given the frames of the name
abbrev judge_with : List Frame → Frame → List Frame → ℕ → Passed
judge_with mine frame kept gone =
    if list_any (is_copy frame) mine
    then record { held = kept; whole = None; discarded = gone + 1 }
    else if list_any (conflicts frame) mine
    then record { held = without (name_of frame) kept; whole = None; discarded = gone + length mine + 1 }
    else join_by (completed (mine ++ frame ∷ []) frame) frame (kept ++ frame ∷ []) gone

judge_is : (frame : Frame) (kept : List Frame) (gone : ℕ)
    → judge frame kept gone ≡ judge_with (of_name (name_of frame) kept) frame kept gone
judge_is frame kept gone =
    ap (λ (mine : List Frame). cond (list_any (is_copy frame) (of_name (name_of frame) kept))
    (record { held = kept; whole = None; discarded = gone + 1 })
    (cond (list_any (conflicts frame) (of_name (name_of frame) kept))
    (record {
      held = without (name_of frame) kept;
      whole = None;
      discarded = gone + length (of_name (name_of frame) kept) + 1;
    })
    (join_by (completed mine frame) frame (kept ++ frame ∷ []) gone)))
    (filter-append (is_named (name_of frame)) kept (frame ∷ []) ∙ simp (same_name_refl (name_of frame)))

-- a test that a change doesn't see
filter-map_same : {X : Type 0} (p : X → Bool) (f : X → X) → ((x : X) → p (f x) ≡ p x) → (xs : List X)
    → filter p (map f xs) ≡ map f (filter p xs)
filter-map_same p f same [] = refl
filter-map_same {X} p f same (x ∷ xs) =
    let rest = filter-map_same p f same xs in
    by_cases (p x) (λ e. let here = same x ∙ e in simp (here, e) (ap (λ (ys : List X). f x ∷ ys) rest))
    (λ e. let here = same x ∙ e in simp (here, e) rest)

fresh_updated : (now : ℕ) (frame : Frame) (group : Group) → is_fresh now (updated frame group) ≡ is_fresh now group
fresh_updated now frame group = by_cases (has_name (name_of frame) group) (λ e. simp e) (λ e. simp e)

module _ (held : List Frame) (frame : Frame) (at : ℕ) (d : Group) (taken : takes_part frame ≡ true)
    (below : at < length (groups held)) (live : is_live (name_of frame) frame.sec (get_or (groups held) at d) ≡ true) where
  abbrev group : Group
  group = get_or (groups held) at d

  abbrev kept : List Frame
  kept = fresh frame.sec held

  abbrev gone : ℕ
  gone = length held - length kept

  named : same_name group.name (name_of frame) ≡ true
  named = (and_parts (has_name (name_of frame) group) (is_fresh frame.sec group) live).0

  here : group ≡ group_of held (name_of frame)
  here = group_at held at d below ∙ ap (group_of held) (same_name_is group.name (name_of frame) named)

  fresh_here : fresh_name frame.sec held (name_of frame) ≡ true
  fresh_here = ap (is_fresh frame.sec) (sym here)
      ∙ (and_parts (has_name (name_of frame) group) (is_fresh frame.sec group) live).1

  mine : of_name (name_of frame) kept ≡ group.fragments
  mine = of_name_filter (fresh_name frame.sec held) (name_of frame) held fresh_here ∙ ap (λ (g : Group). g.fragments) (sym here)

  there : list_any (is_named (name_of frame)) kept ≡ true
  there = sym (live_fresh (name_of frame) frame.sec held)
      ∙ list_any_at (is_live (name_of frame) frame.sec) (groups held) at d below live

  kept_is : kept_for frame held ≡ kept
  unfolding kept_for
  kept_is = simp there

  pass_is : pass held frame ≡ judge_with group.fragments frame kept gone
  pass_is =
      pass_taken held frame taken
      ∙ ap (λ (k : List Frame). judge frame k (length held - length k)) kept_is
      ∙ judge_is frame kept gone
      ∙ ap (λ (m : List Frame). judge_with m frame kept gone) mine

  short : length kept ≤ length held
  short = length_filter-le (by_name (fresh_name frame.sec held)) held

  -- the frames of the name, and all others
  parts : length group.fragments + length (without (name_of frame) kept) ≡ length kept
  parts = ap (λ (m : List Frame). length m + length (without (name_of frame) kept)) (sym mine)
      ∙ length-filter_both (is_named (name_of frame)) (λ f. not (is_named (name_of frame) f)) (λ f. refl) kept

  -- the group at the place taken out, before or after the stale ones
  removed : filter (is_fresh frame.sec) (remove (groups held) at) ≡ groups (without (name_of frame) kept)
  removed =
      ap (filter (is_fresh frame.sec))
      (remove_is (groups held) at d (groups_distinct held) below
      ∙ ap (λ (n : Name). filter (by_group (differs n)) (groups held)) (same_name_is group.name (name_of frame) named))
      ∙ filter_twice (is_fresh frame.sec) (by_group (differs (name_of frame))) (groups held)
      ∙ ap (filter (by_group (differs (name_of frame)))) (sym (groups_fresh frame.sec held))
      ∙ sym (groups_filter (differs (name_of frame)) kept)

  -- the group at the place with the frame
  grown : filter (is_fresh frame.sec) (set (groups held) at (with_frame frame group)) ≡ groups (kept ++ frame ∷ [])
  grown =
      ap (filter (is_fresh frame.sec)) (set_is (groups held) at d frame (groups_distinct held) below named)
      ∙ filter-map_same (is_fresh frame.sec) (updated frame) (fresh_updated frame.sec frame) (groups held)
      ∙ ap (map (updated frame)) (sym (groups_fresh frame.sec held))
      ∙ sym (groups_push_old kept frame there)

  -- nothing of the name is left but the frame
  without_new : without (name_of frame) (kept ++ frame ∷ []) ≡ without (name_of frame) kept
  without_new = filter-append (λ f. not (is_named (name_of frame) f)) kept (frame ∷ [])
      ∙ simp (same_name_refl (name_of frame)) (append-nil (without (name_of frame) kept))

  by_whole : (o : Option Frame) → Agrees (join_by o frame (kept ++ frame ∷ []) gone) (length held)
      (filter (is_fresh frame.sec) (joined_whole o frame group (groups held) at).left)
      (joined_whole o frame group (groups held) at).whole (joined_whole o frame group (groups held) at).used
  by_whole None = record { left_is = grown; whole_is = refl; counted = omega (arith, short, length-append kept (frame ∷ [])) }
  by_whole (Some whole) =
      record {
        left_is = removed ∙ ap groups (sym without_new);
        whole_is = refl;
        counted = omega (arith, short, parts, ap length without_new);
      }

  pub joins : Agrees (pass held frame) (length held) (filter (is_fresh frame.sec) (joined frame group (groups held) at).left)
      (joined frame group (groups held) at).whole (joined frame group (groups held) at).used
  unfolding joined held_by
  joins = subst (λ (p : Passed). Agrees p (length held) (filter (is_fresh frame.sec) (joined frame group (groups held) at).left)
      (joined frame group (groups held) at).whole (joined frame group (groups held) at).used) (sym pass_is)
      (by_cases (list_any (is_copy frame) group.fragments)
      (λ p. simp p (record { left_is = sym (groups_fresh frame.sec held); whole_is = refl; counted = omega (arith, short) }))
      (λ p. by_cases (list_any (conflicts frame) group.fragments)
      (λ q. simp (p, q) (record { left_is = removed; whole_is = refl; counted = omega (arith, short, parts) }))
      (λ q. simp (p, q) (by_whole (completed (group.fragments ++ frame ∷ []) frame)))))

-- the place of the first that passes
pub record FoundAt {X : Type 0} (p : X → Bool) (xs : List X) (at : ℕ) : Type 0 where
  pub below : at < length xs
  pub passes : (d : X) → p (get_or xs at d) ≡ true

found_from : {X : Type 0} (p : X → Bool) (from : ℕ) (xs : List X) (at : ℕ) → position_from p from xs ≡ Some at
    → (from ≤ at) × FoundAt p xs (at - from)
found_from p from [] at e = absurd (none-some at e)
found_from p from (x ∷ xs) at e =
    by_cases (p x)
    (λ is.
    let same : from ≡ at = same_Some _ _ (simp is at e) in
    let none : at - from ≡ 0 = omega arith in
    (omega arith, subst (FoundAt p (x ∷ xs)) (sym none) (record { below = omega arith; passes = λ d. is })))
    (λ is.
    let later = found_from p (from + 1) xs at (simp is at e) in
    let next : at - from ≡ suc (at - (from + 1)) = omega (arith, later.0) in (
      omega (arith, later.0),
      subst (FoundAt p (x ∷ xs)) (sym next)
          (record { below = omega (arith, later.1.below); passes = later.1.passes }),
    ))

pub found_at : {X : Type 0} (p : X → Bool) (xs : List X) (at : ℕ) → position_from p 0 xs ≡ Some at → FoundAt p xs at
found_at p xs at e = let zero : at - 0 ≡ at = omega arith in subst (FoundAt p xs) zero (found_from p 0 xs at e).1

pub none_found : {X : Type 0} (p : X → Bool) (from : ℕ) (xs : List X) → position_from p from xs ≡ None → list_any p xs ≡ false
none_found p from [] e = refl
none_found p from (x ∷ xs) e =
    by_cases (p x) (λ is. absurd (none-some from (sym (simp is at e))))
    (λ is. simp is (none_found p (from + 1) xs (simp is at e)))

-- the number of groups is within the bound, as before
length_remove : {X : Type 0} (xs : List X) (at : ℕ) → length (remove xs at) ≤ length xs
length_remove [] zero = omega arith
length_remove [] (suc at) = omega arith
length_remove (x ∷ xs) zero = omega arith
length_remove (x ∷ xs) (suc at) = let rest = length_remove xs at in omega arith

length_remove_first : {X : Type 0} (xs : List X) → 0 < length xs → length (remove xs 0) + 1 ≡ length xs
length_remove_first [] some = absurd (omega arith)
length_remove_first (x ∷ xs) some = omega arith

length_with_place : (some : List Group) → length some ≤ most_names → length (with_place some) < most_names
length_with_place some few =
    cond_both (nat_eq (length some) most_names) _ _ (λ (left : List Group). length left < most_names)
    (λ e. let many = eqb-true (length some) most_names e in omega (arith, many, length_remove_first some))
    (λ e. let less = eqb-false (length some) most_names e in omega (arith, less))

pub few_opened : (frame : Frame) (some : List Group) → length some ≤ 64 → length (after_opening frame some) ≤ 64
unfolding after_opening
few_opened frame some few =
    let fresh_ones = length_filter-le (is_fresh frame.sec) some in
    let place = length_with_place (filter (is_fresh frame.sec) some) (omega arith) in
    omega (arith, length-append (with_place (filter (is_fresh frame.sec) some)) (opened_by frame ∷ []))

length_held : (o : Option Frame) (frame : Frame) (group : Group) (some : List Group) (at : ℕ)
    → length (joined_whole o frame group some at).left ≤ length some
length_held None frame group some at = let e = length-set some at (with_frame frame group) in omega (arith, e)
length_held (Some whole) frame group some at = length_remove some at

length_joined : (frame : Frame) (group : Group) (some : List Group) (at : ℕ)
    → length (joined frame group some at).left ≤ length some
unfolding joined held_by
length_joined frame group some at = by_judgement (judgement frame group.fragments)
  where
    by_judgement : (j : Judgement) → length (joined_by j frame group some at).left ≤ length some
    by_judgement Copy = omega arith
    by_judgement Conflict = length_remove some at
    by_judgement Fits = length_held (completed (group.fragments ++ frame ∷ []) frame) frame group some at

pub few_joined : (frame : Frame) (group : Group) (some : List Group) (at : ℕ) → length some ≤ 64
    → length (filter (is_fresh frame.sec) (joined frame group some at).left) ≤ 64
few_joined frame group some at few =
    let fresh_ones = length_filter-le (is_fresh frame.sec) (joined frame group some at).left in
    let rest = length_joined frame group some at in
    omega arith

-- when the name was looked up
pub placed : (name name' : Name) (now now' : ℕ) (some some' : List Group) (place : Option ℕ) → name ≡ name' → now ≡ now'
    → some ≡ some' → place ≡ position_from (is_live name now) 0 some → position_from (is_live name' now') 0 some' ≡ place
placed name name' now now' some some' place p q r h =
    sym (h ∙ ap (λ (n : Name). position_from (is_live n now) 0 some) p
    ∙ ap (λ (t : ℕ). position_from (is_live name' t) 0 some) q
    ∙ ap (λ (gs : List Group). position_from (is_live name' now') 0 gs) r)

-- what is fresh is left of what was joined
pub left_fresh : (frame other : Frame) (left here wanted : List Group) → left ≡ filter (is_fresh other.sec) here → other ≡ frame
    → here ≡ wanted → left ≡ filter (is_fresh frame.sec) wanted
left_fresh frame other left here wanted is same joined_is =
    is ∙ ap (λ (f : Frame). filter (is_fresh f.sec) here) same ∙ ap (filter (is_fresh frame.sec)) joined_is

-- the two ways of a pass, if the groups are those of a flat list
pub opens_by : (held : List Frame) (frame : Frame) (some left : List Group) → takes_part frame ≡ true → some ≡ groups held
    → position_from (is_live (name_of frame) frame.sec) 0 some ≡ None → left ≡ after_opening frame some
    → Agrees (pass held frame) (length held) left None 0
opens_by held frame some left taken is place l =
    let none : list_any (is_live (name_of frame) frame.sec) (groups held) ≡ false =
    subst (λ (gs : List Group). list_any (is_live (name_of frame) frame.sec) gs ≡ false) is
    (none_found (is_live (name_of frame) frame.sec) 0 some place) in
    subst (λ (gs : List Group). Agrees (pass held frame) (length held) gs None 0) (sym (l ∙ ap (after_opening frame) is))
    (opens held frame taken none)

joins_here : (held : List Frame) (frame : Frame) (some : List Group) (at : ℕ) (d : Group) → takes_part frame ≡ true
    → some ≡ groups held → FoundAt (is_live (name_of frame) frame.sec) some at
    → Agrees (pass held frame) (length held) (filter (is_fresh frame.sec) (joined frame (get_or some at d) some at).left)
    (joined frame (get_or some at d) some at).whole (joined frame (get_or some at d) some at).used
joins_here held frame some at d taken is found =
    subst (λ (gs : List Group). FoundAt (is_live (name_of frame) frame.sec) gs at
    → Agrees (pass held frame) (length held) (filter (is_fresh frame.sec) (joined frame (get_or gs at d) gs at).left)
    (joined frame (get_or gs at d) gs at).whole (joined frame (get_or gs at d) gs at).used) (sym is)
    (λ here. joins held frame at d taken here.below (here.passes d)) found

pub joins_by : (held : List Frame) (frame : Frame) (some left : List Group) (at used : ℕ) (whole : Option Frame) (d : Group)
    → takes_part frame ≡ true → some ≡ groups held → position_from (is_live (name_of frame) frame.sec) 0 some ≡ Some at
    → left ≡ filter (is_fresh frame.sec) (joined frame (get_or some at d) some at).left
    → whole ≡ (joined frame (get_or some at d) some at).whole → used ≡ (joined frame (get_or some at d) some at).used
    → Agrees (pass held frame) (length held) left whole used
joins_by held frame some left at used whole d taken is place l w u =
    let it = joins_here held frame some at d taken is (found_at (is_live (name_of frame) frame.sec) some at place) in
    record { left_is = l ∙ it.left_is; whole_is = w ∙ it.whole_is; counted = omega (arith, it.counted, u) }

-- a frame that doesn't take part comes out as it is
pub pass_other : (held : List Frame) (frame : Frame) → takes_part frame ≡ false
    → pass held frame ≡ record { held = held; whole = Some frame; discarded = 0 }
unfolding pass
pass_other held frame other = simp other

-- if nothing comes out, no frame is in it
used_none : (frame : Frame) (group : Group) (some : List Group) (at : ℕ) → (joined frame group some at).whole ≡ None
    → (joined frame group some at).used ≡ 0
unfolding joined held_by
used_none frame group some at e = by_judgement (judgement frame group.fragments) e
  where
    by_whole : (o : Option Frame) → (joined_whole o frame group some at).whole ≡ None
        → (joined_whole o frame group some at).used ≡ 0
    by_whole None e = refl
    by_whole (Some whole) e = absurd (none-some whole (sym e))

    by_judgement : (j : Judgement) → (joined_by j frame group some at).whole ≡ None → (joined_by j frame group some at).used ≡ 0
    by_judgement Copy e = refl
    by_judgement Conflict e = refl
    by_judgement Fits e = by_whole (completed_with frame group.fragments) e

-- the two ways again, over all flat lists
lost_taken : (held : List Frame) (frame : Frame) (place : Option ℕ) → takes_part frame ≡ true
    → position_from (is_live (name_of frame) frame.sec) 0 (groups held) ≡ place → (pass held frame).whole ≡ None
    → (pass held frame).discarded + length (pass held frame).held ≡ length held + 1
lost_taken held frame None taken is none =
    omega (arith, (opens_by held frame (groups held) (after_opening frame (groups held)) taken refl is refl).counted)
lost_taken held frame (Some at) taken is none =
    let d : Group = opened_by frame in
    let it = joins_here held frame (groups held) at d taken refl
    (found_at (is_live (name_of frame) frame.sec) (groups held) at is) in
    let used = used_none frame (get_or (groups held) at d) (groups held) at (it.whole_is ∙ none) in
    omega (arith, it.counted, used)

pub lost : (held : List Frame) (frame : Frame) → (pass held frame).whole ≡ None
    → (pass held frame).discarded + length (pass held frame).held ≡ length held + 1
lost held frame none =
    by_cases (takes_part frame) (λ e. lost_taken held frame _ e refl none)
    (λ e. absurd (none-some frame (sym none ∙ ap (λ (p : Passed). p.whole) (pass_other held frame e))))
