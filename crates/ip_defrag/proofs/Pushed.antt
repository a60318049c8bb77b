-- A frame at the end of the flat list, and what its group becomes.
use Rattle.std.proofs.Common.{◌≡◌, ℕ, zero, suc, ◌+◌, ◌<◌, ◌≤◌, Bool, true, false, not, ◌||◌, List, [], ◌∷◌, ◌++◌, length, map}
use Rattle.std.proofs.Common.{filter, get_or, set, cond, arith, refl, ap, ◌∙◌, sym, subst}
use Rattle.std.specs.List.{list_any, AllByRecursion, remove}
use Rattle.std.proofs.lemmas.List.{append-nil, map-append, get_or_default}
use Rattle.std.proofs.lemmas.List.Elements.{filter-append}
use Rattle.std.proofs.lemmas.List.Filters.{length-filter_both}
use Rattle.std.proofs.lemmas.List.Folds.{list_any_at}
use Rattle.std.proofs.lemmas.List.Sums.{sum_by-cons}
use Rattle.std.proofs.lemmas.Map.Views.{any-filter_same}
use Rattle.std.proofs.lemmas.Bool.{or_parts, or_from, or_left, or_right, both_ways}
use Rattle.frame_view.specs.declared.frames.Frame.{Frame}
use Rattle.ip_defrag.specs.Fragments.{name_of}
use Rattle.ip_defrag.specs.Fold.{same_name, is_named, of_name, without, names_of, opened_at}
use Rattle.ip_defrag.specs.Grouped.{Group, group_of, groups, has_name, with_frame, updated, opened_by, total}
use Rattle.ip_defrag.specs.declared.names.Name.{Name}
use Rattle.ip_defrag.proofs.Cases.{by_cases}
use Rattle.ip_defrag.proofs.Groups.{by_group, by_name, differs}
use Rattle.ip_defrag.proofs.Groups.{kept_groups, names_filter, same_name_is, same_name_refl, same_name_sym}

same_names : (a b : Name) → same_name a b ≡ false → same_name b a ≡ false
same_names a b e = same_name_sym b a ∙ e

pub none_filter : {X : Type 0} (test p : X → Bool) (xs : List X) → list_any test xs ≡ false
    → list_any test (filter p xs) ≡ false
none_filter test p [] none = refl
none_filter test p (x ∷ xs) none =
    let parts = or_parts (test x) (list_any test xs) none in
    let rest = none_filter test p xs parts.1 in
    by_cases (p x) (λ e. simp e (or_from _ _ parts.0 rest)) (λ e. simp e rest)

pub none_named : {X : Type 0} (test : X → Bool) (xs : List X) → list_any test xs ≡ false → filter test xs ≡ []
none_named test [] none = refl
none_named test (x ∷ xs) none =
    let parts = or_parts (test x) (list_any test xs) none in
    let rest = none_named test xs parts.1 in
    simp parts.0 rest

all_kept : {X : Type 0} (test : X → Bool) (xs : List X) → list_any test xs ≡ false → filter (λ x. not (test x)) xs ≡ xs
all_kept test [] none = refl
all_kept {X} test (x ∷ xs) none =
    let parts = or_parts (test x) (list_any test xs) none in
    simp parts.0 (ap (λ (ys : List X). x ∷ ys) (all_kept test xs parts.1))

-- the names of a list with one more frame
pub names_push : (held : List Frame) (new : Frame)
    → names_of (held ++ new ∷ []) ≡ cond (list_any (is_named (name_of new)) held) (names_of held)
    (names_of held ++ name_of new ∷ [])
names_push [] new = refl
names_push (frame ∷ held) new =
    let rest = names_push held new in
    let other = same_name_sym (name_of new) (name_of frame) in
    by_cases (same_name (name_of frame) (name_of new))
    (λ p. by_cases (list_any (is_named (name_of new)) held) (λ q. simp (rest, p, q)) (λ q.
    let gone : differs (name_of frame) (name_of new) ≡ false = ap not (other ∙ p) in
    simp (rest, p, q)
    (ap (λ (ns : List Name). name_of frame ∷ ns)
    (filter-append (differs (name_of frame)) (names_of held) (name_of new ∷ [])
    ∙ simp gone (append-nil (filter (differs (name_of frame)) (names_of held)))))))
    (λ p. by_cases (list_any (is_named (name_of new)) held) (λ q. simp (rest, p, q)) (λ q.
    let there : differs (name_of frame) (name_of new) ≡ true = ap not (other ∙ p) in
    simp (rest, p, q)
    (ap (λ (ns : List Name). name_of frame ∷ ns)
    (filter-append (differs (name_of frame)) (names_of held) (name_of new ∷ []) ∙ simp there))))

opened_push : (name : Name) (held : List Frame) (new : Frame)
    → opened_at name (held ++ new ∷ []) ≡ cond (list_any (is_named name) held) (opened_at name held)
    (cond (is_named name new) new.sec 0)
opened_push name [] new = refl
opened_push name (frame ∷ held) new =
    let rest = opened_push name held new in
    by_cases (same_name (name_of frame) name) (λ e. simp e) (λ e. simp e rest)

-- a name is among the groups if it is among the frames
any_names : (name : Name) (held : List Frame) → list_any (λ other. same_name other name) (names_of held)
    ≡ list_any (is_named name) held
any_names name [] = refl
any_names name (frame ∷ held) =
    by_cases (same_name (name_of frame) name) (λ e. simp e) (λ e.
    simp e (any-filter_same (λ other. same_name other name) (differs (name_of frame)) true (stays e) (names_of held)
    ∙ any_names name held))
  where
    stays : same_name (name_of frame) name ≡ false → (other : Name) → same_name other name ≡ true
        → differs (name_of frame) other ≡ true
    stays e other is =
        ap not (same_name_sym other (name_of frame) ∙ ap (same_name (name_of frame)) (same_name_is other name is) ∙ e)

any_group_names : (name : Name) (held : List Frame) (names : List Name)
    → list_any (has_name name) (map (group_of held) names) ≡ list_any (λ other. same_name other name) names
any_group_names name held [] = refl
any_group_names name held (other ∷ names) = ap (λ (b : Bool). same_name other name || b) (any_group_names name held names)

pub any_groups : (name : Name) (held : List Frame) → list_any (has_name name) (groups held) ≡ list_any (is_named name) held
unfolding groups
any_groups name held = any_group_names name held (names_of held) ∙ any_names name held

-- each name of a list has a frame there
all_filter : {X : Type 0} (P : X → Type 0) (p : X → Bool) (xs : List X) → AllByRecursion P xs → AllByRecursion P (filter p xs)
all_filter P p [] all = tt
all_filter P p (x ∷ xs) all =
    let rest = all_filter P p xs all.1 in
    by_cases (p x) (λ e. simp e (all.0, rest)) (λ e. simp e rest)

all_weaken : {X : Type 0} (P Q : X → Type 0) → ((x : X) → P x → Q x) → (xs : List X) → AllByRecursion P xs → AllByRecursion Q xs
all_weaken P Q weaker [] all = tt
all_weaken P Q weaker (x ∷ xs) all = (weaker x all.0, all_weaken P Q weaker xs all.1)

names_present : (held : List Frame) → AllByRecursion (λ name. list_any (is_named name) held ≡ true) (names_of held)
names_present [] = tt
names_present (frame ∷ held) = (
  or_left _ _ (same_name_refl (name_of frame)),
  all_weaken (λ name. list_any (is_named name) held ≡ true) (λ name. list_any (is_named name) (frame ∷ held) ≡ true)
      (λ name e. or_right _ _ e) (filter (differs (name_of frame)) (names_of held))
      (all_filter (λ name. list_any (is_named name) held ≡ true) (differs (name_of frame)) (names_of held)
      (names_present held)),
)

-- what becomes of the group of a name that is there
group_push : (held : List Frame) (new : Frame) (name : Name) → list_any (is_named name) held ≡ true
    → group_of (held ++ new ∷ []) name ≡ updated new (group_of held name)
group_push held new name there =
    by_cases (same_name name (name_of new))
    (λ e.
    let named : is_named name new ≡ true = same_name_sym (name_of new) name ∙ e in
    let these : of_name name (held ++ new ∷ []) ≡ of_name name held ++ new ∷ [] =
    filter-append (is_named name) held (new ∷ []) ∙ simp named in
    simp e (cc (time, these)))
    (λ e.
    let named : is_named name new ≡ false = same_name_sym (name_of new) name ∙ e in
    let these : of_name name (held ++ new ∷ []) ≡ of_name name held =
    filter-append (is_named name) held (new ∷ []) ∙ simp named (append-nil (of_name name held)) in
    simp e (cc (time, these)))
  where
    time : opened_at name (held ++ new ∷ []) ≡ opened_at name held
    time = opened_push name held new
        ∙ ap (λ (b : Bool). cond b (opened_at name held) (cond (is_named name new) new.sec 0)) there

groups_push_names : (held : List Frame) (new : Frame) (names : List Name)
    → AllByRecursion (λ name. list_any (is_named name) held ≡ true) names
    → map (group_of (held ++ new ∷ [])) names ≡ map (updated new) (map (group_of held) names)
groups_push_names held new [] there = refl
groups_push_names held new (name ∷ names) there =
    let here = group_push held new name there.0 in
    let rest = groups_push_names held new names there.1 in
    cc

-- a frame of a name that is held
pub groups_push_old : (held : List Frame) (new : Frame) → list_any (is_named (name_of new)) held ≡ true
    → groups (held ++ new ∷ []) ≡ map (updated new) (groups held)
unfolding groups
groups_push_old held new there =
    ap (map (group_of (held ++ new ∷ [])))
    (names_push held new ∙ ap (λ (b : Bool). cond b (names_of held) (names_of held ++ name_of new ∷ [])) there)
    ∙ groups_push_names held new (names_of held) (names_present held)

-- groups without a frame's name
pub not_updated : (new : Frame) (some : List Group) → list_any (has_name (name_of new)) some ≡ false
    → map (updated new) some ≡ some
not_updated new [] none = refl
not_updated new (group ∷ some) none =
    let parts = or_parts (has_name (name_of new) group) (list_any (has_name (name_of new)) some) none in
    simp parts.0 (ap (λ (gs : List Group). group ∷ gs) (not_updated new some parts.1))

-- a frame of a new name
pub groups_push_new : (held : List Frame) (new : Frame) → list_any (is_named (name_of new)) held ≡ false
    → groups (held ++ new ∷ []) ≡ groups held ++ opened_by new ∷ []
unfolding groups
groups_push_new held new none =
    let names : names_of (held ++ new ∷ []) ≡ names_of held ++ name_of new ∷ [] =
    names_push held new ∙ ap (λ (b : Bool). cond b (names_of held) (names_of held ++ name_of new ∷ [])) none in
    let old : map (group_of (held ++ new ∷ [])) (names_of held) ≡ map (group_of held) (names_of held) =
    groups_push_names held new (names_of held) (names_present held)
    ∙ not_updated new (map (group_of held) (names_of held)) (any_groups (name_of new) held ∙ none) in
    ap (map (group_of (held ++ new ∷ []))) names
    ∙ map-append (group_of (held ++ new ∷ [])) (names_of held) (name_of new ∷ [])
    ∙ cc (old, here)
  where
    time : opened_at (name_of new) (held ++ new ∷ []) ≡ new.sec
    time = opened_push (name_of new) held new ∙ simp (none, same_name_refl (name_of new))

    these : of_name (name_of new) (held ++ new ∷ []) ≡ new ∷ []
    these = filter-append (is_named (name_of new)) held (new ∷ [])
        ∙ simp (none_named (is_named (name_of new)) held none, same_name_refl (name_of new))

    here : group_of (held ++ new ∷ []) (name_of new) ≡ opened_by new
    here = cc (time, these)

-- no name twice
abbrev pub AreDistinct : List Group → Type 0
AreDistinct [] = Unit {0}
AreDistinct (group ∷ some) = (list_any (has_name group.name) some ≡ false) × AreDistinct some

distinct_filter : (p : Group → Bool) (some : List Group) → AreDistinct some → AreDistinct (filter p some)
distinct_filter p [] distinct = tt
distinct_filter p (group ∷ some) distinct =
    let rest = distinct_filter p some distinct.1 in
    by_cases (p group) (λ e. simp e (none_filter (has_name group.name) p some distinct.0, rest)) (λ e. simp e rest)

pub filter-map : {X Y : Type 0} (f : X → Y) (p : Y → Bool) (xs : List X)
    → filter p (map f xs) ≡ map f (filter (λ x. p (f x)) xs)
filter-map f p [] = refl
filter-map {X} {Y} f p (x ∷ xs) =
    let rest = filter-map f p xs in
    by_cases (p (f x)) (λ e. simp e (ap (λ (ys : List Y). f x ∷ ys) rest)) (λ e. simp e rest)

names_distinct : (of : List Frame) (held : List Frame) → AreDistinct (map (group_of of) (names_of held))
names_distinct of [] = tt
names_distinct of (frame ∷ held) =
    let rest : AreDistinct (map (group_of of) (filter (differs (name_of frame)) (names_of held))) =
    subst AreDistinct (filter-map (group_of of) (by_group (differs (name_of frame))) (names_of held))
    (distinct_filter (by_group (differs (name_of frame))) (map (group_of of) (names_of held)) (names_distinct of held)) in (
      any_group_names (name_of frame) of (filter (differs (name_of frame)) (names_of held))
          ∙ any-filter_same (λ other. same_name other (name_of frame)) (differs (name_of frame)) false (λ name e. ap not e)
          (names_of held),
      rest,
    )

pub groups_distinct : (held : List Frame) → AreDistinct (groups held)
unfolding groups
groups_distinct held = names_distinct held held

-- a group of a name has some place
at_not_first : (group : Group) (some : List Group) (at : ℕ) → list_any (has_name group.name) some ≡ false → at < length some
    → same_name (get_or some at group).name group.name ≡ false
at_not_first group some at none h =
    by_cases (same_name (get_or some at group).name group.name)
    (λ e. absurd (both_ways _ none (list_any_at (has_name group.name) some at group h e))) (λ e. e)

differs_from : (group : Group) (some : List Group) (at : ℕ) → list_any (has_name group.name) some ≡ false → at < length some
    → differs (get_or some at group).name group.name ≡ true
differs_from group some at none h = ap not (same_names _ _ (at_not_first group some at none h))

none_named_groups : (name : Name) (some : List Group) → list_any (has_name name) some ≡ false
    → filter (by_group (differs name)) some ≡ some
none_named_groups name some none = all_kept (has_name name) some none

-- the group at a place taken out
pub remove_is : (some : List Group) (at : ℕ) (d : Group) → AreDistinct some → at < length some
    → remove some at ≡ filter (by_group (differs (get_or some at d).name)) some
remove_is [] at d distinct h = absurd (omega arith)
remove_is (group ∷ some) zero d distinct h =
    sym (simp (same_name_refl group.name) (none_named_groups group.name some distinct.0))
remove_is (group ∷ some) (suc at) d distinct h =
    let below : at < length some = omega arith in
    let other : differs (get_or some at d).name group.name ≡ true =
    subst (λ (g : Group). differs g.name group.name ≡ true) (get_or_default some at group d below)
    (differs_from group some at distinct.0 below) in
    ap (λ (gs : List Group). group ∷ gs) (remove_is some at d distinct.1 below) ∙ sym (simp other)

-- the group at a place with one more frame
pub set_is : (some : List Group) (at : ℕ) (d : Group) (new : Frame) → AreDistinct some → at < length some
    → same_name (get_or some at d).name (name_of new) ≡ true
    → set some at (with_frame new (get_or some at d)) ≡ map (updated new) some
set_is [] at d new distinct h named = absurd (omega arith)
set_is (group ∷ some) zero d new distinct h named =
    let name : group.name ≡ name_of new = same_name_is _ _ named in
    let rest : list_any (has_name (name_of new)) some ≡ false =
    subst (λ (n : Name). list_any (has_name n) some ≡ false) name distinct.0 in
    sym (simp named (ap (λ (gs : List Group). with_frame new group ∷ gs) (not_updated new some rest)))
set_is (group ∷ some) (suc at) d new distinct h named =
    let below : at < length some = omega arith in
    let other : same_name (get_or some at d).name group.name ≡ false =
    subst (λ (g : Group). same_name g.name group.name ≡ false) (get_or_default some at group d below)
    (at_not_first group some at distinct.0 below) in
    let name : (get_or some at d).name ≡ name_of new = same_name_is _ _ named in
    let here : has_name (name_of new) group ≡ false =
    same_names _ _ (subst (λ (n : Name). same_name n group.name ≡ false) name other) in
    ap (λ (gs : List Group). group ∷ gs) (set_is some at d new distinct.1 below named) ∙ sym (simp here)

-- the frames of all groups are all frames
pub groups-cons : (frame : Frame) (held : List Frame)
    → groups (frame ∷ held) ≡ group_of (frame ∷ held) (name_of frame) ∷ groups (without (name_of frame) held)
unfolding groups
groups-cons frame held =
    let name : Name = name_of frame in
    let here : filter (by_name (differs name)) (frame ∷ held) ≡ without name held = simp (same_name_refl name) in
    ap (λ (gs : List Group). group_of (frame ∷ held) name ∷ gs)
    (sym (filter-map (group_of (frame ∷ held)) (by_group (differs name)) (names_of held))
    ∙ sym (kept_groups (differs name) (frame ∷ held) (names_of held))
    ∙ ap (λ (hs : List Frame). map (group_of hs) (filter (differs name) (names_of held))) here
    ∙ ap (map (group_of (without name held))) (sym (names_filter (differs name) held)))

total-cons : (group : Group) (some : List Group) → total (group ∷ some) ≡ length group.fragments + total some
unfolding total
total-cons group some = sum_by-cons (λ (g : Group). length g.fragments) group some

total_within : (most : ℕ) (held : List Frame) → length held ≤ most → total (groups held) ≡ length held
unfolding total groups
total_within most [] short = refl
total_within zero (frame ∷ held) short = absurd (omega arith)
total_within (suc most) (frame ∷ held) short =
    let split = length-filter_both (is_named (name_of frame)) (λ (f : Frame). not (is_named (name_of frame) f))
    (λ f. refl) held in
    let rest = total_within most (without (name_of frame) held) (omega arith) in
    let first = total-cons (group_of (frame ∷ held) (name_of frame)) (groups (without (name_of frame) held)) in
    let here : length (of_name (name_of frame) (frame ∷ held)) ≡ suc (length (of_name (name_of frame) held)) =
    simp (same_name_refl (name_of frame)) in
    ap total (groups-cons frame held) ∙ omega arith

pub total_groups : (held : List Frame) → total (groups held) ≡ length held
total_groups held = total_within (length held) held (omega arith)

-- a number that was counted over the groups of a flat list
pub counted_left : (held : List Frame) (count : ℕ) (some left : List Group) → count ≡ total some → some ≡ left
    → left ≡ groups held → count ≡ length held
counted_left held count some left is same left_is = is ∙ ap total (same ∙ left_is) ∙ total_groups held
