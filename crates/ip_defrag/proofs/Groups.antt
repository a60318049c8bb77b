-- The flat list and its groups: taking frames away, or adding one, does the same to both.
use Rattle.std.proofs.Common.{◌≡◌, ℕ, Bool, true, false, not, List, [], ◌∷◌, map, filter, arith, refl, ap, ◌∙◌, sym}
use Rattle.std.proofs.lemmas.Bool.{both_ways}
use Rattle.std.proofs.lemmas.Bool.Decides.{nat_tests}
use Rattle.frame_view.specs.declared.frames.Frame.{Frame}
use Rattle.ip_defrag.specs.Fragments.{name_of}
use Rattle.ip_defrag.specs.Fold.{same_name, is_named, of_name, names_of, opened_at}
use Rattle.ip_defrag.specs.Grouped.{Group, group_of, groups}
use Rattle.ip_defrag.specs.declared.names.Name.{Name}
use Rattle.ip_defrag.proofs.Cases.{by_cases}

pub same_name_refl : (name : Name) → same_name name name ≡ true
unfolding same_name
same_name_refl name = grind (arith, nat_tests)

same_parts : (a b c d a' b' c' d' : ℕ) → a ≡ a' → b ≡ b' → c ≡ c' → d ≡ d'
    → ◌≡◌ {A = Name} (record { source = a; dest = b; protocol = c; ident = d })
    (record { source = a'; dest = b'; protocol = c'; ident = d' })
same_parts a b c d a' b' c' d' p q r s = cc

pub same_name_is : (a b : Name) → same_name a b ≡ true → a ≡ b
unfolding same_name
same_name_is a b e =
    same_parts a.source a.dest a.protocol a.ident b.source b.dest b.protocol b.ident (grind (arith, nat_tests))
    (grind (arith, nat_tests)) (grind (arith, nat_tests)) (grind (arith, nat_tests))

-- a name that differs from another isn't that one's
pub same_name_sym : (a b : Name) → same_name a b ≡ same_name b a
unfolding same_name
same_name_sym a b = grind (arith, nat_tests)

-- a test of frames by their names
abbrev pub by_name : (Name → Bool) → Frame → Bool
by_name keep frame = keep (name_of frame)

pub filter_twice : {X : Type 0} (p q : X → Bool) (xs : List X) → filter p (filter q xs) ≡ filter q (filter p xs)
filter_twice p q [] = refl
filter_twice p q (x ∷ xs) =
    let rest = filter_twice p q xs in
    by_cases (p x) (λ a. by_cases (q x) (λ b. simp (a, b, rest)) (λ b. simp (a, b) rest))
    (λ a. by_cases (q x) (λ b. simp (a, b) rest) (λ b. simp (a, b) rest))

-- the stricter of two tests
pub filter_within : {X : Type 0} (p q : X → Bool) → ((x : X) → p x ≡ true → q x ≡ true) → (xs : List X)
    → filter p (filter q xs) ≡ filter p xs
filter_within p q less [] = refl
filter_within p q less (x ∷ xs) =
    let rest = filter_within p q less xs in
    by_cases (p x) (λ a. let b = less x a in simp (a, b, rest))
    (λ a. by_cases (q x) (λ b. simp (a, b) rest) (λ b. simp (a, b) rest))

-- whether a name is another one
abbrev pub differs : Name → Name → Bool
differs other name = not (same_name name other)

-- if a name is lost, one that is kept differs from it
kept_differs : (keep : Name → Bool) (other name : Name) → keep other ≡ false → keep name ≡ true → differs other name ≡ true
kept_differs keep other name lost is =
    by_cases (same_name name other) (λ e. absurd (both_ways _ lost (ap keep (sym (same_name_is name other e)) ∙ is)))
    (λ e. ap not e)

-- names are kept or lost as their frames are
pub names_filter : (keep : Name → Bool) (held : List Frame)
    → names_of (filter (by_name keep) held) ≡ filter keep (names_of held)
names_filter keep [] = refl
names_filter keep (frame ∷ held) =
    let rest = names_filter keep held in
    by_cases (keep (name_of frame))
    (λ e. simp e (ap (λ (ns : List Name). name_of frame ∷ ns)
    (ap (filter (differs (name_of frame))) rest ∙ filter_twice (differs (name_of frame)) keep (names_of held))))
    (λ e. simp e (rest ∙ sym (filter_within keep (differs (name_of frame))
    (λ name is. kept_differs keep (name_of frame) name e is) (names_of held))))

-- a name that is kept has the same frames and the same time
pub of_name_filter : (keep : Name → Bool) (name : Name) (held : List Frame) → keep name ≡ true
    → of_name name (filter (by_name keep) held) ≡ of_name name held
of_name_filter keep name held is =
    filter_within (is_named name) (by_name keep) (λ frame e. ap keep (same_name_is (name_of frame) name e) ∙ is) held

pub opened_filter : (keep : Name → Bool) (name : Name) (held : List Frame) → keep name ≡ true
    → opened_at name (filter (by_name keep) held) ≡ opened_at name held
opened_filter keep name [] is = refl
opened_filter keep name (frame ∷ held) is =
    let rest = opened_filter keep name held is in
    by_cases (same_name (name_of frame) name)
    (λ e. let h : keep (name_of frame) ≡ true = ap keep (same_name_is (name_of frame) name e) ∙ is in simp (e, h))
    (λ e. by_cases (keep (name_of frame)) (λ h. simp (e, h) rest) (λ h. simp (e, h) rest))

-- groups are kept or lost as their frames are
abbrev pub by_group : (Name → Bool) → Group → Bool
by_group keep group = keep group.name

pub kept_groups : (keep : Name → Bool) (held : List Frame) (names : List Name)
    → map (group_of (filter (by_name keep) held)) (filter keep names) ≡ filter (by_group keep) (map (group_of held) names)
kept_groups keep held [] = refl
kept_groups keep held (name ∷ names) =
    let rest = kept_groups keep held names in
    by_cases (keep name) (λ e. simp e (cc (same e, rest))) (λ e. simp e rest)
  where
    same : keep name ≡ true → group_of (filter (by_name keep) held) name ≡ group_of held name
    same e = let a = of_name_filter keep name held e in let b = opened_filter keep name held e in cc

pub groups_filter : (keep : Name → Bool) (held : List Frame)
    → groups (filter (by_name keep) held) ≡ filter (by_group keep) (groups held)
unfolding groups
groups_filter keep held = ap (map (group_of (filter (by_name keep) held))) (names_filter keep held)
    ∙ kept_groups keep held (names_of held)
