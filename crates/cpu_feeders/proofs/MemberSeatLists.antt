-- The seats of members and of users.
use Rattle.std.proofs.Common.{◌≡◌, ℕ, zero, suc, ◌+◌, ◌<◌, List, [], ◌∷◌, ◌++◌, length, length-append, get_or, append_assoc}
use Rattle.std.proofs.Common.{append-nil, refl, sym, ap, ◌∙◌, subst, arith, set}
use Rattle.std.specs.Prelude.{map, replicate}
use Rattle.std.specs.List.{AllByRecursion}
use Rattle.std.proofs.lemmas.List.{map-append}
use Rattle.member_turns.specs.Seats.{Lock, Seat}
use Rattle.turn_lock.specs.Seats.{fresh_seat, fresh_seats}
use Rattle.cpu_feeders.specs.inside.MemberSeats.{fresh_member_seats, fresh_users, with_all, with_each}

module _ {A : Type 0} where
  pub with_each_long : (lists : List (List A)) (items : List A) → length (with_each lists items) ≡ length lists
  with_each_long [] items = refl
  with_each_long (list ∷ lists) [] = refl
  with_each_long (list ∷ lists) (item ∷ items) = ap suc (with_each_long lists items)

  pub with_none : (lists : List (List A)) → with_each lists [] ≡ lists
  with_none [] = refl
  with_none (list ∷ lists) = refl

  -- the next list gets the next item
  pub with_next : (lists : List (List A)) (done : List A) (item : A) (at : ℕ) (none : List A) → length done ≡ at
      → at < length lists
      → set (with_each lists done) at (get_or (with_each lists done) at none ++ item ∷ []) ≡ with_each lists (done ++ item ∷ [])
  with_next [] done item at none count within = absurd (omega (arith, within))
  with_next (list ∷ lists) [] item zero none count within =
      ap (λ (ls : List (List A)). (list ++ item ∷ []) ∷ ls) (sym (with_none lists))
  with_next (list ∷ lists) [] item (suc at) none count within = absurd (omega (arith, count))
  with_next (list ∷ lists) (d ∷ done) item zero none count within = absurd (omega (arith, count))
  with_next (list ∷ lists) (d ∷ done) item (suc at) none count within =
      ap (λ (ls : List (List A)). (list ++ d ∷ []) ∷ ls)
      (with_next lists done item at none (omega (arith, count)) (omega (arith, within)))

  pub with_all_long : (columns lists : List (List A)) → length (with_all lists columns) ≡ length lists
  with_all_long [] lists = refl
  with_all_long (column ∷ columns) lists = with_all_long columns (with_each lists column) ∙ with_each_long lists column

  -- the items of a place
  abbrev pub items_at : ℕ → A → List (List A) → List A
  items_at at none columns = map (λ (column : List A). get_or column at none) columns

  one_at : (lists : List (List A)) (column : List A) (at : ℕ) (empty : List A) (none : A) → at < length lists
      → at < length column
      → get_or (with_each lists column) at empty ≡ get_or lists at empty ++ get_or column at none ∷ []
  one_at [] column at empty none within there = absurd (omega (arith, within))
  one_at (list ∷ lists) [] at empty none within there = absurd (omega (arith, there))
  one_at (list ∷ lists) (item ∷ column) zero empty none within there = refl
  one_at (list ∷ lists) (item ∷ column) (suc at) empty none within there =
      one_at lists column at empty none (omega (arith, within)) (omega (arith, there))

  -- so a list has the items of its place
  pub all_at : (columns lists : List (List A)) (at : ℕ) (empty : List A) (none : A) → at < length lists
      → AllByRecursion (λ (column : List A). length column ≡ length lists) columns
      → get_or (with_all lists columns) at empty ≡ get_or lists at empty ++ items_at at none columns
  all_at [] lists at empty none within long = sym (append-nil (get_or lists at empty))
  all_at (column ∷ columns) lists at empty none within long =
      let same = with_each_long lists column in
      let here = long.0 in
      all_at columns (with_each lists column) at empty none (omega (arith, within, same))
      (subst (λ (n : ℕ). AllByRecursion (λ (c : List A). length c ≡ n) columns) (sym same) long.1)
      ∙ ap (λ (list : List A). list ++ items_at at none columns)
      (one_at lists column at empty none within (omega (arith, within, here)))
      ∙ append_assoc (get_or lists at empty) (get_or column at none ∷ []) (items_at at none columns)

  abbrev pub nothing : List A
  nothing = []

  pub no_list : (n at : ℕ) (empty : List A) → at < n → get_or (replicate n nothing) at empty ≡ []
  no_list zero at empty within = absurd (omega (arith, within))
  no_list (suc n) zero empty within = refl
  no_list (suc n) (suc at) empty within = no_list n at empty (omega (arith, within))

-- ---- fresh seats at members

pub users_long : (locks : List Lock) (number count : ℕ) → length (fresh_users locks number count) ≡ count
users_long locks number zero = refl
users_long locks number (suc count) = ap suc (users_long locks (number + 1) count)

pub no_member_seats : (number count : ℕ) → fresh_users [] number count ≡ replicate count []
no_member_seats number zero = refl
no_member_seats number (suc count) = ap (λ (ls : List (List Seat)). [] ∷ ls) (no_member_seats (number + 1) count)

-- one more member
pub one_member : (locks : List Lock) (lock : Lock) (number count : ℕ)
    → with_each (fresh_users locks number count) (fresh_seats lock number count) ≡ fresh_users (locks ++ lock ∷ []) number count
one_member locks lock number zero = refl
one_member locks lock number (suc count) =
    let member_seats : fresh_member_seats locks number ++ fresh_seat lock number ∷ []
    ≡ fresh_member_seats (locks ++ lock ∷ []) number =
    sym (map-append (λ (l : Lock). fresh_seat l number) locks (lock ∷ [])) in
    ap (λ (s : List Seat). s ∷ with_each (fresh_users locks (number + 1) count)
    (fresh_seats lock (number + 1) count)) member_seats
    ∙ ap (λ (ls : List (List Seat)). fresh_member_seats (locks ++ lock ∷ []) number ∷ ls)
    (one_member locks lock (number + 1) count)

last_next : (locks : List Lock) (number count : ℕ)
    → fresh_users locks number (suc count) ≡ fresh_users locks number count ++ fresh_member_seats locks (number + count) ∷ []
last_next locks number zero = ap (λ (n : ℕ). fresh_member_seats locks n ∷ []) (let g : number ≡ number + 0 = omega arith in g)
last_next locks number (suc count) =
    ap (λ (ls : List (List Seat)). fresh_member_seats locks number ∷ ls)
    (last_next locks (number + 1) count
    ∙ ap (λ (n : ℕ). fresh_users locks (number + 1) count ++ fresh_member_seats locks n ∷ [])
    (let g : number + 1 + count ≡ number + suc count = omega arith in g))

-- the last user's seats
pub last_user : (locks : List Lock) (count : ℕ) → fresh_users locks 0 (count + 1) ≡ fresh_users locks 0 count
    ++ fresh_member_seats locks count ∷ []
last_user locks count =
    ap (fresh_users locks 0) (let g : count + 1 ≡ suc count = omega arith in g) ∙ last_next locks 0 count
    ∙ ap (λ (n : ℕ). fresh_users locks 0 count ++ fresh_member_seats locks n ∷ [])
    (let g : 0 + count ≡ count = omega arith in g)

-- ---- a loop over seats

pub next_within : (all done rest after : List Seat) (member_seat : Seat) (first now : List (List Seat)) (at : ℕ)
    → all ≡ done ++ rest → rest ≡ member_seat ∷ after
    → length done ≡ at → now ≡ with_each first done → length all ≡ length first → at < length now
next_within all done rest after member_seat first now at parts next count are same =
    let whole = ap length parts ∙ length-append done rest in
    let left = ap length next in
    let long = ap length are ∙ with_each_long first done in
    omega (arith, whole, left, long, count, same)

pub next_member_seat : (all done rest after : List Seat) (member_seat : Seat) (first now : List (List Seat))
    (here more : List Seat) (at : ℕ) → all ≡ done ++ rest
    → rest ≡ member_seat ∷ after → length done ≡ at → now ≡ with_each first done → length all ≡ length first
    → here ≡ get_or now at here → more ≡ here ++ member_seat ∷ []
    → (front : List Seat) × (all ≡ front ++ after) × (length front ≡ at + 1) × (set now at more ≡ with_each first front)
next_member_seat all done rest after member_seat first now here more at parts next count are same here_is more_is =
    let within = next_within all done rest after member_seat first now at parts next count are same in
    let inside : at < length first = let long = ap length are ∙ with_each_long first done in omega (arith, within, long) in
    let grown : more ≡ get_or (with_each first done) at here ++ member_seat ∷ [] =
    more_is ∙ ap (λ (list : List Seat). list ++ member_seat ∷ [])
    (here_is ∙ ap (λ (ls : List (List Seat)). get_or ls at here) are) in
    let long = length-append done (member_seat ∷ []) in (
      done ++ member_seat ∷ [],
      parts ∙ ap (λ (ss : List Seat). done ++ ss) next ∙ sym (append_assoc done (member_seat ∷ []) after),
      omega (arith, long, count),
      ap (λ (ls : List (List Seat)). set ls at more) are ∙ ap (set (with_each first done) at) grown
          ∙ with_next first done member_seat at here count inside,
    )

-- ---- the last of a list

not_empty : {A : Type 0} (xs : List A) (x : A) → [] ≡ xs ++ x ∷ [] → ⊥
not_empty [] x same = cc
not_empty (y ∷ xs) x same = cc

pub last_apart : {A : Type 0} (xs ys : List A) (x y : A) → xs ++ x ∷ [] ≡ ys ++ y ∷ [] → (xs ≡ ys) × (x ≡ y)
last_apart [] [] x y same = (refl, cc)
last_apart [] (z ∷ ys) x y same = let rest : [] ≡ ys ++ y ∷ [] = cc in absurd (not_empty ys y rest)
last_apart (z ∷ xs) [] x y same = let rest : [] ≡ xs ++ x ∷ [] = cc in absurd (not_empty xs x rest)
last_apart {A = A} (z ∷ xs) (w ∷ ys) x y same =
    let first : z ≡ w = cc in
    let rest : xs ++ x ∷ [] ≡ ys ++ y ∷ [] = cc in
    let apart = last_apart xs ys x y rest in
    (ap (λ (v : A). v ∷ xs) first ∙ ap (λ (vs : List A). w ∷ vs) apart.0, apart.1)
