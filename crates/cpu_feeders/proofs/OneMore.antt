-- Lists that loops make one item at a time.
use Rattle.std.proofs.Common.{◌≡◌, ℕ, ◌+◌, ◌<◌, List, [], ◌∷◌, ◌++◌, length, length-append, append_assoc, append-nil, refl, sym}
use Rattle.std.proofs.Common.{ap, ◌∙◌, subst, arith}
use Rattle.std.specs.Prelude.{flat_map, map}
use Rattle.std.specs.List.{AllByRecursion, AllZip}
use Rattle.std.proofs.lemmas.List.{map-append}
use Rattle.std.proofs.lemmas.Slice.Zip.{all_zipped_more}
use Rattle.member_turns.specs.Seats.{Lock, Seat}
use Rattle.turn_lock.specs.Seats.{fresh_seats}
use Rattle.cpu_feeders.specs.inside.MemberSeats.{fresh_users, with_all, with_each}
use Rattle.cpu_feeders.proofs.MemberSeatLists.{one_member}

-- ---- items that are handed on from one list to another

pub empty : {A : Type 0} (xs : List A) → length xs ≡ 0 → xs ≡ []
empty [] none = refl
empty (x ∷ xs) none = absurd (omega (arith, none))

pub next_items : {A B : Type 0} (f : A → B) (done now all : List B) (rest after : List A) (x : A) → rest ≡ x ∷ after
    → now ≡ done ++ f x ∷ []
    → done ++ map f rest ≡ all → now ++ map f after ≡ all
next_items {A = A} {B = B} f done now all rest after x next now_is h =
    ap (λ (ys : List B). ys ++ map f after) now_is ∙ append_assoc done (f x ∷ []) (map f after)
    ∙ ap (λ (xs : List A). done ++ map f xs) (sym next) ∙ h

pub first_items : {A B : Type 0} (f : A → B) (now : List B) (rest all : List A) → now ≡ [] → rest ≡ all
    → now ++ map f rest ≡ map f all
first_items {A = A} {B = B} f now rest all none same =
    ap (λ (ys : List B). ys ++ map f rest) none ∙ ap (λ (xs : List A). map f xs) same

pub last_items : {A B : Type 0} (f : A → B) (done all : List B) (rest : List A) → rest ≡ []
    → done ++ map f rest ≡ all → done ≡ all
last_items {A = A} f done all rest none h = sym (append-nil done) ∙ ap (λ (xs : List A). done ++ map f xs) (sym none) ∙ h

-- and the same where each item becomes some
pub next_kind : {A B : Type 0} (kind : A → List B) (done now all : List B) (rest after : List A) (x : A) → rest ≡ x ∷ after
    → now ≡ done ++ kind x → done ++ flat_map kind rest ≡ all → now ++ flat_map kind after ≡ all
next_kind {A = A} {B = B} kind done now all rest after x next now_is h =
    ap (λ (ys : List B). ys ++ flat_map kind after) now_is ∙ append_assoc done (kind x) (flat_map kind after)
    ∙ ap (λ (xs : List A). done ++ flat_map kind xs) (sym next) ∙ h

pub last_kind : {A B : Type 0} (kind : A → List B) (done all : List B) (rest : List A) → rest ≡ []
    → done ++ flat_map kind rest ≡ all → done ≡ all
last_kind {A = A} kind done all rest none h =
    sym (append-nil done) ∙ ap (λ (xs : List A). done ++ flat_map kind xs) (sym none) ∙ h

pub next_all : {A : Type 0} (P : A → Type 0) (rest after : List A) (x : A) → rest ≡ x ∷ after → AllByRecursion P rest
    → P x × AllByRecursion P after
next_all {A = A} P rest after x next all =
    let both : AllByRecursion P (x ∷ after) = subst (λ (xs : List A). AllByRecursion P xs) next all in
    (both.0, both.1)

grows : {A : Type 0} (P : A → Type 0) (xs : List A) (x : A) → AllByRecursion P xs → P x → AllByRecursion P (xs ++ x ∷ [])
grows P [] x all one = (one, tt)
grows P (y ∷ xs) x all one = (all.0, grows P xs x all.1 one)

pub all_more : {A : Type 0} (P : A → Type 0) (xs now : List A) (x : A) → now ≡ xs ++ x ∷ [] → AllByRecursion P xs → P x
    → AllByRecursion P now
all_more {A = A} P xs now x is all one = subst (λ (ys : List A). AllByRecursion P ys) (sym is) (grows P xs x all one)

pub zip_more : {A B : Type 0} (R : A → B → Type 0) (xs now : List A) (ys later : List B) (x : A) (y : B) → now ≡ xs ++ x ∷ []
    → later ≡ ys ++ y ∷ []
    → AllZip R xs ys → R x y → AllZip R now later
zip_more {A = A} {B = B} R xs now ys later x y xs_is ys_is all one =
    subst (λ (zs : List A). AllZip R zs later) (sym xs_is)
    (subst (λ (ws : List B). AllZip R (xs ++ x ∷ []) ws) (sym ys_is) (all_zipped_more R xs ys x y all one))

-- ---- seats at members

pub grown_users : (locks more : List Lock) (lock : Lock) (count : ℕ) (users now : List (List Seat)) (member_seats : List Seat)
    → users ≡ fresh_users locks 0 count
    → member_seats ≡ fresh_seats lock 0 count → now ≡ with_each users member_seats → more ≡ locks ++ lock ∷ []
    → now ≡ fresh_users more 0 count
grown_users locks more lock count users now member_seats users_are member_seats_are now_is more_is =
    now_is ∙ ap (λ (us : List (List Seat)). with_each us member_seats) users_are
    ∙ ap (with_each (fresh_users locks 0 count)) member_seats_are
    ∙ one_member locks lock 0 count ∙ ap (λ (ls : List Lock). fresh_users ls 0 count) (sym more_is)

pub next_rows : {A : Type 0} (column_of : A → List Seat) (all rows now : List (List Seat)) (rest after : List A) (x : A)
    → rest ≡ x ∷ after
    → now ≡ with_each rows (column_of x) → with_all rows (map column_of rest) ≡ all → with_all now (map column_of after) ≡ all
next_rows {A = A} column_of all rows now rest after x next now_is h =
    ap (λ (rs : List (List Seat)). with_all rs (map column_of after)) now_is
    ∙ ap (λ (xs : List A). with_all rows (map column_of xs)) (sym next) ∙ h

with_both : (rows : List (List Seat)) (first second : List (List Seat))
    → with_all rows (first ++ second) ≡ with_all (with_all rows first) second
with_both rows [] second = refl
with_both rows (column ∷ first) second = with_both (with_each rows column) first second

-- the first columns are added, the second ones follow
pub then_rows : {A : Type 0} (column_of : A → List Seat) (rows now first second : List (List Seat)) (rest : List A) → rest ≡ []
    → with_all now (map column_of rest) ≡ with_all rows first → with_all now second ≡ with_all rows (first ++ second)
then_rows {A = A} column_of rows now first second rest none h =
    let same : now ≡ with_all rows first = ap (λ (xs : List A). with_all now (map column_of xs)) (sym none) ∙ h in
    ap (λ (rs : List (List Seat)). with_all rs second) same ∙ sym (with_both rows first second)

-- a made item has the next of what was handed in
pub next_item : {A B : Type 0} (f : A → B) (made now : List A) (rest after all : List B) (x : A) (y : B) → rest ≡ y ∷ after
    → now ≡ made ++ x ∷ []
    → f x ≡ y → map f made ++ rest ≡ all → map f now ++ after ≡ all
next_item {A = A} {B = B} f made now rest after all x y next now_is is h =
    ap (λ (xs : List A). map f xs ++ after) now_is ∙ ap (λ (ys : List B). ys ++ after) (map-append f made (x ∷ []))
    ∙ append_assoc (map f made) (f x ∷ []) after ∙ ap (λ (b : B). map f made ++ b ∷ after) is
    ∙ ap (λ (ys : List B). map f made ++ ys) (sym next) ∙ h

-- all were made
pub made_all : {A B : Type 0} (f : A → B) (made : List A) (rest all : List B) → rest ≡ [] → map f made ++ rest ≡ all
    → map f made ≡ all
made_all {B = B} f made rest all none h = sym (append-nil (map f made)) ∙ ap (λ (ys : List B). map f made ++ ys) (sym none) ∙ h

-- ---- how many items there are when one moves to the other list

module _ {A B : Type 0} where
  pub as_many : (count : ℕ) (done now : List B) (rest after : List A) (x : A) (y : B) → rest ≡ x ∷ after → now ≡ done ++ y ∷ []
      → length done + length rest ≡ count → length now + length after ≡ count
  as_many count done now rest after x y next now_is many =
      let one_less = ap (λ (xs : List A). length xs) next in
      let one_more = ap (λ (ys : List B). length ys) now_is in
      let sum = length-append done (y ∷ []) in
      omega (arith, many, one_less, one_more, sum)

  -- from the end
  pub as_many_at_end : (count : ℕ) (done now : List B) (rest after : List A) (x : A) (y : B) → rest ≡ after ++ x ∷ []
      → now ≡ done ++ y ∷ []
      → length done + length rest ≡ count → length now + length after ≡ count
  as_many_at_end count done now rest after x y next now_is many =
      let one_less = ap (λ (xs : List A). length xs) next in
      let one_more = ap (λ (ys : List B). length ys) now_is in
      let less = length-append after (x ∷ []) in
      let sum = length-append done (y ∷ []) in
      omega (arith, many, one_less, one_more, less, sum)

  pub some_left : (ys : List B) (rest after : List A) (x : A) → rest ≡ x ∷ after → length ys ≡ length rest → 0 < length ys
  some_left ys rest after x next same = let one = ap (λ (zs : List A). length zs) next in omega (arith, same, one)

  pub both_shorter : (xs less : List A) (ys fewer : List B) (x : A) (y : B) → xs ≡ x ∷ less → ys ≡ y ∷ fewer
      → length xs ≡ length ys → length less ≡ length fewer
  both_shorter xs less ys fewer x y xs_are ys_are same =
      let one = ap (λ (zs : List A). length zs) xs_are in
      let other = ap (λ (zs : List B). length zs) ys_are in
      omega (arith, same, one, other)

  -- the first one at its end
  pub both_shorter_at_end : (xs less : List A) (ys fewer : List B) (x : A) (y : B) → xs ≡ less ++ x ∷ [] → ys ≡ y ∷ fewer
      → length xs ≡ length ys
      → length less ≡ length fewer
  both_shorter_at_end xs less ys fewer x y xs_are ys_are same =
      let one = ap (λ (zs : List A). length zs) xs_are in
      let sum = length-append less (x ∷ []) in
      let other = ap (λ (zs : List B). length zs) ys_are in
      omega (arith, same, one, sum, other)
