-- The works of members: each is at the place of its number.
use Rattle.std.proofs.Common.{◌≡◌, ℕ, zero, suc, ◌+◌, inl, inr, List, [], ◌∷◌, ◌++◌, length, length-append, refl, sym, ap, ◌∙◌}
use Rattle.std.proofs.Common.{subst, ⊎_elim, arith}
use Rattle.std.specs.Prelude.{map, ⊤}
use Rattle.std.specs.List.{AllByRecursion}
use mathlib.Core.Option.{some, some-injective, some-ne-none}
use lib.ListN.{get_elem?}
use Rattle.block_pool.specs.Takers.{AreNumbered, HandingValue, IsHanding, IsWorkOf}
use Rattle.tp_layout.specs.declared.requests.RingRequest.{RingRequest}
use Rattle.work_queue.specs.Passes.{IsAmong, PassValue, QueueValue, WasFetched, WasHanded, has_handed}
use Rattle.work_queue.specs.declared.works.Work.{Work}

-- the works that each taker has handed
abbrev pub handed_of : List HandingValue → List (List Work)
handed_of takers = map (λ (taker : HandingValue). taker.pass.handed) takers

abbrev pub passes_of : List HandingValue → List PassValue
passes_of takers = map (λ (taker : HandingValue). taker.pass) takers

-- takers of the members from this number up, with works of this shape that are numbered
abbrev pub AreMembers : ℕ → RingRequest → List HandingValue → Type 0
AreMembers member shape [] = ⊤
AreMembers member shape (taker ∷ takers) =
    (AreNumbered member shape 1 taker.pass.handed × (taker.pass.fetched ≡ [])) × AreMembers (member + 1) shape takers

-- the work is at the place of its number
pub record IsWorkAt (works : List Work) (first : ℕ) (member : ℕ) (shape : RingRequest) (work : Work) : Type 0 where
  pub place : ℕ
  pub at : get_elem? works place ≡ some work
  pub is_of : IsWorkOf member shape (first + place) work

among_works : (member : ℕ) (shape : RingRequest) (first : ℕ) (works : List Work) (work : Work)
    → AreNumbered member shape first works → IsAmong work works
    → IsWorkAt works first member shape work
among_works member shape first [] work numbered among = absurd among
among_works member shape first (w ∷ works) work numbered among = ⊎_elim
    (λ same. record {
      place = 0;
      at = ap some same;
      is_of = subst (IsWorkOf member shape (first + 0)) same
          (let e : first ≡ first + 0 = omega arith in subst (λ (n : ℕ). IsWorkOf member shape n w) e numbered.0);
    })
    (λ rest. let is_there = among_works member shape (first + 1) works work numbered.1 rest in record {
      place = suc is_there.place;
      at = is_there.at;
      is_of = let e : first + 1 + is_there.place ≡ first + suc is_there.place = omega arith in
          subst (λ (n : ℕ). IsWorkOf member shape n work) e is_there.is_of;
    })
    among

-- a work of one of the members, at its place
pub record IsPlaced (all : List (List Work)) (first : ℕ) (shape : RingRequest) (work : Work) : Type 0 where
  pub index : ℕ
  pub works : List Work
  pub at : get_elem? all index ≡ some works
  pub place : ℕ
  pub is_there : get_elem? works place ≡ some work
  pub member_is : work.member ≡ first + index
  pub number_is : work.number ≡ place + 1
  pub shape_is : work.shape ≡ shape

-- a work that was handed with the pass of one of these takers, or with one of others, which handed
-- none
pub placed : (member : ℕ) (shape : RingRequest) (takers : List HandingValue) (others : List PassValue) (work : Work)
    → AreMembers member shape takers
    → AllByRecursion (λ (pass : PassValue). pass.handed ≡ []) others
    → WasHanded work (passes_of takers ++ others) → IsPlaced (handed_of takers) member shape work
placed member shape [] [] work members none was = absurd was
placed member shape [] (pass ∷ others) work members none was = ⊎_elim
    (λ (among : IsAmong work pass.handed). let never : ⊥ = subst (IsAmong work) none.0 among in absurd never)
    (λ rest. placed member shape [] others work members none.1 rest)
    was
placed member shape (taker ∷ takers) others work members none was = ⊎_elim
    (λ among.
    let is_there = among_works member shape 1 taker.pass.handed work members.0.0 among in
    let number = is_there.is_of.number_is in record {
      index = 0;
      works = taker.pass.handed;
      at = refl;
      place = is_there.place;
      is_there = is_there.at;
      member_is = let e : member ≡ member + 0 = omega arith in is_there.is_of.member_is ∙ e;
      number_is = omega (arith, number);
      shape_is = is_there.is_of.shape_is;
    })
    (λ rest. let later = placed (member + 1) shape takers others work members.1 none rest in record {
      index = suc later.index;
      works = later.works;
      at = later.at;
      place = later.place;
      is_there = later.is_there;
      member_is = let e : member + 1 + later.index ≡ member + suc later.index = omega arith in later.member_is ∙ e;
      number_is = later.number_is;
      shape_is = later.shape_is;
    })
    was

-- ---- and the other way round: a work at a place was handed

at_among : (works : List Work) (place : ℕ) (work : Work) → get_elem? works place ≡ some work → IsAmong work works
at_among [] place work at = absurd (some-ne-none work (sym at))
at_among (w ∷ works) zero work at = inl (some-injective w work at)
at_among (w ∷ works) (suc place) work at = inr (at_among works place work at)

pub was_handed : (takers : List HandingValue) (others : List PassValue) (index place : ℕ) (works : List Work) (work : Work)
    → get_elem? (handed_of takers) index ≡ some works → get_elem? works place ≡ some work
    → WasHanded work (passes_of takers ++ others)
was_handed [] others index place works work at is_there = absurd (some-ne-none works (sym at))
was_handed (taker ∷ takers) others zero place works work at is_there =
    inl (subst (IsAmong work) (sym (some-injective taker.pass.handed works at)) (at_among works place work is_there))
was_handed (taker ∷ takers) others (suc index) place works work at is_there =
    inr (was_handed takers others index place works work at is_there)

-- its member's number and its own are those of the place
pub number_at_place : (member : ℕ) (shape : RingRequest) (first place : ℕ) (works : List Work) (work : Work)
    → AreNumbered member shape first works
    → get_elem? works place ≡ some work → IsWorkOf member shape (first + place) work
number_at_place member shape first place [] work numbered is_there = absurd (some-ne-none work (sym is_there))
number_at_place member shape first zero (w ∷ works) work numbered is_there =
    let e : first ≡ first + 0 = omega arith in
    subst (λ (n : ℕ). IsWorkOf member shape n work) e
    (subst (IsWorkOf member shape first) (some-injective w work is_there) numbered.0)
number_at_place member shape first (suc place) (w ∷ works) work numbered is_there =
    let e : first + 1 + place ≡ first + suc place = omega arith in
    subst (λ (n : ℕ). IsWorkOf member shape n work) e
    (number_at_place member shape (first + 1) place works work numbered.1 is_there)

pub numbered_at : (member : ℕ) (shape : RingRequest) (takers : List HandingValue) (index place : ℕ) (works : List Work)
    (work : Work) → AreMembers member shape takers
    → get_elem? (handed_of takers) index ≡ some works → get_elem? works place ≡ some work
    → IsWorkOf (member + index) shape (1 + place) work
numbered_at member shape [] index place works work members at is_there = absurd (some-ne-none works (sym at))
numbered_at member shape (taker ∷ takers) zero place works work members at is_there =
    let e : member ≡ member + 0 = omega arith in
    subst (λ (n : ℕ). IsWorkOf n shape (1 + place) work) e
    (number_at_place member shape 1 place works work
    (subst (AreNumbered member shape 1) (some-injective taker.pass.handed works at) members.0.0) is_there)
numbered_at member shape (taker ∷ takers) (suc index) place works work members at is_there =
    let e : member + 1 + index ≡ member + suc index = omega arith in
    subst (λ (n : ℕ). IsWorkOf n shape (1 + place) work) e
    (numbered_at (member + 1) shape takers index place works work members.1 at is_there)

-- a work that was fetched was fetched by one of the others
pub fetched_else : (member : ℕ) (shape : RingRequest) (takers : List HandingValue) (others : List PassValue) (work : Work)
    → AreMembers member shape takers
    → WasFetched work (passes_of takers ++ others) → WasFetched work others
fetched_else member shape [] others work members was = was
fetched_else member shape (taker ∷ takers) others work members was = ⊎_elim
    (λ (among : IsAmong work taker.pass.fetched). let never : ⊥ = subst (IsAmong work) members.0.1 among in absurd never)
    (λ rest. fetched_else (member + 1) shape takers others work members.1 rest)
    was

-- a work that one of some passes fetched, among all that they fetched
pub fetched_among : (passes : List PassValue) (work : Work) → WasFetched work passes
    → (works : List Work) × (pass_at : ℕ) × (pass : PassValue)
    × (get_elem? passes pass_at ≡ some pass) × IsAmong work pass.fetched
fetched_among [] work was = absurd was
fetched_among (pass ∷ passes) work was = ⊎_elim
    (λ among. (pass.fetched, 0, pass, refl, among))
    (λ rest. let later = fetched_among passes work rest in (later.0, suc later.1, later.2, later.3, later.4))
    was

-- ---- one more work

numbered_more : (member : ℕ) (shape : RingRequest) (first : ℕ) (works : List Work) (work : Work)
    → AreNumbered member shape first works
    → IsWorkOf member shape (first + length works) work → AreNumbered member shape first (works ++ work ∷ [])
numbered_more member shape first [] work numbered is =
    let e : first + 0 ≡ first = omega arith in (subst (λ (n : ℕ). IsWorkOf member shape n work) e is, tt)
numbered_more member shape first (w ∷ works) work numbered is =
    let e : first + length (w ∷ works) ≡ first + 1 + length works = omega arith in (
      numbered.0,
      numbered_more member shape (first + 1) works work numbered.1
          (subst (λ (n : ℕ). IsWorkOf member shape n work) e is),
    )

-- a taker after it has handed the next work
pub handed_more : (queue : QueueValue) (pass now : PassValue) (member : ℕ) (shape : RingRequest) (handed : ℕ) (work : Work)
    → IsHanding queue pass member shape handed
    → now ≡ has_handed pass work → IsWorkOf member shape (handed + 1) work → IsHanding queue now member shape (handed + 1)
handed_more queue pass now member shape handed work is now_is of =
    let count = is.counted in
    let e : handed + 1 ≡ 1 + length pass.handed = omega (arith, count) in
    let long = length-append pass.handed (work ∷ []) in
    subst (λ (p : PassValue). IsHanding queue p member shape (handed + 1)) (sym now_is) (record {
      own = is.own;
      counted = omega (arith, count, long);
      numbered = numbered_more member shape 1 pass.handed work is.numbered
          (subst (λ (n : ℕ). IsWorkOf member shape n work) e of);
      none_fetched = is.none_fetched;
    })
