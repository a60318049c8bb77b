-- Passes as contracts see them, and what a closed queue reports of them.
use Rattle.std.proofs.Common.{◌≡◌, ℕ, ◌+◌, ◌<◌, ◌≤◌, ◌⊎◌, inl, inr, eq-eqb, ne_eqb, Bool, ◌==◌, cond, if◌then◌else◌, List, []}
use Rattle.std.proofs.Common.{◌∷◌, ◌++◌, length, count_by, sym, refl, ap, ◌∙◌, subst, ⊎_elim, append_assoc, append-nil, arith}
use Rattle.std.specs.List.{AllByRecursion}
use Rattle.std.proofs.lemmas.List.Sums.{sum_by-cons}
use mathlib.Core.Logic.{dite}
use native.Mathlib.Decide.{ℕ_discrete}
use Rattle.history.proofs.Below.{below_yes}
use Rattle.work_queue.specs.Histories.{History, IsNamed, Place, own, works_of}
use Rattle.work_queue.specs.Logs.{HasDone, log, named}
use Rattle.work_queue.specs.Passes.{HasPlaces, IsAmong, IsFound, IsHistory, PassValue, WasFetched, WasHanded, part_of, parts_of}
use Rattle.work_queue.specs.Steps.{Tells}
use Rattle.work_queue.specs.declared.knowledge.Log.{Log}
use Rattle.work_queue.specs.declared.knowledge.PassPart.{PassPart}
use Rattle.work_queue.specs.declared.works.Work.{Work}

-- ---- passes and their parts

pub parts_more : (passes : List PassValue) (x : PassValue) → parts_of (passes ++ x ∷ []) ≡ parts_of passes ++ part_of x ∷ []
parts_more [] x = refl
parts_more (pass ∷ passes) x = ap (λ (parts : List PassPart). part_of pass ∷ parts) (parts_more passes x)

pub as_many : (passes : List PassValue) → length (parts_of passes) ≡ length passes
as_many [] = refl
as_many (pass ∷ passes) = let rest = as_many passes in omega (arith, rest)

named_count : (name : ℕ) (passes : List PassValue) → count_by (λ pass. pass.name == name) passes ≡ named name (parts_of passes)
named_count name [] = refl
named_count name (pass ∷ passes) =
    sum_by-cons (λ (p : PassValue). cond (p.name == name) 1 0) pass passes
    ∙ ap (λ (n : ℕ). (if pass.name == name then 1 else 0) + n) (named_count name passes)

places_of : (handed gone : List Place) (passes : List PassValue) → AllByRecursion (HasDone handed gone) (parts_of passes)
    → AllByRecursion (HasPlaces handed gone) passes
places_of handed gone [] all = tt
places_of handed gone (pass ∷ passes) all =
    (record { handed_is = all.0.handed_is; fetched_is = all.0.fetched_is }, places_of handed gone passes all.1)

-- a pass that represents all, and that took out all works, reports the history
pub told : (passes : List PassValue) (count : ℕ) (left : List Work) → length passes ≡ count
    → Tells (log count (parts_of passes) left) [] → IsHistory passes left
told passes count left all tells = record {
  handed = tells.handed;
  gone = tells.gone;
  history = subst (λ (c : ℕ). History c left tells.handed tells.gone) (sym all)
      (subst (λ (l : List Work). History count l tells.handed tells.gone) (append-nil left) tells.history);
  places = places_of tells.handed tells.gone passes tells.done;
  once = λ name below. named_count name passes ∙ tells.once name ∙ below_yes count name (omega (arith, below, all));
}

-- ---- a work among others

among_left : (work : Work) (xs ys : List Work) → IsAmong work xs → IsAmong work (xs ++ ys)
among_left work [] ys among = absurd among
among_left work (x ∷ xs) ys among = ⊎_elim (λ same. inl same) (λ rest. inr (among_left work xs ys rest)) among

among_right : (work : Work) (xs ys : List Work) → IsAmong work ys → IsAmong work (xs ++ ys)
among_right work [] ys among = among
among_right work (x ∷ xs) ys among = inr (among_right work xs ys among)

among_both : (work : Work) (xs ys : List Work) → IsAmong work (xs ++ ys) → IsAmong work xs ⊎ IsAmong work ys
among_both work [] ys among = inr among
among_both work (x ∷ xs) ys among = ⊎_elim
    (λ same. inl (inl same))
    (λ rest. ⊎_elim (λ h. inl (inr h)) (λ h. inr h) (among_both work xs ys rest))
    among

-- a work at a pass's own places is one of all places
own_among : (name : ℕ) (work : Work) (places : List Place) → IsAmong work (own name places) → IsAmong work (works_of places)
own_among name work [] among = absurd among
own_among name work (p ∷ places) among = dite (ℕ_discrete p.by name)
    (λ same. ⊎_elim (λ h. inl h) (λ h. inr (own_among name work places h))
    (subst (λ (b : Bool). IsAmong work (if b then p.work ∷ own name places else own name places))
    (eq-eqb p.by name same) among))
    (λ other. inr (own_among name work places
    (subst (λ (b : Bool). IsAmong work (if b then p.work ∷ own name places else own name places))
    (ne_eqb p.by name other) among)))

-- a work at a place is among those of the pass whose place it is
record IsOwned (count : ℕ) (work : Work) (places : List Place) : Type 0 where
  pub by : ℕ
  pub below : by < count
  pub among : IsAmong work (own by places)

owned_more : (count : ℕ) (work : Work) (p : Place) (places : List Place) → IsOwned count work places
    → IsOwned count work (p ∷ places)
owned_more count work p places owned = record {
  by = owned.by;
  below = owned.below;
  among = dite (ℕ_discrete p.by owned.by)
      (λ same. subst (λ (b : Bool). IsAmong work (if b then p.work ∷ own owned.by places else own owned.by places))
      (sym (eq-eqb p.by owned.by same)) (inr owned.among))
      (λ other. subst (λ (b : Bool). IsAmong work (if b then p.work ∷ own owned.by places else own owned.by places))
      (sym (ne_eqb p.by owned.by other)) owned.among);
}

owned_first : (count : ℕ) (work : Work) (p : Place) (places : List Place) → p.by < count → p.work ≡ work
    → IsOwned count work (p ∷ places)
owned_first count work p places below same = record {
  by = p.by;
  below = below;
  among = subst (λ (b : Bool). IsAmong work (if b then p.work ∷ own p.by places else own p.by places))
      (sym (eq-eqb p.by p.by refl)) (inl same);
}

owned_by : (count : ℕ) (work : Work) (places : List Place) → AllByRecursion (IsNamed count) places
    → IsAmong work (works_of places) → IsOwned count work places
owned_by count work [] named_all among = absurd among
owned_by count work (p ∷ places) named_all among = ⊎_elim
    (λ same. owned_first count work p places named_all.0 same)
    (λ rest. owned_more count work p places (owned_by count work places named_all.1 rest))
    among

-- ---- what passes handed and fetched

module _ (handed gone : List Place) (work : Work) where
  handed_among : (passes : List PassValue) → AllByRecursion (HasPlaces handed gone) passes → WasHanded work passes
      → IsAmong work (works_of handed)
  handed_among [] all was = absurd was
  handed_among (pass ∷ passes) all was = ⊎_elim
      (λ here. own_among pass.name work handed (subst (IsAmong work) all.0.handed_is here))
      (λ rest. handed_among passes all.1 rest)
      was

  fetched_among : (passes : List PassValue) → AllByRecursion (HasPlaces handed gone) passes → WasFetched work passes
      → IsAmong work (works_of gone)
  fetched_among [] all was = absurd was
  fetched_among (pass ∷ passes) all was = ⊎_elim
      (λ here. own_among pass.name work gone (subst (IsAmong work) all.0.fetched_is here))
      (λ rest. fetched_among passes all.1 rest)
      was

  handed_by : (name : ℕ) (passes : List PassValue) → AllByRecursion (HasPlaces handed gone) passes
      → 1 ≤ named name (parts_of passes)
      → IsAmong work (own name handed) → WasHanded work passes
  handed_by name [] all some_pass among = absurd (omega (arith, some_pass))
  handed_by name (pass ∷ passes) all some_pass among = dite (ℕ_discrete pass.name name)
      (λ same. inl (subst (IsAmong work) (ap (λ (n : ℕ). own n handed) (sym same) ∙ sym all.0.handed_is) among))
      (λ other.
      let none : ◌≡◌ {A = ℕ} (if pass.name == name then 1 else 0) 0 =
      ap (λ (b : Bool). if b then 1 else 0) (ne_eqb pass.name name other) in
      inr (handed_by name passes all.1 (omega (arith, some_pass, none)) among))

  fetched_by : (name : ℕ) (passes : List PassValue) → AllByRecursion (HasPlaces handed gone) passes
      → 1 ≤ named name (parts_of passes)
      → IsAmong work (own name gone) → WasFetched work passes
  fetched_by name [] all some_pass among = absurd (omega (arith, some_pass))
  fetched_by name (pass ∷ passes) all some_pass among = dite (ℕ_discrete pass.name name)
      (λ same. inl (subst (IsAmong work) (ap (λ (n : ℕ). own n gone) (sym same) ∙ sym all.0.fetched_is) among))
      (λ other.
      let none : ◌≡◌ {A = ℕ} (if pass.name == name then 1 else 0) 0 =
      ap (λ (b : Bool). if b then 1 else 0) (ne_eqb pass.name name other) in
      inr (fetched_by name passes all.1 (omega (arith, some_pass, none)) among))

module _ (passes : List PassValue) (left : List Work) (h : IsHistory passes left) (work : Work) where
  some_named : (name : ℕ) → name < length passes → 1 ≤ named name (parts_of passes)
  some_named name below = let once = h.once name below in let same = named_count name passes in omega (arith, once, same)

  pub found_of_handed : WasHanded work passes → IsFound work passes left
  found_of_handed was =
      let among = subst (IsAmong work) h.history.order (handed_among h.handed h.gone work passes h.places was) in
      ⊎_elim
      (λ gone_there.
      let owned = owned_by (length passes) work h.gone h.history.to_passes gone_there in
      inl (fetched_by h.handed h.gone work owned.by passes h.places (some_named owned.by owned.below) owned.among))
      (λ left_there. inr left_there)
      (among_both work (works_of h.gone) left among)

  pub handed_of_found : IsFound work passes left → WasHanded work passes
  handed_of_found found =
      let among : IsAmong work (works_of h.gone ++ left) = ⊎_elim
      (λ was. among_left work (works_of h.gone) left (fetched_among h.handed h.gone work passes h.places was))
      (λ left_there. among_right work (works_of h.gone) left left_there)
      found in
      let owned = owned_by (length passes) work h.handed h.history.by_passes
      (subst (IsAmong work) (sym h.history.order) among) in
      handed_by h.handed h.gone work owned.by passes h.places (some_named owned.by owned.below) owned.among

-- ---- passes that are joined, one after another

-- the parts of a pass are those of what its owner sees
pub joined : (passes all : List PassValue) (x : PassValue) (v : Log) (more : List PassPart) → all ≡ passes ++ x ∷ []
    → v.parts ≡ part_of x ∷ []
    → parts_of passes ++ (v.parts ++ more) ≡ parts_of all ++ more
joined passes all x v more items is =
    ap (λ (parts : List PassPart). parts_of passes ++ (parts ++ more)) is
    ∙ sym (append_assoc (parts_of passes) (part_of x ∷ []) more)
    ∙ ap (λ (parts : List PassPart). parts ++ more) (sym (parts_more passes x) ∙ ap parts_of (sym items))

pub joined_first : (passes all : List PassValue) (x : PassValue) (v : Log) → all ≡ passes ++ x ∷ [] → v.parts ≡ part_of x ∷ []
    → parts_of passes ++ v.parts ≡ parts_of all
joined_first passes all x v items is =
    ap (λ (parts : List PassPart). parts_of passes ++ parts) (sym (append-nil v.parts))
    ∙ joined passes all x v [] items is ∙ append-nil (parts_of all)

-- what a pass that represents one knows
pub one_part : (v : Log) (x : PassValue) (part : PassPart) → v ≡ log v.all (part ∷ []) [] → part ≡ part_of x
    → v.parts ≡ part_of x ∷ []
one_part v x part is same = ap (λ (u : Log). u.parts) is ∙ ap (λ (p : PassPart). p ∷ []) same
