-- Places in a history, and the passes that they belong to.
use Rattle.std.proofs.Common.{◌≡◌, ℕ, ◌+◌, ◌<◌, ◌≤◌, ◌≢◌, eq-eqb, ne_eqb, Bool, ◌==◌, List, [], ◌∷◌, ◌++◌}
use Rattle.std.proofs.Common.{if◌then◌else◌, sym, refl, ap, ◌∙◌, arith}
use Rattle.std.specs.List.{AllByRecursion}
use mathlib.Core.Logic.{dite}
use native.Mathlib.Decide.{ℕ_discrete, dec_le}
use Rattle.history.proofs.Below.{below_yes, below_no}
use Rattle.work_queue.specs.Histories.{IsNamed, Place, own, works_of}
use Rattle.work_queue.specs.Logs.{HasDone, named, once_below}
use Rattle.work_queue.specs.declared.knowledge.PassPart.{PassPart}
use Rattle.work_queue.specs.declared.works.Work.{Work}

-- ---- works at places

abbrev pub place : ℕ → Work → Place
place by work = record { by = by; work = work }

pub works_more : (places : List Place) (by : ℕ) (work : Work)
    → works_of (places ++ place by work ∷ []) ≡ works_of places ++ work ∷ []
works_more [] by work = refl
works_more (p ∷ places) by work = ap (λ (works : List Work). p.work ∷ works) (works_more places by work)

-- one more place of the pass itself
pub own_more : (name : ℕ) (places : List Place) (work : Work)
    → own name (places ++ place name work ∷ []) ≡ own name places ++ work ∷ []
own_more name [] work = ap (λ (b : Bool). if b then work ∷ [] else []) (eq-eqb name name refl)
own_more name (p ∷ places) work =
    let rest = own_more name places work in
    dite (ℕ_discrete p.by name)
    (λ same. ap (λ (b : Bool). if b then p.work ∷ own name (places ++ place name work ∷ [])
    else own name (places ++ place name work ∷ [])) (eq-eqb p.by name same)
    ∙ ap (λ (works : List Work). p.work ∷ works) rest
    ∙ ap (λ (b : Bool). (if b then p.work ∷ own name places else own name places) ++ work ∷ []) (sym (eq-eqb p.by name same)))
    (λ other. ap (λ (b : Bool). if b then p.work ∷ own name (places ++ place name work ∷ [])
    else own name (places ++ place name work ∷ [])) (ne_eqb p.by name other)
    ∙ rest
    ∙ ap (λ (b : Bool). (if b then p.work ∷ own name places else own name places) ++ work ∷ []) (sym (ne_eqb p.by name other)))

-- one more place of another pass
pub own_else : (name by : ℕ) (places : List Place) (work : Work) → by ≢ name
    → own name (places ++ place by work ∷ []) ≡ own name places
own_else name by [] work other = ap (λ (b : Bool). if b then work ∷ [] else []) (ne_eqb by name other)
own_else name by (p ∷ places) work other =
    ap (λ (works : List Work). if p.by == name then p.work ∷ works else works) (own_else name by places work other)

-- a pass whose name is above all that have done something
pub own_none : (count name : ℕ) (places : List Place) → count ≤ name → AllByRecursion (IsNamed count) places
    → own name places ≡ []
own_none count name [] above all = refl
own_none count name (p ∷ places) above all =
    let by = all.0 in
    ap (λ (b : Bool). if b then p.work ∷ own name places else own name places)
    (ne_eqb p.by name (λ e. omega (arith, by, above, e)))
    ∙ own_none count name places above all.1

pub named_up : (count more : ℕ) (places : List Place) → count ≤ more → AllByRecursion (IsNamed count) places
    → AllByRecursion (IsNamed more) places
named_up count more [] up all = tt
named_up count more (p ∷ places) up all = (let by = all.0 in omega (arith, by, up), named_up count more places up all.1)

-- ---- names of passes

pub named_both : (name : ℕ) (parts others : List PassPart) → named name (parts ++ others) ≡ named name parts + named name others
named_both name [] others = omega arith
named_both name (part ∷ parts) others = let rest = named_both name parts others in omega (arith, rest)

pub named_here : (name : ℕ) (part : PassPart) (parts : List PassPart) → part.name ≡ name → 1 ≤ named name (part ∷ parts)
named_here name part parts same = let yes : ◌≡◌ {A = ℕ} (if part.name == name then 1 else 0) 1 =
    ap (λ (b : Bool). if b then 1 else 0) (eq-eqb part.name name same) in omega (arith, yes)

-- a name that one pass has is below the number of passes
pub below_named : (count name : ℕ) → 1 ≤ once_below count name → name < count
below_named count name some = dite (dec_le count name)
    (λ above. let none_there = below_no count name above in absurd (omega (arith, none_there, some)))
    (λ not_above. omega (arith, not_above))

-- no name appears twice
pub once_few : (count name : ℕ) → once_below count name ≤ 1
once_few count name = dite (dec_le count name)
    (λ above. let none_there = below_no count name above in omega (arith, none_there))
    (λ not_above. let one = below_yes count name (omega (arith, not_above)) in omega (arith, one))

-- ---- what passes have done, after a step of another

pub handed_other : (handed gone : List Place) (by : ℕ) (work : Work) (parts : List PassPart) → named by parts ≡ 0
    → AllByRecursion (HasDone handed gone) parts
    → AllByRecursion (HasDone (handed ++ place by work ∷ []) gone) parts
handed_other handed gone by work [] none_there all = tt
handed_other handed gone by work (part ∷ parts) none_there all =
    let here = all.0 in
    let other : by ≢ part.name = λ same. let one = named_here by part parts (sym same) in
    absurd (omega (arith, one, none_there)) in (
      record { handed_is = here.handed_is ∙ sym (own_else part.name by handed work other); fetched_is = here.fetched_is },
      handed_other handed gone by work parts (omega (arith, none_there)) all.1,
    )

pub fetched_other : (handed gone : List Place) (by : ℕ) (work : Work) (parts : List PassPart) → named by parts ≡ 0
    → AllByRecursion (HasDone handed gone) parts
    → AllByRecursion (HasDone handed (gone ++ place by work ∷ [])) parts
fetched_other handed gone by work [] none_there all = tt
fetched_other handed gone by work (part ∷ parts) none_there all =
    let here = all.0 in
    let other : by ≢ part.name = λ same. let one = named_here by part parts (sym same) in
    absurd (omega (arith, one, none_there)) in (
      record { handed_is = here.handed_is; fetched_is = here.fetched_is ∙ sym (own_else part.name by gone work other) },
      fetched_other handed gone by work parts (omega (arith, none_there)) all.1,
    )
