-- A work is handed, fetched, or taken out: each step keeps the rule of the queue.
use Rattle.std.proofs.Common.{◌≡◌, ◌≢◌, ℕ, ◌+◌, ◌<◌, ◌≤◌, ◌⊎◌, inl, inr, List, [], ◌∷◌, ◌++◌, length, set, sum_by, sym, refl}
use Rattle.std.proofs.Common.{ap, ◌∙◌, subst, ⊎_elim, append_assoc, arith}
use Rattle.std.specs.List.{AllByRecursion}
use Rattle.std.proofs.lemmas.List.{nil_from_length}
use mathlib.Core.Logic.{dite}
use mathlib.Core.Option.{some, some-injective}
use native.Mathlib.Decide.{ℕ_discrete}
use lib.ListN.{get_elem?}
use Rattle.crossbeam_queue.specs.Fifo.{Learns, Pops, Pushes}
use Rattle.crossbeam_queue.proofs.Lists.{at_set, set_here}
use Rattle.history.proofs.Lists.{all_and, at_below}
use Rattle.history.proofs.Totals.{total_above, total_both, total_one, total_set}
use Rattle.work_queue.specs.Happened.{Happened, LogOk, OneHasAll}
use Rattle.work_queue.specs.Histories.{History, IsNamed, Place, works_of}
use Rattle.work_queue.specs.Logs.{HasDone, log, named, once_below}
use Rattle.work_queue.specs.Steps.{Drained, Fetched, Handed, Tells}
use Rattle.work_queue.specs.Works.{IsLawfulWork}
use Rattle.work_queue.specs.declared.knowledge.Log.{Log}
use Rattle.work_queue.specs.declared.knowledge.PassPart.{PassPart}
use Rattle.work_queue.specs.declared.works.Work.{Work}
use Rattle.work_queue.proofs.Places.{below_named, fetched_other, handed_other, named_here, once_few, own_more}
use Rattle.work_queue.proofs.Places.{place, works_more}

-- how many passes a view represents, and how many of a name
abbrev pub parts_in : Log → ℕ
parts_in v = length v.parts

abbrev pub names_in : ℕ → Log → ℕ
names_in name v = named name v.parts

module _ (items : List Work) (views : List Log) (r : Happened items views) (id : ℕ) (v : Log)
    (at : get_elem? views id ≡ some v) where
  -- where one pass represents all, it is this one
  closing_none : 0 < length v.parts → v.left ≡ [] → OneHasAll views → r.left ≡ []
  closing_none some_parts none one = dite (ℕ_discrete one.pass id)
      (λ same.
      let is : one.view ≡ v = some-injective one.view v (sym one.at ∙ ap (get_elem? views) same ∙ at) in
      sym ((r.each id v at).last some_parts (ap parts_in (sym is) ∙ one.all_parts ∙ ap (λ (u : Log). u.all) is)) ∙ none)
      (λ other.
      let n : ℕ = sum_by parts_in views in
      let both : length one.view.parts + length v.parts ≤ n =
      total_both parts_in views one.pass id one.view v other one.at at in
      let all : n ≡ r.count = r.all_parts in
      let knows = (r.each one.pass one.view one.at).knows one.some_parts in
      let has = one.all_parts in
      absurd (omega (arith, both, all, knows, has, some_parts)))

  -- a pass that took nothing out shows that nothing was taken out
  pub no_left : 0 < length v.parts → v.left ≡ [] → r.left ≡ []
  no_left some_parts none = ⊎_elim (λ h. h) (closing_none some_parts none) r.closing

  -- a name of this pass is below the number of passes, and no other pass has it
  pub name_below : (name : ℕ) → 1 ≤ named name v.parts → name < r.count
  name_below name here =
      let n : ℕ = sum_by (names_in name) views in
      let above : named name v.parts ≤ n = total_above (names_in name) views id v at in
      let once : n ≡ once_below r.count name = r.once name in
      below_named r.count name (omega (arith, above, once, here))

  pub other_none : (name : ℕ) → 1 ≤ named name v.parts → (j : ℕ) (u : Log) → j ≢ id → get_elem? views j ≡ some u
      → named name u.parts ≡ 0
  other_none name here j u other to =
      let n : ℕ = sum_by (names_in name) views in
      let both : named name u.parts + named name v.parts ≤ n = total_both (names_in name) views j id u v other to at in
      let once : n ≡ once_below r.count name = r.once name in
      let few = once_few r.count name in
      omega (arith, both, once, few, here)

  -- where this pass represents all, the others represent none
  pub others_none : 0 < length v.parts → length v.parts ≡ v.all → (j : ℕ) (u : Log) → j ≢ id → get_elem? views j ≡ some u
      → length u.parts ≡ 0
  others_none some_parts has j u other to =
      let n : ℕ = sum_by parts_in views in
      let both : length u.parts + length v.parts ≤ n = total_both parts_in views j id u v other to at in
      let all : n ≡ r.count = r.all_parts in
      let knows = (r.each id v at).knows some_parts in
      omega (arith, both, all, knows, has)

  -- the rule holds of a pass that represents none
  pub nothing_known : (count : ℕ) (left : List Work) (handed gone : List Place) (u : Log) → length u.parts ≡ 0
      → LogOk count left handed gone u
  nothing_known count left handed gone u none = record {
    done = subst (AllByRecursion (HasDone handed gone)) (sym (nil_from_length u.parts none)) tt;
    knows = λ some_parts. absurd (omega (arith, some_parts, none));
    last = λ some_parts _. absurd (omega (arith, some_parts, none));
  }

  -- the rule after a change of this pass's view that keeps the passes that it represents
  module _ (rest : List Work) (handed gone : List Place) (left : List Work) (w : Log)
      (long : length w.parts ≡ length v.parts) (names : (name : ℕ) → named name w.parts ≡ named name v.parts)
      (happened : History r.count (left ++ rest) handed gone) (here : LogOk r.count left handed gone w)
      (there : (j : ℕ) (u : Log) → j ≢ id → get_elem? views j ≡ some u → LogOk r.count left handed gone u)
      (may : (left ≡ []) ⊎ OneHasAll (set views id w)) where
    remade : Happened rest (set views id w)
    remade = record {
      count = r.count;
      handed = handed;
      gone = gone;
      left = left;
      history = happened;
      each = λ j u to. ⊎_elim
          (λ same. subst (LogOk r.count left handed gone) same.1 here)
          (λ other. there j u other.0 other.1)
          (at_set views id j w u to);
      closing = may;
      all_parts =
          let sums = total_set parts_in views id v w at in
          let n : ℕ = sum_by parts_in (set views id w) in
          let all : sum_by parts_in views ≡ r.count = r.all_parts in
          let same : n ≡ sum_by parts_in views = omega (arith, sums, long) in
          same ∙ all;
      once = λ name.
          let sums = total_set (names_in name) views id v w at in
          let is = names name in
          let n : ℕ = sum_by (names_in name) (set views id w) in
          let same : n ≡ sum_by (names_in name) views = omega (arith, sums, is) in
          same ∙ r.once name;
    }

-- ---- one pass, which took nothing out

module _ (id all : ℕ) (part : PassPart) where
  abbrev one : Log
  one = log all (part ∷ []) []

  abbrev after_hand : Work → Log
  after_hand work = log all (record part { handed = part.handed ++ work ∷ [] } ∷ []) []

  abbrev after_fetch : Work → Log
  after_fetch work = log all (record part { fetched = part.fetched ++ work ∷ [] } ∷ []) []

  hands_one : (n : ℕ) (work : Work) → IsLawfulWork work → Pushes Happened n id one work (Handed one work)
  hands_one n work lawful items views few r at =
      let mine = r.each id one at in
      let here : 1 ≤ named part.name (part ∷ []) = named_here part.name part [] refl in
      let h = r.history in
      let handed : List Place = r.handed ++ place part.name work ∷ [] in (
        after_hand work,
        remade items views r id one at (items ++ work ∷ []) handed r.gone r.left (after_hand work) refl (λ _. refl)
            (record {
              order = works_more r.handed part.name work ∙ ap (λ (l : List Work). l ++ work ∷ []) h.order
                  ∙ append_assoc (works_of r.gone) (r.left ++ items) (work ∷ [])
                  ∙ ap (λ (l : List Work). works_of r.gone ++ l) (append_assoc r.left items (work ∷ []));
              by_passes =
                  all_and (IsNamed r.count) r.handed (place part.name work) h.by_passes
                  (name_below items views r id one at part.name here);
              to_passes = h.to_passes;
              lawful = subst (AllByRecursion IsLawfulWork) (append_assoc r.left items (work ∷ []))
                  (all_and IsLawfulWork (r.left ++ items) work h.lawful lawful);
            })
            (record {
              done = (
                record {
                  handed_is = ap (λ (l : List Work). l ++ work ∷ []) mine.done.0.handed_is
                      ∙ sym (own_more part.name r.handed work);
                  fetched_is = mine.done.0.fetched_is;
                },
                tt,
              );
              knows = mine.knows;
              last = mine.last;
            })
            (λ j u other to. let was = r.each j u to in record {
              done = handed_other r.handed r.gone part.name work u.parts
                  (other_none items views r id one at part.name here j u other to) was.done;
              knows = was.knows;
              last = was.last;
            })
            (inl (no_left items views r id one at (omega arith) refl)),
        refl,
      )

  fetches_one : Pops Happened id one (Fetched one)
  fetches_one work items views r at =
      let mine = r.each id one at in
      let here : 1 ≤ named part.name (part ∷ []) = named_here part.name part [] refl in
      let h = r.history in
      let none : r.left ≡ [] = no_left (work ∷ items) views r id one at (omega arith) refl in
      let gone : List Place = r.gone ++ place part.name work ∷ [] in
      let lawful : AllByRecursion IsLawfulWork (work ∷ items) =
      subst (λ (l : List Work). AllByRecursion IsLawfulWork (l ++ (work ∷ items))) none h.lawful in (
        after_fetch work,
        remade (work ∷ items) views r id one at items r.handed gone [] (after_fetch work) refl (λ _. refl)
            (record {
              order = h.order ∙ ap (λ (l : List Work). works_of r.gone ++ (l ++ (work ∷ items))) none
                  ∙ sym (append_assoc (works_of r.gone) (work ∷ []) items)
                  ∙ ap (λ (l : List Work). l ++ items) (sym (works_more r.gone part.name work));
              by_passes = h.by_passes;
              to_passes =
                  all_and (IsNamed r.count) r.gone (place part.name work) h.to_passes
                  (name_below (work ∷ items) views r id one at part.name here);
              lawful = lawful.1;
            })
            (record {
              done = (
                record {
                  handed_is = mine.done.0.handed_is;
                  fetched_is = ap (λ (l : List Work). l ++ work ∷ []) mine.done.0.fetched_is
                      ∙ sym (own_more part.name r.gone work);
                },
                tt,
              );
              knows = mine.knows;
              last = λ _ _. refl;
            })
            (λ j u other to. let was = r.each j u to in record {
              done = fetched_other r.handed r.gone part.name work u.parts
                  (other_none (work ∷ items) views r id one at part.name here j u other to) was.done;
              knows = was.knows;
              last = λ some_parts has. was.last some_parts has ∙ none;
            })
            (inl refl),
        (refl, lawful.0),
      )

-- a pass may hand a work with a lawful text
pub hands : (n id : ℕ) (v : Log) (work : Work) (part : PassPart) → v ≡ log v.all (part ∷ []) [] → IsLawfulWork work
    → Pushes Happened n id v work (Handed v work)
hands n id v work part is lawful =
    subst (λ (u : Log). Pushes Happened n id u work (Handed u work)) (sym is) (hands_one id v.all part n work lawful)

-- a pass may fetch
pub fetches : (id : ℕ) (v : Log) (part : PassPart) → v ≡ log v.all (part ∷ []) [] → Pops Happened id v (Fetched v)
fetches id v part is = subst (λ (u : Log). Pops Happened id u (Fetched u)) (sym is) (fetches_one id v.all part)

-- ---- a pass that represents all

module _ (id : ℕ) (v : Log) (some_parts : 0 < length v.parts) (has : length v.parts ≡ v.all) where
  -- it may take works out
  pub drains : Pops Happened id v (Drained v)
  drains work items views r at =
      let mine = r.each id v at in
      let h = r.history in
      let w : Log = log v.all v.parts (v.left ++ work ∷ []) in (
        w,
        remade (work ∷ items) views r id v at items r.handed r.gone (r.left ++ work ∷ []) w refl (λ _. refl)
            (record {
              order = h.order ∙ ap (λ (l : List Work). works_of r.gone ++ l) (sym (append_assoc r.left (work ∷ []) items));
              by_passes = h.by_passes;
              to_passes = h.to_passes;
              lawful = subst (AllByRecursion IsLawfulWork) (sym (append_assoc r.left (work ∷ []) items)) h.lawful;
            })
            (record {
              done = mine.done;
              knows = mine.knows;
              last = λ a b. ap (λ (l : List Work). l ++ work ∷ []) (mine.last a b);
            })
            (λ j u other to. nothing_known (work ∷ items) views r id v at r.count (r.left ++ work ∷ []) r.handed r.gone u
            (others_none (work ∷ items) views r id v at some_parts has j u other to))
            (inr (record {
              pass = id;
              view = w;
              at = set_here views id w (at_below views id v at);
              some_parts = some_parts;
              all_parts = has;
            })),
        refl,
      )

  -- it knows all that happened
  pub whole : Learns Happened id v (Tells v)
  whole items views r at =
      let mine = r.each id v at in
      let count_is : r.count ≡ v.all = sym (mine.knows some_parts) in
      let left_is : r.left ≡ v.left = sym (mine.last some_parts has) in record {
        handed = r.handed;
        gone = r.gone;
        history = subst (λ (l : List Work). History v.all (l ++ items) r.handed r.gone) left_is
            (subst (λ (c : ℕ). History c (r.left ++ items) r.handed r.gone) count_is r.history);
        done = mine.done;
        once = λ name.
            sym (total_one (names_in name) views id v at
            (λ j u other to. ap (named name) (nil_from_length u.parts
            (others_none items views r id v at some_parts has j u other to))))
            ∙ r.once name ∙ ap (λ (c : ℕ). once_below c name) count_is;
      }
