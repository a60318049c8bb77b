-- Passes are made and joined: each step keeps the rule of the queue.
use Rattle.std.proofs.Common.{◌≡◌, ℕ, zero, suc, ◌+◌, ◌<◌, inl, List, [], ◌∷◌, ◌++◌, length, set, sum_by, sym, refl, ap, ◌∙◌}
use Rattle.std.proofs.Common.{subst, ⊎_elim, length-append, arith}
use Rattle.std.proofs.lemmas.List.Sums.{sum_by_push}
use mathlib.Core.Option.{some, some-injective, some-ne-none}
use lib.ListN.{get_elem?}
use Rattle.crossbeam_queue.specs.Fifo.{Forks, Merges}
use Rattle.crossbeam_queue.proofs.Lists.{at_set, at_snoc, set_else}
use Rattle.history.proofs.Below.{below_more, below_no}
use Rattle.history.proofs.Lists.{all_append}
use Rattle.history.proofs.Totals.{total_set}
use Rattle.work_queue.specs.Happened.{Happened, LogOk}
use Rattle.work_queue.specs.Histories.{Place}
use Rattle.work_queue.specs.Logs.{HasDone, first_of, fresh, gathered, grown, log, named, once_below, opening, rest_of, spent}
use Rattle.work_queue.specs.declared.knowledge.Log.{Log}
use Rattle.work_queue.specs.declared.knowledge.PassPart.{PassPart}
use Rattle.work_queue.specs.declared.works.Work.{Work}
use Rattle.work_queue.proofs.Moves.{names_in, no_left, nothing_known, others_none, parts_in}
use Rattle.work_queue.proofs.Places.{named_both, named_up, own_none}

opening_ok : (j : ℕ) (v : Log) → get_elem? (opening ∷ []) j ≡ some v → LogOk 1 [] [] [] v
opening_ok zero v at = subst (LogOk 1 [] [] []) (some-injective opening v at) (record {
  done = (record { handed_is = refl; fetched_is = refl }, tt);
  knows = λ _. refl;
  last = λ _ _. refl;
})
opening_ok (suc j) v at = absurd (some-ne-none v (sym at))

-- an empty queue with its first pass
pub begins : Happened [] (opening ∷ [])
begins = record {
  count = 1;
  handed = [];
  gone = [];
  left = [];
  history = record { order = refl; by_passes = tt; to_passes = tt; lawful = tt };
  each = opening_ok;
  closing = inl refl;
  all_parts = refl;
  once = λ name.
      let more = below_more 0 name in
      let none = below_no 0 name (omega arith) in
      omega (arith, more, none);
}

module _ (count : ℕ) (left : List Work) (handed gone : List Place) where
  -- a pass that represents none
  pub spent_ok : LogOk count left handed gone spent
  spent_ok = record {
    done = tt;
    knows = λ some_parts. absurd (omega (arith, some_parts));
    last = λ some_parts _. absurd (omega (arith, some_parts));
  }

-- a pass that represents all may grow by one
pub grows : (id : ℕ) (v : Log) → 0 < length v.parts → length v.parts ≡ v.all → v.left ≡ [] → Forks Happened id v (grown v) spent
grows id v some_parts has none items views r at =
    let mine = r.each id v at in
    let h = r.history in
    let knows : v.all ≡ r.count = mine.knows some_parts in
    let nothing : r.left ≡ [] = no_left items views r id v at some_parts none in
    let more : List Log = set views id (grown v) in
    let Ok : Log → Type 0 = LogOk (r.count + 1) r.left r.handed r.gone in
    let grown_ok : Ok (grown v) = record {
      done = all_append (HasDone r.handed r.gone) v.parts (fresh v.all ∷ []) mine.done (
        record {
          handed_is = sym (own_none r.count v.all r.handed (omega (arith, knows)) h.by_passes);
          fetched_is = sym (own_none r.count v.all r.gone (omega (arith, knows)) h.to_passes);
        },
        tt,
      );
      knows = λ _. omega (arith, knows);
      last = λ _ _. none ∙ sym nothing;
    } in record {
      count = r.count + 1;
      handed = r.handed;
      gone = r.gone;
      left = r.left;
      history = record {
        order = h.order;
        by_passes = named_up r.count (r.count + 1) r.handed (omega arith) h.by_passes;
        to_passes = named_up r.count (r.count + 1) r.gone (omega arith) h.to_passes;
        lawful = h.lawful;
      };
      each = λ j u to. ⊎_elim
          (λ among. ⊎_elim
          (λ same. subst Ok same.1 grown_ok)
          (λ other. nothing_known items views r id v at (r.count + 1) r.left r.handed r.gone u
          (others_none items views r id v at some_parts has j u other.0 other.1))
          (at_set views id j (grown v) u among))
          (λ last. subst Ok last (spent_ok (r.count + 1) r.left r.handed r.gone))
          (at_snoc more spent u j to);
      closing = inl nothing;
      all_parts =
          let pushed = sum_by_push parts_in more spent in
          let sums = total_set parts_in views id v (grown v) at in
          let long = length-append v.parts (fresh v.all ∷ []) in
          let all : sum_by parts_in views ≡ r.count = r.all_parts in
          omega (arith, pushed, sums, long, all);
      once = λ name.
          let pushed = sum_by_push (names_in name) more spent in
          let sums = total_set (names_in name) views id v (grown v) at in
          let both = named_both name v.parts (fresh v.all ∷ []) in
          let one = below_more r.count name in
          let same : named name (fresh v.all ∷ []) ≡ named name (fresh r.count ∷ []) =
          ap (λ (c : ℕ). named name (fresh c ∷ [])) knows in
          let old : sum_by (names_in name) views ≡ once_below r.count name = r.once name in
          let n : ℕ = sum_by (names_in name) (more ++ spent ∷ []) in
          let is : n ≡ once_below r.count name + named name (fresh r.count ∷ []) =
          omega (arith, pushed, sums, both, same, old) in
          is ∙ sym one;
    }

forks_two : (id all : ℕ) (part : PassPart) (parts : List PassPart)
    → Forks Happened id (log all (part ∷ parts) []) (log all parts []) (log all (part ∷ []) [])
forks_two id all part parts items views r at =
    let v : Log = log all (part ∷ parts) [] in
    let a : Log = log all parts [] in
    let b : Log = log all (part ∷ []) [] in
    let mine = r.each id v at in
    let nothing : r.left ≡ [] = no_left items views r id v at (omega arith) refl in
    let rest : List Log = set views id a in
    let Ok : Log → Type 0 = LogOk r.count r.left r.handed r.gone in
    let knows : all ≡ r.count = mine.knows (omega arith) in record {
      count = r.count;
      handed = r.handed;
      gone = r.gone;
      left = r.left;
      history = r.history;
      each = λ j u to. ⊎_elim
          (λ among. ⊎_elim
          (λ same. subst Ok same.1 (record { done = mine.done.1; knows = λ _. knows; last = λ _ _. sym nothing }))
          (λ other. r.each j u other.1)
          (at_set views id j a u among))
          (λ last. subst Ok last (record { done = (mine.done.0, tt); knows = λ _. knows; last = λ _ _. sym nothing }))
          (at_snoc rest b u j to);
      closing = inl nothing;
      all_parts =
          let pushed = sum_by_push parts_in rest b in
          let sums = total_set parts_in views id v a at in
          let old : sum_by parts_in views ≡ r.count = r.all_parts in
          omega (arith, pushed, sums, old);
      once = λ name.
          let pushed = sum_by_push (names_in name) rest b in
          let sums = total_set (names_in name) views id v a at in
          let n : ℕ = sum_by (names_in name) (rest ++ b ∷ []) in
          let same : n ≡ sum_by (names_in name) views = omega (arith, pushed, sums) in
          same ∙ r.once name;
    }

-- the first of the passes that one represents may leave it
pub forks : (id : ℕ) (v : Log) (part : PassPart) (parts : List PassPart) → v ≡ log v.all (part ∷ parts) []
    → Forks Happened id v (rest_of v) (first_of v)
forks id v part parts is =
    subst (λ (u : Log). Forks Happened id u (rest_of u) (first_of u)) (sym is) (forks_two id v.all part parts)

-- a pass may take in another
pub merges : (id : ℕ) (v : Log) (other : ℕ) (w : Log) → 0 < length v.parts → v.left ≡ []
    → Merges Happened id v other w (gathered v w) spent
merges id v other w some_parts none items views r at apart to =
    let both : Log = gathered v w in
    let mid : List Log = set views id both in
    let old : get_elem? views other ≡ some w = sym (set_else views id other both apart) ∙ to in
    let mine = r.each id v at in
    let yours = r.each other w old in
    let nothing : r.left ≡ [] = no_left items views r id v at some_parts none in
    let Ok : Log → Type 0 = LogOk r.count r.left r.handed r.gone in
    let both_ok : Ok both = record {
      done = all_append (HasDone r.handed r.gone) w.parts v.parts yours.done mine.done;
      knows = λ _. mine.knows some_parts;
      last = λ _ _. none ∙ sym nothing;
    } in record {
      count = r.count;
      handed = r.handed;
      gone = r.gone;
      left = r.left;
      history = r.history;
      each = λ j u here. ⊎_elim
          (λ same. subst Ok same.1 (spent_ok r.count r.left r.handed r.gone))
          (λ among. ⊎_elim (λ same. subst Ok same.1 both_ok) (λ else_. r.each j u else_.1) (at_set views id j both u among.1))
          (at_set mid other j spent u here);
      closing = inl nothing;
      all_parts =
          let a = total_set parts_in views id v both at in
          let b = total_set parts_in mid other w spent to in
          let long = length-append w.parts v.parts in
          let all : sum_by parts_in views ≡ r.count = r.all_parts in
          omega (arith, a, b, long, all);
      once = λ name.
          let a = total_set (names_in name) views id v both at in
          let b = total_set (names_in name) mid other w spent to in
          let names = named_both name w.parts v.parts in
          let n : ℕ = sum_by (names_in name) (set mid other spent) in
          let same : n ≡ sum_by (names_in name) views = omega (arith, a, b, names) in
          same ∙ r.once name;
    }
