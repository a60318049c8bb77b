-- Passes that have done nothing.
use Rattle.std.proofs.Common.{◌≡◌, ℕ, zero, suc, ◌+◌, ◌-◌, ◌<◌, List, [], ◌∷◌, ◌++◌, length, sym, refl, ap, ◌∙◌, arith}
use Rattle.std.proofs.Math.Numerals.{add-one}
use Rattle.atomic_blocks.specs.Laid.{WebId}
use Rattle.work_queue.specs.Logs.{first_of, fresh, fresh_parts, log, rest_of}
use Rattle.work_queue.specs.Passes.{PassValue, fresh_pass, fresh_passes}
use Rattle.work_queue.specs.PassesInside.{one_of}
use Rattle.work_queue.specs.declared.knowledge.Log.{Log}
use Rattle.work_queue.specs.declared.knowledge.PassPart.{PassPart}

pub fresh_long : (name count : ℕ) → length (fresh_parts name count) ≡ count
fresh_long name zero = refl
fresh_long name (suc more) = let rest = fresh_long (name + 1) more in omega (arith, rest)

-- one more name
parts_push : (name count : ℕ) → fresh_parts name (suc count) ≡ fresh_parts name count ++ fresh (name + count) ∷ []
parts_push name zero = let e : name ≡ name + 0 = omega arith in ap (λ (n : ℕ). fresh n ∷ []) e
parts_push name (suc count) =
    let e : name + 1 + count ≡ name + suc count = omega arith in
    ap (λ (parts : List PassPart). fresh name ∷ parts) (parts_push (name + 1) count)
    ∙ ap (λ (n : ℕ). fresh name ∷ (fresh_parts (name + 1) count ++ fresh n ∷ [])) e

pub parts_more : (count : ℕ) → fresh_parts 0 count ++ fresh count ∷ [] ≡ fresh_parts 0 (count + 1)
parts_more count =
    let e : 0 + count ≡ count = omega arith in
    ap (λ (n : ℕ). fresh_parts 0 count ++ fresh n ∷ []) (sym e) ∙ sym (parts_push 0 count)
    ∙ ap (fresh_parts 0) (sym (add-one count))

pub passes_push : (id : WebId) (all name count : ℕ)
    → fresh_passes id all name (suc count) ≡ fresh_passes id all name count ++ fresh_pass id all (name + count) ∷ []
passes_push id all name zero = let e : name ≡ name + 0 = omega arith in ap (λ (n : ℕ). fresh_pass id all n ∷ []) e
passes_push id all name (suc count) =
    let e : name + 1 + count ≡ name + suc count = omega arith in
    ap (λ (passes : List PassValue). fresh_pass id all name ∷ passes) (passes_push id all (name + 1) count)
    ∙ ap (λ (n : ℕ). fresh_pass id all name ∷ (fresh_passes id all (name + 1) count ++ fresh_pass id all n ∷ [])) e

-- one more pass among those made
pub passes_more : (id : WebId) (all count after : ℕ) → count + 1 ≡ after
    → fresh_passes id all 0 count ++ fresh_pass id all count ∷ [] ≡ fresh_passes id all 0 after
passes_more id all count after next =
    let e : 0 + count ≡ count = omega arith in
    ap (λ (n : ℕ). fresh_passes id all 0 count ++ fresh_pass id all n ∷ []) (sym e) ∙ sym (passes_push id all 0 count)
    ∙ ap (fresh_passes id all 0) (sym (add-one count) ∙ next)

-- the first of some passes, and the others
pub parts_first : (name left : ℕ) → 0 < left → fresh_parts name left ≡ fresh name ∷ fresh_parts (name + 1) (left - 1)
parts_first name zero some = absurd (omega (arith, some))
parts_first name (suc more) some = let e : more ≡ suc more - 1 = omega arith in
    ap (λ (n : ℕ). fresh name ∷ fresh_parts (name + 1) n) e

pub log_first : (v : Log) (all name left : ℕ) → v ≡ log all (fresh_parts name left) [] → 0 < left
    → v ≡ log all (fresh name ∷ fresh_parts (name + 1) (left - 1)) []
log_first v all name left is some = is ∙ ap (λ (parts : List PassPart). log all parts []) (parts_first name left some)

-- a pass that was split into its parts
pub same_all : (v : Log) (all : ℕ) (parts : List PassPart) → v ≡ log all parts [] → v ≡ log v.all parts []
same_all v all parts is = is ∙ ap (λ (n : ℕ). log n parts []) (sym (ap (λ (u : Log). u.all) is))

-- a pass that represents one of them, as its invariant says it and as its owner sees it
pub one_is : (u : Log) (all : ℕ) (part : PassPart) → u ≡ log all (part ∷ []) [] → u ≡ log u.all (one_of u.parts ∷ []) []
one_is u all part is = is ∙ sym (ap (λ (v : Log). log v.all (one_of v.parts ∷ []) []) is)

pub value_is : (web id : WebId) (u : Log) (all name : ℕ) → web ≡ id → u ≡ log all (fresh name ∷ []) []
    → ◌≡◌ {A = PassValue}
    (record {
      queue = web;
      of = u.all;
      name = (one_of u.parts).name;
      handed = (one_of u.parts).handed;
      fetched = (one_of u.parts).fetched;
      calls = 0;
    })
    (fresh_pass id all name)
value_is web id u all name same is =
    ap (λ (w : WebId). record {
      queue = w;
      of = u.all;
      name = (one_of u.parts).name;
      handed = (one_of u.parts).handed;
      fetched = (one_of u.parts).fetched;
      calls = 0;
    }) same
    ∙ ap (λ (v : Log). record {
      queue = id;
      of = v.all;
      name = (one_of v.parts).name;
      handed = (one_of v.parts).handed;
      fetched = (one_of v.parts).fetched;
      calls = 0;
    }) is

-- the first of some passes leaves them
pub apart_first : (v : Log) (all name left : ℕ) → v ≡ log all (fresh_parts name left) [] → 0 < left
    → first_of v ≡ log all (fresh name ∷ []) []
apart_first v all name left is some = ap first_of (log_first v all name left is some)

pub apart_rest : (v : Log) (all name left : ℕ) → v ≡ log all (fresh_parts name left) [] → 0 < left
    → rest_of v ≡ log all (fresh_parts (name + 1) (left - 1)) []
apart_rest v all name left is some = ap rest_of (log_first v all name left is some)
