-- CPUs that are closed one after another.
use Rattle.std.proofs.Common.{◌≡◌, List, [], ◌∷◌, ◌++◌, length, append-nil, append_assoc, Option, refl, sym, ap, ◌∙◌, subst}
use Rattle.std.proofs.Common.{arith}
use Rattle.std.specs.Prelude.{IsSome, map}
use Rattle.std.specs.List.{AllByRecursion}
use Rattle.capture_reading.specs.Sources.{AllGave}
use Rattle.cpu_feed.specs.ClosedCpus.{AllClose, bytes_of, ends_of, firsts_of}
use Rattle.cpu_feed.specs.CpuFeeds.{Closes, Feeding}
use Rattle.fanout_group.specs.declared.runs.CpuLog.{CpuLog}
use Rattle.tap_outside.specs.Seen.{SourceSeen}

-- there is a log for each, and each source gave its bytes
pub closed_many : (cpus : List Feeding) (nows : List (Option SourceSeen)) (logs : List CpuLog) → AllClose cpus nows logs
    → length logs ≡ length cpus
closed_many [] [] [] k = refl
closed_many [] [] (log ∷ logs) k = absurd k
closed_many [] (now ∷ nows) logs k = absurd k
closed_many (c ∷ cpus) [] logs k = absurd k
closed_many (c ∷ cpus) (now ∷ nows) [] k = absurd k
closed_many (c ∷ cpus) (now ∷ nows) (log ∷ logs) k = let rest = closed_many cpus nows logs k.1 in omega (arith, rest)

pub all_gave : (cpus : List Feeding) (nows : List (Option SourceSeen)) (logs : List CpuLog) → AllClose cpus nows logs
    → AllGave (firsts_of cpus) nows (bytes_of cpus) (ends_of logs)
all_gave [] [] [] k = tt
all_gave [] [] (log ∷ logs) k = absurd k
all_gave [] (now ∷ nows) logs k = absurd k
all_gave (c ∷ cpus) [] logs k = absurd k
all_gave (c ∷ cpus) (now ∷ nows) [] k = absurd k
all_gave (c ∷ cpus) (now ∷ nows) (log ∷ logs) k = let one : Closes c now log = k.0 in (one.gave, all_gave cpus nows logs k.1)

-- one more CPU
pub close_none : {X : Type 0} (f : X → Option SourceSeen) (xs : List X) (logs : List CpuLog) → xs ≡ [] → logs ≡ []
    → AllClose [] (map f xs) logs
close_none {X = X} f xs logs e k =
    subst (λ (ys : List X). AllClose [] (map f ys) logs) (sym e) (subst (λ (ls : List CpuLog). AllClose [] [] ls) (sym k) tt)

close_one : {X : Type 0} (f : X → Option SourceSeen) (done : List Feeding) (cpu : Feeding) (xs : List X) (x : X)
    (logs : List CpuLog) (log : CpuLog)
    → AllClose done (map f xs) logs → Closes cpu (f x) log
    → AllClose (done ++ cpu ∷ []) (map f (xs ++ x ∷ [])) (logs ++ log ∷ [])
close_one f [] cpu [] x [] log h one = (one, tt)
close_one f [] cpu [] x (l ∷ logs) log h one = absurd h
close_one f [] cpu (y ∷ xs) x logs log h one = absurd h
close_one f (c ∷ done) cpu [] x logs log h one = absurd h
close_one f (c ∷ done) cpu (y ∷ xs) x [] log h one = absurd h
close_one f (c ∷ done) cpu (y ∷ xs) x (l ∷ logs) log h one = (h.0, close_one f done cpu xs x logs log h.1 one)

pub close_more : {X : Type 0} (f : X → Option SourceSeen) (all done before after : List Feeding) (cpu : Feeding)
    (xs more : List X) (x : X) (logs grown : List CpuLog) (log : CpuLog)
    → before ≡ cpu ∷ after → all ≡ done ++ before → AllClose done (map f xs) logs → Closes cpu (f x) log → more ≡ xs ++ x ∷ []
    → grown ≡ logs ++ log ∷ []
    → (front : List Feeding) × (all ≡ front ++ after) × AllClose front (map f more) grown
close_more {X = X} f all done before after cpu xs more x logs grown log next parts h one more_is grown_is = (
  done ++ cpu ∷ [],
  parts ∙ ap (λ (cs : List Feeding). done ++ cs) next ∙ sym (append_assoc done (cpu ∷ []) after),
  subst (λ (ys : List X). AllClose (done ++ cpu ∷ []) (map f ys) grown) (sym more_is)
      (subst (λ (ls : List CpuLog). AllClose (done ++ cpu ∷ []) (map f (xs ++ x ∷ [])) ls) (sym grown_is)
      (close_one f done cpu xs x logs log h one)),
)

pub no_cpus : (cpus : List Feeding) → length cpus ≡ 0 → cpus ≡ []
no_cpus [] e = refl
no_cpus (c ∷ cpus) e = absurd (omega (arith, e))

pub close_all : {X : Type 0} (f : X → Option SourceSeen) (all done rest : List Feeding) (xs : List X) (logs : List CpuLog)
    → rest ≡ [] → all ≡ done ++ rest
    → AllClose done (map f xs) logs → AllClose all (map f xs) logs
close_all f all done rest xs logs none parts h =
    subst (λ (cs : List Feeding). AllClose cs (map f xs) logs)
    (sym (parts ∙ ap (λ (cs : List Feeding). done ++ cs) none ∙ append-nil done)) h

pub ended_rest : (cpus rest : List Feeding) (cpu : Feeding) → cpus ≡ cpu ∷ rest
    → AllByRecursion (λ (c : Feeding). IsSome c.ended) cpus
    → AllByRecursion (λ (c : Feeding). IsSome c.ended) rest
ended_rest cpus rest cpu e h =
    let all : AllByRecursion (λ (c : Feeding). IsSome c.ended) (cpu ∷ rest) =
    subst (λ (cs : List Feeding). AllByRecursion (λ (c : Feeding). IsSome c.ended) cs) e h in
    all.1
