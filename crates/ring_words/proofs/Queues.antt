-- Facts about each block of a queue, and about a queue when a block comes or goes.
use Rattle.std.proofs.Common.{◌≡◌, ℕ, suc, ◌+◌, List, [], ◌∷◌, ◌++◌, length, refl, subst, ap, map, replicate, arith}
use Rattle.std.specs.List.{AllByRecursion}
use Rattle.ring_words.specs.PlainRings.{AreReady, contents_of, entries_of, marks_of}
use Rattle.ring_words.specs.declared.plain_ring.Filled.{Filled}

pub all_push : {X : Type 0} (P : X → Type 0) (xs : List X) (x : X) → AllByRecursion P xs → P x → AllByRecursion P (xs ++ x ∷ [])
all_push P [] x all one = (one, tt)
all_push P (y ∷ xs) x all one = (all.0, all_push P xs x all.1 one)

pub ready_push : {B : Type 0} (ready : B → ℕ → ℕ → Type 0) (number : ℕ) (blocks : List (Filled B)) (block : Filled B) (last : ℕ)
    → number + length blocks ≡ last → AreReady ready number blocks → ready block.block last block.status
    → AreReady ready number (blocks ++ block ∷ [])
ready_push ready number [] block last at all one = (subst (λ n. ready block.block n block.status) (omega arith) one, tt)
ready_push ready number (first ∷ blocks) block last at all one =
    (all.0, ready_push ready (number + 1) blocks block last (omega arith) all.1 one)

pub length-entries : {B : Type 0} (bytes : B → List ℕ) (blocks : List (Filled B))
    → length (entries_of bytes blocks) ≡ length blocks
length-entries bytes [] = refl
length-entries bytes (block ∷ blocks) = ap suc (length-entries bytes blocks)

pub contents-all_vacant : {B : Type 0} (bytes : B → List ℕ) (blocks : List B)
    → contents_of bytes (map (λ block. record { block = block; mark = 0 }) blocks) ≡ map bytes blocks
contents-all_vacant bytes [] = refl
contents-all_vacant bytes (block ∷ blocks) = ap (λ contents. bytes block ∷ contents) (contents-all_vacant bytes blocks)

pub marks-all_vacant : {B : Type 0} (blocks : List B)
    → marks_of (map (λ block. record { block = block; mark = 0 }) blocks) ≡ replicate (length blocks) 0
marks-all_vacant [] = refl
marks-all_vacant (block ∷ blocks) = ap (λ marks. 0 ∷ marks) (marks-all_vacant blocks)
