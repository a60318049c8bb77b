-- Reads, one after another.
use Rattle.std.proofs.Common.{◌≡◌, ◌<◌, ◌≤◌, ℕ, List, [], ◌++◌, length, take, subst, Option, None, Some, Result, Ok, Err, IfOk}
use Rattle.std.proofs.Common.{refl, sym, ap, ◌∙◌, append_assoc}
use Rattle.std.proofs.Math.Seq.{take-append_seam}
use Rattle.std.proofs.lemmas.List.{length-take-le, take-append-le}
use Rattle.std.specs.Io.KnownBytes.{Consumes, IsAtEnd, ReadConsumes}

-- if nothing is read all is left
pub Consumes-none : (known : Option (List ℕ)) → Consumes known known []
Consumes-none None = tt
Consumes-none (Some bytes) = refl

-- some bytes were read, and then more
pub Consumes-more : (first middle last : Option (List ℕ)) (a b : List ℕ)
    → Consumes first middle a → Consumes middle last b → Consumes first last (a ++ b)
Consumes-more None middle last a b h k = tt
Consumes-more (Some xs) None last a b h k = absurd h
Consumes-more (Some xs) (Some ys) None a b h k = absurd k
Consumes-more (Some xs) (Some ys) (Some zs) a b h k =
    h ∙ ap (λ t. a ++ t) k ∙ sym (append_assoc a b zs)

-- a read into the front of a buffer is one into the buffer
pub front_read : {E : Type 0} (before after : Option (List ℕ)) (result : Result ℕ E) (front rest buffer : List ℕ)
    → buffer ≡ front ++ rest → 0 < length front → IfOk result (λ n. n ≤ length front)
    → ReadConsumes before after result front → ReadConsumes before after result buffer
front_read before after (Ok n) front rest buffer is some fits read =
    let same : take n buffer ≡ take n front =
    ap (λ (bytes : List ℕ). take n bytes) is ∙ take-append-le n front rest fits in (
      subst (λ (bytes : List ℕ). Consumes before after bytes) (sym same) read.0,
      λ none more. read.1 none some,
    )
front_read before after (Err e) front rest buffer is some fits read = read

-- all items of a vector were written anew
pub all_written : (count : ℕ) (bytes rest : List ℕ) → count ≡ length bytes → take count (bytes ++ rest) ≡ bytes
all_written count bytes rest is = ap (λ n. take n (bytes ++ rest)) is ∙ take-append_seam bytes rest

-- the bytes that a read gave, copied before the rest of another buffer
pub copied_read : (left before after : Option (List ℕ)) (count : ℕ) (buffer copied rest : List ℕ)
    → before ≡ left → copied ≡ take count buffer → count ≤ length buffer → 0 < length buffer
    → Consumes before after (take count buffer) × (count ≡ 0 → 0 < length buffer → IsAtEnd after)
    → Consumes left after (take count (copied ++ rest)) × (count ≡ 0 → 0 < length (copied ++ rest) → IsAtEnd after)
copied_read left before after count buffer copied rest was is fits some read =
    let size : length copied ≡ count = ap (λ (bytes : List ℕ). length bytes) is ∙ length-take-le count buffer fits in
    let same : take count buffer ≡ take count (copied ++ rest) =
    sym is ∙ sym (take-append_seam copied rest) ∙ ap (λ n. take n (copied ++ rest)) size in (
      subst (λ (bytes : List ℕ). Consumes left after bytes) same
          (subst (λ (known : Option (List ℕ)). Consumes known after (take count buffer)) was read.0),
      λ none more. read.1 none some,
    )
