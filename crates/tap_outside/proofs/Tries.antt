-- Calls that are tried again: a try that failed left known bytes as they were.
use Rattle.std.proofs.Common.{ℕ, List, [], ◌++◌, take, Option, None, Some, Result, Ok, Err, refl, sym, ap, ◌∙◌}
use Rattle.std.proofs.lemmas.List.{append-nil}
use Rattle.std.specs.Io.KnownBytes.{Appends, Consumes, Keeps, ReadConsumes, WriteAppends}

-- known bytes are as they are
pub keeps_none : (known : Option (List ℕ)) → Keeps known known
keeps_none None = tt
keeps_none (Some xs) = refl

-- what one call kept and the next too, both kept
pub keeps_then : (first middle last : Option (List ℕ)) → Keeps first middle → Keeps middle last → Keeps first last
keeps_then None middle last h k = tt
keeps_then (Some xs) None last h k = absurd h
keeps_then (Some xs) (Some ys) None h k = absurd k
keeps_then (Some xs) (Some ys) (Some zs) h k = k ∙ h

-- a write of nothing keeps what there was
pub keeps_empty : (first last : Option (List ℕ)) → Appends first last [] → Keeps first last
keeps_empty None last h = tt
keeps_empty (Some xs) None h = absurd h
keeps_empty (Some xs) (Some ys) h = h ∙ append-nil xs

consumes_after : (first middle last : Option (List ℕ)) (bytes : List ℕ)
    → Keeps first middle → Consumes middle last bytes → Consumes first last bytes
consumes_after None middle last bytes h k = tt
consumes_after (Some xs) None last bytes h k = absurd h
consumes_after (Some xs) (Some ys) None bytes h k = absurd k
consumes_after (Some xs) (Some ys) (Some zs) bytes h k = sym h ∙ k

appends_after : (first middle last : Option (List ℕ)) (bytes : List ℕ)
    → Keeps first middle → Appends middle last bytes → Appends first last bytes
appends_after None middle last bytes h k = tt
appends_after (Some xs) None last bytes h k = absurd h
appends_after (Some xs) (Some ys) None bytes h k = absurd k
appends_after (Some xs) (Some ys) (Some zs) bytes h k = k ∙ ap (λ (front : List ℕ). front ++ bytes) h

-- a read after tries that read nothing
pub reads_after : {E : Type 0} (first middle last : Option (List ℕ)) (result : Result ℕ E) (into : List ℕ)
    → Keeps first middle → ReadConsumes middle last result into → ReadConsumes first last result into
reads_after first middle last (Ok n) into h k = (consumes_after first middle last (take n into) h k.0, k.1)
reads_after first middle last (Err e) into h k = keeps_then first middle last h k

-- a write after tries that wrote nothing
pub writes_after : {E : Type 0} (first middle last : Option (List ℕ)) (result : Result ℕ E) (bytes : List ℕ)
    → Keeps first middle → WriteAppends middle last result bytes → WriteAppends first last result bytes
writes_after first middle last (Ok n) bytes h k = appends_after first middle last (take n bytes) h k
writes_after first middle last (Err e) bytes h k = keeps_then first middle last h k
