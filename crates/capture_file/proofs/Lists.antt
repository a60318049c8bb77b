-- Prefixes and rests of lists that grow.
use Rattle.std.proofs.Common.{◌≡◌, ◌≤◌, List, ◌++◌, length, take, refl, sym, ap, ◌∙◌, arith}
use Rattle.std.proofs.lemmas.List.{take-append-le, take-take, take_at, length-take, length-append}

-- a prefix stays one when more is appended
pub front_more : {A : Type 0} (old new more : List A) → take (length old) new ≡ old → take (length old) (new ++ more) ≡ old
front_more old new more h =
    let le : length old ≤ length new = omega (arith, length-take (length old) new, ap length h) in
    take-append-le (length old) new more le ∙ h

-- a prefix of a prefix is a prefix
pub front_through : {A : Type 0} (old more mid new : List A) → mid ≡ old ++ more → take (length mid) new ≡ mid
    → take (length old) new ≡ old
front_through old more mid new m h =
    let le : length old ≤ length mid = omega (arith, length-append old more, ap length m) in
    sym (take-take (length old) (length mid) new le) ∙ rw (h, m) (take_at old more (length old) refl)
