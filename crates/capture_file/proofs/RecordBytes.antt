-- The bytes of a record, whose first four numbers are written at once.
use Rattle.std.proofs.Common.{◌≡◌, ℕ, List, [], ◌∷◌, ◌++◌, ap, ◌∙◌, append_assoc}
use Rattle.std.specs.List.{flat_map}

pub record_bytes : (text a b c d frame : List ℕ)
    → (text ++ flat_map (λ (x : List ℕ). x) (a ∷ b ∷ c ∷ d ∷ [])) ++ frame ≡ text ++ (a ++ (b ++ (c ++ (d ++ frame))))
record_bytes text a b c d frame =
    append_assoc text _ frame ∙ ap (λ r. text ++ r)
    (append_assoc a _ frame ∙ ap (λ r. a ++ r)
    (append_assoc b _ frame ∙ ap (λ r. b ++ r)
    (append_assoc c _ frame ∙ ap (λ r. c ++ r) (append_assoc d [] frame))))
