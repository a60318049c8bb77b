-- The numbers of a shape distinguish it from every other.
use Rattle.std.proofs.Common.{◌≡◌, ℕ, List, ap, refl}
use Rattle.std.specs.Prelude.{slice_index}
use Rattle.tp_layout.specs.Requests.{numbers_of}
use Rattle.tp_layout.specs.declared.requests.RingRequest.{RingRequest}

pub one_shape : (a b : RingRequest) → numbers_of a ≡ numbers_of b → a ≡ b
one_shape a b e =
    let first = ap (λ (n : List ℕ). slice_index n 0) e in
    let second = ap (λ (n : List ℕ). slice_index n 1) e in
    let third = ap (λ (n : List ℕ). slice_index n 2) e in
    let fourth = ap (λ (n : List ℕ). slice_index n 3) e in
    let fifth = ap (λ (n : List ℕ). slice_index n 4) e in
    let sixth = ap (λ (n : List ℕ). slice_index n 5) e in
    let seventh = ap (λ (n : List ℕ). slice_index n 6) e in
    rw (first, second, third, fourth, fifth, sixth, seventh) refl
