-- Lists that loops make one item at a time.
use Rattle.std.proofs.Common.{◌≡◌, ℕ, ◌+◌, ◌≤◌, List, [], ◌∷◌, ◌++◌, length, append_assoc, length-append, sym, ap, ◌∙◌, arith}
use Rattle.std.specs.Prelude.{map, Option}
use Rattle.cpu_feed.specs.CpuFeeds.{Feeding}
use Rattle.fanout_group.specs.Plans.{Shape}
use Rattle.tap_outside.specs.Seen.{SourceSeen}
use Rattle.replay_machine.specs.inside.RunEffects.{first_feeding, starting_from}

-- a made CPU is that of the next source
pub next_feeding : {A : Type 0} (seen : A → Option SourceSeen) (plan : Shape) (done now all : List Feeding)
    (rest after : List A) (x : A) (y : Feeding) → rest ≡ x ∷ after
    → now ≡ done ++ y ∷ [] → y ≡ first_feeding plan (length done) (seen x)
    → done ++ starting_from plan (length done) (map seen rest) ≡ all
    → now ++ starting_from plan (length now) (map seen after) ≡ all
next_feeding {A = A} seen plan done now all rest after x y next now_is made before =
    let long : length now ≡ length done + 1 = ap (λ (ys : List Feeding). length ys) now_is ∙ length-append done (y ∷ []) in
    let tail : List Feeding = starting_from plan (length done + 1) (map seen after) in
    ap (λ (n : ℕ). now ++ starting_from plan n (map seen after)) long
    ∙ ap (λ (ys : List Feeding). ys ++ tail) now_is ∙ append_assoc done (y ∷ []) tail
    ∙ ap (λ (z : Feeding). done ++ z ∷ tail) made
    ∙ ap (λ (xs : List A). done ++ starting_from plan (length done) (map seen xs)) (sym next) ∙ before

-- one item moves over, and both lists together keep their length
pub as_many : {A B : Type 0} (most : ℕ) (done now : List B) (rest after : List A) (x : A) (y : B) → rest ≡ x ∷ after
    → now ≡ done ++ y ∷ []
    → length done + length rest ≤ most → length now + length after ≤ most
as_many {A = A} {B = B} most done now rest after x y next now_is few =
    let one_less = ap (λ (xs : List A). length xs) next in
    let one_more = ap (λ (ys : List B). length ys) now_is in
    let sum = length-append done (y ∷ []) in
    omega (arith, few, one_less, one_more, sum)
