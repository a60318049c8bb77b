-- Where a text is cut into lines.
use Rattle.std.proofs.Common.{◌≡◌, ◌<◌, ◌==◌, ◌∙◌, ℕ, List, [], ◌∷◌, ◌++◌, length, map, ap, sym, Bor, arith, false}
use Rattle.std.proofs.lemmas.List.{append_assoc, map-append}
use Rattle.std.proofs.lemmas.Grind.{common_steps}
use Rattle.std.proofs.lemmas.List.Elements.{All-from_get_or}
use Rattle.std.proofs.lemmas.List.Splits.{slice_split_first, slice_split_none}
use Rattle.std.proofs.lemmas.List.Sums.{fails_before_first}
use Rattle.std.specs.List.{slice_split, before_first, after_first, position_or_len}

-- the lines of what is left begin with the one that ends at its first line feed
cut : (rest front behind : List ℕ) (done : List (List ℕ))
    → front ≡ before_first (λ b. b == 10) rest → behind ≡ after_first (λ b. b == 10) rest
    → position_or_len (λ b. b == 10) rest < length rest
    → done ++ slice_split (λ b. b == 10) rest ≡ (done ++ front ∷ []) ++ slice_split (λ b. b == 10) behind
cut rest front behind done f b l =
    ap (λ xs. done ++ xs) (slice_split_first (λ b. b == 10) rest 0 l)
    ∙ ap (λ x. done ++ (x ∷ slice_split (λ b. b == 10) (after_first (λ b. b == 10) rest))) (sym f)
    ∙ ap (λ x. done ++ (front ∷ slice_split (λ b. b == 10) x)) (sym b)
    ∙ sym (append_assoc done (front ∷ []) (slice_split (λ b. b == 10) behind))

-- the same of the lines that were taken so far
pub step : (text rest behind : List ℕ) (front : Bor (List ℕ)) (done more : List (Bor (List ℕ)))
    → slice_split (λ b. b == 10) text ≡ map (λ x. x.now) done ++ slice_split (λ b. b == 10) rest
    → front.now ≡ before_first (λ b. b == 10) rest → behind ≡ after_first (λ b. b == 10) rest
    → position_or_len (λ b. b == 10) rest < length rest → more ≡ done ++ front ∷ []
    → slice_split (λ b. b == 10) text ≡ map (λ x. x.now) more ++ slice_split (λ b. b == 10) behind
step text rest behind front done more e f b l m =
    e ∙ cut rest front.now behind (map (λ x. x.now) done) f b l
    ∙ ap (λ xs. xs ++ slice_split (λ b. b == 10) behind) (sym (map-append (λ x. x.now) done (front ∷ [])))
    ∙ ap (λ xs. map (λ x. x.now) xs ++ slice_split (λ b. b == 10) behind) (sym m)

-- what is left without a line feed is one line
pub whole : (rest : List ℕ) → position_or_len (λ b. b == 10) rest ≡ length rest
    → slice_split (λ b. b == 10) rest ≡ rest ∷ []
whole rest e =
    slice_split_none (λ b. b == 10) rest
    (All-from_get_or (λ x. (x == 10) ≡ false) rest 0 (λ k lt. fails_before_first (λ b. b == 10) rest k 0 (grind (arith, common_steps))))

pub last : (text : List ℕ) (rest : Bor (List ℕ)) (done more : List (Bor (List ℕ)))
    → slice_split (λ b. b == 10) text ≡ map (λ x. x.now) done ++ slice_split (λ b. b == 10) rest.now
    → position_or_len (λ b. b == 10) rest.now ≡ length rest.now → more ≡ done ++ rest ∷ []
    → map (λ x. x.now) more ≡ slice_split (λ b. b == 10) text
last text rest done more e l m =
    ap (map (λ x. x.now)) m ∙ map-append (λ x. x.now) done (rest ∷ [])
    ∙ ap (λ xs. map (λ x. x.now) done ++ xs) (sym (whole rest.now l)) ∙ sym e
