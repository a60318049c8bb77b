-- What each made frame is, and how many there are.
use Rattle.std.proofs.Common.{◌≡◌, ◌∙◌, ◌%◌, ℕ, zero, suc, ◌+◌, length, refl, ap, arith}
use Rattle.std.specs.List.{All}
use Rattle.std.proofs.lemmas.List.Elements.{All-cons, All-nil}
use Rattle.frame_view.specs.Built.{built}
use Rattle.frame_view.proofs.Viewed.{length-built}
use Rattle.frame_maker.specs.Made.{made, made_from, made_frame, made_parts, after_frame, parts_of, frame_with, payload_of}
use Rattle.frame_maker.specs.Made.{IsMade}
use Rattle.frame_maker.proofs.Steps.{length-payload_of}

length-parts : (i a b c d : ℕ) → length (built (parts_of i a b c d)) ≡ 42 + d % 1401
length-parts i a b c d =
    let len : length (payload_of i (d % 1401)) ≡ d % 1401 = length-payload_of i (d % 1401) in
    length-built (parts_of i a b c d) refl refl (omega (arith, len)) ∙ omega (arith, len)

IsMade-frame_with : (i a b c d : ℕ) → IsMade (frame_with i (built (parts_of i a b c d)))
IsMade-frame_with i a b c d =
    let len = length-parts i a b c d in
    record { long = omega (arith, len); short = omega (arith, len); whole = refl; time = omega arith; plain = refl }

IsMade-made_frame : (i state : ℕ) → IsMade (made_frame i state)
unfolding made_frame made_parts
IsMade-made_frame i state = IsMade-frame_with i _ _ _ _

All-made_from : (n i state : ℕ) → All IsMade (made_from n i state)
unfolding made_from
All-made_from zero i state = All-nil IsMade
All-made_from (suc n) i state =
    All-cons IsMade (made_frame i state) (made_from n (i + 1) (after_frame state)) (IsMade-made_frame i state)
    (All-made_from n (i + 1) (after_frame state))

length-made_from : (n i state : ℕ) → length (made_from n i state) ≡ n
unfolding made_from
length-made_from zero i state = refl
length-made_from (suc n) i state = ap suc (length-made_from n (i + 1) (after_frame state))

pub All-made : (seed count : ℕ) → All IsMade (made seed count)
unfolding made
All-made seed count = All-made_from count 0 seed

pub length-made : (seed count : ℕ) → length (made seed count) ≡ count
unfolding made
length-made seed count = length-made_from count 0 seed

pub ruleset each = (All-made, length-made)
