-- Places one after another, and the places that two fragments share.
use Rattle.std.proofs.Common.{◌≡◌, ℕ, zero, suc, ◌+◌, ◌-◌, ◌<◌, min, max, Bool, ◌&&◌, ◌||◌, nat_lt, nat_le, arith, ap, ◌∙◌}
use Rattle.std.specs.List.{list_any}
use Rattle.std.proofs.lemmas.Bool.Decides.{nat_tests}
use Rattle.frame_view.specs.declared.frames.Frame.{Frame}
use Rattle.ip_defrag.specs.Fragments.{from_of, to_of}
use Rattle.ip_defrag.specs.Datagrams.{places, shares}

-- whether some of the places lie between two ends
one_within : (from count low high : ℕ) → list_any (λ place. nat_le low place && nat_lt place high) (places from count)
    ≡ nat_lt (max from low) (min (from + count) high)
one_within from zero low high = grind (arith, nat_tests)
one_within from (suc count) low high =
    let rest = one_within (from + 1) count low high in
    ap (λ (b : Bool). (nat_le low from && nat_lt from high) || b) rest ∙ here
  where
    here : ((nat_le low from && nat_lt from high) || nat_lt (max (from + 1) low) (min (from + 1 + count) high))
        ≡ nat_lt (max from low) (min (from + suc count) high)
    here = grind (arith, nat_tests)

-- two fragments with data share a place if each begins before the other ends
pub shares_is : (frame other : Frame) → from_of frame < to_of frame → from_of other < to_of other
    → shares frame other ≡ (nat_lt (from_of frame) (to_of other) && nat_lt (from_of other) (to_of frame))
unfolding shares
shares_is frame other some some_other =
    one_within (from_of frame) (to_of frame - from_of frame) (from_of other) (to_of other) ∙ grind (arith, nat_tests)

pub ruleset shared = shares_is
