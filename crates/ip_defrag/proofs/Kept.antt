-- The extent of some frames, and of one more.
use Rattle.std.proofs.Common.{◌≡◌, ◌+◌, ◌-◌, ◌≤◌, max, Bool, true, false, List, [], ◌∷◌, ◌++◌, Option, None, Some, option_map}
use Rattle.std.proofs.Common.{find, cond, arith, refl, ap, ◌∙◌}
use Rattle.std.specs.List.{list_any}
use Rattle.std.specs.Option.{option_or}
use Rattle.std.proofs.lemmas.List.Folds.{find-append}
use Rattle.std.proofs.lemmas.List.Sums.{sum_by-append, sum_by-cons}
use Rattle.frame_view.specs.declared.frames.Frame.{Frame}
use Rattle.ip_defrag.specs.Extents.{AreKept, reach_of, end_of, end_with, extent_of, extended}
use Rattle.ip_defrag.specs.Fold.{conflicts}
use Rattle.ip_defrag.specs.Fragments.{takes_part, from_of, to_of, is_last}
use Rattle.ip_defrag.specs.Held.{filled}
use Rattle.ip_defrag.specs.declared.extents.Extent.{Extent}
use Rattle.ip_defrag.proofs.Covers.{filled-most, held_push}

filled_push : (frames : List Frame) (new : Frame) → filled (frames ++ new ∷ []) ≡ filled frames + (to_of new - from_of new)
filled_push frames new =
    let all = sum_by-append (λ (f : Frame). to_of f - from_of f) frames (new ∷ []) in
    let one = sum_by-cons (λ (f : Frame). to_of f - from_of f) new [] in
    omega (arith, all, one)

end_push : (frames : List Frame) (new : Frame) → end_of (frames ++ new ∷ []) ≡ end_with new (end_of frames)
end_push frames new = ap (option_map to_of) (find-append is_last frames (new ∷ [])) ∙ by_found (find is_last frames)
  where
    by_test : (b : Bool) → option_map to_of (cond b (Some new) None) ≡ cond b (Some (to_of new)) None
    by_test true = refl
    by_test false = refl

    by_found : (o : Option Frame) → option_map to_of (option_or o (cond (is_last new) (Some new) None))
        ≡ end_with new (option_map to_of o)
    by_found None = by_test (is_last new)
    by_found (Some last) = refl

pub reach_push : (frames : List Frame) (new : Frame) → reach_of (frames ++ new ∷ []) ≡ max (reach_of frames) (to_of new)
reach_push [] new = omega arith
reach_push (frame ∷ frames) new = let rest = reach_push frames new in omega (arith, rest)

pub extent_push : (frames : List Frame) (new : Frame) → extended new (extent_of frames) ≡ extent_of (frames ++ new ∷ [])
unfolding extent_of
extent_push frames new = cc (filled_push frames new, reach_push frames new, end_push frames new)

-- the bytes of data are those of a datagram at most
pub kept_most : (frames : List Frame) (extent : Extent) → AreKept frames extent → extent.filled ≤ 65475
unfolding extent_of
kept_most frames extent kept =
    let counted : extent.filled ≡ filled frames = ap (λ (e : Extent). e.filled) kept.counted in
    omega (arith, counted, filled-most frames kept.held)

-- one more frame, which conflicts with none
pub kept_push : (frames : List Frame) (new : Frame) (extent : Extent) → AreKept frames extent → takes_part new ≡ true
    → list_any (conflicts new) frames ≡ false → AreKept (frames ++ new ∷ []) (extended new extent)
kept_push frames new extent kept taken none = record {
  held = held_push frames new kept.held taken none;
  counted = ap (extended new) kept.counted ∙ extent_push frames new;
}

-- none
pub kept_none : (extent : Extent) → extent ≡ extent_of [] → AreKept [] extent
kept_none extent is = record { held = tt; counted = is }
