-- When the frames of a name are a whole datagram.
use Rattle.std.proofs.Common.{◌≡◌, ◌≤◌, ℕ, false, nat_eq, List, find, Option, None, Some, option_map, cond, refl, ap, ◌∙◌}
use Rattle.std.proofs.Common.{sym, subst}
use Rattle.std.specs.List.{AllByRecursion}
use Rattle.std.proofs.lemmas.Option.{same_Some, none-some}
use Rattle.frame_view.specs.declared.frames.Frame.{Frame}
use Rattle.ip_defrag.specs.Fragments.{to_of, is_last}
use Rattle.ip_defrag.specs.Datagrams.{completed, completed_at, datagram_from, is_first}
use Rattle.ip_defrag.specs.Extents.{AreKept, extent_of}
use Rattle.ip_defrag.specs.Held.{AreHeld, filled}
use Rattle.ip_defrag.specs.declared.extents.Extent.{Extent}
use Rattle.ip_defrag.proofs.Covers.{covers_all_is, last_within}

-- what comes out for this number of bytes of data
abbrev pub by_count : ℕ → ℕ → List Frame → Frame → Option Frame
by_count count end frames newest =
    cond (nat_eq count end) (option_map (λ (first : Frame). datagram_from first end frames newest) (find is_first frames)) None

by_last : (frames : List Frame) (newest last : Frame) → AreHeld frames → find is_last frames ≡ Some last
    → completed frames newest ≡ by_count (filled frames) (to_of last) frames newest
unfolding completed
by_last frames newest last held is =
    ap (λ (o : Option Frame). completed_at o frames newest) is
    ∙ simp (covers_all_is frames (to_of last) held (last_within frames last held is))

-- some byte is missing
pub not_completed : (frames : List Frame) (newest last : Frame) → AreHeld frames → find is_last frames ≡ Some last
    → nat_eq (filled frames) (to_of last) ≡ false → completed frames newest ≡ None
not_completed frames newest last held is fewer = by_last frames newest last held is ∙ simp fewer

-- the last frame, if an end is kept
last_of : (o : Option Frame) (end : ℕ) → option_map to_of o ≡ Some end → (last : Frame) × (o ≡ Some last) × (to_of last ≡ end)
last_of None end e = absurd (none-some end e)
last_of (Some last) end e = (last, refl, same_Some _ _ e)

kept_last : (frames : List Frame) (extent : Extent) (end : ℕ) → AreKept frames extent → extent.end ≡ Some end
    → (last : Frame) × (find is_last frames ≡ Some last) × (to_of last ≡ end)
unfolding extent_of
kept_last frames extent end kept is = last_of (find is_last frames) end (sym (ap (λ (e : Extent). e.end) kept.counted) ∙ is)

kept_filled : (frames : List Frame) (extent : Extent) → AreKept frames extent → filled frames ≡ extent.filled
unfolding extent_of
kept_filled frames extent kept = sym (ap (λ (e : Extent). e.filled) kept.counted)

-- if an end is kept, the count decides
pub counted : (frames : List Frame) (newest : Frame) (extent : Extent) (end : ℕ) → AreKept frames extent → extent.end ≡ Some end
    → completed frames newest ≡ by_count extent.filled end frames newest
counted frames newest extent end kept is =
    let l = kept_last frames extent end kept is in
    subst (λ (e : ℕ). completed frames newest ≡ by_count (filled frames) e frames newest) l.2
    (by_last frames newest l.0 kept.held l.1)
    ∙ ap (λ (n : ℕ). by_count n end frames newest) (kept_filled frames extent kept)

-- and no frame reaches past it
pub kept_within : (frames : List Frame) (extent : Extent) (end : ℕ) → AreKept frames extent → extent.end ≡ Some end
    → AllByRecursion (λ frame. to_of frame ≤ end) frames
kept_within frames extent end kept is =
    let l = kept_last frames extent end kept is in
    subst (λ (e : ℕ). AllByRecursion (λ (frame : Frame). to_of frame ≤ e) frames) l.2 (last_within frames l.0 kept.held l.1)

-- if none is kept, no frame is last
pub unended : (frames : List Frame) (newest : Frame) (extent : Extent) → AreKept frames extent → extent.end ≡ None
    → completed frames newest ≡ None
unfolding completed extent_of
unended frames newest extent kept is =
    ap (λ (o : Option Frame). completed_at o frames newest)
    (none (find is_last frames) (sym (ap (λ (e : Extent). e.end) kept.counted) ∙ is))
  where
    none : (o : Option Frame) → option_map to_of o ≡ None → o ≡ None
    none None e = refl
    none (Some last) e = absurd (none-some (to_of last) (sym e))
