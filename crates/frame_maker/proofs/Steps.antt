-- One more frame, and one more byte.
use Rattle.std.proofs.Common.{sym, append_assoc, ◌≡◌, ◌%◌, ℕ, suc, ◌+◌, ◌-◌, ◌<◌, List, [], ◌∷◌, ◌++◌, length, ap, ◌∙◌, arith}
use Rattle.std.proofs.lemmas.List.FromFn.{map-range_with_len_more, length-map-range_with_len}
use Rattle.std.proofs.lemmas.List.{append-nil}
use Rattle.frame_view.specs.declared.frames.Frame.{Frame}
use Rattle.frame_maker.specs.Made.{made_from, made_frame, after_frame, payload_of}

pub payload_of-more : (i len : ℕ) → payload_of i (len + 1) ≡ payload_of i len ++ (i + len) % 256 ∷ []
payload_of-more i len = map-range_with_len_more (λ (j : ℕ). (i + j) % 256) 0 len len (omega arith)

pub length-payload_of : (i len : ℕ) → length (payload_of i len) ≡ len
length-payload_of i len = length-map-range_with_len (λ (j : ℕ). (i + j) % 256) 0 len

-- the frames so far, with what is still to be made
pub made_from-more : (frames : List Frame) (count i state : ℕ) → i < count
    → frames ++ made_from (count - i) i state ≡ (frames ++ made_frame i state ∷ [])
    ++ made_from (count - (i + 1)) (i + 1) (after_frame state)
unfolding made_from
made_from-more frames count i state h =
    let next : count - i ≡ suc (count - (i + 1)) = omega arith in
    ap (λ (n : ℕ). frames ++ made_from n i state) next
    ∙ sym (append_assoc frames (made_frame i state ∷ []) (made_from (count - (i + 1)) (i + 1) (after_frame state)))

pub made_from-none : (frames : List Frame) (n i state : ℕ) → n ≡ 0 → frames ++ made_from n i state ≡ frames
unfolding made_from
made_from-none frames n i state h = ap (λ (m : ℕ). frames ++ made_from m i state) h ∙ append-nil frames

pub ruleset steps = (payload_of-more, length-payload_of, made_from-more, made_from-none)
