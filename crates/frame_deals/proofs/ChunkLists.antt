-- Frames in chunks.
use Rattle.std.proofs.Common.{◌≡◌, List, [], ◌∷◌, ◌++◌, refl, sym, ap, ◌∙◌, append_assoc, append-nil}
use Rattle.std.specs.Prelude.{◌≢◌, slice_get}
use Rattle.std.specs.List.{AllByRecursion}
use Rattle.frame_deals.specs.inside.Chunks.{IsFilled, chunked, joined}
use Rattle.frame_deals.specs.declared.mark_queue.MarkedFrame.{MarkedFrame}

-- the first frame is in the first chunk
pub front_is : (head : List MarkedFrame) (middle : List (List MarkedFrame)) (tail : List MarkedFrame)
    → IsFilled head middle tail → slice_get head 0 ≡ slice_get (chunked head middle tail) 0
front_is [] middle tail h =
    let none = h.none refl in
    ap (λ (ms : List (List MarkedFrame)). slice_get (joined ms) 0) (sym none.0)
    ∙ ap (λ (frames : List MarkedFrame). slice_get frames 0) (sym (append-nil (joined middle)))
    ∙ ap (λ (t : List MarkedFrame). slice_get (joined middle ++ t) 0) (sym none.1)
front_is (frame ∷ head) middle tail h = refl

-- a frame at the end
pub end_more : (head : List MarkedFrame) (middle : List (List MarkedFrame)) (tail : List MarkedFrame) (frame : MarkedFrame)
    → chunked head middle (tail ++ frame ∷ []) ≡ chunked head middle tail ++ frame ∷ []
end_more head middle tail frame =
    ap (λ (rest : List MarkedFrame). head ++ rest) (sym (append_assoc (joined middle) tail (frame ∷ [])))
    ∙ sym (append_assoc head (joined middle ++ tail) (frame ∷ []))

joined_more : (middle : List (List MarkedFrame)) (tail : List MarkedFrame)
    → joined (middle ++ tail ∷ []) ≡ joined middle ++ tail
joined_more [] tail = append-nil tail
joined_more (chunk ∷ middle) tail =
    ap (λ (rest : List MarkedFrame). chunk ++ rest) (joined_more middle tail) ∙ sym (append_assoc chunk (joined middle) tail)

-- ---- room for one more

pub moved_same : (middle now_middle : List (List MarkedFrame)) (tail now_tail : List MarkedFrame)
    → now_middle ≡ middle ++ tail ∷ [] → now_tail ≡ [] → joined now_middle ++ now_tail ≡ joined middle ++ tail
moved_same middle now_middle tail now_tail m t =
    ap (λ (ms : List (List MarkedFrame)). joined ms ++ now_tail) m
    ∙ ap (λ (x : List MarkedFrame). joined (middle ++ tail ∷ []) ++ x) t
    ∙ append-nil (joined (middle ++ tail ∷ []))
    ∙ joined_more middle tail

pub some_more : (middle : List (List MarkedFrame)) (tail : List MarkedFrame)
    → AllByRecursion (λ chunk. chunk ≢ []) middle → tail ≢ []
    → AllByRecursion (λ chunk. chunk ≢ []) (middle ++ tail ∷ [])
some_more [] tail all some = (some, tt)
some_more (chunk ∷ middle) tail all some = (all.0, some_more middle tail all.1 some)
