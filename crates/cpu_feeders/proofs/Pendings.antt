-- The pending blocks of a ring, read one after another.
use Rattle.std.proofs.Common.{◌≡◌, ℕ, ◌+◌, ◌<◌, ◌≤◌, List, [], ◌∷◌, ◌++◌, length, take, get_or, append_assoc, Some, sym, ap}
use Rattle.std.proofs.Common.{◌∙◌, arith}
use Rattle.std.specs.Prelude.{slice_get}
use Rattle.std.proofs.lemmas.List.{length-append, length-map, length-take-le, map-append, take_more}
use Rattle.std.proofs.lemmas.Option.{get_or_from_slice_get}
use Rattle.member_turns.specs.Closings.{contents_of}
use Rattle.reader_walk.specs.Takers.{Base}
use Rattle.tp_layout.specs.Layouts.{Taken, taken_in}
use Rattle.ring_words.specs.Rings.{Entry}
use Rattle.tp_layout.specs.BlockWrites.{ShapedBytes}
use Rattle.cpu_feeders.specs.Walks.{taken_of}

-- the blocks that were taken and those that are left are all that were retired
pub all_read : (base : Base) (done now : List Taken) (walked left retired : List Entry) → done ≡ taken_of base walked
    → now ≡ done ++ taken_of base left
    → walked ++ left ≡ retired → now ≡ taken_of base retired
all_read base done now walked left retired h more all =
    more ∙ ap (λ (some : List Taken). some ++ taken_of base left) h
    ∙ sym (map-append (λ (entry : Entry). taken_in base.shape entry.0) walked left) ∙ ap (taken_of base) all

-- there is a content for each block
pub contents_length : (blocks : List (ShapedBytes × ℕ)) → length (contents_of blocks) ≡ length blocks
contents_length blocks = length-map blocks (λ (one : ShapedBytes × ℕ). (one.0.bytes, one.1))

-- the number of blocks read when n of those that are left were read
pub pending_length : (base : Base) (first now : List Taken) (blocks : List (ShapedBytes × ℕ)) (at : ℕ) → at ≤ length blocks
    → now ≡ first ++ taken_of base (contents_of (take at blocks)) → length now ≡ length first + at
pending_length base first now blocks at within is =
    let left : List (ShapedBytes × ℕ) = take at blocks in
    let count = length-map (contents_of left) (λ (entry : Entry). taken_in base.shape entry.0) ∙ contents_length left in
    let all = length-append first (taken_of base (contents_of left)) in
    omega (arith, count, all, ap length is, length-take-le at blocks within)

-- one more block
pub pending_more : (base was : Base) (first before after : List Taken) (blocks : List (ShapedBytes × ℕ)) (at : ℕ)
    (block : ShapedBytes) (status : ℕ)
    → slice_get blocks at ≡ Some (block, status) → at < length blocks → was ≡ base
    → before ≡ first ++ taken_of base (contents_of (take at blocks)) → after ≡ before ++ taken_in was.shape block.bytes ∷ []
    → after ≡ first ++ taken_of base (contents_of (take (at + 1) blocks))
pending_more base was first before after blocks at block status got within same h one =
    let here : get_or blocks at (block, status) ≡ (block, status) =
    get_or_from_slice_get blocks at (block, status) (block, status) got in
    let longer : take (at + 1) blocks ≡ take at blocks ++ (block, status) ∷ [] =
    take_more blocks at (block, status) within ∙ ap (λ (one : ShapedBytes × ℕ). take at blocks ++ one ∷ []) here in
    let contents : contents_of (take (at + 1) blocks) ≡ contents_of (take at blocks) ++ (block.bytes, status) ∷ [] =
    ap contents_of longer ∙ map-append (λ (one : ShapedBytes × ℕ). (one.0.bytes, one.1)) (take at blocks)
    ((block, status) ∷ []) in
    let taken : taken_of base (contents_of (take (at + 1) blocks)) ≡ taken_of base (contents_of (take at blocks))
    ++ taken_in base.shape block.bytes ∷ [] =
    ap (taken_of base) contents ∙ map-append (λ (entry : Entry). taken_in base.shape entry.0) (contents_of (take at blocks))
    ((block.bytes, status) ∷ []) in
    one ∙ ap (λ (b : Base). before ++ taken_in b.shape block.bytes ∷ []) same
    ∙ ap (λ (some : List Taken). some ++ taken_in base.shape block.bytes ∷ []) h
    ∙ append_assoc first (taken_of base (contents_of (take at blocks))) (taken_in base.shape block.bytes ∷ [])
    ∙ ap (λ (some : List Taken). first ++ some) (sym taken)
