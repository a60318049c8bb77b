-- The blocks of some marks, whose packets follow one another.
use Rattle.std.proofs.Common.{◌≡◌, ℕ, ◌+◌, ◌≤◌, Bool, true, false, List, [], ◌∷◌, ◌++◌, length, take, drop, refl, ap, ◌∙◌}
use Rattle.std.proofs.Common.{arith}
use Rattle.std.proofs.Math.Seq.{take-length}
use Rattle.std.proofs.lemmas.Grind.{flat_map-append}
use Rattle.std.proofs.lemmas.List.{append-nil, take-append-drop, take-append-le, drop-append-le, length-take-le, length-append}
use Rattle.std.specs.Prelude.{flat_map}
use Rattle.frame_view.specs.declared.frames.Packet.{Packet}
use Rattle.tp_layout.specs.Layouts.{Taken}
use Rattle.tp_layout.specs.declared.requests.RingRequest.{RingRequest}
use Rattle.reader_walk.specs.Readers.{kept_texts, texts_by, walked_of}
use Rattle.reader_walk.specs.ReadersInside.{remnant_of, packets_in, taken_by}
use Rattle.reader_walk.specs.Texts.{kept_if}
use Rattle.reader_walk.specs.declared.copies.Remnant.{Remnant}

pub as_many : (marks : List Remnant) (packets : List Packet) → length (taken_by marks packets) ≡ length marks
unfolding taken_by
as_many [] packets = refl
as_many (mark ∷ marks) packets = rw (as_many marks (drop mark.packets packets)) refl

length_drop : {X : Type 0} (n m : ℕ) (xs : List X) → n + m ≡ length xs → m ≡ length (drop n xs)
length_drop n m xs e =
    let split = length-append (take n xs) (drop n xs) in
    let whole = ap (λ ys. length ys) (take-append-drop n xs) in
    let front = length-take-le n xs (omega arith) in
    omega arith

-- the packets of all blocks are all packets
pub all_walked : (marks : List Remnant) (packets : List Packet) → packets_in marks ≡ length packets
    → walked_of (taken_by marks packets) ≡ packets
unfolding taken_by walked_of
all_walked [] [] e = refl
all_walked [] (packet ∷ packets) e = cc
all_walked (mark ∷ marks) packets e =
    rw (all_walked marks (drop mark.packets packets) (length_drop mark.packets (packets_in marks) packets e))
    (take-append-drop mark.packets packets)

-- one more block
pub one_more : (marks : List Remnant) (packets : List Packet) (more : Taken) → packets_in marks ≡ length packets
    → taken_by (marks ++ remnant_of more ∷ []) (packets ++ more.packets) ≡ taken_by marks packets ++ more ∷ []
unfolding taken_by
one_more [] [] more e = rw (take-length more.packets) refl
one_more [] (packet ∷ packets) more e = cc
one_more (first ∷ marks) packets more e =
    let short : first.packets ≤ length packets = omega arith in
    rw (
      take-append-le first.packets packets more.packets short,
      drop-append-le first.packets packets more.packets short,
      one_more marks (drop first.packets packets) more (length_drop first.packets (packets_in marks) packets e),
    ) refl

pub counted_more : (marks : List Remnant) (packets : List Packet) (more : Taken) → packets_in marks ≡ length packets
    → packets_in (marks ++ remnant_of more ∷ []) ≡ length (packets ++ more.packets)
counted_more [] packets more e =
    let split = length-append packets more.packets in omega arith
counted_more (first ∷ marks) packets more e =
    let rest = counted_more marks (drop first.packets packets) more (length_drop first.packets (packets_in marks) packets e) in
    let split = length-append (drop first.packets packets) more.packets in
    let all = length-append packets more.packets in
    let left = length_drop first.packets (packets_in marks) packets e in
    omega arith

-- what is kept of its text follows the others
pub dump_more : (text : RingRequest → Taken → List ℕ) (dumps : Bool) (shape : RingRequest) (taken : List Taken) (more : Taken)
    → kept_texts text dumps shape (taken ++ more ∷ []) ≡ kept_texts text dumps shape taken ++ kept_if dumps (text shape more)
unfolding texts_by
dump_more text true shape taken more =
    flat_map-append (text shape) taken (more ∷ [])
    ∙ ap (λ (rest : List ℕ). flat_map (text shape) taken ++ rest) (append-nil (text shape more))
dump_more text false shape taken more = refl
