-- The data of packets one after another, and a packet's part of them.
use Rattle.std.proofs.Common.{◌≡◌, ℕ, zero, suc, ◌+◌, ◌-◌, ◌≤◌, ◌<◌, List, [], ◌∷◌, ◌++◌, length, take, drop, refl, sym, ◌∙◌}
use Rattle.std.proofs.Common.{ap, length-append, length-drop, length-take, drop-drop, append_assoc, append-nil, subst, arith}
use Rattle.std.proofs.lemmas.List.{take-append-le}
use Rattle.std.proofs.Math.Seq.{take-append_seam, drop-append_seam}
use Rattle.frame_view.specs.declared.frames.Packet.{Packet}
use Rattle.ring_model.specs.Sizes.{need_of}
use Rattle.tp_layout.specs.Rows.{number_at}
use Rattle.tp_layout.specs.Packets.{packet_at, need_at}
use Rattle.tp_layout.specs.Faults.{packets_in}
use Rattle.tp_layout.specs.Checks.{PassesTests}
use Rattle.tp_layout.specs.Readers.{data_of}
use Rattle.tp_layout.proofs.Walks.{first_passes, packets_in_step, none_in}

pub data_first : (packet : Packet) (packets : List Packet) → data_of (packet ∷ packets) ≡ packet.bytes ++ data_of packets
unfolding data_of
data_first packet packets = refl

pub data_none : data_of [] ≡ []
unfolding data_of
data_none = refl

-- the first packet's data, and that of the others
pub data_step : (count : ℕ) (bytes : List ℕ) → 0 < count
    → data_of (packets_in count bytes) ≡ take (number_at 4 12 bytes) (drop 82 bytes)
    ++ data_of (packets_in (count - 1) (drop (need_at bytes) bytes))
unfolding packet_at
data_step count bytes some = ap data_of (packets_in_step count bytes some) ∙ data_first _ _

need_above : (snap : ℕ) → 82 + snap ≤ need_of snap
need_above snap = omega arith

-- data is no longer than the bytes that it is in
pub data_small : (count : ℕ) (bytes : List ℕ) → PassesTests count bytes
    → length (data_of (packets_in count bytes)) ≤ length bytes
data_small zero bytes passes = rw (none_in zero bytes refl, data_none) omega arith
data_small (suc more) bytes passes =
    let some : 0 < suc more = omega arith in
    let n : suc more - 1 ≡ more = omega arith in
    let first = first_passes (suc more) bytes some passes in
    let passes_rest : PassesTests more (drop (need_at bytes) bytes) =
    subst (λ (k : ℕ). PassesTests k (drop (need_at bytes) bytes)) n first.rest in
    let rest = data_small more (drop (need_at bytes) bytes) passes_rest in
    rw (data_step (suc more) bytes some, n, length-append, length-take)
    (omega (
      arith,
      rest,
      first.within,
      first.snap,
      length-drop 82 bytes,
      length-drop (need_at bytes) bytes,
      need_above (number_at 4 12 bytes),
    ))

-- ---- data that is copied packet by packet

pub copied_step : (copied bytes all : List ℕ) (count : ℕ) → 0 < count → copied ++ data_of (packets_in count bytes) ≡ all
    → (copied ++ take (number_at 4 12 bytes) (drop 82 bytes))
    ++ data_of (packets_in (count - 1) (drop (need_at bytes) bytes)) ≡ all
copied_step copied bytes all count some e =
    append_assoc copied _ _ ∙ (ap (λ (rest : List ℕ). copied ++ rest) (sym (data_step count bytes some)) ∙ e)

pub copied_end : (copied bytes all : List ℕ) (count : ℕ) → count ≤ 0 → copied ++ data_of (packets_in count bytes) ≡ all
    → copied ≡ all
copied_end copied bytes all count none e =
    let n : count ≡ 0 = omega arith in
    let empty : data_of (packets_in count bytes) ≡ [] = ap data_of (none_in count bytes n) ∙ data_none in
    sym (append-nil copied) ∙ (ap (λ (rest : List ℕ). copied ++ rest) (sym empty) ∙ e)

-- ---- a part of the data

part_within : (all part rest : List ℕ) (from : ℕ) → from ≤ length all → drop from all ≡ part ++ rest
    → from + length part ≤ length all
part_within all part rest from within e =
    let sum = ap length e in
    omega (arith, sum, length-append part rest, length-drop from all)

part_is : (all part rest : List ℕ) (from : ℕ) → drop from all ≡ part ++ rest → take (length part) (drop from all) ≡ part
part_is all part rest from e = rw e (take-append_seam part rest)

part_rest : (all part rest : List ℕ) (from : ℕ) → drop from all ≡ part ++ rest → drop (from + length part) all ≡ rest
part_rest all part rest from e = sym (drop-drop (length part) from all) ∙ rw e (drop-append_seam part rest)

-- what is known of the part that is the data of the first packet left
pub record FirstPart (left from : ℕ) (rest piece : List ℕ) : Type 0 where
  pub within : from + number_at 4 12 rest ≤ length piece
  pub is : take (number_at 4 12 rest) (drop from piece) ≡ take (number_at 4 12 rest) (drop 82 rest)
  pub others : drop (from + number_at 4 12 rest) piece ≡ data_of (packets_in (left - 1) (drop (need_at rest) rest))

pub first_part : (left from : ℕ) (rest piece : List ℕ) → 0 < left → PassesTests left rest → from ≤ length piece
    → drop from piece ≡ data_of (packets_in left rest) → FirstPart left from rest piece
first_part left from rest piece some passes within joined =
    let first = first_passes left rest some passes in
    let n = number_at 4 12 rest in
    let part = take n (drop 82 rest) in
    let others = data_of (packets_in (left - 1) (drop (need_at rest) rest)) in
    let size : length part ≡ n = omega (arith, first.snap, length-take n (drop 82 rest), length-drop 82 rest) in
    let step : drop from piece ≡ part ++ others = joined ∙ data_step left rest some in
    record {
      within = omega (arith, size, part_within piece part others from within step);
      is = ap (λ (k : ℕ). take k (drop from piece)) (sym size) ∙ part_is piece part others from step;
      others = ap (λ (k : ℕ). drop (from + k) piece) (sym size) ∙ part_rest piece part others from step;
    }

-- ---- a list with one more item

pub front_kept : {X : Type 0} (old into : List X) (x : X) → take (length old) into ≡ old
    → take (length old) (into ++ x ∷ []) ≡ old
front_kept old into x e =
    let same = ap length e in
    let long : length old ≤ length into = omega (arith, same, length-take (length old) into) in
    take-append-le (length old) into (x ∷ []) long ∙ e

pub one_more : {X : Type 0} (into packets others all : List X) (x : X) → into ++ packets ≡ all → packets ≡ x ∷ others
    → (into ++ x ∷ []) ++ others ≡ all
one_more into packets others all x e step =
    append_assoc into (x ∷ []) others ∙ (ap (λ rest. into ++ rest) (sym step) ∙ e)
