-- The numbers of each frame of a list of bytes have 32 bits.
use Rattle.pcapng_blocks.proofs.Names.{◌≡◌, ℕ, ◌+◌, ◌-◌, ◌^◌, ◌<◌, List, [], ◌∷◌, ◌++◌, length, get_or, take, drop, inl, inr}
use Rattle.pcapng_blocks.proofs.Names.{arith, ◌==◌, if◌then◌else◌, Bool, true, false, slice_get, All, Option, None, Some}
use Rattle.pcapng_blocks.proofs.Names.{Result, Ok, Err, AllByRecursion, cases_Bool, cases_lt, append-nil, length-take}
use Rattle.pcapng_blocks.proofs.Names.{get_or-drop, get_or-take, get_or_past, get_or_default, little_from-lt, big_from-lt}
use Rattle.pcapng_blocks.proofs.Names.{Frame, Order, Little, Big, BlockError, Head, Kind, Interface, Captured, Meaning}
use Rattle.pcapng_blocks.proofs.Names.{number_at, interface_of, nanoseconds, captured_fits, stamp_of, packet_of, packet_by}
use Rattle.pcapng_blocks.proofs.Names.{enhanced, simple_size, simple, body_of, meaning_of, frame_of, frames_in, Spot, Reached}
use Rattle.pcapng_blocks.proofs.Names.{split_from, counted, origin, reached_in, frames_of, FitsFrame}
use Rattle.std.proofs.lemmas.List.Elements.{All-from_recursion}
use Rattle.pcapng_blocks.specs.declared.heads.Kind.TheVariants as kinds
use Rattle.pcapng_blocks.specs.declared.bodies.Meaning.TheVariants as meanings
use Rattle.pcapng_blocks.proofs.FrontBlocks.{front_block}
use Rattle.pcapng_blocks.proofs.Splits.{by_blocks}

IsBytes : List ℕ → Type 0
IsBytes bytes = (i : ℕ) → get_or bytes i 0 < 256

are_bytes : (bytes : List ℕ) → All (λ byte. byte < 256) bytes → IsBytes bytes
unfolding IsBytes
are_bytes bytes all i =
    elim (cases_lt i (length bytes)) [
      | inl less ↦ all i 0 less
      | inr past ↦ rw (get_or_past bytes i 0 past) (omega arith)
    ]

bytes-drop : (n : ℕ) (bytes : List ℕ) → IsBytes bytes → IsBytes (drop n bytes)
unfolding IsBytes
bytes-drop n bytes h i = rw get_or-drop (h (n + i))

bytes-take : (n : ℕ) (bytes : List ℕ) → IsBytes bytes → IsBytes (take n bytes)
unfolding IsBytes
bytes-take n bytes h i =
    elim (cases_lt i n) [
      | inl less ↦ rw (get_or-take n bytes i 0 less) (h i)
      | inr past ↦ rw (get_or_past (take n bytes) i 0 (omega (arith, length-take n bytes))) (omega arith)
    ]

all_bytes : (bytes : List ℕ) → IsBytes bytes → All (λ byte. byte < 256) bytes
unfolding IsBytes
all_bytes bytes h k d less = rw (get_or_default bytes k d 0 less) (h k)

number_fits : (order : Order) (at : ℕ) (bytes : List ℕ) → IsBytes bytes → number_at order 4 at bytes < 2 ^ 32
unfolding number_at IsBytes
number_fits Little at bytes h = little_from-lt 0 4 (drop at bytes) (λ k. rw get_or-drop (h (at + k)))
number_fits Big at bytes h = big_from-lt 0 4 (drop at bytes) (λ k. rw get_or-drop (h (at + k)))

-- ---- a packet

record FitsPacket (packet : Captured) : Type 0 where
  sec : packet.sec < 2 ^ 32
  wire : packet.wire < 2 ^ 32

abbrev Fits : Meaning → Type 0
Fits meanings.Section = Unit {0}
Fits (meanings.Interface interface) = Unit {0}
Fits (meanings.Packet packet) = FitsPacket packet
Fits meanings.Skipped = Unit {0}

abbrev said : Meaning → Result Meaning BlockError
said meaning = Ok meaning

ok_same : (x y : Meaning) → said x ≡ said y → x ≡ y
ok_same x y e = cc

packet_fits : (place nanos start captured original others size : ℕ) (meaning : Meaning) → captured < 2 ^ 32 → original < 2 ^ 32
    → packet_by place (packet_of nanos start captured original) others size ≡ Ok meaning → Fits meaning
packet_fits place nanos start captured original others size meaning few wide e =
    elim (cases_Bool (captured_fits others captured size)) [
      | inl fits ↦
          let same : meanings.Packet (packet_of nanos start captured original) ≡ meaning = ok_same _ _ (rw fits at e) in
          rw (← same) (record { sec = omega arith; wire = omega arith })
      | inr not ↦ let f = rw not at e in absurd cc
    ]

simple_small : (snaplen original : ℕ) → original < 2 ^ 32 → simple_size snaplen original < 2 ^ 32
simple_small snaplen original wide =
    elim (cases_Bool (snaplen == 0)) [
      | inl none ↦ rw none wide
      | inr some ↦ rw some (omega arith)
    ]

enhanced_fits : (place : ℕ) (interface : Option Interface) (order : Order) (block : List ℕ) (meaning : Meaning) → IsBytes block
    → enhanced place interface order block ≡ Ok meaning → Fits meaning
enhanced_fits place None order block meaning bytes e = absurd cc
enhanced_fits place (Some interface) order block meaning bytes e =
    packet_fits place (nanoseconds interface.resolution (stamp_of order block)) 28 (number_at order 4 20 block)
    (number_at order 4 24 block) 32 (length block) meaning
    (number_fits order 20 block bytes) (number_fits order 24 block bytes) e

simple_fits : (place : ℕ) (interface : Option Interface) (order : Order) (block : List ℕ) (meaning : Meaning) → IsBytes block
    → simple place interface order block ≡ Ok meaning → Fits meaning
simple_fits place None order block meaning bytes e = absurd cc
simple_fits place (Some interface) order block meaning bytes e =
    let wide = number_fits order 8 block bytes in
    packet_fits place 0 12 (simple_size interface.snaplen (number_at order 4 8 block)) (number_at order 4 8 block) 16
    (length block) meaning
    (simple_small interface.snaplen (number_at order 4 8 block) wide) wide e

section_fits : (b : Bool) (meaning : Meaning) (error : BlockError) → (if b then Ok meanings.Section else Err error) ≡ Ok meaning
    → Fits meaning
section_fits true meaning error e = let same : meanings.Section ≡ meaning = ok_same _ _ e in rw (← same) tt
section_fits false meaning error e = absurd cc

interface_fits : (b : Bool) (interface : Interface) (meaning : Meaning) (error : BlockError)
    → (if b then Ok (meanings.Interface interface) else Err error) ≡ Ok meaning → Fits meaning
interface_fits true interface meaning error e = let same : meanings.Interface interface ≡ meaning = ok_same _ _ e in
    rw (← same) tt
interface_fits false interface meaning error e = absurd cc

body_fits : (interfaces : List Interface) (place : ℕ) (kind : Kind) (order : Order) (block : List ℕ) (meaning : Meaning)
    → IsBytes block → body_of interfaces place kind order block ≡ Ok meaning → Fits meaning
body_fits interfaces place kinds.Section order block meaning bytes e = section_fits _ meaning _ e
body_fits interfaces place kinds.Interface order block meaning bytes e = interface_fits _ (interface_of order block) meaning _ e
body_fits interfaces place kinds.Enhanced order block meaning bytes e =
    enhanced_fits place (slice_get interfaces (number_at order 4 8 block)) order block meaning bytes e
body_fits interfaces place kinds.Simple order block meaning bytes e =
    simple_fits place (slice_get interfaces 0) order block meaning bytes e
body_fits interfaces place kinds.Other order block meaning bytes e = let same : meanings.Skipped ≡ meaning = ok_same _ _ e in
    rw (← same) tt

meaning_fits : (interfaces : List Interface) (place : ℕ) (head : Head) (block : List ℕ) (meaning : Meaning) → IsBytes block
    → meaning_of interfaces place head block ≡ Ok meaning → Fits meaning
unfolding meaning_of
meaning_fits interfaces place head block meaning bytes e =
    elim (cases_Bool (number_at head.order 4 (head.total - 4) block == head.total)) [
      | inl same ↦ body_fits interfaces place head.kind head.order block meaning bytes (rw same at e)
      | inr not ↦ let f = rw not at e in absurd cc
    ]

-- ---- all frames

all_more : {A : Type 0} (P : A → Type 0) (xs : List A) (x : A) → AllByRecursion P xs → P x → AllByRecursion P (xs ++ x ∷ [])
all_more P [] x all last = (last, tt)
all_more P (y ∷ xs) x all last = (all.0, all_more P xs x all.1 last)

frame_fits : (number index : ℕ) (packet : Captured) (block : List ℕ) → IsBytes block → FitsPacket packet
    → FitsFrame (frame_of number index packet block)
unfolding frame_of
frame_fits number index packet block bytes fits =
    record {
      sec = fits.sec;
      wire = fits.wire;
      bytes = all_bytes _ (bytes-take packet.size (drop packet.start block) (bytes-drop packet.start block bytes));
    }

fits_after : (number index : ℕ) (frames : List Frame) (meaning : Meaning) (block : List ℕ) → IsBytes block → Fits meaning
    → AllByRecursion FitsFrame frames
    → AllByRecursion FitsFrame (frames ++ frames_in number index meaning block)
fits_after number index frames meanings.Section block bytes fits all = rw (append-nil frames) all
fits_after number index frames (meanings.Interface interface) block bytes fits all = rw (append-nil frames) all
fits_after number index frames (meanings.Packet packet) block bytes fits all =
    all_more FitsFrame frames (frame_of number index packet block) all (frame_fits number index packet block bytes fits)
fits_after number index frames meanings.Skipped block bytes fits all = rw (append-nil frames) all

KeepsFit : Spot → List Frame → List ℕ → Reached → Type 0
KeepsFit spot frames bytes reached = IsBytes bytes → AllByRecursion FitsFrame frames → AllByRecursion FitsFrame reached.frames

keeps_fit : (number : ℕ) (spot : Spot) (frames : List Frame) (bytes : List ℕ)
    → KeepsFit spot frames bytes (split_from number spot frames bytes)
unfolding KeepsFit
keeps_fit number = by_blocks number KeepsFit
    (λ spot frames bytes e is all. all)
    (λ spot frames bytes error e is all. all)
    (λ spot frames bytes head meaning reached e rest is all.
    let has = front_block spot.order spot.interfaces spot.stop bytes head meaning e in
    let block = bytes-take head.total bytes is in
    rest (bytes-drop head.total bytes is)
    (fits_after number spot.index frames meaning (take head.total bytes) block
    (meaning_fits spot.interfaces spot.stop head (take head.total bytes) meaning block has.means) all))

pub frames_fitting : (number : ℕ) (bytes : List ℕ) → All (λ byte. byte < 256) bytes → All FitsFrame (frames_of number bytes)
unfolding reached_in KeepsFit
frames_fitting number bytes all =
    All-from_recursion FitsFrame (frames_of number bytes)
    (keeps_fit number origin [] (counted bytes) (bytes-take 33554432 bytes (are_bytes bytes all)) tt)
