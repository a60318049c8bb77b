-- The kinds of frames, what is placed of each, and its result.
use Rattle.std.proofs.Common.{◌≡◌, ℕ, ◌+◌, ◌^◌, ◌<◌, ◌≤◌, false, true, ◌⊎◌, List, [], ◌∷◌, ◌++◌, length}
use Rattle.std.proofs.Common.{replicate, refl, ap, inl, inr, arith}
use Rattle.std.specs.Prelude.{is_some, nat_lt}
use Rattle.std.proofs.lemmas.Bool.{cases_lt}
use Rattle.std.proofs.lemmas.Bool.Decides.{nat_tests}
use Rattle.std.proofs.lemmas.List.{length-take-le}
use Rattle.std.proofs.Math.Seq.{take-append_seam}
use Rattle.frame_view.specs.PlainPacket.{plain_of}
use Rattle.frame_view.specs.declared.frames.Frame.{Frame}
use Rattle.tx_ring.specs.Sends.{bad_in, good_front, is_good, packet_of, packets_of}
use Rattle.tx_ring.specs.Transmission.{before_long, first_long, is_fitting, is_long, is_runt, long_in, plain_packets}
use Rattle.tx_ring.specs.Transmission.{request_for, requests_of}
use Rattle.tx_ring.proofs.Splits.{has_bad}

-- a frame is a runt, fits or is longer
pub record IsRunt (room : ℕ) (frame : Frame) : Type 0 where
  pub runt : is_runt frame ≡ true
  pub fits : is_fitting room frame ≡ false
  pub short : is_long room frame ≡ false

pub record Fits (room : ℕ) (frame : Frame) : Type 0 where
  pub whole : is_runt frame ≡ false
  pub fits : is_fitting room frame ≡ true
  pub short : is_long room frame ≡ false
  pub least : 14 ≤ length frame.bytes
  pub most : length frame.bytes ≤ room

pub record IsLonger (room : ℕ) (frame : Frame) : Type 0 where
  pub whole : is_runt frame ≡ false
  pub fits : is_fitting room frame ≡ false
  pub long : is_long room frame ≡ true
  pub more : room < length frame.bytes

pub kind_of : (room : ℕ) (frame : Frame) → 14 ≤ room → (IsRunt room frame) ⊎ ((Fits room frame) ⊎ (IsLonger room frame))
kind_of room frame some =
    let size = length frame.bytes in
    elim (cases_lt size 14) [
      | inl less ↦ inl (grind (arith, nat_tests))
      | inr whole ↦ inr (elim (cases_lt room size) [
        | inl more ↦ inr (grind (arith, nat_tests))
        | inr most ↦ inl (grind (arith, nat_tests))
      ])
    ]

-- what is placed of a frame fits into a slot
pub request_fits : (room : ℕ) (bytes : List ℕ) → nat_lt room (length (request_for room bytes).bytes) ≡ false
request_fits room bytes =
    grind (arith, nat_tests, length-take-le room bytes)

-- a frame that fits is a good request, whose packet is its own
good_kind : (room : ℕ) (frame : Frame) → Fits room frame → is_good room (request_for room frame.bytes) ≡ true
good_kind room frame fits = rw fits.short fits.fits

packet_kind : (room : ℕ) (frame : Frame) → Fits room frame → packet_of (request_for room frame.bytes) ≡ plain_of frame.bytes
packet_kind room frame fits =
    rw fits.short (ap plain_of (take-append_seam frame.bytes (replicate (length frame.bytes) 0)))

-- a longer one is a bad request
bad_kind : (room : ℕ) (frame : Frame) → room + 48 < 2 ^ 32 → IsLonger room frame
    → is_good room (request_for room frame.bytes) ≡ false
bad_kind room frame small longer =
    let more = longer.more in
    rw longer.long (grind (arith, nat_tests))

-- the packets of frames, and how many of them are skipped
pub sent_all : (room : ℕ) (frames : List Frame) → 14 ≤ room → room + 48 < 2 ^ 32
    → packets_of room (requests_of room frames) ≡ plain_packets room frames
sent_all room [] some small = refl
sent_all room (frame ∷ frames) some small =
    let rest = sent_all room frames some small in
    elim (kind_of room frame some) [
      | inl runt ↦ rw (runt.runt, runt.fits) rest
      | inr (inl fits) ↦ rw (fits.whole, fits.fits, good_kind room frame fits, packet_kind room frame fits, rest) refl
      | inr (inr long) ↦ rw (long.whole, long.fits, bad_kind room frame small long) rest
    ]

pub over_all : (room : ℕ) (frames : List Frame) → 14 ≤ room → room + 48 < 2 ^ 32
    → bad_in room (requests_of room frames) ≡ long_in room frames
over_all room [] some small = refl
over_all room (frame ∷ frames) some small =
    let rest = over_all room frames some small in
    elim (kind_of room frame some) [
      | inl runt ↦ rw (runt.runt, runt.short) rest
      | inr (inl fits) ↦ rw (fits.whole, good_kind room frame fits, fits.short) rest
      | inr (inr long) ↦ rw (long.whole, bad_kind room frame small long, long.long, rest) refl
    ]

-- those before the first longer one
pub sent_front : (room : ℕ) (frames : List Frame) → 14 ≤ room → room + 48 < 2 ^ 32
    → packets_of room (good_front room (requests_of room frames)) ≡ plain_packets room (before_long room frames)
sent_front room [] some small = refl
sent_front room (frame ∷ frames) some small =
    let rest = sent_front room frames some small in
    elim (kind_of room frame some) [
      | inl runt ↦ rw (runt.runt, runt.short, runt.fits) rest
      | inr (inl fits) ↦ rw (fits.whole, good_kind room frame fits)
          (rw (good_kind room frame fits, packet_kind room frame fits, fits.short) (rw (fits.fits, rest) refl))
      | inr (inr long) ↦ rw (long.whole, bad_kind room frame small long, long.long) refl
    ]

-- a longer one stops the ring
pub stops_all : (room : ℕ) (frames : List Frame) → 14 ≤ room → room + 48 < 2 ^ 32
    → has_bad room (requests_of room frames) ≡ is_some (first_long room frames)
stops_all room [] some small = refl
stops_all room (frame ∷ frames) some small =
    let rest = stops_all room frames some small in
    elim (kind_of room frame some) [
      | inl runt ↦ rw (runt.runt, runt.short) rest
      | inr (inl fits) ↦ rw (fits.whole, good_kind room frame fits, fits.short) rest
      | inr (inr long) ↦ rw (long.whole, bad_kind room frame small long, long.long) refl
    ]

-- at most one request is placed for each frame
pub few_requests : (room : ℕ) (frames : List Frame) → length (requests_of room frames) ≤ length frames
few_requests room [] = omega arith
few_requests room (frame ∷ frames) =
    grind (arith, few_requests room frames)

pub requests-append : (room : ℕ) (xs ys : List Frame) → requests_of room (xs ++ ys) ≡ requests_of room xs ++ requests_of room ys
requests-append room [] ys = refl
requests-append room (x ∷ xs) ys =
    grind (arith, requests-append room xs ys)
