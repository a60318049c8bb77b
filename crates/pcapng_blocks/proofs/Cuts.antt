-- The damage of a capture is never a cut.
use Rattle.pcapng_blocks.proofs.Names.{◌≡◌, ℕ, ◌-◌, List, [], take, sym, ap, ◌∙◌, inl, inr, ◌≢◌, ◌==◌, if◌then◌else◌, Bool}
use Rattle.pcapng_blocks.proofs.Names.{true, false, slice_get, Option, None, Some, Result, Ok, Err, length, nat_lt, cases_Bool}
use Rattle.pcapng_blocks.proofs.Names.{Frame, Order, BlockError, Truncated, Head, Kind, Look, Short, Bad, Headed, Interface}
use Rattle.pcapng_blocks.proofs.Names.{Captured, Meaning, Fault, number_at, kind_of, head_size, length_fits, order_of, headed}
use Rattle.pcapng_blocks.proofs.Names.{look_as, look_at, captured_fits, packet_by, enhanced, simple, body_of, meaning_of, Spot}
use Rattle.pcapng_blocks.proofs.Names.{Reached, front_told, front_by, front_of, split_from, counted, origin, reached_in}
use Rattle.pcapng_blocks.proofs.Names.{damage_of}
use Rattle.pcapng_blocks.specs.declared.heads.Kind.TheVariants as kinds
use Rattle.pcapng_blocks.proofs.Splits.{by_blocks}
use Rattle.pcapng_blocks.proofs.Outcomes.{failed, large, fine, stage_is}

headed_uncut : (place : ℕ) (kind : Kind) (found : Option Order) (bytes : List ℕ) (cut : ℕ)
    → headed place kind found bytes ≢ Bad (Truncated cut)
headed_uncut place kind None bytes cut e = absurd cc
headed_uncut place kind (Some order) bytes cut e =
    elim (cases_Bool (length_fits kind (number_at order 4 4 bytes))) [
      | inl fits ↦ let f = rw fits at e in absurd cc
      | inr not ↦ let f = rw not at e in absurd cc
    ]

look_as_uncut : (kind : Kind) (order : Order) (place : ℕ) (bytes : List ℕ) (cut : ℕ)
    → look_as kind order place bytes ≢ Bad (Truncated cut)
look_as_uncut kind order place bytes cut e =
    elim (cases_Bool (nat_lt (length bytes) (head_size kind))) [
      | inl less ↦ let f = rw less at e in absurd cc
      | inr full ↦ headed_uncut place kind (order_of kind order bytes) bytes cut (rw full at e)
    ]

look_uncut : (order : Order) (place : ℕ) (bytes : List ℕ) (cut : ℕ) → look_at order place bytes ≢ Bad (Truncated cut)
unfolding look_at
look_uncut order place bytes cut e =
    elim (cases_Bool (nat_lt (length bytes) 8)) [
      | inl less ↦ let f = rw less at e in absurd cc
      | inr full ↦ look_as_uncut (kind_of (number_at order 4 0 bytes)) order place bytes cut (rw full at e)
    ]

packet_uncut : (place : ℕ) (packet : Captured) (others total cut : ℕ)
    → packet_by place packet others total ≢ Err (Truncated cut)
packet_uncut place packet others total cut e =
    elim (cases_Bool (captured_fits others packet.size total)) [
      | inl fits ↦ let f = rw fits at e in absurd cc
      | inr not ↦ let f = rw not at e in absurd cc
    ]

enhanced_uncut : (place : ℕ) (interface : Option Interface) (order : Order) (block : List ℕ) (cut : ℕ)
    → enhanced place interface order block ≢ Err (Truncated cut)
enhanced_uncut place None order block cut e = absurd cc
enhanced_uncut place (Some interface) order block cut e = packet_uncut place _ 32 (length block) cut e

simple_uncut : (place : ℕ) (interface : Option Interface) (order : Order) (block : List ℕ) (cut : ℕ)
    → simple place interface order block ≢ Err (Truncated cut)
simple_uncut place None order block cut e = absurd cc
simple_uncut place (Some interface) order block cut e = packet_uncut place _ 16 (length block) cut e

either_uncut : (b : Bool) (meaning : Meaning) (error : BlockError) (cut : ℕ) → error ≢ Truncated cut
    → (if b then Ok meaning else Err error) ≢ Err (Truncated cut)
either_uncut true meaning error cut other e = absurd cc
either_uncut false meaning error cut other e = other cc

body_uncut : (interfaces : List Interface) (place : ℕ) (kind : Kind) (order : Order) (block : List ℕ) (cut : ℕ)
    → body_of interfaces place kind order block ≢ Err (Truncated cut)
body_uncut interfaces place kinds.Section order block cut e =
    either_uncut (number_at order 2 12 block == 1) _ _ cut (λ f. absurd (cc f)) e
body_uncut interfaces place kinds.Interface order block cut e =
    either_uncut (number_at order 2 8 block == 1) _ _ cut (λ f. absurd (cc f)) e
body_uncut interfaces place kinds.Enhanced order block cut e =
    enhanced_uncut place (slice_get interfaces (number_at order 4 8 block)) order block cut e
body_uncut interfaces place kinds.Simple order block cut e = simple_uncut place (slice_get interfaces 0) order block cut e
body_uncut interfaces place kinds.Other order block cut e = absurd cc

meaning_uncut : (interfaces : List Interface) (place : ℕ) (head : Head) (block : List ℕ) (cut : ℕ)
    → meaning_of interfaces place head block ≢ Err (Truncated cut)
unfolding meaning_of
meaning_uncut interfaces place head block cut e =
    elim (cases_Bool (number_at head.order 4 (head.total - 4) block == head.total)) [
      | inl same ↦ body_uncut interfaces place head.kind head.order block cut (rw same at e)
      | inr not ↦ let f = rw not at e in absurd cc
    ]

told_uncut : (head : Head) (said : Result Meaning BlockError) (cut : ℕ) → said ≢ Err (Truncated cut)
    → front_told head said ≢ Fault (Truncated cut)
told_uncut head (Ok meaning) cut other e = absurd cc
told_uncut head (Err error) cut other e = let same : error ≡ Truncated cut = cc in other (ap Err same)

by_uncut : (look : Look) (interfaces : List Interface) (place : ℕ) (bytes : List ℕ) (cut : ℕ) → look ≢ Bad (Truncated cut)
    → front_by look interfaces place bytes ≢ Fault (Truncated cut)
by_uncut Short interfaces place bytes cut other e = absurd cc
by_uncut (Bad error) interfaces place bytes cut other e = let same : error ≡ Truncated cut = cc in other (ap Bad same)
by_uncut (Headed head) interfaces place bytes cut other e =
    elim (cases_Bool (nat_lt (length bytes) head.total)) [
      | inl less ↦ let f = rw less at e in absurd cc
      | inr full ↦ told_uncut head (meaning_of interfaces place head (take head.total bytes)) cut
          (meaning_uncut interfaces place head (take head.total bytes) cut) (rw full at e)
    ]

front_uncut : (order : Order) (interfaces : List Interface) (place : ℕ) (bytes : List ℕ) (cut : ℕ)
    → front_of order interfaces place bytes ≢ Fault (Truncated cut)
unfolding front_of
front_uncut order interfaces place bytes cut e =
    by_uncut (look_at order place bytes) interfaces place bytes cut (look_uncut order place bytes cut) e

IsUncut : ℕ → Spot → List Frame → List ℕ → Reached → Type 0
IsUncut cut spot frames bytes reached = reached.fault ≢ Some (Truncated cut)

split_uncut : (cut cpu : ℕ) (spot : Spot) (frames : List Frame) (bytes : List ℕ)
    → IsUncut cut spot frames bytes (split_from cpu spot frames bytes)
unfolding IsUncut
split_uncut cut cpu = by_blocks cpu (IsUncut cut)
    (λ spot frames bytes e none. absurd cc)
    (λ spot frames bytes error e some. front_uncut spot.order spot.interfaces spot.stop bytes cut
    (e ∙ ap Fault (same_error error (Truncated cut) some)))
    (λ spot frames bytes head meaning reached e rest. rest) where
      same_error : (x y : BlockError) → Some x ≡ Some y → x ≡ y
      same_error x y e = cc

fault_uncut : (bytes : List ℕ) (cut : ℕ) → (reached_in 0 bytes).fault ≢ Some (Truncated cut)
unfolding reached_in IsUncut
fault_uncut bytes cut e = split_uncut cut 0 origin [] (counted bytes) e

-- damage is never a cut
pub damage_uncut : (bytes : List ℕ) (cut : ℕ) → damage_of bytes ≢ Some (Truncated cut)
damage_uncut bytes cut d =
    elim (stage_is bytes) [
      | failed error e at told ↦ fault_uncut bytes cut (e ∙ sym told ∙ d)
      | large e many at told ↦ absurd (cc (told, d))
      | fine e few at told ↦ absurd (cc (told, d))
    ]
