-- What a whole block says lies within it.
use Rattle.pcapng_blocks.proofs.Names.{◌≡◌, ℕ, ◌+◌, ◌-◌, ◌≤◌, Bool, true, false, List, length, inl, inr, arith, ◌==◌}
use Rattle.pcapng_blocks.proofs.Names.{if◌then◌else◌, slice_get, Option, None, Some, Result, Ok, Err, cases_Bool, leb-true}
use Rattle.pcapng_blocks.proofs.Names.{and_parts, Order, BlockError, Head, Kind, Interface, Captured, Meaning, number_at}
use Rattle.pcapng_blocks.proofs.Names.{padded, interface_of, nanoseconds, captured_fits, stamp_of, packet_of, packet_by}
use Rattle.pcapng_blocks.proofs.Names.{enhanced, simple_size, simple, body_of, meaning_of, IsWithin}
use Rattle.pcapng_blocks.specs.declared.heads.Kind.TheVariants as kinds
use Rattle.pcapng_blocks.specs.declared.bodies.Meaning.TheVariants as meanings

-- a packet has a fraction below a second, and no more bytes than were on the wire and than 262,144
pub record IsCapturedPacket (packet : Captured) : Type 0 where
  pub nsec : packet.nsec ≤ 999999999
  pub wire : packet.size ≤ packet.wire
  pub few : packet.size ≤ 262144

abbrev pub IsPacket : Meaning → Type 0
IsPacket meanings.Section = Unit {0}
IsPacket (meanings.Interface interface) = Unit {0}
IsPacket (meanings.Packet packet) = IsCapturedPacket packet
IsPacket meanings.Skipped = Unit {0}

-- what is known of what a whole block says
pub record IsTold (meaning : Meaning) (size : ℕ) : Type 0 where
  pub within : IsWithin meaning size
  pub packet : IsPacket meaning

abbrev said : Meaning → Result Meaning BlockError
said meaning = Ok meaning

ok_same : (x y : Meaning) → said x ≡ said y → x ≡ y
ok_same x y e = cc

-- a packet that fits its block
packet_by_told : (place nanos start captured original others size : ℕ) (meaning : Meaning) → start ≤ others → 16 ≤ others
    → packet_by place (packet_of nanos start captured original) others size ≡ Ok meaning → IsTold meaning size
packet_by_told place nanos start captured original others size meaning low some e =
    elim (cases_Bool (captured_fits others captured size)) [
      | inl fits ↦
          let p = and_parts _ _ fits in
          let few : captured ≤ 262144 = leb-true _ _ p.0 in
          let here : others + padded captured ≤ size = leb-true _ _ p.1 in
          let same : meanings.Packet (packet_of nanos start captured original) ≡ meaning = ok_same _ _ (rw fits at e) in
          rw (← same) (record {
            within = (omega arith, omega arith);
            packet = record { nsec = omega arith; wire = omega arith; few = few };
          })
      | inr not ↦ let f = rw not at e in absurd cc
    ]

enhanced_told : (place : ℕ) (interface : Option Interface) (order : Order) (block : List ℕ) (meaning : Meaning)
    → enhanced place interface order block ≡ Ok meaning → IsTold meaning (length block)
enhanced_told place None order block meaning e = absurd cc
enhanced_told place (Some interface) order block meaning e =
    packet_by_told place (nanoseconds interface.resolution (stamp_of order block)) 28 (number_at order 4 20 block)
    (number_at order 4 24 block) 32 (length block) meaning (omega arith) (omega arith) e

simple_told : (place : ℕ) (interface : Option Interface) (order : Order) (block : List ℕ) (meaning : Meaning)
    → simple place interface order block ≡ Ok meaning → IsTold meaning (length block)
simple_told place None order block meaning e = absurd cc
simple_told place (Some interface) order block meaning e =
    packet_by_told place 0 12 (simple_size interface.snaplen (number_at order 4 8 block)) (number_at order 4 8 block) 16
    (length block) meaning (omega arith) (omega arith) e

section_told : (b : Bool) (size : ℕ) (meaning : Meaning) (error : BlockError)
    → (if b then Ok meanings.Section else Err error) ≡ Ok meaning → IsTold meaning size
section_told true size meaning error e = let same : meanings.Section ≡ meaning = ok_same _ _ e in
    rw (← same) (record { within = tt; packet = tt })
section_told false size meaning error e = absurd cc

interface_told : (b : Bool) (interface : Interface) (size : ℕ) (meaning : Meaning) (error : BlockError)
    → (if b then Ok (meanings.Interface interface) else Err error) ≡ Ok meaning → IsTold meaning size
interface_told true interface size meaning error e = let same : meanings.Interface interface ≡ meaning = ok_same _ _ e in
    rw (← same) (record { within = tt; packet = tt })
interface_told false interface size meaning error e = absurd cc

body_told : (interfaces : List Interface) (place : ℕ) (kind : Kind) (order : Order) (block : List ℕ) (meaning : Meaning)
    → body_of interfaces place kind order block ≡ Ok meaning → IsTold meaning (length block)
body_told interfaces place kinds.Section order block meaning e = section_told _ (length block) meaning _ e
body_told interfaces place kinds.Interface order block meaning e =
    interface_told _ (interface_of order block) (length block) meaning _ e
body_told interfaces place kinds.Enhanced order block meaning e =
    enhanced_told place (slice_get interfaces (number_at order 4 8 block)) order block meaning e
body_told interfaces place kinds.Simple order block meaning e = simple_told place (slice_get interfaces 0) order block meaning e
body_told interfaces place kinds.Other order block meaning e = let same : meanings.Skipped ≡ meaning = ok_same _ _ e in
    rw (← same) (record { within = tt; packet = tt })

pub meaning_told : (interfaces : List Interface) (place : ℕ) (head : Head) (block : List ℕ) (meaning : Meaning)
    → meaning_of interfaces place head block ≡ Ok meaning → IsTold meaning (length block)
unfolding meaning_of
meaning_told interfaces place head block meaning e =
    elim (cases_Bool (number_at head.order 4 (head.total - 4) block == head.total)) [
      | inl same ↦ body_told interfaces place head.kind head.order block meaning (rw same at e)
      | inr not ↦ let f = rw not at e in absurd cc
    ]
