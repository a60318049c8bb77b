-- A reader's tests are those of the tables.
use Rattle.std.proofs.Common.{◌≡◌, ℕ, zero, suc, ◌+◌, ◌-◌, ◌/◌, ◌%◌, ◌≤◌, ◌<◌, Bool, true, false, List, [], ◌∷◌, ◌++◌, length}
use Rattle.std.proofs.Common.{take, drop, refl, ap, ◌∙◌, inl, inr, arith}
use Rattle.std.specs.Prelude.{◌==◌, ◌&&◌, slice_index, nat_le, Option, None, Some}
use Rattle.std.specs.Option.{option_or}
use Rattle.std.proofs.lemmas.Bool.{eq-eqb, ne_eqb, cases_Bool, and_parts, leb-true}
use Rattle.std.proofs.lemmas.List.{length-drop, length-take}
use Rattle.frame_view.specs.declared.frames.Packet.{Packet}
use Rattle.tp_layout.specs.declared.error.LayoutError.{LayoutError}
use Rattle.tp_layout.specs.declared.error.LayoutKind.{LayoutKind}
use Rattle.tp_layout.specs.declared.error.LayoutKind.TheVariants.{Field}
use Rattle.tp_layout.specs.declared.requests.RingRequest.{RingRequest}
use Rattle.tp_layout.specs.Rows.{Row, row, zeros, number_at, network_at, first_fault, size_of_rows}
use Rattle.tp_layout.specs.Packets.{header_rows, address_rows, packet_rows, packet_at, need_at}
use Rattle.tp_layout.specs.Blocks.{head_rows}
use Rattle.tp_layout.specs.Faults.{descriptor_at, snap_may, next_of, packet_fault, packets_fault_by, packets_fault}
use Rattle.tp_layout.specs.Checks.{unless, head_tests, header_tests, address_tests, fixed_tests, packet_tests, packets_tests}
use Rattle.tp_layout.proofs.Bytes.{IsBytes, bytes-drop, add-zero, number_one, network_two}

and_true : (a : Bool) (kind : LayoutKind) (at : ℕ) (rest : Option LayoutError)
    → unless (a && true) kind at rest ≡ unless a kind at rest
and_true true kind at rest = refl
and_true false kind at rest = refl

-- a row with a fixed number
pub fixed : (base from : ℕ) (r : Row) (rows : List Row) (bytes : List ℕ) (rest : Option LayoutError) → r.may ≡ true
    → first_fault base (from + r.size) rows bytes ≡ rest
    → first_fault base from (r ∷ rows) bytes ≡ unless (number_at r.size from bytes == r.value) r.kind (base + r.at) rest
unfolding first_fault
fixed base from r rows bytes rest may e =
    rw (may, e) (and_true (number_at r.size from bytes == r.value) r.kind (base + r.at) rest)

fixed_at : (base from place : ℕ) (r : Row) (rows : List Row) (bytes : List ℕ) (rest : Option LayoutError) → r.may ≡ true
    → base + r.at ≡ place
    → first_fault base (from + r.size) rows bytes ≡ rest
    → first_fault base from (r ∷ rows) bytes ≡ unless (number_at r.size from bytes == r.value) r.kind place rest
fixed_at base from place r rows bytes rest may at e =
    fixed base from r rows bytes rest may e ∙ ap (λ (p : ℕ). unless (number_at r.size from bytes == r.value) r.kind p rest) at

-- a row with the number that is there
read : (base from : ℕ) (r : Row) (rows : List Row) (bytes : List ℕ) (rest : Option LayoutError)
    → number_at r.size from bytes ≡ r.value
    → first_fault base (from + r.size) rows bytes ≡ rest
    → first_fault base from (r ∷ rows) bytes ≡ unless r.may r.kind (base + r.at) rest
unfolding first_fault
read base from r rows bytes rest h e = rw (eq-eqb (number_at r.size from bytes) r.value h, e) refl

-- a row with a number and a bound
both : (base from : ℕ) (r : Row) (rows : List Row) (bytes : List ℕ) (rest : Option LayoutError)
    → first_fault base (from + r.size) rows bytes ≡ rest
    → first_fault base from (r ∷ rows) bytes ≡ unless ((number_at r.size from bytes == r.value) && r.may) r.kind
    (base + r.at) rest
unfolding first_fault
both base from r rows bytes rest e = rw e refl

pub none : (base from : ℕ) (bytes : List ℕ) → first_fault base from [] bytes ≡ None
unfolding first_fault
none base from bytes = refl

-- the head of a descriptor
pub head_tests_are : (fits : ℕ → Bool) (shape : RingRequest) (packets : List Packet) (bytes : List ℕ)
    → first_fault 0 0 (head_rows fits shape (descriptor_at packets bytes)) bytes ≡ head_tests fits shape bytes
unfolding head_tests
head_tests_are fits shape packets bytes =
    fixed 0 0 _ _ bytes _ refl
    (fixed 0 4 _ _ bytes _ refl
    (read 0 8 _ _ bytes _ refl
    (read 0 12 _ _ bytes _ refl
    (fixed 0 16 _ _ bytes _ refl
    (read 0 20 _ _ bytes _ refl
    (read 0 24 _ _ bytes _ refl (none 0 32 bytes)))))))

-- the header of a packet
pub header_tests_are : (at next : ℕ) (bytes : List ℕ) → 82 + number_at 4 12 bytes ≤ length bytes
    → first_fault at 0 (header_rows next (packet_at bytes)) bytes ≡ header_tests at next bytes
unfolding header_tests packet_at
header_tests_are at next bytes h =
    let snap : number_at 4 12 bytes ≡ length (take (number_at 4 12 bytes) (drop 82 bytes)) =
    omega (arith, length-take (number_at 4 12 bytes) (drop 82 bytes), length-drop 82 bytes) in
    fixed_at at 0 at _ _ bytes _ refl (add-zero at)
    (read at 4 _ _ bytes _ refl
    (read at 8 _ _ bytes _ refl
    (read at 12 _ _ bytes _ snap
    (read at 16 _ _ bytes _ refl
    (fixed at 20 _ _ bytes _ refl
    (fixed at 24 _ _ bytes _ refl
    (fixed at 26 _ _ bytes _ refl
    (read at 28 _ _ bytes _ refl
    (fixed at 32 _ _ bytes _ refl
    (both at 36 _ _ bytes _
    (fixed at 38 _ _ bytes _ refl (none at 40 bytes))))))))))))

-- the address of a packet
pub address_tests_are : (at : ℕ) (bytes : List ℕ) → IsBytes bytes
    → first_fault at 48 (address_rows (packet_at bytes)) bytes ≡ address_tests at 48 bytes
unfolding address_tests packet_at
address_tests_are at bytes h =
    let two = network_two 50 bytes in
    let low = h 51 in
    let high : number_at 1 50 bytes ≡ network_at 2 50 bytes / 256 = rw (number_one 50 bytes, two) (omega arith) in
    let lower : number_at 1 51 bytes ≡ network_at 2 50 bytes % 256 = rw (number_one 51 bytes, two) (omega arith) in
    fixed at 48 _ _ bytes _ refl
    (read at 50 _ _ bytes _ high
    (read at 51 _ _ bytes _ lower
    (fixed at 52 _ _ bytes _ refl
    (fixed at 56 _ _ bytes _ refl
    (read at 58 _ _ bytes _ refl
    (fixed at 59 _ _ bytes _ refl
    (read at 60 _ _ bytes _ (number_one 60 bytes)
    (read at 61 _ _ bytes _ (number_one 61 bytes)
    (read at 62 _ _ bytes _ (number_one 62 bytes)
    (read at 63 _ _ bytes _ (number_one 63 bytes)
    (read at 64 _ _ bytes _ (number_one 64 bytes)
    (read at 65 _ _ bytes _ (number_one 65 bytes) (none at 66 bytes)))))))))))))

-- two tables, one after another
pub first_fault-append : (base from : ℕ) (rows more : List Row) (bytes : List ℕ)
    → first_fault base from (rows ++ more) bytes ≡ option_or (first_fault base from rows bytes)
    (first_fault base (from + size_of_rows rows) more bytes)
unfolding first_fault
first_fault-append base from [] more bytes = let place : from + 0 ≡ from = omega arith in rw place refl
first_fault-append base from (r ∷ rows) more bytes =
    let ih = first_fault-append base (from + r.size) rows more bytes in
    let place : from + r.size + size_of_rows rows ≡ from + (r.size + size_of_rows rows) = omega arith in
    rw (ih, place) (pushed ((number_at r.size from bytes == r.value) && r.may) _ _ _)
  where
    pushed : (b : Bool) (x y : Option LayoutError) (e : LayoutError)
        → unless b e.kind e.at (option_or x y) ≡ option_or (unless b e.kind e.at x) y
    pushed true x y e = refl
    pushed false x y e = refl

-- a run of zeros, byte by byte
pub zeros_step : (base at n : ℕ) (bytes : List ℕ)
    → first_fault base at (zeros at (suc n)) bytes
    ≡ unless (slice_index bytes at == 0) Field (base + at) (first_fault base (at + 1) (zeros (at + 1) n) bytes)
zeros_step base at n bytes = fixed base at (row at 1 0) (zeros (at + 1) n) bytes _ refl refl ∙ rw (number_one at bytes) refl

-- a byte of the run that is zero, one that isn't, the end of the run
pub zeros_pass : (base at to : ℕ) (bytes : List ℕ) → at < to → slice_index bytes at ≡ 0
    → first_fault base at (zeros at (to - at)) bytes ≡ first_fault base (at + 1) (zeros (at + 1) (to - (at + 1))) bytes
zeros_pass base at to bytes less none =
    let n : to - at ≡ suc (to - (at + 1)) = omega arith in
    rw n (zeros_step base at (to - (at + 1)) bytes ∙ rw none refl)

pub zeros_fail : (base at to : ℕ) (bytes : List ℕ) → at < to → (slice_index bytes at ≡ 0 → ⊥)
    → first_fault base at (zeros at (to - at)) bytes ≡ Some (record { kind = Field; at = base + at })
zeros_fail base at to bytes less other =
    let n : to - at ≡ suc (to - (at + 1)) = omega arith in
    rw n (zeros_step base at (to - (at + 1)) bytes ∙ rw (ne_eqb (slice_index bytes at) 0 other) refl)

pub zeros_done : (base at to : ℕ) (bytes : List ℕ) → to ≤ at → first_fault base at (zeros at (to - at)) bytes ≡ None
unfolding first_fault
zeros_done base at to bytes past =
    let n : to - at ≡ 0 = omega arith in
    rw n refl

-- the fields before the data of a packet
pub fixed_tests_are : (at next : ℕ) (bytes : List ℕ) → IsBytes bytes → 82 + number_at 4 12 bytes ≤ length bytes
    → first_fault at 0 (packet_rows next (packet_at bytes)) bytes ≡ fixed_tests at next bytes
unfolding packet_rows
fixed_tests_are at next bytes h size =
    first_fault-append at 0 (header_rows next (packet_at bytes)) _ bytes
    ∙ rw (
      first_fault-append at 40 (zeros 40 8) (address_rows (packet_at bytes) ++ zeros 66 16) bytes,
      first_fault-append at 48 (address_rows (packet_at bytes)) (zeros 66 16) bytes,
      header_tests_are at next bytes size,
      address_tests_are at bytes h,
    ) refl

-- a packet
pub packet_tests_are : (last : Bool) (at : ℕ) (bytes : List ℕ) → IsBytes bytes
    → packet_fault last at bytes ≡ packet_tests last at bytes
unfolding packet_fault packet_tests
packet_tests_are last at bytes h =
    elim (cases_Bool (snap_may bytes)) [
      | inl may ↦
          let parts = and_parts (nat_le 1 (number_at 4 12 bytes) && nat_le (number_at 4 12 bytes) (number_at 4 16 bytes))
          (nat_le (need_at bytes) (length bytes)) may in
          let within = leb-true (need_at bytes) (length bytes) parts.1 in
          rw (fixed_tests_are at (next_of last bytes) bytes h (omega arith)) refl
      | inr not ↦ rw not refl
    ]

-- packets one after another
pub packets_tests_are : (count at : ℕ) (bytes : List ℕ) → IsBytes bytes
    → packets_fault count at bytes ≡ packets_tests count at bytes
unfolding packets_fault packets_tests packets_fault_by
packets_tests_are zero at [] h = refl
packets_tests_are zero at (byte ∷ bytes) h = refl
packets_tests_are (suc more) at bytes h =
    rw (
      packet_tests_are (more == 0) at bytes h,
      packets_tests_are more (at + need_at bytes) (drop (need_at bytes) bytes) (bytes-drop (need_at bytes) bytes h),
    ) refl

-- what a loop over zeros asks for
pub ruleset zero_rules = (zeros_pass, zeros_fail, zeros_done)
