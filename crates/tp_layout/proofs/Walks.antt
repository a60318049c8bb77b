-- What passed tests say, packet by packet.
use Rattle.std.proofs.Common.{◌≡◌, ℕ, zero, suc, ◌+◌, ◌-◌, ◌≤◌, ◌<◌, Bool, true, false, List, [], ◌∷◌, length, take, drop, refl}
use Rattle.std.proofs.Common.{sym, ◌∙◌, inl, inr, arith}
use Rattle.std.specs.Prelude.{◌==◌, ◌&&◌, not, nat_lt, nat_le, Option, None, Some}
use Rattle.std.specs.Option.{option_or}
use Rattle.std.proofs.lemmas.Bool.{cases_Bool, cases_lt, and_parts, leb-true, lt-ltb, le-ltb, ne_eqb, eqb-true, ltb-true}
use Rattle.std.proofs.lemmas.Option.{none-some}
use Rattle.std.proofs.lemmas.List.{length-drop, length-take}
use Rattle.tp_layout.specs.declared.error.LayoutError.{LayoutError}
use Rattle.tp_layout.specs.declared.error.LayoutKind.{LayoutKind}
use Rattle.tp_layout.specs.declared.error.LayoutKind.TheVariants.{Length, Count, Snap}
use Rattle.tp_layout.specs.declared.requests.RingRequest.{RingRequest}
use Rattle.tp_layout.specs.Requests.{IsShape, first_of}
use Rattle.tp_layout.specs.Rows.{number_at, first_fault}
use Rattle.tp_layout.specs.Packets.{packet_at, need_at, padding_rows}
use Rattle.tp_layout.specs.Blocks.{is_status, last_time_after}
use Rattle.tp_layout.specs.Faults.{snap_may, next_of, packets_fault_by, packets_in, area_of}
use Rattle.tp_layout.specs.Checks.{unless, head_tests, fixed_tests, packet_tests, packets_tests, PassesTests}

-- ---- a step

pub packets_step : (count at : ℕ) (bytes : List ℕ) → 0 < count
    → packets_tests count at bytes ≡ option_or (packet_tests (count - 1 == 0) at bytes)
    (packets_tests (count - 1) (at + need_at bytes) (drop (need_at bytes) bytes))
unfolding packets_tests packets_fault_by
packets_step zero at bytes some = absurd (omega arith)
packets_step (suc more) at bytes some = let n : suc more - 1 ≡ more = omega arith in rw n refl

pub packets_in_step : (count : ℕ) (bytes : List ℕ) → 0 < count
    → packets_in count bytes ≡ packet_at bytes ∷ packets_in (count - 1) (drop (need_at bytes) bytes)
unfolding packets_in
packets_in_step zero bytes some = absurd (omega arith)
packets_in_step (suc more) bytes some = let n : suc more - 1 ≡ more = omega arith in rw n refl

-- the time of the packet at the start is the last one so far
pub last_step : (time : ℕ × ℕ) (count : ℕ) (bytes : List ℕ) → 0 < count
    → last_time_after time (packets_in count bytes)
    ≡ last_time_after (number_at 4 4 bytes, number_at 4 8 bytes) (packets_in (count - 1) (drop (need_at bytes) bytes))
unfolding packet_at
last_step time count bytes some = rw (packets_in_step count bytes some) refl

-- a packet at the start that passed
pub packets_passed : (count at : ℕ) (bytes : List ℕ) → 0 < count → packet_tests (count - 1 == 0) at bytes ≡ None
    → packets_tests (count - 1) (at + need_at bytes) (drop (need_at bytes) bytes) ≡ packets_tests count at bytes
packets_passed count at bytes some e = sym (packets_step count at bytes some ∙ rw e refl)

-- a packet at the start that is refused
pub packets_refused : (count at : ℕ) (bytes : List ℕ) (fault : LayoutError) → 0 < count
    → packet_tests (count - 1 == 0) at bytes ≡ Some fault
    → packets_tests count at bytes ≡ Some fault
packets_refused count at bytes fault some e = packets_step count at bytes some ∙ rw e refl

-- no packet is left
pub last_end : (time : ℕ × ℕ) (count : ℕ) (bytes : List ℕ) → count ≤ 0 → last_time_after time (packets_in count bytes) ≡ time
unfolding packets_in
last_end time count bytes none = let n : count ≡ 0 = omega arith in rw n refl

pub packets_end : (count at : ℕ) (bytes : List ℕ) → count ≤ 0 → length bytes ≤ 0 → packets_tests count at bytes ≡ None
unfolding packets_tests packets_fault_by
packets_end count at [] none empty = let n : count ≡ 0 = omega arith in rw n refl
packets_end count at (byte ∷ bytes) none empty = absurd (omega arith)

pub packets_left : (count at : ℕ) (bytes : List ℕ) → count ≤ 0 → 0 < length bytes
    → packets_tests count at bytes ≡ Some (record { kind = Length; at = 20 })
unfolding packets_tests packets_fault_by
packets_left count at [] none some = absurd (omega arith)
packets_left count at (byte ∷ bytes) none some = let n : count ≡ 0 = omega arith in rw n refl

-- n packets, at least one
pub packets_in-length : (count : ℕ) (bytes : List ℕ) → length (packets_in count bytes) ≡ count
unfolding packets_in
packets_in-length zero bytes = refl
packets_in-length (suc more) bytes = let rest = packets_in-length more (drop (need_at bytes) bytes) in omega arith

-- ---- tests that passed

pub unless_none : (test : Bool) (kind : LayoutKind) (at : ℕ) (rest : Option LayoutError) → unless test kind at rest ≡ None
    → (test ≡ true) × (rest ≡ None)
unless_none true kind at rest e = (refl, e)
unless_none false kind at rest e = absurd (none-some _ (sym e))

pub or_none : (first second : Option LayoutError) → option_or first second ≡ None → (first ≡ None) × (second ≡ None)
or_none None second e = (refl, e)
or_none (Some fault) second e = absurd (none-some _ (sym e))

-- a packet at the start that passed its tests
pub record Front (last : Bool) (at : ℕ) (bytes : List ℕ) : Type 0 where
  pub header : 88 ≤ length bytes
  pub some : 1 ≤ number_at 4 12 bytes
  pub wire : number_at 4 12 bytes ≤ number_at 4 16 bytes
  pub within : need_at bytes ≤ length bytes
  pub fixed : fixed_tests at (next_of last bytes) bytes ≡ None
  pub padding : first_fault at (82 + number_at 4 12 bytes) (padding_rows (number_at 4 12 bytes)) bytes ≡ None

front_short : (last : Bool) (at : ℕ) (bytes : List ℕ) → length bytes < 88
    → packet_tests last at bytes ≡ Some (record { kind = Count; at = 12 })
unfolding packet_tests
front_short last at bytes short = rw (lt-ltb _ _ short) refl

front_refused : (last : Bool) (at : ℕ) (bytes : List ℕ) → 88 ≤ length bytes → snap_may bytes ≡ false
    → packet_tests last at bytes ≡ Some (record { kind = Snap; at = at + 12 })
unfolding packet_tests
front_refused last at bytes long refused = rw (le-ltb _ _ long, refused) refl

pub front_tests : (last : Bool) (at : ℕ) (bytes : List ℕ) → 88 ≤ length bytes → snap_may bytes ≡ true
    → packet_tests last at bytes ≡ option_or (fixed_tests at (next_of last bytes) bytes)
    (first_fault at (82 + number_at 4 12 bytes) (padding_rows (number_at 4 12 bytes)) bytes)
unfolding packet_tests
front_tests last at bytes long may = rw (le-ltb _ _ long, may) refl

pub front : (last : Bool) (at : ℕ) (bytes : List ℕ) → packet_tests last at bytes ≡ None → Front last at bytes
front last at bytes e =
    elim (cases_lt (length bytes) 88) [
      | inl short ↦ absurd (none-some _ (sym e ∙ front_short last at bytes short))
      | inr long ↦ elim (cases_Bool (snap_may bytes)) [
        | inl may ↦
            let tests : option_or (fixed_tests at (next_of last bytes) bytes)
            (first_fault at (82 + number_at 4 12 bytes) (padding_rows (number_at 4 12 bytes)) bytes) ≡ None =
            sym (front_tests last at bytes long may) ∙ e in
            let both = or_none _ _ tests in
            let outer = and_parts (nat_le 1 (number_at 4 12 bytes) && nat_le (number_at 4 12 bytes) (number_at 4 16 bytes))
            (nat_le (need_at bytes) (length bytes)) may in
            let inner = and_parts (nat_le 1 (number_at 4 12 bytes))
            (nat_le (number_at 4 12 bytes) (number_at 4 16 bytes)) outer.0 in
            record {
              header = long;
              some = leb-true _ _ inner.0;
              wire = leb-true _ _ inner.1;
              within = leb-true _ _ outer.1;
              fixed = both.0;
              padding = both.1;
            }
        | inr not ↦ absurd (none-some _ (sym e ∙ front_refused last at bytes long not))
      ]
    ]

-- what is said by a head that passed its tests
pub record Head (fits : ℕ → Bool) (shape : RingRequest) (bytes : List ℕ) : Type 0 where
  pub version : number_at 4 0 bytes ≡ 2
  pub private : number_at 4 4 bytes ≡ 48
  pub status : is_status (number_at 4 8 bytes) ≡ true
  pub some : 0 < number_at 4 12 bytes
  pub first : number_at 4 16 bytes ≡ first_of shape
  pub end : fits (number_at 4 20 bytes) ≡ true
  pub number : 0 < number_at 8 24 bytes

pub head : (fits : ℕ → Bool) (shape : RingRequest) (bytes : List ℕ) → head_tests fits shape bytes ≡ None → Head fits shape bytes
unfolding head_tests
head fits shape bytes e =
    let a = unless_none (number_at 4 0 bytes == 2) _ _ _ e in
    let b = unless_none (number_at 4 4 bytes == 48) _ _ _ a.1 in
    let c = unless_none (is_status (number_at 4 8 bytes)) _ _ _ b.1 in
    let d = unless_none (nat_lt 0 (number_at 4 12 bytes)) _ _ _ c.1 in
    let f = unless_none (number_at 4 16 bytes == first_of shape) _ _ _ d.1 in
    let g = unless_none (fits (number_at 4 20 bytes)) _ _ _ f.1 in
    let h = unless_none (nat_lt 0 (number_at 8 24 bytes)) _ _ _ g.1 in
    record {
      version = eqb-true _ _ a.0;
      private = eqb-true _ _ b.0;
      status = c.0;
      some = ltb-true _ _ d.0;
      first = eqb-true _ _ f.0;
      end = g.0;
      number = ltb-true _ _ h.0;
    }

-- the packets of a block are within it
pub area_small : (shape : RingRequest) (bytes : List ℕ) → IsShape shape → length bytes ≤ shape.block_size
    → first_of shape < number_at 4 20 bytes → number_at 4 20 bytes ≤ length bytes
    → first_of shape + length (area_of shape bytes) ≤ 1048576
area_small shape bytes sound size order within =
    omega (
      arith,
      sound.small,
      length-drop (first_of shape) (take (number_at 4 20 bytes) bytes),
      length-take (number_at 4 20 bytes) bytes,
    )

-- ---- packets in a block

-- what is known of the first of these packets
pub record FirstPasses (count : ℕ) (bytes : List ℕ) : Type 0 where
  pub header : 88 ≤ length bytes
  pub snap : 82 + number_at 4 12 bytes ≤ length bytes
  pub within : need_at bytes ≤ length bytes
  pub small : number_at 4 12 bytes ≤ 1048576
  pub rest : PassesTests (count - 1) (drop (need_at bytes) bytes)

pub first_passes : (count : ℕ) (bytes : List ℕ) → 0 < count → PassesTests count bytes → FirstPasses count bytes
first_passes count bytes some passes_tests =
    let tests = or_none _ _ (sym (packets_step count passes_tests.0 bytes some) ∙ passes_tests.1) in
    let first = front (count - 1 == 0) passes_tests.0 bytes tests.0 in
    let within = first.within in
    let few = passes_tests.2 in
    record {
      header = first.header;
      snap = omega arith;
      within = within;
      small = omega arith;
      rest = (passes_tests.0 + need_at bytes, tests.1, omega (arith, length-drop (need_at bytes) bytes));
    }

pub none_in : (count : ℕ) (bytes : List ℕ) → count ≡ 0 → packets_in count bytes ≡ []
unfolding packets_in
none_in count bytes none = rw none refl

pub positive : (n : ℕ) → (n ≡ 0 → ⊥) → 0 < n
positive zero other = absurd (other refl)
positive (suc n) other = omega arith

pub packets_suc : (more at : ℕ) (bytes : List ℕ)
    → packets_tests (suc more) at bytes ≡ option_or (packet_tests (more == 0) at bytes)
    (packets_tests more (at + need_at bytes) (drop (need_at bytes) bytes))
unfolding packets_tests packets_fault_by
packets_suc more at bytes = refl

pub packets_in_suc : (more : ℕ) (bytes : List ℕ) → packets_in (suc more) bytes ≡ packet_at bytes
    ∷ packets_in more (drop (need_at bytes) bytes)
unfolding packets_in
packets_in_suc more bytes = refl

pub not_last : (more : ℕ) → (suc more == 0) ≡ false
not_last more = ne_eqb (suc more) 0 (λ e. omega (arith, e))

-- what a loop over packets asks for
pub ruleset packet_rules = (packets_passed, packets_refused, last_step, last_end, packets_end, packets_left)
