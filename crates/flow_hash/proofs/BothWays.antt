-- What is hashed is the same in both directions.
use Rattle.std.proofs.Common.{◌≡◌, ℕ, ◌+◌, ◌<◌, Bool, true, false, List, ◌++◌, length, drop, Option, None, Some, refl, ap}
use Rattle.std.proofs.Common.{subst, inl, inr, arith}
use Rattle.std.proofs.Common.{length-append, if◌then◌else◌}
use Rattle.std.specs.Int.Bits.{bit_xor}
use Rattle.std.proofs.lemmas.Bool.{cases_order}
use Rattle.std.proofs.lemmas.Bool.Decides.{nat_tests}
use Rattle.std.specs.Int.{Width, to_be_bytes, w32, w128}
use Rattle.flow_hash.specs.Toeplitz.{hash_of}
use Rattle.flow_hash.specs.FlowHash.{flow_input, way_back, ends_input, ports_back, source_first, ordered, port_bytes}
use Rattle.flow_hash.proofs.BitLists.{hash_of-append, hash_of-both, hash_of_nothing}
use Rattle.frame_view.specs.declared.headers.Headers.{Headers}
use Rattle.frame_view.specs.declared.headers.Headers.TheVariants.{Runt, Plain, V4, V6}

-- two ends in order, either of which may be the smaller
ends_input-first : (w : Width) (from to : ℕ) (ports : Option (ℕ × ℕ)) → source_first from to ports ≡ true
    → source_first to from (ports_back ports) ≡ false
    → ends_input w to from (ports_back ports) ≡ ends_input w from to ports
unfolding ends_input
ends_input-first w from to None there back = rw (there, back) refl
ends_input-first w from to (Some (sport, dport)) there back = rw (there, back) refl

ends_input-last : (w : Width) (from to : ℕ) (ports : Option (ℕ × ℕ)) → source_first from to ports ≡ false
    → source_first to from (ports_back ports) ≡ true
    → ends_input w to from (ports_back ports) ≡ ends_input w from to ports
unfolding ends_input
ends_input-last w from to None there back = rw (there, back) refl
ends_input-last w from to (Some (sport, dport)) there back = rw (there, back) refl

below : (from to : ℕ) (ports : Option (ℕ × ℕ)) → from < to → source_first from to ports ≡ true
below from to None h = grind (arith, nat_tests)
below from to (Some (sport, dport)) h = grind (arith, nat_tests)

above : (from to : ℕ) (ports : Option (ℕ × ℕ)) → to < from → source_first from to ports ≡ false
above from to None h = grind (arith, nat_tests)
above from to (Some (sport, dport)) h = grind (arith, nat_tests)

below_port : (at sport dport : ℕ) → sport < dport → source_first at at (Some (sport, dport)) ≡ true
below_port at sport dport h = grind (arith, nat_tests)

above_port : (at sport dport : ℕ) → dport < sport → source_first at at (Some (sport, dport)) ≡ false
above_port at sport dport h = grind (arith, nat_tests)

-- two ends at one address
one_address : (w : Width) (at : ℕ) (ports : Option (ℕ × ℕ)) → ends_input w at at (ports_back ports) ≡ ends_input w at at ports
one_address w at None = refl
one_address w at (Some (sport, dport)) = elim (cases_order sport dport) [
  | inl same ↦ let P : ℕ → Type 0 = λ (p : ℕ). ends_input w at at (Some (p, sport)) ≡ ends_input w at at (Some (sport, p)) in
      subst P same refl
  | inr (inl less) ↦ ends_input-first w at at (Some (sport, dport)) (below_port at sport dport less)
      (above_port at dport sport less)
  | inr (inr more) ↦ ends_input-last w at at (Some (sport, dport)) (above_port at sport dport more)
      (below_port at dport sport more)
]

ends_input-back : (w : Width) (from to : ℕ) (ports : Option (ℕ × ℕ))
    → ends_input w to from (ports_back ports) ≡ ends_input w from to ports
ends_input-back w from to ports = elim (cases_order from to) [
  | inl same ↦ let P : ℕ → Type 0 = λ (t : ℕ). ends_input w t from (ports_back ports) ≡ ends_input w from t ports in
      subst P same (one_address w from ports)
  | inr (inl less) ↦ ends_input-first w from to ports (below from to ports less) (above to from (ports_back ports) less)
  | inr (inr more) ↦ ends_input-last w from to ports (above from to ports more) (below to from (ports_back ports) more)
]

flow_input-way_back : (view : Headers) → flow_input (way_back view) ≡ flow_input view
unfolding flow_input
flow_input-way_back (V4 link part) = ends_input-back w32 part.from part.to part.ports
flow_input-way_back (V6 link part) = ends_input-back w128 part.from part.to part.ports
flow_input-way_back (Plain link) = refl
flow_input-way_back Runt = refl

pub both_ways : (key : List ℕ) (view : Headers) → hash_of key (flow_input (way_back view)) ≡ hash_of key (flow_input view)
both_ways key view = ap (hash_of key) (flow_input-way_back view)

-- two numbers as bytes, in the order that is asked for
in_order : (w : Width) (from to : ℕ) (first : Bool) (sides : ℕ × ℕ) → sides ≡ (if first then (from, to) else (to, from))
    → to_be_bytes w sides.0 ++ to_be_bytes w sides.1 ≡ ordered first (to_be_bytes w from) (to_be_bytes w to)
in_order w from to true sides e = ap (λ (p : ℕ × ℕ). to_be_bytes w p.0 ++ to_be_bytes w p.1) e
in_order w from to false sides e = ap (λ (p : ℕ × ℕ). to_be_bytes w p.0 ++ to_be_bytes w p.1) e

-- the hash of two numbers of some bytes in that order, which begin at a place
pub hash_of_sides : (key : List ℕ) (at : ℕ) (w : Width) (from to len : ℕ) (first : Bool) (sides : ℕ × ℕ) (a b : List ℕ)
    (one other : ℕ)
    → sides ≡ (if first then (from, to) else (to, from)) → a ≡ to_be_bytes w sides.0 → b ≡ to_be_bytes w sides.1
    → length a ≡ len → one ≡ hash_of (drop at key) a → other ≡ hash_of (drop (at + len) key) b
    → bit_xor one other ≡ hash_of (drop at key) (ordered first (to_be_bytes w from) (to_be_bytes w to))
hash_of_sides key at w from to len first sides a b one other e f g size one_is other_is =
    let ends = in_order w from to first sides e in
    let both = hash_of-both key a b at in
    cc

-- the hash of the two ends, a piece at a time
pub hash_of_ends : (key : List ℕ) (w : Width) (from to len : ℕ) (ports : Option (ℕ × ℕ)) (first : Bool) (sides : ℕ × ℕ)
    (a b : List ℕ) (one other more : ℕ)
    → first ≡ source_first from to ports → sides ≡ (if first then (from, to) else (to, from))
    → a ≡ to_be_bytes w sides.0 → b ≡ to_be_bytes w sides.1 → length a ≡ len → length b ≡ len
    → one ≡ hash_of key a → other ≡ hash_of (drop len key) b
    → more ≡ hash_of (drop (len + len) key) (port_bytes first ports)
    → bit_xor (bit_xor one other) more ≡ hash_of key (ends_input w from to ports)
unfolding ends_input
hash_of_ends key w from to len ports first sides a b one other more same e f g size_a size_b one_is other_is more_is =
    let ends = in_order w from to first sides e in
    let two = hash_of-append key a b in
    let all = hash_of-append key (a ++ b) (port_bytes first ports) in
    let size = length-append a b in
    cc

pub ruleset flows = (both_ways, hash_of_nothing)
