-- The ring and the range of each member, by its place in a list.
use Rattle.std.proofs.Common.{◌≡◌, ℕ, zero, suc, ◌<◌, List, [], ◌∷◌, length}
use Rattle.std.proofs.Common.{Option, Some, refl, sym, ap, subst, arith, get_or}
use Rattle.std.specs.Prelude.{slice_get}
use Rattle.ring_sizes.specs.Phases.{IsFirstMost}
use Rattle.ring_sizes.specs.declared.paces.Arrival.{Arrival}
use Rattle.ring_sizes.specs.declared.phase_losses.DropRange.{DropRange}
use Rattle.ring_sizes.specs.declared.tries.Reached.{Reached}
use Rattle.ring_sizes.specs.declared.tries.Tries.{Tries}
use Rattle.tap_sizes.specs.declared.ring_parts.RingParts.{RingParts}
use Rattle.tap_sizes.specs.inside.Passes.{AreDropRanges, AreFirstMost, Clocks, IsDropRange}
use Rattle.tap_sizes.specs.inside.Passes.{IsTotalRange, drops_by, least_by, total_by}
use Rattle.tap_sizes.proofs.Greatest.{fewest_as, numbers_as}

pub rings_count : (parts : RingParts) (clocks : Clocks) (tries : Tries) (all : List (List Arrival))
    (rings : List Reached) → AreFirstMost parts clocks tries all rings → length rings ≡ length all
rings_count parts clocks tries [] [] are = refl
rings_count parts clocks tries [] (ring ∷ rings) are = absurd are
rings_count parts clocks tries (arrivals ∷ all) [] are = absurd are
rings_count parts clocks tries (arrivals ∷ all) (ring ∷ rings) are =
    ap suc (rings_count parts clocks tries all rings are.1)

same_ring : (one other : Reached) → ◌≡◌ {A = Option Reached} (Some one) (Some other) → one ≡ other
same_ring one other e = cc

pub ring_at : (parts : RingParts) (clocks : Clocks) (tries : Tries) (all : List (List Arrival))
    (rings : List Reached) (member : ℕ) (ring : Reached)
    → AreFirstMost parts clocks tries all rings → slice_get rings member ≡ Some ring
    → (member < length all)
    × IsFirstMost tries (least_by parts clocks (get_or all member [])) ring
ring_at parts clocks tries [] [] member ring are is = cc
ring_at parts clocks tries [] (r ∷ rings) member ring are is = absurd are
ring_at parts clocks tries (arrivals ∷ all) [] member ring are is = absurd are
ring_at parts clocks tries (arrivals ∷ all) (r ∷ rings) zero ring are is = (
  omega arith,
  subst (λ (x : Reached). IsFirstMost tries (least_by parts clocks arrivals) x)
      (same_ring r ring is) are.0,
)
ring_at parts clocks tries (arrivals ∷ all) (r ∷ rings) (suc member) ring are is =
    let rest = ring_at parts clocks tries all rings member ring are.1 is in
    let less = rest.0 in (omega (arith, less), rest.1)

pub ranges_count : (parts : RingParts) (clocks : Clocks) (tries : Tries) (all : List (List Arrival))
    (ranges : List DropRange) → AreDropRanges parts clocks tries all ranges
    → length ranges ≡ length all
ranges_count parts clocks tries [] [] are = refl
ranges_count parts clocks tries [] (range ∷ ranges) are = absurd are
ranges_count parts clocks tries (arrivals ∷ all) [] are = absurd are
ranges_count parts clocks tries (arrivals ∷ all) (range ∷ ranges) are =
    ap suc (ranges_count parts clocks tries all ranges are.1)

same_range : (one other : DropRange) → ◌≡◌ {A = Option DropRange} (Some one) (Some other)
    → one ≡ other
same_range one other e = cc

pub range_at : (parts : RingParts) (clocks : Clocks) (tries : Tries) (all : List (List Arrival))
    (ranges : List DropRange) (member : ℕ) (range : DropRange)
    → AreDropRanges parts clocks tries all ranges → slice_get ranges member ≡ Some range
    → (member < length all)
    × IsDropRange parts clocks tries (get_or all member []) range
range_at parts clocks tries [] [] member range are is = cc
range_at parts clocks tries [] (r ∷ ranges) member range are is = absurd are
range_at parts clocks tries (arrivals ∷ all) [] member range are is = absurd are
range_at parts clocks tries (arrivals ∷ all) (r ∷ ranges) zero range are is = (
  omega arith,
  subst (λ (x : DropRange). IsDropRange parts clocks tries arrivals x)
      (same_range r range is) are.0,
)
range_at parts clocks tries (arrivals ∷ all) (r ∷ ranges) (suc member) range are is =
    let rest = range_at parts clocks tries all ranges member range are.1 is in
    let less = rest.0 in (omega (arith, less), rest.1)

-- ---- all members together

-- of one member alone they are its own
one_total : (parts : RingParts) (clocks : Clocks) (arrivals : List Arrival) (phase from : ℕ)
    → total_by parts clocks (arrivals ∷ []) phase from ≡ drops_by parts clocks arrivals phase from
one_total parts clocks arrivals phase from = omega arith

pub own_range : (parts : RingParts) (clocks : Clocks) (tries : Tries) (arrivals : List Arrival)
    (members : List (List Arrival)) (range : DropRange) → members ≡ arrivals ∷ []
    → IsTotalRange parts clocks tries members range
    → IsDropRange parts clocks tries arrivals range
own_range parts clocks tries arrivals members range is h =
    let one = subst (λ (all : List (List Arrival)). IsTotalRange parts clocks tries all range) is h in
    record {
      fewest = fewest_as tries _ (drops_by parts clocks arrivals) range.fewest
          (λ phase from. one_total parts clocks arrivals phase from) one.fewest;
      most = numbers_as tries _ (drops_by parts clocks arrivals) range.most
          (λ phase from. one_total parts clocks arrivals phase from) one.most;
    }

pub total_of_one : (parts : RingParts) (clocks : Clocks) (tries : Tries) (all : List (List Arrival))
    (ranges : List DropRange) (none : DropRange) → length ranges ≡ 1
    → AreDropRanges parts clocks tries all ranges
    → IsTotalRange parts clocks tries all (get_or ranges 0 none)
total_of_one parts clocks tries all [] none one are = absurd (omega (arith, one))
total_of_one parts clocks tries [] (own ∷ ranges) none one are = absurd are
total_of_one parts clocks tries (arrivals ∷ []) (own ∷ []) none one are = record {
  fewest = fewest_as tries _ (total_by parts clocks (arrivals ∷ [])) own.fewest
      (λ phase from. sym (one_total parts clocks arrivals phase from)) are.0.fewest;
  most = numbers_as tries _ (total_by parts clocks (arrivals ∷ [])) own.most
      (λ phase from. sym (one_total parts clocks arrivals phase from)) are.0.most;
}
total_of_one parts clocks tries (arrivals ∷ more ∷ all) (own ∷ []) none one are = absurd are.1
total_of_one parts clocks tries (arrivals ∷ all) (own ∷ other ∷ ranges) none one are =
    absurd (omega (arith, one))
