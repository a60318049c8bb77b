-- How a capture ends, by the stage of its decoder.
use Rattle.pcapng_blocks.proofs.Names.{◌≡◌, ℕ, ◌+◌, ◌≤◌, ◌<◌, Bool, eqb, List, [], length, refl, sym, ap, ◌∙◌, inl, inr, arith}
use Rattle.pcapng_blocks.proofs.Names.{◌≢◌, None, Some, cases_Bool, cases_lt, le-ltb, lt-ltb, eqb-true, eqb-false, length-take}
use Rattle.pcapng_blocks.proofs.Names.{Little, BlockError, Truncated, Look, Short, Bad, Headed, BlockStage, look_at, is_skipped}
use Rattle.pcapng_blocks.proofs.Names.{Spot, counted, origin, reached_in, stop_of, damage_of, end_of, waiting, rest_in, IsKept}
use Rattle.pcapng_blocks.proofs.Names.{IsPart, IsSoundAt, stage_of, kept_of, end_at, Represents}
use Rattle.pcapng_blocks.specs.declared.stage.BlockStage.TheVariants as stages
use Rattle.pcapng_blocks.proofs.HeadLooks.{look_at-there, look_head}
use Rattle.pcapng_blocks.proofs.FrontBlocks.{front_bad, front_empty, part_short}
use Rattle.pcapng_blocks.proofs.Splits.{split_part, accounts}
use Rattle.pcapng_blocks.proofs.Outcomes.{failed, large, fine, stage_is}

-- ---- nothing was fed

reached_nothing : reached_in 0 [] ≡ record { spot = origin; frames = []; fault = None; left = [] }
unfolding reached_in
reached_nothing = split_part 0 origin [] [] (front_empty Little [] 0 [] (omega arith))

look_nothing : look_at Little 0 [] ≡ Short
unfolding look_at
look_nothing = refl

-- a decoder that nothing was fed to
pub represents_new : (number : ℕ) (kept : List ℕ) (spot : Spot) → kept ≡ [] → spot ≡ origin
    → Represents number (record { cpu = number; fed = 0; stage = stages.Blocks; spot = spot; rest = kept }) []
represents_new number kept spot none at =
    let now = reached_nothing in
    record {
      cpu = refl;
      count = refl;
      stage = rw (now, look_nothing) refl;
      spot = rw now at;
      rest = rw (now, look_nothing) none;
    }

-- ---- the end

-- each byte of a capture that isn't too large is before its stop or left
stop_accounts : (fed : List ℕ) → length fed ≤ 33554432 → stop_of fed + length (reached_in 0 fed).left ≡ length fed
unfolding reached_in
stop_accounts fed few = omega (arith, (accounts 0 origin [] (counted fed)).stop, length-take 33554432 fed)

module _ (fed : List ℕ) (stop : ℕ) (rest : List ℕ) (place : stop ≡ stop_of fed) where
  end_damaged : (error : BlockError) → damage_of fed ≡ Some error → Some error ≡ end_of fed
  end_damaged error d = rw d refl

  -- bytes are left
  end_cut : damage_of fed ≡ None → stop_of fed < length fed → Some (Truncated stop) ≡ end_of fed
  end_cut d more = rw (d, lt-ltb _ _ more, place) refl

  end_whole : damage_of fed ≡ None → length fed ≤ stop_of fed → None ≡ end_of fed
  end_whole d none = rw (d, le-ltb _ _ none) refl

  end_blocks : (none : Bool) → damage_of fed ≡ None → length fed ≤ 33554432 → rest ≡ (reached_in 0 fed).left
      → none ≡ eqb (length rest) 0
      → end_at stages.Blocks stop none ≡ end_of fed
  end_blocks none d few all is =
      let sum = stop_accounts fed few in
      elim (cases_Bool none) [
        | inl empty ↦
            let nothing : length rest ≡ 0 = eqb-true _ _ (sym is ∙ empty) in
            rw empty (end_whole d (omega (arith, ap length all)))
        | inr some ↦
            let something : length rest ≢ 0 = eqb-false _ _ (sym is ∙ some) in
            rw some (end_cut d (omega (arith, ap length all)))
      ]

  end_waiting : (none : Bool) (look : Look) → damage_of fed ≡ None → length fed ≤ 33554432
      → look_at (reached_in 0 fed).spot.order (reached_in 0 fed).spot.stop (reached_in 0 fed).left ≡ look
      → rest ≡ rest_in (waiting look (reached_in 0 fed).left) (reached_in 0 fed).left → none ≡ eqb (length rest) 0
      → end_at (waiting look (reached_in 0 fed).left) stop none ≡ end_of fed
  end_waiting none Short d few e all is = end_blocks none d few all is
  end_waiting none (Bad error) d few e all is = end_blocks none d few all is
  end_waiting none (Headed head) d few e all is =
      elim (cases_Bool (is_skipped head.kind)) [
        | inl skipped ↦
            let sum = stop_accounts fed few in
            let eight =
            (look_head (reached_in 0 fed).spot.order (reached_in 0 fed).spot.stop (reached_in 0 fed).left head e).eight in
            rw skipped (end_cut d (omega arith))
        | inr reads ↦ rw reads (end_blocks none d few (rw reads at all) is)
      ]

  -- the stage, its place and whether bytes are kept determine the end
  pub end_told : (stage : BlockStage) (none : Bool) → stage ≡ stage_of fed → rest ≡ kept_of fed → none ≡ eqb (length rest) 0
      → end_at stage stop none ≡ end_of fed
  end_told stage none at all is =
      elim (stage_is fed) [
        | failed error e told d ↦ rw (at, told) (end_damaged error d)
        | large e more told d ↦ rw (at, told) (end_damaged _ d)
        | fine e few told d ↦
            let left = (reached_in 0 fed).left in
            let look = look_at (reached_in 0 fed).spot.order (reached_in 0 fed).spot.stop left in
            rw (at, told) (end_waiting none look d few refl (all ∙ ap (λ (s : BlockStage). rest_in s left) told) is)
      ]

-- ---- how many bytes are kept

part_few : (spot : Spot) (rest : List ℕ) (look : Look) → IsPart spot rest → look_at spot.order spot.stop rest ≡ look
    → length rest ≤ 524287
part_few spot rest Short part e =
    elim (cases_lt (length rest) 12) [
      | inl less ↦ omega arith
      | inr full ↦ absurd (look_at-there spot.order spot.stop rest full e)
    ]
part_few spot rest (Bad error) part e =
    let fault = front_bad spot.order spot.interfaces spot.stop rest error e in
    let here = part.part in absurd (cc (fault, here))
part_few spot rest (Headed head) part e =
    elim (cases_Bool (is_skipped head.kind)) [
      | inl skipped ↦ let waits = rw (e, skipped) at part.waits in absurd cc
      | inr reads ↦
          let less = part_short spot.order spot.interfaces spot.stop rest head e part.part in
          let is = (look_head spot.order spot.stop rest head e).sound in
          omega (arith, is.few reads)
    ]

pub few_kept : (stage : BlockStage) (spot : Spot) (rest : List ℕ) (fed : ℕ) → IsKept stage spot rest fed → length rest ≤ 524287
few_kept stages.Blocks spot rest fed kept = part_few spot rest (look_at spot.order spot.stop rest) kept.0 refl
few_kept (stages.Skipping skip) spot rest fed kept = omega (arith, kept.0.few)
few_kept (stages.Damaged error) spot rest fed kept = omega (arith, ap length kept.0)

-- a decoder that nothing was fed to is sound
pub sound_new : (spot : Spot) (kept : List ℕ) → spot ≡ origin → kept ≡ [] → IsSoundAt stages.Blocks spot kept 0
sound_new spot kept at none =
    rw (at, none) (record {
      kept = (record { part = front_empty Little [] 0 [] (omega arith); waits = rw look_nothing refl }, omega arith);
      count = omega arith;
    })
