-- The decoder that a feed leaves.
use Rattle.pcapng_blocks.proofs.Names.{◌≡◌, Bool, true, false, ℕ, ◌+◌, ◌-◌, ◌≤◌, List, [], ◌++◌, length, take, drop, refl, sym}
use Rattle.pcapng_blocks.proofs.Names.{ap, subst, ◌∙◌, arith, min, nat_lt, Option, None, length-append, length-take, take_min}
use Rattle.pcapng_blocks.proofs.Names.{Frame, BlockError, Cursor, Held, BlockProgress, BlockStage, Spot, counted, damage_of}
use Rattle.pcapng_blocks.proofs.Names.{spot_of}
use Rattle.pcapng_blocks.proofs.Names.{Feeds, IsKept, IsSoundAt, stage_with, error_of, stage_of, Represents, DecoderValue}
use Rattle.pcapng_blocks.specs.declared.stage.BlockStage.TheVariants as stages
use Rattle.pcapng_blocks.proofs.Outcomes.{Settles, settles, damage_is_error}

-- what a feed leaves, by its steps: what was taken of the piece, and the stage with what is beyond
pub settles_here : (number : ℕ) (fed piece taken : List ℕ) (now : DecoderValue) (cpu : ℕ) (cursor : Cursor) (stage : BlockStage)
    (count : ℕ) (old new : Held) (before after : List Frame)
    (progress : BlockProgress) (size : ℕ) (then_ : BlockStage)
    → record { cpu = cpu; fed = count; stage = stage; spot = spot_of cursor old.interfaces.items; rest = old.kept.items } ≡ now
    → Represents number now fed
    → size ≡ min (33554432 - count) (length piece) → taken ≡ take size piece
    → then_ ≡ stage_with progress.stage (nat_lt (33554432 - count) (length piece))
    → Feeds cpu stage cursor old taken before progress new after
    → Settles number fed piece before after then_ (spot_of progress.cursor new.interfaces.items)
    (drop progress.cut new.kept.items)
settles_here number fed piece taken now cpu cursor stage count old new before after progress size then_ view represents room
    part with feeds =
    let s = subst (λ (v : DecoderValue). Represents number v fed) (sym view) represents in
    let mine : Represents number
    (record {
      cpu = number;
      fed = count;
      stage = stage;
      spot = spot_of cursor old.interfaces.items;
      rest = old.kept.items;
    }) fed =
    record { cpu = refl; count = s.count; stage = s.stage; spot = s.spot; rest = s.rest } in
    let all : taken ≡ take (33554432 - count) piece =
    part ∙ ap (λ (n : ℕ). take n piece) room ∙ take_min (33554432 - count) piece in
    rw with (settles number fed piece taken cursor stage count old new before after progress
    (nat_lt (33554432 - count) (length piece)) mine all refl
    (subst (λ (n : ℕ). Feeds n stage cursor old taken before progress new after) s.cpu feeds))

-- the bytes that count, after a feed
fed_on : (fed piece taken : List ℕ) (count size : ℕ) → count ≡ length (counted fed)
    → size ≡ min (33554432 - count) (length piece) → taken ≡ take size piece
    → count + length taken ≡ length (counted (fed ++ piece))
fed_on fed piece taken count size counts room part =
    omega (
      arith,
      length-take 33554432 fed,
      length-take 33554432 (fed ++ piece),
      length-append fed piece,
      ap length part,
      length-take size piece,
    )

-- the decoder that is left represents all bytes
module _ (number : ℕ) (fed piece taken : List ℕ) (before after : List Frame) (old decoder : DecoderValue) (stage : BlockStage)
    (spot : Spot) (rest kept : List ℕ) (size : ℕ)
    (view : decoder ≡ old) (represents : Represents number old fed) (room : size ≡ min (33554432 - decoder.fed) (length piece))
    (part : taken ≡ take size piece)
    (h : Settles number fed piece before after stage spot rest) where
  was : Represents number decoder fed
  was = subst (λ (v : DecoderValue). Represents number v fed) (sym view) represents

  count : decoder.fed + length taken ≡ length (counted (fed ++ piece))
  count = fed_on fed piece taken decoder.fed size was.count room part

  pub represents_more : error_of stage ≡ None → kept ≡ rest
      → Represents number
      (record { cpu = decoder.cpu; fed = decoder.fed + length taken; stage = stage; spot = spot; rest = kept })
      (fed ++ piece)
  represents_more none all = record { cpu = was.cpu; count = count; stage = h.at; spot = h.place; rest = all ∙ h.kept none }

  pub represents_damaged : (error : BlockError) → stage ≡ stages.Damaged error → kept ≡ []
      → Represents number
      (record { cpu = decoder.cpu; fed = decoder.fed + length taken; stage = stage; spot = spot; rest = kept })
      (fed ++ piece)
  represents_damaged error at none =
      let told : stage_of (fed ++ piece) ≡ stages.Damaged error = sym h.at ∙ at in
      record { cpu = was.cpu; count = count; stage = h.at; spot = h.place; rest = none ∙ rw told refl }

-- the answer is the damage
pub settles_damage : (number : ℕ) (fed piece : List ℕ) (before after : List Frame) (stage : BlockStage) (spot : Spot)
    (rest : List ℕ)
    (damage : Option BlockError)
    → Settles number fed piece before after stage spot rest → error_of stage ≡ damage → damage ≡ damage_of (fed ++ piece)
settles_damage number fed piece before after stage spot rest damage h e =
    sym e ∙ ap error_of h.at ∙ sym (damage_is_error (fed ++ piece))

-- a stage that isn't damaged has no error
pub no_error : (stage : BlockStage) → ((error : BlockError) → stage ≡ stages.Damaged error → ⊥) → error_of stage ≡ None
no_error stages.Blocks not = refl
no_error (stages.Skipping skip) not = refl
no_error (stages.Damaged error) not = absurd (not error refl)

-- ---- the decoder stays sound

stop_within : (stage : BlockStage) (spot : Spot) (rest : List ℕ) (fed : ℕ) → IsKept stage spot rest fed → spot.stop ≤ fed
stop_within stages.Blocks spot rest fed kept = omega (arith, kept.1)
stop_within (stages.Skipping skip) spot rest fed kept = omega (arith, kept.0.within, kept.1)
stop_within (stages.Damaged error) spot rest fed kept = kept.1

pub damaged_sound : (stage then_ : BlockStage) (spot : Spot) (rest kept : List ℕ) (fed : ℕ) (error : BlockError)
    → IsSoundAt stage spot rest fed → then_ ≡ stages.Damaged error → kept ≡ []
    → IsSoundAt then_ spot kept fed
damaged_sound stage then_ spot rest kept fed error sound at none =
    rw at (record { kept = (none, stop_within stage spot rest fed sound.kept); count = sound.count })

with_same : (stage then_ : BlockStage) (beyond : Bool) → then_ ≡ stage_with stage beyond → error_of then_ ≡ None → then_ ≡ stage
with_same stages.Blocks then_ true at none = let e = rw at at none in absurd cc
with_same stages.Blocks then_ false at none = at
with_same (stages.Skipping skip) then_ true at none = let e = rw at at none in absurd cc
with_same (stages.Skipping skip) then_ false at none = at
with_same (stages.Damaged error) then_ beyond at none = at

pub sound_with : (stage then_ : BlockStage) (beyond : Bool) (spot : Spot) (rest kept : List ℕ) (fed : ℕ)
    → IsSoundAt stage spot rest fed → then_ ≡ stage_with stage beyond → error_of then_ ≡ None → kept ≡ rest
    → IsSoundAt then_ spot kept fed
sound_with stage then_ beyond spot rest kept fed sound at none all = rw (with_same stage then_ beyond at none, all) sound
