-- What is kept after a feed: a part of one block, within the bytes that were fed.
use Rattle.pcapng_blocks.proofs.Names.{◌≡◌, ℕ, ◌+◌, ◌-◌, ◌*◌, ◌≤◌, ◌<◌, true, List, [], ◌++◌, length, take, drop, refl, sym, ap}
use Rattle.pcapng_blocks.proofs.Names.{◌∙◌, inl, inr, arith, ◌≢◌, min, Option, None, Some, cases_Bool, cases_lt, append-nil}
use Rattle.pcapng_blocks.proofs.Names.{length-append, length-drop, length-take, take_all, drop_all, take-take, take_at, Frame}
use Rattle.pcapng_blocks.proofs.Names.{BlockError, Head, Look, Short, Bad, Headed, Interface, Part, BlockProgress, Skip}
use Rattle.pcapng_blocks.proofs.Names.{BlockStage}
use Rattle.pcapng_blocks.proofs.Names.{look_at, is_skipped, IsHead, Spot, front_of, split_from, spot_of, waiting, stage_by}
use Rattle.pcapng_blocks.proofs.Names.{stage_at, rest_in, Comes, IsSkipping, IsPart, IsSkip, IsKept, IsSoundAt, Extends}
use Rattle.pcapng_blocks.specs.declared.stage.BlockStage.TheVariants as stages
use Rattle.pcapng_blocks.proofs.HeadLooks.{look_at-append, look_at-there, look_head}
use Rattle.pcapng_blocks.proofs.FrontBlocks.{part_short}
use Rattle.pcapng_blocks.proofs.Splits.{ended, accounts}
use Rattle.pcapng_blocks.proofs.Steps.{topped}

-- ---- what is kept

-- a block that is skipped, of which these bytes are there
pub skip_sound : (head : Head) (left : List ℕ) (fed stop : ℕ) → is_skipped head.kind ≡ true → IsHead head
    → length left ≤ head.total → stop + length left ≤ fed
    → IsKept (stages.Skipping (record { head = head; left = head.total - 4 - length left }))
    (record { stop = stop; index = 0; order = head.order; interfaces = [] }) (drop (head.total - 4) left) fed
skip_sound head left fed stop skipped is short bound =
    let size = length-drop (head.total - 4) left in (
      record {
        skipped = skipped;
        some = is.some;
        few = omega (arith, is.some);
        within = omega (arith, is.some);
        none = λ more. drop_all (head.total - 4) left (omega arith);
      },
      omega (arith, is.some),
    )

waiting_kept : (spot : Spot) (left : List ℕ) (fed : ℕ) (look : Look) → look_at spot.order spot.stop left ≡ look
    → front_of spot.order spot.interfaces spot.stop left ≡ Part
    → spot.stop + length left ≤ fed → IsKept (waiting look left) spot (rest_in (waiting look left) left) fed
waiting_kept spot left fed Short e part bound = (record { part = part; waits = rw e refl }, bound)
waiting_kept spot left fed (Bad error) e part bound = (record { part = part; waits = rw e refl }, bound)
waiting_kept spot left fed (Headed head) e part bound =
    elim (cases_Bool (is_skipped head.kind)) [
      | inl skipped ↦
          let less = part_short spot.order spot.interfaces spot.stop left head e part in
          let is = (look_head spot.order spot.stop left head e).sound in
          let told = skip_sound head left fed spot.stop skipped is (omega arith) bound in
          rw skipped (told.0, told.1)
      | inr reads ↦ rw reads (record { part = part; waits = rw (e, reads) refl }, bound)
    ]

kept_by : (fault : Option BlockError) (spot : Spot) (left : List ℕ) (fed : ℕ)
    → front_of spot.order spot.interfaces spot.stop left ≡ ended fault → spot.stop + length left ≤ fed
    → IsKept (stage_by fault (look_at spot.order spot.stop left) left) spot
    (rest_in (stage_by fault (look_at spot.order spot.stop left) left) left) fed
kept_by None spot left fed ends bound = waiting_kept spot left fed (look_at spot.order spot.stop left) refl ends bound
kept_by (Some error) spot left fed ends bound = (refl, omega arith)

-- where a split of these bytes stops
pub split_sound : (cpu : ℕ) (spot : Spot) (frames : List Frame) (bytes : List ℕ) (progress : BlockProgress) (kept : List ℕ)
    (interfaces : List Interface) (after : List Frame) (fed : ℕ)
    → Comes (split_from cpu spot frames bytes) progress kept interfaces after → spot.stop + length bytes ≤ fed
    → 16 * spot.index ≤ spot.stop
    → IsSoundAt progress.stage (spot_of progress.cursor interfaces) (drop progress.cut kept) fed
split_sound cpu spot frames bytes progress kept interfaces after fed comes bound count =
    let reached = split_from cpu spot frames bytes in
    let told = accounts cpu spot frames bytes in
    let here : IsSoundAt (stage_at reached) reached.spot (rest_in (stage_at reached) reached.left) fed =
    record {
      kept = kept_by reached.fault reached.spot reached.left fed told.ends (omega (arith, told.stop));
      count = omega (arith, told.count);
    } in
    rw (comes.stage, comes.spot, comes.rest) here

-- a greater number of bytes that were fed changes nothing
kept_more : (stage : BlockStage) (spot : Spot) (rest : List ℕ) (fed more : ℕ) → fed ≤ more → IsKept stage spot rest fed
    → IsKept stage spot rest more
kept_more stages.Blocks spot rest fed more le kept = (kept.0, omega (arith, kept.1))
kept_more (stages.Skipping skip) spot rest fed more le kept = (kept.0, omega (arith, kept.1))
kept_more (stages.Damaged error) spot rest fed more le kept = (kept.0, omega (arith, kept.1))

pub sound_more : (stage : BlockStage) (spot : Spot) (rest : List ℕ) (fed more : ℕ) → fed ≤ more → IsSoundAt stage spot rest fed
    → IsSoundAt stage spot rest more
sound_more stage spot rest fed more le sound =
    record { kept = kept_more stage spot rest fed more le sound.kept; count = sound.count }

-- a skip that goes on
pub skip_on_sound : (spot : Spot) (skip : Skip) (rest new piece behind : List ℕ) (count fed : ℕ) → IsSkip skip rest
    → 16 * spot.index ≤ spot.stop
    → behind ≡ drop (min skip.left (length piece)) piece → new ≡ rest ++ behind → length new < 4
    → count ≡ skip.left - min skip.left (length piece)
    → spot.stop + skip.head.total + length rest + length piece ≤ fed + skip.left + 4
    → IsSoundAt (stages.Skipping (record { head = skip.head; left = count })) spot new fed
skip_on_sound spot skip rest new piece behind count fed is packets passed all few counted bound =
    let size = length-drop (min skip.left (length piece)) piece in
    let long : length new ≡ length rest + length behind = ap length all ∙ length-append rest behind in
    let after : length behind ≡ length piece - min skip.left (length piece) = ap length passed ∙ size in
    record {
      kept = (
        record {
          skipped = is.skipped;
          some = is.some;
          few = omega arith;
          within = omega (arith, is.within);
          none = λ more.
              let nothing : behind ≡ [] = passed ∙ drop_all (min skip.left (length piece)) piece (omega arith) in
              let first : rest ≡ [] = is.none (omega arith) in
              all ∙ rw (first, nothing) refl;
        },
        omega arith,
      );
      count = packets;
    }

-- ---- the head of a block is completed

module _ (spot : Spot) (old piece new behind : List ℕ) (kept : new ≡ old ++ take (12 - length old) piece)
    (left : behind ≡ drop (12 - length old) piece) where
  head_size : length new ≡ length old + length (take (12 - length old) piece)
  head_size = ap length kept ∙ length-append old (take (12 - length old) piece)

  pub head_all : new ++ behind ≡ old ++ piece
  head_all = rw (kept, left) (topped (12 - length old) old piece)

  -- there is no whole head, so the piece is used up
  pub head_short : look_at spot.order spot.stop new ≡ Short → new ≡ old ++ piece
  head_short short =
      elim (cases_lt (length new) 12) [
        | inl less ↦
            let none : behind ≡ [] =
            left ∙ drop_all (12 - length old) piece (omega (arith, head_size, length-take (12 - length old) piece)) in
            sym (append-nil new) ∙ ap (λ (xs : List ℕ). new ++ xs) (sym none) ∙ head_all
        | inr full ↦ absurd (look_at-there spot.order spot.stop new full short)
      ]

  -- a head that isn't cut is the head of all bytes
  pub head_look : (look : Look) → look_at spot.order spot.stop new ≡ look → look ≢ Short
      → look_at spot.order spot.stop (old ++ piece) ≡ look
  head_look look e there =
      let here : look_at spot.order spot.stop new ≢ Short = λ s. there (sym e ∙ s) in
      ap (look_at spot.order spot.stop) (sym head_all) ∙ look_at-append spot.order spot.stop new behind here ∙ e

  -- at least n bytes are there
  pub head_bytes : length new + length behind ≡ length old + length piece
  head_bytes = omega (arith, ap length head_all, length-append new behind, length-append old piece)

  same_old : 12 ≤ length old → new ≡ old
  same_old long = let none : 12 - length old ≡ 0 = omega arith in kept ∙ rw none (append-nil old)

  -- the kept bytes are no more than the block
  pub head_within : (head : Head) → IsPart spot old → look_at spot.order spot.stop new ≡ Headed head → IsHead head
      → length new ≤ head.total
  head_within head part look is =
      elim (cases_lt (length old) 12) [
        | inl less ↦ omega (arith, head_size, is.some, length-take (12 - length old) piece)
        | inr long ↦
            let same = same_old long in
            let there : look_at spot.order spot.stop old ≡ Headed head = ap (look_at spot.order spot.stop) (sym same) ∙ look in
            let less = part_short spot.order spot.interfaces spot.stop old head there part.part in
            rw same (omega arith)
      ]

-- the bytes of a head begin a block that is skipped
pub head_skips : (spot : Spot) (new : List ℕ) (head : Head) (cut left : ℕ) → look_at spot.order spot.stop new ≡ Headed head
    → is_skipped head.kind ≡ true → IsHead head → length new ≤ head.total
    → cut ≡ min (head.total - 4) (length new) → left ≡ head.total - 4 - cut
    → IsSkipping spot (record { head = head; left = left }) (drop cut new) new
    × IsSkip (record { head = head; left = left }) (drop cut new)
head_skips spot new head cut left look skipped is short at count =
    let same : drop cut new ≡ drop (head.total - 4) new =
    elim (cases_lt (length new) (head.total - 4)) [
      | inl less ↦ drop_all cut new (omega arith) ∙ sym (drop_all (head.total - 4) new (omega arith))
      | inr more ↦ let e : cut ≡ head.total - 4 = omega arith in rw e refl
    ] in
    let size = length-drop cut new in (
      record { head = look; short = short; count = omega arith; tail = same },
      record {
        skipped = skipped;
        some = is.some;
        few = omega (arith, is.some);
        within = omega (arith, is.some);
        none = λ more. drop_all cut new (omega arith);
      },
    )

-- ---- lists that are only appended to

pub extends_same : {A : Type 0} (old new : List A) → new ≡ old → Extends old new
extends_same old new e = record { front = rw e (take_all (length old) old (omega arith)) }

pub extends_more : {A : Type 0} (old new more : List A) → new ≡ old ++ more → Extends old new
extends_more old new more e = record { front = rw e (take_at old more (length old) refl) }

pub extends_through : {A : Type 0} (old mid new : List A) → Extends old mid → Extends mid new → Extends old new
extends_through old mid new first then_ =
    let le : length old ≤ length mid = omega (arith, length-take (length old) mid, ap length first.front) in
    record { front = sym (take-take (length old) (length mid) new le) ∙ ap (take (length old)) then_.front ∙ first.front }

-- the fresh bytes after a block that is skipped are within those that were fed
pub skip_bound : (skip : Skip) (rest old piece behind new fresh : List ℕ) (cut stop fed : ℕ) → IsSkip skip rest
    → rest ≡ drop cut old → cut ≤ length old
    → behind ≡ drop (min skip.left (length piece)) piece → new ≡ old ++ take (cut + 4 - length old) behind
    → fresh ≡ drop (cut + 4 - length old) behind
    → cut + 4 ≤ length new → stop + skip.head.total + length rest + length piece ≤ fed + skip.left + 4
    → stop + skip.head.total + length fresh ≤ fed
skip_bound skip rest old piece behind new fresh cut stop fed is tail within passed kept left full bound =
    let rests : length rest ≡ length old - cut = ap length tail ∙ length-drop cut old in
    let after : length behind ≡ length piece - min skip.left (length piece) =
    ap length passed ∙ length-drop (min skip.left (length piece)) piece in
    let size : length new ≡ length old + length (take (cut + 4 - length old) behind) =
    ap length kept ∙ length-append old (take (cut + 4 - length old) behind) in
    let fresh_size : length fresh ≡ length behind - (cut + 4 - length old) =
    ap length left ∙ length-drop (cut + 4 - length old) behind in
    elim (cases_lt 0 skip.left) [
      | inl more ↦
          let nothing : length rest ≡ 0 = ap length (is.none more) in
          omega (arith, is.few, length-take (cut + 4 - length old) behind)
      | inr done ↦ omega (arith, is.few, length-take (cut + 4 - length old) behind)
    ]
