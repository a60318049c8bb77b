-- What a feed leaves: a decoder that represents all bytes, and the frames that are new.
use Rattle.pcapng_blocks.proofs.Names.{◌≡◌, ℕ, ◌+◌, ◌-◌, ◌≤◌, ◌<◌, Bool, true, false, List, [], ◌++◌, length, take, drop, refl}
use Rattle.pcapng_blocks.proofs.Names.{sym, ap, subst, ◌∙◌, inl, inr, arith, nat_lt, Option, None, Some, take-append-add}
use Rattle.pcapng_blocks.proofs.Names.{cases_Bool, cases_lt, le-ltb, lt-ltb, append-nil, length-append, take_all}
use Rattle.pcapng_blocks.proofs.Names.{take-append-le, Frame, BlockError, TooLarge, Look, Short, Bad, Headed, Interface, Part}
use Rattle.pcapng_blocks.proofs.Names.{Cursor, Held, BlockProgress, BlockStage, look_at, is_skipped, Spot, Reached, front_of}
use Rattle.pcapng_blocks.proofs.Names.{split_from}
use Rattle.pcapng_blocks.proofs.Names.{counted, origin, reached_in, frames_of, damage_of, spot_of, waiting, stage_at, rest_in}
use Rattle.pcapng_blocks.proofs.Names.{Comes, Feeds, stage_with, error_of, stage_of, kept_of, Represents}
use Rattle.pcapng_blocks.specs.declared.stage.BlockStage.TheVariants as stages
use Rattle.pcapng_blocks.proofs.FrontBlocks.{part_short}
use Rattle.pcapng_blocks.proofs.Splits.{accounts, go_on_by, split_append, split_frames, StopsAlike, split_alike}

-- ---- the stage of a capture

waiting_beyond : (look : Look) (left : List ℕ) → stage_with (waiting look left) true ≡ stages.Damaged TooLarge
waiting_beyond Short left = refl
waiting_beyond (Bad error) left = refl
waiting_beyond (Headed head) left =
    elim (cases_Bool (is_skipped head.kind)) [ inl skipped ↦ rw skipped refl | inr reads ↦ rw reads refl ]

waiting_within : (look : Look) (left : List ℕ) → stage_with (waiting look left) false ≡ waiting look left
waiting_within Short left = refl
waiting_within (Bad error) left = refl
waiting_within (Headed head) left =
    elim (cases_Bool (is_skipped head.kind)) [ inl skipped ↦ rw skipped refl | inr reads ↦ rw reads refl ]

waiting_fine : (look : Look) (left : List ℕ) → error_of (waiting look left) ≡ None
waiting_fine Short left = refl
waiting_fine (Bad error) left = refl
waiting_fine (Headed head) left =
    elim (cases_Bool (is_skipped head.kind)) [ inl skipped ↦ rw skipped refl | inr reads ↦ rw reads refl ]

-- what the stage of bytes is: the test that failed, or more bytes than count, or what comes next
pub data StageIs (bytes : List ℕ) : Type 0 where
  failed : (error : BlockError) → (reached_in 0 bytes).fault ≡ Some error → stage_of bytes ≡ stages.Damaged error
      → damage_of bytes ≡ Some error → StageIs bytes
  large : (reached_in 0 bytes).fault ≡ None → 33554432 < length bytes → stage_of bytes ≡ stages.Damaged TooLarge
      → damage_of bytes ≡ Some TooLarge → StageIs bytes
  fine : (reached_in 0 bytes).fault ≡ None → length bytes ≤ 33554432
      → stage_of bytes
      ≡ waiting (look_at (reached_in 0 bytes).spot.order (reached_in 0 bytes).spot.stop (reached_in 0 bytes).left)
      (reached_in 0 bytes).left
      → damage_of bytes ≡ None → StageIs bytes

stage_is_by : (bytes : List ℕ) (fault : Option BlockError) → (reached_in 0 bytes).fault ≡ fault → StageIs bytes
stage_is_by bytes (Some error) e = failed error e (rw e refl) (rw e refl)
stage_is_by bytes None e =
    let left = (reached_in 0 bytes).left in
    let look = look_at (reached_in 0 bytes).spot.order (reached_in 0 bytes).spot.stop left in
    elim (cases_lt 33554432 (length bytes)) [
      | inl more ↦ large e more (rw (e, lt-ltb _ _ more) (waiting_beyond look left)) (rw (e, lt-ltb _ _ more) refl)
      | inr few ↦ fine e few (rw (e, le-ltb _ _ few) (waiting_within look left)) (rw (e, le-ltb _ _ few) refl)
    ]

pub stage_is : (bytes : List ℕ) → StageIs bytes
stage_is bytes = stage_is_by bytes (reached_in 0 bytes).fault refl

-- the damage of a capture is the error of its stage
pub damage_is_error : (bytes : List ℕ) → damage_of bytes ≡ error_of (stage_of bytes)
damage_is_error bytes =
    elim (stage_is bytes) [
      | failed error e at d ↦ rw (at, d) refl
      | large e more at d ↦ rw (at, d) refl
      | fine e few at d ↦
          d ∙ sym
          (ap error_of at ∙ waiting_fine
          (look_at (reached_in 0 bytes).spot.order (reached_in 0 bytes).spot.stop (reached_in 0 bytes).left)
          (reached_in 0 bytes).left)
    ]

-- ---- more bytes

-- the bytes that count of two lists
pub counted-append : (xs ys : List ℕ) → counted (xs ++ ys) ≡ counted xs ++ take (33554432 - length xs) ys
counted-append xs ys =
    elim (cases_lt (length xs) 33554432) [
      | inl within ↦
          let sum : 33554432 ≡ length xs + (33554432 - length xs) = omega arith in
          let all : counted xs ≡ xs = take_all 33554432 xs (omega arith) in
          ap (λ (n : ℕ). take n (xs ++ ys)) sum ∙ take-append-add xs ys (33554432 - length xs)
          ∙ ap (λ (zs : List ℕ). zs ++ take (33554432 - length xs) ys) (sym all)
      | inr beyond ↦
          let none : 33554432 - length xs ≡ 0 = omega arith in
          take-append-le 33554432 xs ys beyond ∙ rw none (sym (append-nil (counted xs)))
    ]

pub reached-append : (cpu : ℕ) (fed piece : List ℕ)
    → reached_in cpu (fed ++ piece) ≡ go_on_by (reached_in cpu fed).fault cpu (reached_in cpu fed)
    (take (33554432 - length fed) piece)
unfolding reached_in
reached-append cpu fed piece = ap (split_from cpu origin []) (counted-append fed piece)
    ∙ split_append cpu origin [] (counted fed) (take (33554432 - length fed) piece)

-- bytes beyond those that count change nothing
pub reached_beyond : (cpu : ℕ) (fed piece : List ℕ) → 33554432 < length fed → reached_in cpu (fed ++ piece) ≡ reached_in cpu fed
unfolding reached_in
reached_beyond cpu fed piece many = ap (split_from cpu origin []) (take-append-le 33554432 fed piece (omega arith))

-- where a capture stops doesn't depend on the CPU
pub reached_alike : (cpu other : ℕ) (bytes : List ℕ) → StopsAlike (reached_in cpu bytes) (reached_in other bytes)
unfolding reached_in
reached_alike cpu other bytes = split_alike cpu other origin [] [] (counted bytes)

pub stage_alike : (x y : Reached) → StopsAlike x y → stage_at x ≡ stage_at y
stage_alike x y h = rw (h.spot, h.fault, h.left) refl

-- ---- what a feed leaves

-- a stage, a place, kept bytes and frames are those of a capture that was fed on
pub record Settles (number : ℕ) (fed piece : List ℕ) (before after : List Frame) (stage : BlockStage) (spot : Spot)
    (rest : List ℕ)
    : Type 0 where
  pub at : stage ≡ stage_of (fed ++ piece)
  pub place : spot ≡ (reached_in 0 (fed ++ piece)).spot
  pub kept : error_of stage ≡ None → rest ≡ kept_of (fed ++ piece)
  pub frames : (more : List Frame) × (after ≡ before ++ more) × (frames_of number (fed ++ piece) ≡ frames_of number fed ++ more)

no_more : (before after : List Frame) → after ≡ before → after ≡ before ++ []
no_more before after e = e ∙ sym (append-nil before)

-- after damage nothing changes
module _ (number : ℕ) (fed piece : List ℕ) (error : BlockError) where
  pub damage_fault : (reached_in 0 fed).fault ≡ Some error → reached_in 0 (fed ++ piece)
      ≡ record {
        spot = (reached_in 0 fed).spot;
        frames = (reached_in 0 fed).frames;
        fault = Some error;
        left = (reached_in 0 fed).left ++ take (33554432 - length fed) piece;
      }
  damage_fault e = reached-append 0 fed piece ∙ rw e refl

  pub frames_fault : (reached_in 0 fed).fault ≡ Some error → frames_of number (fed ++ piece) ≡ frames_of number fed
  frames_fault e =
      let same : (reached_in number fed).fault ≡ Some error = (reached_alike number 0 fed).fault ∙ e in
      let on : reached_in number (fed ++ piece) ≡ record {
        spot = (reached_in number fed).spot;
        frames = (reached_in number fed).frames;
        fault = Some error;
        left =
            (reached_in number fed).left ++ take (33554432 - length fed) piece;
      } =
      reached-append number fed piece ∙ rw same refl in
      ap (λ (r : Reached). r.frames) on

  settles_fault : (before after : List Frame) (rest : List ℕ) → (reached_in 0 fed).fault ≡ Some error → after ≡ before
      → Settles number fed piece before after (stages.Damaged error) (reached_in 0 fed).spot rest
  settles_fault before after rest e same =
      let now = damage_fault e in
      record {
        at = sym (ap (λ (r : Reached). stage_with (stage_at r) (nat_lt 33554432 (length (fed ++ piece)))) now);
        place = sym (ap (λ (r : Reached). r.spot) now);
        kept = λ (none : Some error ≡ None). absurd cc;
        frames = ([], no_more before after same, frames_fault e ∙ sym (append-nil (frames_of number fed)));
      }

settles_large : (number : ℕ) (fed piece : List ℕ) (before after : List Frame) (rest : List ℕ) → (reached_in 0 fed).fault ≡ None
    → 33554432 < length fed → after ≡ before
    → Settles number fed piece before after (stages.Damaged TooLarge) (reached_in 0 fed).spot rest
settles_large number fed piece before after rest e many same =
    let now = reached_beyond 0 fed piece many in
    let left = (reached_in 0 fed).left in
    let beyond : nat_lt 33554432 (length (fed ++ piece)) ≡ true = lt-ltb _ _ (omega (arith, length-append fed piece)) in
    record {
      at = sym (ap (λ (r : Reached). stage_with (stage_at r) (nat_lt 33554432 (length (fed ++ piece)))) now
          ∙ rw (beyond, e) (waiting_beyond (look_at (reached_in 0 fed).spot.order (reached_in 0 fed).spot.stop left) left));
      place = sym (ap (λ (r : Reached). r.spot) now);
      kept = λ (none : Some TooLarge ≡ None). absurd cc;
      frames = (
        [],
        no_more before after same,
        ap (λ (r : Reached). r.frames) (reached_beyond number fed piece many)
            ∙ sym (append-nil (frames_of number fed)),
      );
    }

-- how a capture that isn't damaged continues
module _ (number : ℕ) (fed piece taken : List ℕ) (before after : List Frame) (progress : BlockProgress) (kept : List ℕ)
    (interfaces : List Interface) (beyond : Bool)
    (e : (reached_in 0 fed).fault ≡ None) (part : taken ≡ take (33554432 - length fed) piece)
    (over : beyond ≡ nat_lt 33554432 (length (fed ++ piece))) where
  now : ℕ → Reached
  now cpu = reached_in cpu (fed ++ piece)

  abbrev alone : Reached
  alone = split_from number (reached_in 0 fed).spot [] ((reached_in 0 fed).left ++ taken)

  mine : reached_in number (fed ++ piece) ≡ record alone { frames = frames_of number fed ++ alone.frames }
  mine =
      let was = reached_alike number 0 fed in
      let none : (reached_in number fed).fault ≡ None = was.fault ∙ e in
      let on : reached_in number (fed ++ piece) ≡ split_from number (reached_in number fed).spot (frames_of number fed)
      ((reached_in number fed).left ++ taken) =
      reached-append number fed piece ∙ rw (none, part) refl in
      let here : split_from number (reached_in number fed).spot (frames_of number fed) ((reached_in number fed).left ++ taken)
      ≡ split_from number (reached_in 0 fed).spot (frames_of number fed) ((reached_in 0 fed).left ++ taken) =
      rw (was.spot, was.left) refl in
      on ∙ here ∙ split_frames number (reached_in 0 fed).spot (frames_of number fed) ((reached_in 0 fed).left ++ taken)

  -- it stops where reading the bytes at once stops
  stops : StopsAlike alone (reached_in 0 (fed ++ piece))
  stops =
      let same = reached_alike number 0 (fed ++ piece) in
      record {
        spot = sym (ap (λ (r : Reached). r.spot) mine) ∙ same.spot;
        fault = sym (ap (λ (r : Reached). r.fault) mine) ∙ same.fault;
        left = sym (ap (λ (r : Reached). r.left) mine) ∙ same.left;
      }

  pub settles_on : Comes (split_from number (reached_in 0 fed).spot before ((reached_in 0 fed).left ++ taken)) progress kept
      interfaces after
      → Settles number fed piece before after (stage_with progress.stage beyond) (spot_of progress.cursor interfaces)
      (drop progress.cut kept)
  settles_on comes =
      let c = subst (λ (r : Reached). Comes r progress kept interfaces after)
      (split_frames number (reached_in 0 fed).spot before ((reached_in 0 fed).left ++ taken)) comes in
      let at : progress.stage ≡ stage_at (reached_in 0 (fed ++ piece)) =
      c.stage ∙ stage_alike alone (reached_in 0 (fed ++ piece)) stops in
      let stage : stage_with progress.stage beyond ≡ stage_of (fed ++ piece) = rw (at, over) refl in
      record {
        at = stage;
        place = c.spot ∙ stops.spot;
        kept = λ none.
            let kept_stage : stage_of (fed ++ piece) ≡ stage_at (reached_in 0 (fed ++ piece)) = stays none in
            c.rest ∙ rw (stage_alike alone (reached_in 0 (fed ++ piece)) stops, stops.left)
            (ap (λ (s : BlockStage). rest_in s (reached_in 0 (fed ++ piece)).left) (sym kept_stage));
        frames = (alone.frames, c.frames, ap (λ (r : Reached). r.frames) mine);
      } where
        same_stage : (stage : BlockStage) (b : Bool) → error_of (stage_with stage b) ≡ None → stage_with stage b ≡ stage
        same_stage stages.Blocks true none = absurd cc
        same_stage stages.Blocks false none = refl
        same_stage (stages.Skipping skip) true none = absurd cc
        same_stage (stages.Skipping skip) false none = refl
        same_stage (stages.Damaged error) b none = refl

        stays : error_of (stage_with progress.stage beyond) ≡ None
            → stage_of (fed ++ piece) ≡ stage_at (reached_in 0 (fed ++ piece))
        stays none =
            let at : progress.stage ≡ stage_at (reached_in 0 (fed ++ piece)) =
            (subst (λ (r : Reached). Comes r progress kept interfaces after)
            (split_frames number (reached_in 0 fed).spot before ((reached_in 0 fed).left ++ taken)) comes).stage
            ∙ stage_alike alone (reached_in 0 (fed ++ piece)) stops in
            same_stage (stage_at (reached_in 0 (fed ++ piece))) (nat_lt 33554432 (length (fed ++ piece)))
            (rw (at, over) at none)

-- ---- from the stage at which a decoder is

-- the outcome of reading at a waiting stage, for the bytes that the kept ones represent
waiting_feeds : (cpu : ℕ) (look : Look) (cursor : Cursor) (left piece : List ℕ) (old : Held) (before after : List Frame)
    (progress : BlockProgress) (new : Held)
    → look_at (spot_of cursor old.interfaces.items).order (spot_of cursor old.interfaces.items).stop left ≡ look
    → front_of (spot_of cursor old.interfaces.items).order (spot_of cursor old.interfaces.items).interfaces
    (spot_of cursor old.interfaces.items).stop left ≡ Part
    → old.kept.items ≡ rest_in (waiting look left) left
    → Feeds cpu (waiting look left) cursor old piece before progress new after
    → Comes (split_from cpu (spot_of cursor old.interfaces.items) before (left ++ piece)) progress new.kept.items
    new.interfaces.items after
waiting_feeds cpu Short cursor left piece old before after progress new e part kept feeds = rw kept at feeds
waiting_feeds cpu (Bad error) cursor left piece old before after progress new e part kept feeds = rw kept at feeds
waiting_feeds cpu (Headed head) cursor left piece old before after progress new e part kept feeds =
    elim (cases_Bool (is_skipped head.kind)) [
      | inl skipped ↦
          let spot = spot_of cursor old.interfaces.items in
          let less = part_short spot.order spot.interfaces spot.stop left head e part in
          (rw skipped at feeds) left (record { head = e; short = omega arith; count = refl; tail = rw skipped at kept })
      | inr reads ↦
          let same : old.kept.items ≡ left = rw reads at kept in
          let f = rw reads at feeds in rw same at f
    ]

-- bytes are left exactly where there are too many
left_beyond : (fed piece : List ℕ) → length fed ≤ 33554432
    → nat_lt (33554432 - length fed) (length piece) ≡ nat_lt 33554432 (length (fed ++ piece))
left_beyond fed piece within =
    let len = length-append fed piece in
    elim (cases_lt (33554432 - length fed) (length piece)) [
      | inl more ↦ rw (lt-ltb _ _ more, lt-ltb 33554432 (length (fed ++ piece)) (omega arith)) refl
      | inr less ↦ rw (le-ltb _ _ less, le-ltb 33554432 (length (fed ++ piece)) (omega arith)) refl
    ]

-- if no test fails the split stops at a part of a block
pub front_fine : (bytes : List ℕ) → (reached_in 0 bytes).fault ≡ None
    → front_of (reached_in 0 bytes).spot.order (reached_in 0 bytes).spot.interfaces (reached_in 0 bytes).spot.stop
    (reached_in 0 bytes).left ≡ Part
unfolding reached_in
front_fine bytes e = let h = (accounts 0 origin [] (counted bytes)).ends in rw e at h

-- a decoder that represents bytes was fed
pub settles : (number : ℕ) (fed piece taken : List ℕ) (cursor : Cursor) (stage : BlockStage) (count : ℕ) (old new : Held)
    (before after : List Frame) (progress : BlockProgress) (beyond : Bool)
    → Represents number (record {
      cpu = number;
      fed = count;
      stage = stage;
      spot = spot_of cursor old.interfaces.items;
      rest = old.kept.items;
    }) fed
    → taken ≡ take (33554432 - count) piece → beyond ≡ nat_lt (33554432 - count) (length piece)
    → Feeds number stage cursor old taken before progress new after
    → Settles number fed piece before after (stage_with progress.stage beyond) (spot_of progress.cursor new.interfaces.items)
    (drop progress.cut new.kept.items)
settles number fed piece taken cursor stage count old new before after progress beyond represents part many feeds =
    elim (stage_is fed) [
      | failed error e at d ↦
          let here : stage ≡ stages.Damaged error = represents.stage ∙ at in
          let unread = rw here at feeds in
          let spot : spot_of cursor new.interfaces.items ≡ (reached_in 0 fed).spot =
          ap (spot_of cursor) unread.interfaces ∙ represents.spot in
          rw (unread.progress_is, spot)
          (settles_fault number fed piece error before after (drop 0 new.kept.items) e unread.frames)
      | large e more at d ↦
          let here : stage ≡ stages.Damaged TooLarge = represents.stage ∙ at in
          let unread = rw here at feeds in
          let spot : spot_of cursor new.interfaces.items ≡ (reached_in 0 fed).spot =
          ap (spot_of cursor) unread.interfaces ∙ represents.spot in
          rw (unread.progress_is, spot)
          (settles_large number fed piece before after (drop 0 new.kept.items) e more unread.frames)
      | fine e few at d ↦
          let spot = (reached_in 0 fed).spot in
          let left = (reached_in 0 fed).left in
          let look = look_at spot.order spot.stop left in
          let size : count ≡ length fed = represents.count ∙ ap length (take_all 33554432 fed few) in
          let here : stage ≡ waiting look left = represents.stage ∙ at in
          let kept : old.kept.items ≡ rest_in (waiting look left) left =
          represents.rest ∙ ap (λ (s : BlockStage). rest_in s left) at in
          let over : beyond ≡ nat_lt 33554432 (length (fed ++ piece)) =
          many ∙ ap (λ (n : ℕ). nat_lt (33554432 - n) (length piece)) size ∙ left_beyond fed piece few in
          let place : spot_of cursor old.interfaces.items ≡ spot = represents.spot in
          let front : front_of spot.order spot.interfaces spot.stop left ≡ Part = front_fine fed e in
          let comes =
          waiting_feeds number look cursor left taken old before after progress new
          (ap (λ (x : Spot). look_at x.order x.stop left) place)
          (subst (λ (x : Spot). front_of x.order x.interfaces x.stop left ≡ Part) (sym place) front) kept (rw here at feeds) in
          settles_on number fed piece taken before after progress new.kept.items new.interfaces.items beyond e
          (rw size at part) over
          (subst (λ (x : Spot). Comes (split_from number x before (left ++ taken)) progress new.kept.items new.interfaces.items
          after) place comes)
    ]
