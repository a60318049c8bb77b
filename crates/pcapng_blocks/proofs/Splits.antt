-- Splitting bytes into blocks, block by block and piece by piece.
use Rattle.pcapng_blocks.proofs.Names.{◌≡◌, ℕ, zero, suc, ◌+◌, ◌*◌, ◌≤◌, List, [], ◌++◌, length, take, drop, refl, sym, ap}
use Rattle.pcapng_blocks.proofs.Names.{subst, ◌∙◌, arith, append_assoc, ◌≢◌, Option, None, Some, append-nil, drop-append-le}
use Rattle.pcapng_blocks.proofs.Names.{take-append-le, length-append, length-drop, Frame, BlockError, Head, Meaning, Front}
use Rattle.pcapng_blocks.proofs.Names.{Part, Fault, Block, frames_in, IsWithin, Spot, Reached, front_of, spot_after, split_on}
use Rattle.pcapng_blocks.proofs.Names.{split_within, split_from}
use Rattle.pcapng_blocks.specs.declared.bodies.Meaning.TheVariants as meanings
use Rattle.pcapng_blocks.proofs.FrontBlocks.{front_append, front_empty, front_block}

-- ---- one block

split_on-same : (front : Front) (spot : Spot) (frames : List Frame) (bytes : List ℕ) (f g : Head → Meaning → Reached)
    → ((head : Head) (meaning : Meaning) → front ≡ Block head meaning → f head meaning ≡ g head meaning)
    → split_on front spot frames bytes f ≡ split_on front spot frames bytes g
split_on-same Part spot frames bytes f g h = refl
split_on-same (Fault error) spot frames bytes f g h = refl
split_on-same (Block head meaning) spot frames bytes f g h = h head meaning refl

-- the frames so far, with those of the block at the start
abbrev pub frames_after : ℕ → Spot → List Frame → List ℕ → Head → Meaning → List Frame
frames_after cpu spot frames bytes head meaning = frames ++ frames_in cpu spot.index meaning (take head.total bytes)

-- a bound above the number of bytes changes nothing
within_enough : (m n cpu : ℕ) (spot : Spot) (frames : List Frame) (bytes : List ℕ) → length bytes ≤ m → length bytes ≤ n
    → split_within m cpu spot frames bytes ≡ split_within n cpu spot frames bytes
unfolding split_within
within_enough zero zero cpu spot frames bytes hm hn = refl
within_enough zero (suc n) cpu spot frames bytes hm hn =
    rw (front_empty spot.order spot.interfaces spot.stop bytes (omega arith)) refl
within_enough (suc m) zero cpu spot frames bytes hm hn =
    rw (front_empty spot.order spot.interfaces spot.stop bytes (omega arith)) refl
within_enough (suc m) (suc n) cpu spot frames bytes hm hn =
    split_on-same (front_of spot.order spot.interfaces spot.stop bytes) spot frames bytes _ _ (λ head meaning e.
    let has = front_block spot.order spot.interfaces spot.stop bytes head meaning e in
    within_enough m n cpu (spot_after spot head meaning) (frames_after cpu spot frames bytes head meaning)
    (drop head.total bytes)
    (omega (arith, has.sound.some, has.here, length-drop head.total bytes))
    (omega (arith, has.sound.some, has.here, length-drop head.total bytes)))

module _ (cpu : ℕ) (spot : Spot) (frames : List Frame) (bytes : List ℕ) where
  abbrev front : Front
  front = front_of spot.order spot.interfaces spot.stop bytes

  more_room : split_from cpu spot frames bytes ≡ split_within (suc (length bytes)) cpu spot frames bytes
  unfolding split_from
  more_room = within_enough (length bytes) (suc (length bytes)) cpu spot frames bytes (omega arith) (omega arith)

  pub split_part : front ≡ Part → split_from cpu spot frames bytes
      ≡ record { spot = spot; frames = frames; fault = None; left = bytes }
  unfolding split_within
  split_part e = more_room ∙ rw e refl

  pub split_fault : (error : BlockError) → front ≡ Fault error
      → split_from cpu spot frames bytes ≡ record { spot = spot; frames = frames; fault = Some error; left = bytes }
  unfolding split_within
  split_fault error e = more_room ∙ rw e refl

  pub split_block : (head : Head) (meaning : Meaning) → front ≡ Block head meaning
      → split_from cpu spot frames bytes ≡ split_from cpu (spot_after spot head meaning)
      (frames_after cpu spot frames bytes head meaning) (drop head.total bytes)
  unfolding split_within split_from
  split_block head meaning e =
      let has = front_block spot.order spot.interfaces spot.stop bytes head meaning e in
      let rest : List ℕ = drop head.total bytes in
      let same : split_within (length bytes) cpu (spot_after spot head meaning)
      (frames_after cpu spot frames bytes head meaning) rest
      ≡ split_within (length rest) cpu (spot_after spot head meaning) (frames_after cpu spot frames bytes head meaning) rest =
      within_enough (length bytes) (length rest) cpu (spot_after spot head meaning)
      (frames_after cpu spot frames bytes head meaning) rest (omega (arith, length-drop head.total bytes)) (omega arith) in
      more_room ∙ rw e same

-- ---- going over the blocks

-- what holds at the stop holds of all, if each block preserves it
module _ (cpu : ℕ) (P : Spot → List Frame → List ℕ → Reached → Type 0)
    (on_part : (spot : Spot) (frames : List Frame) (bytes : List ℕ) → front_of spot.order spot.interfaces spot.stop bytes ≡ Part
    → P spot frames bytes (record { spot = spot; frames = frames; fault = None; left = bytes }))
    (on_fault : (spot : Spot) (frames : List Frame) (bytes : List ℕ) (error : BlockError)
    → front_of spot.order spot.interfaces spot.stop bytes ≡ Fault error
    → P spot frames bytes (record { spot = spot; frames = frames; fault = Some error; left = bytes }))
    (on_block : (spot : Spot) (frames : List Frame) (bytes : List ℕ) (head : Head) (meaning : Meaning) (reached : Reached)
    → front_of spot.order spot.interfaces spot.stop bytes ≡ Block head meaning
    → P (spot_after spot head meaning) (frames_after cpu spot frames bytes head meaning) (drop head.total bytes) reached
    → P spot frames bytes reached) where
  by_front : (front : Front) (spot : Spot) (frames : List Frame) (bytes : List ℕ)
      → front_of spot.order spot.interfaces spot.stop bytes ≡ front
      → ((head : Head) (meaning : Meaning) → front_of spot.order spot.interfaces spot.stop bytes ≡ Block head meaning
      → P (spot_after spot head meaning) (frames_after cpu spot frames bytes head meaning) (drop head.total bytes)
      (split_from cpu (spot_after spot head meaning) (frames_after cpu spot frames bytes head meaning) (drop head.total bytes)))
      → P spot frames bytes (split_from cpu spot frames bytes)
  by_front Part spot frames bytes e rest =
      subst (P spot frames bytes) (sym (split_part cpu spot frames bytes e)) (on_part spot frames bytes e)
  by_front (Fault error) spot frames bytes e rest =
      subst (P spot frames bytes) (sym (split_fault cpu spot frames bytes error e)) (on_fault spot frames bytes error e)
  by_front (Block head meaning) spot frames bytes e rest =
      subst (P spot frames bytes) (sym (split_block cpu spot frames bytes head meaning e))
      (on_block spot frames bytes head meaning _ e (rest head meaning e))

  by_within : (most : ℕ) (spot : Spot) (frames : List Frame) (bytes : List ℕ) → length bytes ≤ most
      → P spot frames bytes (split_from cpu spot frames bytes)
  by_within zero spot frames bytes h =
      let e = front_empty spot.order spot.interfaces spot.stop bytes (omega arith) in
      subst (P spot frames bytes) (sym (split_part cpu spot frames bytes e)) (on_part spot frames bytes e)
  by_within (suc most) spot frames bytes h =
      by_front (front_of spot.order spot.interfaces spot.stop bytes) spot frames bytes refl (λ head meaning e.
      let has = front_block spot.order spot.interfaces spot.stop bytes head meaning e in
      by_within most (spot_after spot head meaning) (frames_after cpu spot frames bytes head meaning) (drop head.total bytes)
      (omega (arith, has.sound.some, has.here, length-drop head.total bytes)))

  pub by_blocks : (spot : Spot) (frames : List Frame) (bytes : List ℕ) → P spot frames bytes (split_from cpu spot frames bytes)
  by_blocks spot frames bytes = by_within (length bytes) spot frames bytes (omega arith)

-- ---- where the split stops

-- what the bytes at the stop begin with
abbrev pub ended : Option BlockError → Front
ended None = Part
ended (Some error) = Fault error

-- each byte is accounted for, each packet has at least 16, and each packet gave a frame
pub record Accounts (spot : Spot) (frames : List Frame) (bytes : List ℕ) (reached : Reached) : Type 0 where
  pub stop : reached.spot.stop + length reached.left ≡ spot.stop + length bytes
  pub count : 16 * reached.spot.index + spot.stop ≤ reached.spot.stop + 16 * spot.index
  pub index : reached.spot.index + length frames ≡ spot.index + length reached.frames
  pub ends : front_of reached.spot.order reached.spot.interfaces reached.spot.stop reached.left ≡ ended reached.fault

-- the place after a block
pub stop_after : (spot : Spot) (head : Head) (meaning : Meaning) → (spot_after spot head meaning).stop ≡ spot.stop + head.total
stop_after spot head meanings.Section = refl
stop_after spot head (meanings.Interface interface) = refl
stop_after spot head (meanings.Packet packet) = refl
stop_after spot head meanings.Skipped = refl

-- one block's part of the sum
record BlockAccounts (cpu : ℕ) (spot : Spot) (frames : List Frame) (head : Head) (meaning : Meaning) (block : List ℕ)
    : Type 0 where
  stop : (spot_after spot head meaning).stop ≡ spot.stop + head.total
  count : 16 * (spot_after spot head meaning).index ≤ 16 * spot.index + head.total
  index : (spot_after spot head meaning).index + length frames
      ≡ spot.index + length (frames ++ frames_in cpu spot.index meaning block)

block_accounts : (cpu : ℕ) (spot : Spot) (frames : List Frame) (head : Head) (meaning : Meaning) (block : List ℕ)
    → IsWithin meaning head.total → BlockAccounts cpu spot frames head meaning block
block_accounts cpu spot frames head meanings.Section block within =
    record { stop = refl; count = omega arith; index = rw (append-nil frames) refl }
block_accounts cpu spot frames head (meanings.Interface interface) block within =
    record { stop = refl; count = omega arith; index = rw (append-nil frames) refl }
block_accounts cpu spot frames head (meanings.Packet packet) block within =
    record { stop = refl; count = omega (arith, within.0); index = rw (length-append frames) (omega arith) }
block_accounts cpu spot frames head meanings.Skipped block within =
    record { stop = refl; count = omega arith; index = rw (append-nil frames) refl }

pub accounts : (cpu : ℕ) (spot : Spot) (frames : List Frame) (bytes : List ℕ)
    → Accounts spot frames bytes (split_from cpu spot frames bytes)
accounts cpu = by_blocks cpu Accounts
    (λ spot frames bytes e. record { stop = refl; count = omega arith; index = refl; ends = e })
    (λ spot frames bytes error e. record { stop = refl; count = omega arith; index = refl; ends = e })
    (λ spot frames bytes head meaning reached e rest.
    let has = front_block spot.order spot.interfaces spot.stop bytes head meaning e in
    let one = block_accounts cpu spot frames head meaning (take head.total bytes) has.told.within in
    record {
      stop = omega (arith, rest.stop, one.stop, has.here, length-drop head.total bytes);
      count = omega (arith, rest.count, one.stop, one.count);
      index = omega (arith, rest.index, one.index);
      ends = rest.ends;
    })

-- ---- more bytes

-- with more bytes a split goes on from where it stopped, unless a test failed there
abbrev pub go_on_by : Option BlockError → ℕ → Reached → List ℕ → Reached
go_on_by None cpu reached more = split_from cpu reached.spot reached.frames (reached.left ++ more)
go_on_by (Some error) cpu reached more =
    record { spot = reached.spot; frames = reached.frames; fault = Some error; left = reached.left ++ more }

-- the split of two lists, one after another
GoesOn : ℕ → Spot → List Frame → List ℕ → Reached → Type 0
GoesOn cpu spot frames bytes reached = (more : List ℕ)
    → split_from cpu spot frames (bytes ++ more) ≡ go_on_by reached.fault cpu reached more

goes_on : (cpu : ℕ) (spot : Spot) (frames : List Frame) (bytes : List ℕ)
    → GoesOn cpu spot frames bytes (split_from cpu spot frames bytes)
unfolding GoesOn
goes_on cpu = by_blocks cpu (GoesOn cpu)
    (λ spot frames bytes e more. refl)
    (λ spot frames bytes error e more.
    let there : front_of spot.order spot.interfaces spot.stop bytes ≢ Part = λ p. absurd (cc (e, p)) in
    split_fault cpu spot frames (bytes ++ more) error (front_append spot.order spot.interfaces spot.stop bytes more there ∙ e))
    (λ spot frames bytes head meaning reached e rest more.
    let has = front_block spot.order spot.interfaces spot.stop bytes head meaning e in
    let there : front_of spot.order spot.interfaces spot.stop bytes ≢ Part = λ p. absurd (cc (e, p)) in
    let first = split_block cpu spot frames (bytes ++ more) head meaning
    (front_append spot.order spot.interfaces spot.stop bytes more there ∙ e) in
    let here : head.total ≤ length bytes = has.here in
    let parts = rw (take-append-le head.total bytes more here, drop-append-le head.total bytes more here) at first in
    parts ∙ rest more)

pub split_append : (cpu : ℕ) (spot : Spot) (frames : List Frame) (bytes more : List ℕ)
    → split_from cpu spot frames (bytes ++ more) ≡ go_on_by (split_from cpu spot frames bytes).fault cpu
    (split_from cpu spot frames bytes) more
unfolding GoesOn
split_append cpu spot frames bytes more = goes_on cpu spot frames bytes more

-- ---- the frames so far

Prepends : ℕ → Spot → List Frame → List ℕ → Reached → Type 0
Prepends cpu spot frames bytes reached = (before : List Frame)
    → split_from cpu spot (before ++ frames) bytes ≡ record reached { frames = before ++ reached.frames }

prepends : (cpu : ℕ) (spot : Spot) (frames : List Frame) (bytes : List ℕ)
    → Prepends cpu spot frames bytes (split_from cpu spot frames bytes)
unfolding Prepends
prepends cpu = by_blocks cpu (Prepends cpu)
    (λ spot frames bytes e before. split_part cpu spot (before ++ frames) bytes e)
    (λ spot frames bytes error e before. split_fault cpu spot (before ++ frames) bytes error e)
    (λ spot frames bytes head meaning reached e rest before.
    let first = split_block cpu spot (before ++ frames) bytes head meaning e in
    let all = append_assoc before frames (frames_in cpu spot.index meaning (take head.total bytes)) in
    first ∙ ap (λ (fs : List Frame). split_from cpu (spot_after spot head meaning) fs (drop head.total bytes)) all
    ∙ rest before)

-- the frames so far stay at the start, whatever comes after them
pub split_frames : (cpu : ℕ) (spot : Spot) (frames : List Frame) (bytes : List ℕ)
    → split_from cpu spot frames bytes ≡ record (split_from cpu spot [] bytes)
    { frames = frames ++ (split_from cpu spot [] bytes).frames }
unfolding Prepends
split_frames cpu spot frames bytes = ap (λ (fs : List Frame). split_from cpu spot fs bytes) (sym (append-nil frames))
    ∙ prepends cpu spot [] bytes frames

-- ---- the number of the CPU

-- the same except the frames
pub record StopsAlike (x y : Reached) : Type 0 where
  pub spot : x.spot ≡ y.spot
  pub fault : x.fault ≡ y.fault
  pub left : x.left ≡ y.left

Alike : ℕ → Spot → List Frame → List ℕ → Reached → Type 0
Alike other spot frames bytes reached = (fs : List Frame) → StopsAlike reached (split_from other spot fs bytes)

alike : (cpu other : ℕ) (spot : Spot) (frames : List Frame) (bytes : List ℕ)
    → Alike other spot frames bytes (split_from cpu spot frames bytes)
unfolding Alike
alike cpu other = by_blocks cpu (Alike other)
    (λ spot frames bytes e fs. rw (split_part other spot fs bytes e) (record { spot = refl; fault = refl; left = refl }))
    (λ spot frames bytes error e fs. rw (split_fault other spot fs bytes error e)
    (record { spot = refl; fault = refl; left = refl }))
    (λ spot frames bytes head meaning reached e rest fs. rw (split_block other spot fs bytes head meaning e)
    (rest (frames_after other spot fs bytes head meaning)))

-- where a split stops doesn't depend on the CPU
pub split_alike : (cpu other : ℕ) (spot : Spot) (frames fs : List Frame) (bytes : List ℕ)
    → StopsAlike (split_from cpu spot frames bytes) (split_from other spot fs bytes)
unfolding Alike
split_alike cpu other spot frames fs bytes = alike cpu other spot frames bytes fs
