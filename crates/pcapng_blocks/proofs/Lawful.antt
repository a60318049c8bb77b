-- Laws of captures: frames grow, damage stays, and what each frame has.
use Rattle.pcapng_blocks.proofs.Names.{◌≡◌, ℕ, zero, suc, ◌+◌, ◌-◌, ◌*◌, ◌≤◌, ◌<◌, List, [], ◌∷◌, ◌++◌, length, take, drop}
use Rattle.pcapng_blocks.proofs.Names.{refl, sym, ap, subst, ◌∙◌, arith, zero-add, true, slice_get, Option, None, Some, IsSome}
use Rattle.pcapng_blocks.proofs.Names.{IfSome, sum_by, lt-ltb, append-nil, length-append, length-drop, length-take, Frame}
use Rattle.pcapng_blocks.proofs.Names.{BlockError, TooLarge, Head, Captured, Meaning, Look, BlockStage, frame_of, frames_in}
use Rattle.pcapng_blocks.proofs.Names.{IsWithin, Spot, Reached, spot_after, split_from, look_at, counted, origin, reached_in}
use Rattle.pcapng_blocks.proofs.Names.{frames_of, stop_of, skips, is_skipping, damage_of, end_of, waiting, rest_in, stage_of}
use Rattle.pcapng_blocks.proofs.Names.{kept_of, IsPacketFrame}
use Rattle.std.proofs.lemmas.List.Sums.{sum_by-append, sum_by-cons}
use Rattle.pcapng_blocks.specs.declared.bodies.Meaning.TheVariants as meanings
use Rattle.pcapng_blocks.specs.declared.heads.Look.TheVariants as looks
use Rattle.pcapng_blocks.specs.declared.stage.BlockStage.TheVariants as stages
use Rattle.pcapng_blocks.proofs.Told.{IsCapturedPacket, IsPacket}
use Rattle.pcapng_blocks.proofs.FrontBlocks.{front_block, part_short}
use Rattle.pcapng_blocks.proofs.Splits.{by_blocks, stop_after, Accounts, accounts, split_frames}
use Rattle.pcapng_blocks.proofs.Outcomes.{failed, large, fine, stage_is, front_fine, reached-append, reached_alike}
use Rattle.pcapng_blocks.proofs.Outcomes.{reached_beyond, damage_fault, frames_fault}

-- ---- frames grow, and damage stays

append_by : (number : ℕ) (bytes more : List ℕ) (fault : Option BlockError) → (reached_in number bytes).fault ≡ fault
    → (new : List Frame) × (frames_of number (bytes ++ more) ≡ frames_of number bytes ++ new)
append_by number bytes more (Some error) e =
    let r = reached_in number bytes in
    let on : reached_in number (bytes ++ more) ≡ record {
      spot = r.spot;
      frames = r.frames;
      fault = Some error;
      left = r.left ++ take (33554432 - length bytes) more;
    } =
    reached-append number bytes more ∙ rw e refl in
    ([], ap (λ (x : Reached). x.frames) on ∙ sym (append-nil (frames_of number bytes)))
append_by number bytes more None e =
    let r = reached_in number bytes in
    let rest = r.left ++ take (33554432 - length bytes) more in
    let on : reached_in number (bytes ++ more) ≡ split_from number r.spot r.frames rest =
    reached-append number bytes more ∙ rw e refl in
    ((split_from number r.spot [] rest).frames, ap (λ (x : Reached). x.frames) (on ∙ split_frames number r.spot r.frames rest))

pub frames_append : (number : ℕ) (bytes more : List ℕ)
    → (new : List Frame) × (frames_of number (bytes ++ more) ≡ frames_of number bytes ++ new)
frames_append number bytes more = append_by number bytes more (reached_in number bytes).fault refl

-- more bytes change nothing
pub record Stays (number : ℕ) (bytes more : List ℕ) (error : BlockError) : Type 0 where
  pub damage : damage_of (bytes ++ more) ≡ Some error
  pub frames : frames_of number (bytes ++ more) ≡ frames_of number bytes

same_error : (x y : BlockError) → Some x ≡ Some y → x ≡ y
same_error x y e = cc

pub stays : (number : ℕ) (bytes more : List ℕ) (error : BlockError) → damage_of bytes ≡ Some error
    → Stays number bytes more error
stays number bytes more error d =
    elim (stage_is bytes) [
      | failed other e at told ↦
          let same : other ≡ error = same_error _ _ (sym told ∙ d) in
          let fault : (reached_in 0 (bytes ++ more)).fault ≡ Some error =
          ap (λ (r : Reached). r.fault) (damage_fault number bytes more other e) ∙ ap Some same in
          record { damage = rw fault refl; frames = frames_fault number bytes more other e }
      | large e beyond at told ↦
          let same : TooLarge ≡ error = same_error _ _ (sym told ∙ d) in
          let now = reached_beyond 0 bytes more beyond in
          let none : (reached_in 0 (bytes ++ more)).fault ≡ None = ap (λ (r : Reached). r.fault) now ∙ e in
          let longer : 33554432 < length (bytes ++ more) = omega (arith, length-append bytes more) in
          record {
            damage = rw (none, lt-ltb _ _ longer) (ap Some same);
            frames = ap (λ (r : Reached). r.frames) (reached_beyond number bytes more beyond);
          }
      | fine e few at told ↦ absurd (cc (told, d))
    ]

pub damaged_end : (bytes : List ℕ) (error : BlockError) → damage_of bytes ≡ Some error → end_of bytes ≡ Some error
damaged_end bytes error d = rw d refl

pub too_many : (bytes : List ℕ) → 33554432 < length bytes → IsSome (damage_of bytes)
too_many bytes more =
    elim (stage_is bytes) [
      | failed error e at told ↦ rw told refl
      | large e beyond at told ↦ rw told refl
      | fine e few at told ↦ absurd (omega arith)
    ]

-- ---- what each frame has

-- the frames are numbered from `index` on
IsNumberedFrom : ℕ → ℕ → List Frame → Type 0
IsNumberedFrom number index [] = Unit {0}
IsNumberedFrom number index (frame ∷ frames) = IsPacketFrame number index frame × IsNumberedFrom number (index + 1) frames

numbered_more : (number index : ℕ) (frames : List Frame) (frame : Frame) → IsNumberedFrom number index frames
    → IsPacketFrame number (index + length frames) frame
    → IsNumberedFrom number index (frames ++ frame ∷ [])
unfolding IsNumberedFrom
numbered_more number index [] frame all last = let at : index + 0 ≡ index = omega arith in (rw at at last, tt)
numbered_more number index (first ∷ frames) frame all last =
    let at : index + suc (length frames) ≡ index + 1 + length frames = omega arith in
    (all.0, numbered_more number (index + 1) frames frame all.1 (rw at at last))

-- the frame of a packet that lies within its block
packet_frame : (number index : ℕ) (packet : Captured) (block : List ℕ) (size : ℕ) → length block ≡ size
    → packet.start + packet.size ≤ size → IsCapturedPacket packet
    → IsPacketFrame number index (frame_of number index packet block)
unfolding frame_of
packet_frame number index packet block size all within is =
    let long = length-take packet.size (drop packet.start block) in
    let rest = length-drop packet.start block in
    record { cpu = refl; place = refl; tag = refl; nsec = is.nsec; wire = omega (arith, is.wire); few = omega (arith, is.few) }

numbered_after : (number : ℕ) (frames : List Frame) (index : ℕ) (meaning : Meaning) (block : List ℕ) (size : ℕ)
    → length block ≡ size → IsWithin meaning size → IsPacket meaning
    → length frames ≡ index → IsNumberedFrom number 0 frames
    → IsNumberedFrom number 0 (frames ++ frames_in number index meaning block)
numbered_after number frames index meanings.Section block size all within is at told = rw (append-nil frames) told
numbered_after number frames index (meanings.Interface interface) block size all within is at told = rw (append-nil frames) told
numbered_after number frames index (meanings.Packet packet) block size all within is at told =
    let place : index ≡ 0 + length frames = omega arith in
    numbered_more number 0 frames (frame_of number index packet block) told
    (rw (← place) (packet_frame number index packet block size all within.1 is))
numbered_after number frames index meanings.Skipped block size all within is at told = rw (append-nil frames) told

-- the next number is that of the frames so far
count_after : (number : ℕ) (spot : Spot) (frames : List Frame) (head : Head) (meaning : Meaning) (block : List ℕ)
    → length frames ≡ spot.index
    → length (frames ++ frames_in number spot.index meaning block) ≡ (spot_after spot head meaning).index
count_after number spot frames head meanings.Section block at = rw (append-nil frames) at
count_after number spot frames head (meanings.Interface interface) block at = rw (append-nil frames) at
count_after number spot frames head (meanings.Packet packet) block at = rw (length-append frames) (omega arith)
count_after number spot frames head meanings.Skipped block at = rw (append-nil frames) at

KeepsNumbers : ℕ → Spot → List Frame → List ℕ → Reached → Type 0
KeepsNumbers number spot frames bytes reached = length frames ≡ spot.index → IsNumberedFrom number 0 frames
    → IsNumberedFrom number 0 reached.frames

keeps_numbers : (number : ℕ) (spot : Spot) (frames : List Frame) (bytes : List ℕ)
    → KeepsNumbers number spot frames bytes (split_from number spot frames bytes)
unfolding KeepsNumbers
keeps_numbers number = by_blocks number (KeepsNumbers number)
    (λ spot frames bytes e at told. told)
    (λ spot frames bytes error e at told. told)
    (λ spot frames bytes head meaning reached e rest at told.
    let has = front_block spot.order spot.interfaces spot.stop bytes head meaning e in
    let block = take head.total bytes in
    rest (count_after number spot frames head meaning block at)
    (numbered_after number frames spot.index meaning block head.total has.size has.told.within has.told.packet at told))

numbered_at : (number index i : ℕ) (frames : List Frame) → IsNumberedFrom number index frames
    → IfSome (slice_get frames i) (IsPacketFrame number (index + i))
unfolding IsNumberedFrom
numbered_at number index i [] told = tt
numbered_at number index zero (frame ∷ frames) told = let at : index + 0 ≡ index = omega arith in rw at told.0
numbered_at number index (suc i) (frame ∷ frames) told =
    let at : index + 1 + i ≡ index + suc i = omega arith in
    subst (λ (n : ℕ). IfSome (slice_get frames i) (IsPacketFrame number n)) at (numbered_at number (index + 1) i frames told.1)

pub frames_numbered : (number index : ℕ) (bytes : List ℕ)
    → IfSome (slice_get (frames_of number bytes) index) (IsPacketFrame number index)
unfolding reached_in KeepsNumbers IsNumberedFrom
frames_numbered number index bytes =
    rw (zero-add index) at
    (numbered_at number 0 index (frames_of number bytes) (keeps_numbers number origin [] (counted bytes) refl tt))

-- ---- how many

capture_accounts : (number : ℕ) (bytes : List ℕ) → Accounts origin [] (counted bytes) (reached_in number bytes)
unfolding reached_in
capture_accounts number bytes = accounts number origin [] (counted bytes)

same_stop : (number : ℕ) (bytes : List ℕ) → (reached_in number bytes).spot.stop ≡ stop_of bytes
same_stop number bytes = ap (λ (s : Spot). s.stop) (reached_alike number 0 bytes).spot

pub frames_count : (number : ℕ) (bytes : List ℕ) → 16 * length (frames_of number bytes) ≤ stop_of bytes
frames_count number bytes =
    let told = capture_accounts number bytes in
    omega (arith, told.count, told.index, same_stop number bytes)

pub stop_within_bytes : (bytes : List ℕ) → stop_of bytes ≤ length bytes
stop_within_bytes bytes = omega (arith, (capture_accounts 0 bytes).stop, length-take 33554432 bytes)

KeepsBytes : Spot → List Frame → List ℕ → Reached → Type 0
KeepsBytes spot frames bytes reached =
    sum_by (λ frame. length frame.bytes) reached.frames + spot.stop ≤ sum_by (λ frame. length frame.bytes)
    frames + reached.spot.stop

bytes_after : (number index : ℕ) (frames : List Frame) (meaning : Meaning) (block : List ℕ) (size : ℕ) → length block ≡ size
    → sum_by (λ frame. length frame.bytes) (frames ++ frames_in number index meaning block) ≤ sum_by
    (λ frame. length frame.bytes) frames + size
unfolding frame_of
bytes_after number index frames meanings.Section block size all = rw (append-nil frames) (omega arith)
bytes_after number index frames (meanings.Interface interface) block size all = rw (append-nil frames) (omega arith)
bytes_after number index frames (meanings.Packet packet) block size all =
    let frame = frame_of number index packet block in
    omega (
      arith,
      sum_by-append (λ (f : Frame). length f.bytes) frames (frame ∷ []),
      sum_by-cons (λ (f : Frame). length f.bytes) frame [],
      length-take packet.size (drop packet.start block),
      length-drop packet.start block,
    )
bytes_after number index frames meanings.Skipped block size all = rw (append-nil frames) (omega arith)

keeps_bytes : (number : ℕ) (spot : Spot) (frames : List Frame) (bytes : List ℕ)
    → KeepsBytes spot frames bytes (split_from number spot frames bytes)
unfolding KeepsBytes
keeps_bytes number = by_blocks number KeepsBytes
    (λ spot frames bytes e. omega arith)
    (λ spot frames bytes error e. omega arith)
    (λ spot frames bytes head meaning reached e rest.
    let has = front_block spot.order spot.interfaces spot.stop bytes head meaning e in
    let one = bytes_after number spot.index frames meaning (take head.total bytes) head.total has.size in
    let stop = stop_after spot head meaning in
    omega (arith, rest, one, stop))

pub frames_bytes : (number : ℕ) (bytes : List ℕ) → sum_by (λ frame. length frame.bytes) (frames_of number bytes) ≤ stop_of bytes
unfolding reached_in KeepsBytes
frames_bytes number bytes =
    let told = keeps_bytes number origin [] (counted bytes) in
    let stop = same_stop number bytes in
    omega (arith, told, stop)

rest_few : (stage : BlockStage) (left : List ℕ) → length (rest_in stage left) ≤ length left
rest_few stages.Blocks left = omega arith
rest_few (stages.Skipping skip) left = omega (arith, length-drop (skip.head.total - 4) left)
rest_few (stages.Damaged error) left = omega arith

pub kept_few : (bytes : List ℕ) → stop_of bytes + length (kept_of bytes) ≤ length bytes
kept_few bytes =
    omega (
      arith,
      rest_few (stage_of bytes) (reached_in 0 bytes).left,
      (capture_accounts 0 bytes).stop,
      length-take 33554432 bytes,
    )

-- of a block that is skipped at most three bytes of its tail are there, otherwise it is whole
skipped_few : (bytes : List ℕ) (look : Look) → (reached_in 0 bytes).fault ≡ None
    → look_at (reached_in 0 bytes).spot.order (reached_in 0 bytes).spot.stop (reached_in 0 bytes).left ≡ look
    → skips look ≡ true
    → length (rest_in (waiting look (reached_in 0 bytes).left) (reached_in 0 bytes).left) ≤ 3
skipped_few bytes looks.Short e at skip = absurd cc
skipped_few bytes (looks.Bad error) e at skip = absurd cc
skipped_few bytes (looks.Headed head) e at skip =
    let r = reached_in 0 bytes in
    let less = part_short r.spot.order r.spot.interfaces r.spot.stop r.left head at (front_fine bytes e) in
    rw skip (omega (arith, less, length-drop (head.total - 4) r.left))

pub kept_damaged : (bytes : List ℕ) → IsSome (damage_of bytes) → length (kept_of bytes) ≡ 0
kept_damaged bytes damage =
    elim (stage_is bytes) [
      | failed error e at told ↦ rw at refl
      | large e beyond at told ↦ rw at refl
      | fine e few at told ↦ let no = rw told at damage in absurd cc
    ]

pub kept_skipping : (bytes : List ℕ) → is_skipping bytes ≡ true → length (kept_of bytes) ≤ 3
kept_skipping bytes skip =
    let r = reached_in 0 bytes in
    let look = look_at r.spot.order r.spot.stop r.left in
    elim (stage_is bytes) [
      | failed error e at told ↦ rw at (omega arith)
      | large e beyond at told ↦ rw at (omega arith)
      | fine e few at told ↦ rw at (skipped_few bytes look e refl skip)
    ]
