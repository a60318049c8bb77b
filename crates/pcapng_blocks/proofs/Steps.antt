-- The steps of a feed: the kept bytes are completed, their block is read, and then the fresh bytes.
use Rattle.pcapng_blocks.proofs.Names.{◌≡◌, ℕ, ◌+◌, ◌-◌, ◌≤◌, ◌<◌, true, false, List, [], ◌++◌, length, take, drop, refl, sym}
use Rattle.pcapng_blocks.proofs.Names.{ap, ◌∙◌, inl, inr, arith, append_assoc, ◌≢◌, ◌==◌, min, Option, None, Some, Ok, Err}
use Rattle.pcapng_blocks.proofs.Names.{drop-append-add, cases_Bool, cases_lt, eqb-true, eqb-false, append-nil, drop-append-le}
use Rattle.pcapng_blocks.proofs.Names.{take-append-le, take-append-drop, length-append, length-drop, length-take, take_all}
use Rattle.pcapng_blocks.proofs.Names.{drop_at, drop_all, drop_min, drop-take, drop-drop, Frame, Order, Little, Big, BlockError}
use Rattle.pcapng_blocks.proofs.Names.{BadLength, Head, Kind, Short, Headed, Interface, Meaning, Part, Fault, Block, Cursor}
use Rattle.pcapng_blocks.proofs.Names.{Skip, BlockStage, number_at, look_at, is_skipped, meaning_of, frames_in, Spot, Reached}
use Rattle.pcapng_blocks.proofs.Names.{front_told, front_of, spot_after, split_from, spot_of, waiting, rest_in, Comes}
use Rattle.pcapng_blocks.proofs.Names.{IsSkipping}
use Rattle.pcapng_blocks.specs.declared.heads.Kind.TheVariants as kinds
use Rattle.pcapng_blocks.specs.declared.bodies.Meaning.TheVariants as meanings
use Rattle.pcapng_blocks.specs.declared.stage.BlockStage.TheVariants as stages
use Rattle.pcapng_blocks.proofs.HeadLooks.{look_at-append}
use Rattle.pcapng_blocks.proofs.FrontBlocks.{front_part, front_here}
use Rattle.pcapng_blocks.proofs.Splits.{split_part, split_fault, split_block}

-- ---- lists

-- what was appended and what is left make up the piece
pub topped : (n : ℕ) (old piece : List ℕ) → (old ++ take n piece) ++ drop n piece ≡ old ++ piece
topped n old piece = append_assoc old (take n piece) (drop n piece) ∙ ap (λ (xs : List ℕ). old ++ xs) (take-append-drop n piece)

-- what is after a place of two joined lists
drop-append : (n : ℕ) (xs ys : List ℕ) → drop n (xs ++ ys) ≡ drop n xs ++ drop (n - length xs) ys
drop-append n xs ys =
    elim (cases_lt (length xs) n) [
      | inl beyond ↦
          let sum : n ≡ length xs + (n - length xs) = omega arith in
          let none : drop n xs ≡ [] = drop_all n xs (omega arith) in
          ap (λ (k : ℕ). drop k (xs ++ ys)) sum ∙ drop-append-add xs ys (n - length xs)
          ∙ ap (λ (zs : List ℕ). zs ++ drop (n - length xs) ys) (sym none)
      | inr within ↦
          let none : n - length xs ≡ 0 = omega arith in
          drop-append-le n xs ys within ∙ rw none refl
    ]

-- a number is given by the bytes from its place on
number_by : (order : Order) (n at place : ℕ) (xs ys : List ℕ) → drop at xs ≡ drop place ys
    → number_at order n at xs ≡ number_at order n place ys
unfolding number_at
number_by Little n at place xs ys e = rw e refl
number_by Big n at place xs ys e = rw e refl

-- ---- what comes next

waits_skipped : (head : Head) (left : List ℕ) → is_skipped head.kind ≡ true
    → waiting (Headed head) left ≡ stages.Skipping (record { head = head; left = head.total - 4 - length left })
waits_skipped head left e = rw e refl

waits_read : (head : Head) (left : List ℕ) → is_skipped head.kind ≡ false → waiting (Headed head) left ≡ stages.Blocks
waits_read head left e = rw e refl

is_other : (kind : Kind) → is_skipped kind ≡ true → kind ≡ kinds.Other
is_other kinds.Section e = absurd cc
is_other kinds.Interface e = absurd cc
is_other kinds.Enhanced e = absurd cc
is_other kinds.Simple e = absurd cc
is_other kinds.Other e = refl

-- ---- where reading stopped

module _ (cpu : ℕ) (spot : Spot) (frames : List Frame) (bytes : List ℕ) (cursor : Cursor) (interfaces : List Interface)
    (at : spot_of cursor interfaces ≡ spot) where
  -- a block that is read isn't whole
  pub comes_waiting : (kept : List ℕ) → front_of spot.order spot.interfaces spot.stop bytes ≡ Part
      → waiting (look_at spot.order spot.stop bytes) bytes ≡ stages.Blocks
      → kept ≡ bytes → Comes (split_from cpu spot frames bytes) (record { stage = stages.Blocks; cursor = cursor; cut = 0 })
      kept interfaces frames
  comes_waiting kept part waits all =
      rw (split_part cpu spot frames bytes part)
      (record { stage = sym waits; spot = at; rest = rw (waits, all) refl; frames = refl })

  -- a test fails
  pub comes_damaged : (error : BlockError) (kept : List ℕ) (cut : ℕ)
      → front_of spot.order spot.interfaces spot.stop bytes ≡ Fault error → length kept ≤ cut
      → Comes (split_from cpu spot frames bytes) (record { stage = stages.Damaged error; cursor = cursor; cut = cut }) kept
      interfaces frames
  comes_damaged error kept cut fault all =
      rw (split_fault cpu spot frames bytes error fault)
      (record { stage = refl; spot = at; rest = drop_all cut kept all; frames = refl })

  -- a block that is skipped isn't whole
  pub comes_skipping : (head : Head) (left : ℕ) (kept : List ℕ) (cut : ℕ) → look_at spot.order spot.stop bytes ≡ Headed head
      → is_skipped head.kind ≡ true
      → length bytes < head.total → left ≡ head.total - 4 - length bytes → drop cut kept ≡ drop (head.total - 4) bytes
      → Comes (split_from cpu spot frames bytes)
      (record { stage = stages.Skipping (record { head = head; left = left }); cursor = cursor; cut = cut }) kept
      interfaces frames
  comes_skipping head left kept cut look skipped less count tail =
      let waits : waiting (look_at spot.order spot.stop bytes) bytes
      ≡ stages.Skipping (record { head = head; left = head.total - 4 - length bytes }) =
      rw look (waits_skipped head bytes skipped) in
      rw (split_part cpu spot frames bytes (front_part spot.order spot.interfaces spot.stop bytes head look less)) (record {
        stage = rw (waits, count) refl;
        spot = at;
        rest = rw waits tail;
        frames = refl;
      })

-- fresh bytes were split, and what is needed of those that are left was kept
pub fresh_rest : (cursor : Cursor) (interfaces : List Interface) (frames : List Frame) (left old new : List ℕ)
    (stage : BlockStage)
    (cut : ℕ) (reached : Reached)
    → record { spot = spot_of cursor interfaces; frames = frames; fault = None; left = left } ≡ reached
    → stage ≡ waiting (look_at cursor.order cursor.stop left) left → new ≡ old ++ rest_in stage left → cut ≡ length old
    → Comes reached (record { stage = stage; cursor = cursor; cut = cut }) new interfaces frames
fresh_rest cursor interfaces frames left old new stage cut reached e told kept size =
    rw (← e) (record {
      stage = told;
      spot = refl;
      rest = rw (kept, size) (drop_at old (rest_in stage left) (length old) refl
          ∙ ap (λ (s : BlockStage). rest_in s left) told);
      frames = refl;
    })

pub fresh_fault : (cursor : Cursor) (interfaces : List Interface) (frames : List Frame) (left kept : List ℕ)
    (error : BlockError) (cut : ℕ) (reached : Reached)
    → record { spot = spot_of cursor interfaces; frames = frames; fault = Some error; left = left } ≡ reached
    → cut ≡ length kept
    → Comes reached (record { stage = stages.Damaged error; cursor = cursor; cut = cut }) kept interfaces frames
fresh_fault cursor interfaces frames left kept error cut reached e all =
    rw (← e) (record { stage = refl; spot = refl; rest = drop_all cut kept (omega arith); frames = refl })

-- ---- a block that is skipped

-- its bytes so far, and a piece in which `after` follows the bytes before the tail
module _ (spot : Spot) (skip : Skip) (rest left piece behind : List ℕ) (is : IsSkipping spot skip rest left)
    (some : 12 ≤ skip.head.total)
    (passed : behind ≡ drop (min skip.left (length piece)) piece) where
  total : ℕ
  total = skip.head.total

  head_stays : look_at spot.order spot.stop (left ++ piece) ≡ Headed skip.head
  head_stays =
      let there : look_at spot.order spot.stop left ≢ Short = λ s. let h = is.head in absurd (cc (h, s)) in
      look_at-append spot.order spot.stop left piece there ∙ is.head

  -- the tail's bytes
  tail_is : rest ++ behind ≡ drop (skip.head.total - 4) (left ++ piece)
  tail_is =
      let skipped : drop (min skip.left (length piece)) piece ≡ drop (skip.head.total - 4 - length left) piece =
      drop_min skip.left piece ∙ ap (λ (n : ℕ). drop n piece) is.count in
      rw (is.tail, passed, skipped) (sym (drop-append (skip.head.total - 4) left piece))

  rest_few : length rest ≤ 4
  rest_few = omega (arith, ap length is.tail, length-drop (skip.head.total - 4) left, is.short)

-- the tail isn't whole
pub skip_waits : (cpu : ℕ) (spot : Spot) (frames : List Frame) (skip : Skip) (rest left piece behind : List ℕ) (cursor : Cursor)
    (interfaces : List Interface) (old new : List ℕ) (cut count : ℕ)
    → spot_of cursor interfaces ≡ spot → IsSkipping spot skip rest left → is_skipped skip.head.kind ≡ true
    → 12 ≤ skip.head.total
    → behind ≡ drop (min skip.left (length piece)) piece → rest ≡ drop cut old → cut ≤ length old
    → new ≡ old ++ take (cut + 4 - length old) behind → length new < cut + 4 → count ≡ skip.left - min skip.left (length piece)
    → Comes (split_from cpu spot frames (left ++ piece))
    (record { stage = stages.Skipping (record { head = skip.head; left = count }); cursor = cursor; cut = cut }) new
    interfaces frames
skip_waits cpu spot frames skip rest left piece behind cursor interfaces old new cut count at is skipped some passed tail within
    kept few counted =
    let size : length new ≡ length old + length (take (cut + 4 - length old) behind) =
    ap length kept ∙ length-append old (take (cut + 4 - length old) behind) in
    let all : take (cut + 4 - length old) behind ≡ behind =
    take_all (cut + 4 - length old) behind (omega (arith, length-take (cut + 4 - length old) behind)) in
    let told : drop cut new ≡ drop (skip.head.total - 4) (left ++ piece) =
    ap (drop cut) (kept ∙ ap (λ (xs : List ℕ). old ++ xs) all) ∙ drop-append-le cut old behind within
    ∙ ap (λ (xs : List ℕ). xs ++ behind) (sym tail) ∙ tail_is spot skip rest left piece behind is some passed in
    let less : length (left ++ piece) < skip.head.total =
    omega (arith, ap length told, length-drop cut new, length-drop (skip.head.total - 4) (left ++ piece)) in
    comes_skipping cpu spot frames (left ++ piece) cursor interfaces at skip.head count new cut
    (head_stays spot skip rest left piece behind is some passed) skipped less
    (omega (arith, counted, is.count, length-append left piece)) told

-- the tail is whole
module _ (cpu : ℕ) (spot : Spot) (frames : List Frame) (skip : Skip) (rest left piece behind old new : List ℕ) (cut : ℕ)
    (is : IsSkipping spot skip rest left) (skipped : is_skipped skip.head.kind ≡ true) (some : 12 ≤ skip.head.total)
    (passed : behind ≡ drop (min skip.left (length piece)) piece) (tail : rest ≡ drop cut old) (within : cut ≤ length old)
    (kept : new ≡ old ++ take (cut + 4 - length old) behind) (full : cut + 4 ≤ length new) where
  tail_size : length rest ≡ length old - cut
  tail_size = ap length tail ∙ length-drop cut old

  whole_size : cut + 4 - length old ≤ length behind
  whole_size =
      omega (
        arith,
        ap length kept,
        length-append old (take (cut + 4 - length old) behind),
        length-take (cut + 4 - length old) behind,
        tail_size,
        rest_few spot skip rest left piece behind is some passed,
      )

  whole_here : skip.head.total ≤ length (left ++ piece)
  whole_here =
      omega (
        arith,
        ap length (tail_is spot skip rest left piece behind is some passed),
        length-append rest behind,
        length-drop (skip.head.total - 4) (left ++ piece),
        whole_size,
        tail_size,
      )

  -- the bytes of the tail, and those after the block
  tail_bytes : drop cut new ++ drop (cut + 4 - length old) behind ≡ drop (skip.head.total - 4) (left ++ piece)
  tail_bytes =
      let first : drop cut new ≡ rest ++ take (cut + 4 - length old) behind =
      ap (drop cut) kept ∙ drop-append-le cut old (take (cut + 4 - length old) behind) within
      ∙ ap (λ (xs : List ℕ). xs ++ take (cut + 4 - length old) behind) (sym tail) in
      ap (λ (xs : List ℕ). xs ++ drop (cut + 4 - length old) behind) first ∙ topped (cut + 4 - length old) rest behind
      ∙ tail_is spot skip rest left piece behind is some passed

  tail_four : length (drop cut new) ≡ 4
  tail_four =
      omega (
        arith,
        length-drop cut new,
        ap length kept,
        length-append old (take (cut + 4 - length old) behind),
        length-take (cut + 4 - length old) behind,
        tail_size,
        rest_few spot skip rest left piece behind is some passed,
      )

  fresh_is : drop (cut + 4 - length old) behind ≡ drop skip.head.total (left ++ piece)
  fresh_is =
      let four : skip.head.total - 4 + 4 ≡ skip.head.total = omega arith in
      sym (drop_at (drop cut new) (drop (cut + 4 - length old) behind) 4 tail_four)
      ∙ ap (drop 4) tail_bytes ∙ drop-drop 4 (skip.head.total - 4) (left ++ piece) ∙ ap (λ (n : ℕ). drop n (left ++ piece)) four

  number_is : number_at skip.head.order 4 cut new
      ≡ number_at skip.head.order 4 (skip.head.total - 4) (take skip.head.total (left ++ piece))
  number_is =
      let four : skip.head.total ≡ skip.head.total - 4 + 4 = omega arith in
      let front : take 4 (drop (skip.head.total - 4) (left ++ piece)) ≡ drop cut new =
      ap (take 4) (sym tail_bytes) ∙ take-append-le 4 (drop cut new) (drop (cut + 4 - length old) behind)
      (omega (arith, tail_four)) ∙ take_all 4 (drop cut new) (omega (arith, tail_four)) in
      number_by skip.head.order 4 cut (skip.head.total - 4) new (take skip.head.total (left ++ piece))
      (sym front ∙ sym (drop-take (skip.head.total - 4) 4 (left ++ piece))
      ∙ ap (λ (n : ℕ). drop (skip.head.total - 4) (take n (left ++ piece))) (sym four))

  front_is : front_of spot.order spot.interfaces spot.stop (left ++ piece)
      ≡ front_told skip.head (meaning_of spot.interfaces spot.stop skip.head (take skip.head.total (left ++ piece)))
  front_is = front_here spot.order spot.interfaces spot.stop (left ++ piece) skip.head
      (head_stays spot skip rest left piece behind is some passed) whole_here

  -- the tail is a different number
  pub skip_fault : number_at skip.head.order 4 cut new ≢ skip.head.total
      → front_of spot.order spot.interfaces spot.stop (left ++ piece) ≡ Fault (BadLength spot.stop)
  unfolding meaning_of
  skip_fault other = front_is ∙ rw (← number_is, eqb-not skip.head.order new other) refl where
    eqb-not : (order : Order) (bytes : List ℕ) → number_at order 4 cut bytes ≢ skip.head.total
        → (number_at order 4 cut bytes == skip.head.total) ≡ false
    eqb-not order bytes other =
        elim (cases_Bool (number_at order 4 cut bytes == skip.head.total))
        [ inl same ↦ absurd (other (eqb-true _ _ same)) | inr not ↦ not ]

  -- the tail repeats the total length
  pub skip_block : number_at skip.head.order 4 cut new ≡ skip.head.total
      → front_of spot.order spot.interfaces spot.stop (left ++ piece) ≡ Block skip.head meanings.Skipped
  unfolding meaning_of
  skip_block same = front_is ∙ rw (← number_is, same, eqb-same skip.head.total, is_other skip.head.kind skipped) refl where
    eqb-same : (n : ℕ) → (n == n) ≡ true
    eqb-same n = elim (cases_Bool (n == n)) [ inl same ↦ same | inr not ↦ absurd (eqb-false n n not refl) ]

  pub skip_after : number_at skip.head.order 4 cut new ≡ skip.head.total
      → split_from cpu spot frames (left ++ piece)
      ≡ split_from cpu (record spot { stop = spot.stop + skip.head.total }) frames (drop (cut + 4 - length old) behind)
  skip_after same =
      rw fresh_is (split_block cpu spot frames (left ++ piece) skip.head meanings.Skipped (skip_block same)
      ∙ ap (λ (fs : List Frame). split_from cpu (spot_after spot skip.head meanings.Skipped) fs
      (drop skip.head.total (left ++ piece))) (append-nil frames))

-- ---- a block that is read

module _ (cpu : ℕ) (spot : Spot) (frames : List Frame) (head : Head) (old piece new fresh : List ℕ)
    (look : look_at spot.order spot.stop old ≡ Headed head) (kept : new ≡ old ++ take (head.total - length old) piece)
    (left : fresh ≡ drop (head.total - length old) piece)
    (part : length old ≤ head.total) where
  read_all : new ++ fresh ≡ old ++ piece
  read_all = rw (kept, left) (topped (head.total - length old) old piece)

  read_head : look_at spot.order spot.stop (old ++ piece) ≡ Headed head
  read_head =
      let there : look_at spot.order spot.stop old ≢ Short = λ s. absurd (cc (look, s)) in
      look_at-append spot.order spot.stop old piece there ∙ look

  read_size : length new ≡ length old + length (take (head.total - length old) piece)
  read_size = ap length kept ∙ length-append old (take (head.total - length old) piece)

  -- it isn't whole
  pub read_waits : (cursor : Cursor) (interfaces : List Interface) → spot_of cursor interfaces ≡ spot
      → is_skipped head.kind ≡ false → length new < head.total
      → Comes (split_from cpu spot frames (old ++ piece)) (record { stage = stages.Blocks; cursor = cursor; cut = 0 }) new
      interfaces frames
  read_waits cursor interfaces at reads less =
      let none : fresh ≡ [] =
      left ∙ drop_all (head.total - length old) piece
      (omega (arith, read_size, length-take (head.total - length old) piece)) in
      let all : new ≡ old ++ piece = sym (append-nil new) ∙ ap (λ (xs : List ℕ). new ++ xs) (sym none) ∙ read_all in
      let short : length (old ++ piece) < head.total = omega (arith, ap length all) in
      comes_waiting cpu spot frames (old ++ piece) cursor interfaces at new
      (front_part spot.order spot.interfaces spot.stop (old ++ piece) head read_head short)
      (rw read_head (waits_read head (old ++ piece) reads)) all

  -- it is whole
  read_whole : head.total ≤ length new → length new ≡ head.total
  read_whole full = omega (arith, read_size, length-take (head.total - length old) piece)

  whole_front : head.total ≤ length new → front_of spot.order spot.interfaces spot.stop (old ++ piece)
      ≡ front_told head (meaning_of spot.interfaces spot.stop head new)
  whole_front full =
      let size = read_whole full in
      let here : head.total ≤ length (old ++ piece) = omega (arith, ap length read_all, length-append new fresh) in
      let block : take head.total (old ++ piece) ≡ new =
      ap (take head.total) (sym read_all) ∙ take-append-le head.total new fresh full
      ∙ take_all head.total new (omega (arith, size)) in
      front_here spot.order spot.interfaces spot.stop (old ++ piece) head read_head here
      ∙ ap (λ (xs : List ℕ). front_told head (meaning_of spot.interfaces spot.stop head xs)) block

  pub read_fault : (error : BlockError) → head.total ≤ length new → meaning_of spot.interfaces spot.stop head new ≡ Err error
      → front_of spot.order spot.interfaces spot.stop (old ++ piece) ≡ Fault error
  read_fault error full told = whole_front full ∙ ap (front_told head) told

  pub read_after : (meaning : Meaning) → head.total ≤ length new → meaning_of spot.interfaces spot.stop head new ≡ Ok meaning
      → split_from cpu spot frames (old ++ piece)
      ≡ split_from cpu (spot_after spot head meaning) (frames ++ frames_in cpu spot.index meaning new) fresh
  read_after meaning full told =
      let size = read_whole full in
      let block : take head.total (old ++ piece) ≡ new =
      ap (take head.total) (sym read_all) ∙ take-append-le head.total new fresh full
      ∙ take_all head.total new (omega (arith, size)) in
      let behind : drop head.total (old ++ piece) ≡ fresh =
      ap (drop head.total) (sym read_all) ∙ drop_at new fresh head.total size in
      let front : front_of spot.order spot.interfaces spot.stop (old ++ piece) ≡ Block head meaning =
      whole_front full ∙ ap (front_told head) told in
      split_block cpu spot frames (old ++ piece) head meaning front
      ∙ ap (λ (xs : List ℕ). split_from cpu (spot_after spot head meaning) (frames ++ frames_in cpu spot.index meaning xs)
      (drop head.total (old ++ piece))) block
      ∙ ap (split_from cpu (spot_after spot head meaning) (frames ++ frames_in cpu spot.index meaning new)) behind

  pub read_next : (meaning : Meaning) (next : Spot) (after : List Frame) (section : List Interface) (seen block : List ℕ)
      → head.total ≤ length new
      → section ≡ spot.interfaces → seen ≡ new → block ≡ new → Ok meaning ≡ meaning_of section spot.stop head seen
      → next ≡ spot_after spot head meaning → after ≡ frames ++ frames_in cpu spot.index meaning block
      → split_from cpu spot frames (old ++ piece) ≡ split_from cpu next after fresh
  read_next meaning next after section seen block full s v b told n a =
      let means : meaning_of spot.interfaces spot.stop head new ≡ Ok meaning = sym (rw (s, v) at told) in
      read_after meaning full means ∙ rw (n, a, b) refl

  -- the bytes are those of the block and the fresh ones
  pub read_bound : head.total ≤ length new → head.total + length fresh ≡ length old + length piece
  read_bound full = omega (arith, read_whole full, ap length read_all, length-append new fresh, length-append old piece)

-- ---- block by block

pub splits_on : (cpu : ℕ) (spot next : Spot) (before after : List Frame) (left block behind : List ℕ) (head : Head)
    (meaning : Meaning) (reached : Reached)
    → front_of spot.order spot.interfaces spot.stop left ≡ Block head meaning → next ≡ spot_after spot head meaning
    → block ≡ take head.total left → behind ≡ drop head.total left
    → after ≡ before ++ frames_in cpu spot.index meaning block → split_from cpu spot before left ≡ reached
    → split_from cpu next after behind ≡ reached
splits_on cpu spot next before after left block behind head meaning reached front n b d a told =
    rw (n, a, b, d) (sym (split_block cpu spot before left head meaning front) ∙ told)

-- a part that is missing counts as empty
pub none_of : {A : Type 0} (found : Option A) → ((x : A) → found ≡ Some x → ⊥) → found ≡ None
none_of None not = refl
none_of (Some x) not = absurd (not x refl)
