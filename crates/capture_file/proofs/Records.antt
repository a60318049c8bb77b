-- Splitting bytes into records, record by record and piece by piece.
use Rattle.std.proofs.Common.{◌≡◌, ℕ, zero, suc, ◌+◌, ◌*◌, ◌-◌, ◌≤◌, ◌<◌, true, false, List, [], ◌∷◌, ◌++◌, length, take, drop}
use Rattle.std.proofs.Common.{refl, sym, ap, ◌∙◌, inl, inr, arith, append_assoc, add-zero}
use Rattle.std.specs.Prelude.{Option, None, Some}
use Rattle.std.specs.Option.{option_or}
use Rattle.std.specs.List.{concat}
use Rattle.std.proofs.lemmas.Bool.{cases_Bool, both_ways, leb-true, le-leb, ltb-true, lt-ltb, and_parts, and_from}
use Rattle.std.proofs.lemmas.List.{append-nil, drop-append-le, take-append-le, length-append, length-drop, length-take}
use Rattle.std.proofs.lemmas.List.{drop-drop}
use Rattle.byteorder.specs.Numbers.{little_from-append, big_from-append}
use Rattle.frame_view.specs.declared.frames.Frame.{Frame}
use Rattle.capture_file.specs.declared.format.Format.{Format}
use Rattle.pcapng_blocks.specs.declared.byte_order.Order.{Order}
use Rattle.pcapng_blocks.specs.declared.byte_order.Order.TheVariants.{Little, Big}
use Rattle.capture_file.specs.declared.record_reader.Place.{Place}
use Rattle.pcapng_blocks.specs.Numbers.{number_at}
use Rattle.capture_file.specs.Pcap.{format_in, checked, header_of, captured, record_size, begins_whole, begins_oversized}
use Rattle.capture_file.specs.Pcap.{records_within, records_in, frame_of_record, frames_from}
use Rattle.capture_file.specs.Feeds.{Reached, left_in, place_behind, read_from}

-- ---- numbers

-- a number doesn't depend on what comes after it
pub number_at-append : (order : Order) (n at : ℕ) (xs ys : List ℕ) → at + n ≤ length xs
    → number_at order n at (xs ++ ys) ≡ number_at order n at xs
unfolding number_at
number_at-append Little n at xs ys h =
    let le : at ≤ length xs = omega arith in
    rw (drop-append-le at xs ys le) (little_from-append n (drop at xs) ys (omega (arith, length-drop at xs)))
number_at-append Big n at xs ys h =
    let le : at ≤ length xs = omega arith in
    rw (drop-append-le at xs ys le) (big_from-append n (drop at xs) ys (omega (arith, length-drop at xs)))

checked-append : (found : Option Format) (xs ys : List ℕ) → 24 ≤ length xs → checked found (xs ++ ys) ≡ checked found xs
checked-append None xs ys h = refl
checked-append (Some format) xs ys h =
    let major = number_at-append format.order 2 4 xs ys (omega arith) in
    let minor = number_at-append format.order 2 6 xs ys (omega arith) in
    let link = number_at-append format.order 4 20 xs ys (omega arith) in
    rw (major, minor, link) refl

-- a header doesn't depend on what comes after it
pub header_of-append : (xs ys : List ℕ) → 24 ≤ length xs → header_of (xs ++ ys) ≡ header_of xs
unfolding header_of
header_of-append xs ys h =
    let little = number_at-append Little 4 0 xs ys (omega arith) in
    let big = number_at-append Big 4 0 xs ys (omega arith) in
    rw (little, big) (checked-append (option_or (format_in Little xs) (format_in Big xs)) xs ys h)

-- ---- one record

-- what a whole record has
pub record HasRecord (order : Order) (bytes : List ℕ) : Type 0 where
  pub header : 16 ≤ length bytes
  pub small : captured order bytes ≤ 262144
  pub here : record_size order bytes ≤ length bytes

pub whole_has : (order : Order) (bytes : List ℕ) → begins_whole order bytes ≡ true → HasRecord order bytes
unfolding begins_whole
whole_has order bytes e =
    let p = and_parts _ _ e in
    let q = and_parts _ _ p.1 in
    record { header = leb-true _ _ p.0; small = leb-true _ _ q.0; here = leb-true _ _ q.1 }

pub has_whole : (order : Order) (bytes : List ℕ) → HasRecord order bytes → begins_whole order bytes ≡ true
unfolding begins_whole
has_whole order bytes h = and_from _ _ (le-leb _ _ h.header) (and_from _ _ (le-leb _ _ h.small) (le-leb _ _ h.here))

-- what an oversized record has
pub record HasOversized (order : Order) (bytes : List ℕ) : Type 0 where
  pub header : 16 ≤ length bytes
  pub large : 262144 < captured order bytes

pub oversized_has : (order : Order) (bytes : List ℕ) → begins_oversized order bytes ≡ true → HasOversized order bytes
unfolding begins_oversized
oversized_has order bytes e =
    let p = and_parts _ _ e in
    record { header = leb-true _ _ p.0; large = ltb-true _ _ p.1 }

pub has_oversized : (order : Order) (bytes : List ℕ) → HasOversized order bytes → begins_oversized order bytes ≡ true
unfolding begins_oversized
has_oversized order bytes h = and_from _ _ (le-leb _ _ h.header) (lt-ltb _ _ h.large)

-- a whole record stays one, whatever comes after it
pub whole-append : (order : Order) (xs ys : List ℕ) → begins_whole order xs ≡ true → begins_whole order (xs ++ ys) ≡ true
whole-append order xs ys e =
    let h = whole_has order xs e in
    let same = number_at-append order 4 8 xs ys (omega (arith, h.header)) in
    has_whole order (xs ++ ys) (record {
      header = omega (arith, h.header, length-append xs ys);
      small = rw same h.small;
      here = rw same (omega (arith, h.here, length-append xs ys));
    })

pub oversized-append : (order : Order) (xs ys : List ℕ) → begins_oversized order xs ≡ true
    → begins_oversized order (xs ++ ys) ≡ true
oversized-append order xs ys e =
    let h = oversized_has order xs e in
    let same = number_at-append order 4 8 xs ys (omega (arith, h.header)) in
    has_oversized order (xs ++ ys) (record {
      header = omega (arith, h.header, length-append xs ys);
      large = rw same h.large;
    })

-- an oversized record isn't whole
pub oversized_not_whole : (order : Order) (bytes : List ℕ) → begins_oversized order bytes ≡ true
    → begins_whole order bytes ≡ false
oversized_not_whole order bytes e =
    elim (cases_Bool (begins_whole order bytes)) [
      | inl w ↦ absurd (omega (arith, (whole_has order bytes w).small, (oversized_has order bytes e).large))
      | inr n ↦ n
    ]

pub whole_not_oversized : (order : Order) (bytes : List ℕ) → begins_whole order bytes ≡ true
    → begins_oversized order bytes ≡ false
whole_not_oversized order bytes w =
    elim (cases_Bool (begins_oversized order bytes)) [
      | inl over ↦ absurd (both_ways _ (oversized_not_whole order bytes over) w)
      | inr under ↦ under
    ]

-- ---- the split

-- a bound above the number of bytes changes nothing
within_enough : (order : Order) (m n : ℕ) (bytes : List ℕ) → length bytes ≤ m → length bytes ≤ n
    → records_within m order bytes ≡ records_within n order bytes
unfolding records_within
within_enough order zero zero bytes hm hn = refl
within_enough order zero (suc n) bytes hm hn =
    elim (cases_Bool (begins_whole order bytes)) [
      | inl w ↦ absurd (omega (arith, (whole_has order bytes w).header))
      | inr not ↦ rw not refl
    ]
within_enough order (suc m) zero bytes hm hn =
    elim (cases_Bool (begins_whole order bytes)) [
      | inl w ↦ absurd (omega (arith, (whole_has order bytes w).header))
      | inr not ↦ rw not refl
    ]
within_enough order (suc m) (suc n) bytes hm hn =
    elim (cases_Bool (begins_whole order bytes)) [
      | inl w ↦
          let h = whole_has order bytes w in
          let shorter : length (drop (record_size order bytes) bytes) ≡ length bytes - record_size order bytes =
          length-drop (record_size order bytes) bytes in
          let rest = within_enough order m n (drop (record_size order bytes) bytes) (omega (arith, h.here))
          (omega (arith, h.here)) in
          rw (w, rest) refl
      | inr not ↦ rw not refl
    ]

pub records_in-none : (order : Order) (bytes : List ℕ) → begins_whole order bytes ≡ false → records_in order bytes ≡ []
unfolding records_in records_within
records_in-none order bytes not =
    within_enough order (length bytes) (suc (length bytes)) bytes (omega arith) (omega arith) ∙ rw not refl

pub records_in-step : (order : Order) (bytes : List ℕ) → begins_whole order bytes ≡ true
    → records_in order bytes ≡ take (record_size order bytes) bytes ∷ records_in order (drop (record_size order bytes) bytes)
unfolding records_in records_within
records_in-step order bytes w =
    let h = whole_has order bytes w in
    let shorter : length (drop (record_size order bytes) bytes) ≡ length bytes - record_size order bytes =
    length-drop (record_size order bytes) bytes in
    let rest = within_enough order (length bytes) (length (drop (record_size order bytes) bytes))
    (drop (record_size order bytes) bytes) (omega arith) (omega arith) in
    within_enough order (length bytes) (suc (length bytes)) bytes (omega arith) (omega arith) ∙ rw (w, rest) refl

-- the length of a whole record
pub length_record : (order : Order) (bytes : List ℕ) → begins_whole order bytes ≡ true
    → length (take (record_size order bytes) bytes) ≡ record_size order bytes
length_record order bytes w = omega (arith, length-take (record_size order bytes) bytes, (whole_has order bytes w).here)

left_in-none : (order : Order) (bytes : List ℕ) → begins_whole order bytes ≡ false → left_in order bytes ≡ bytes
unfolding left_in
left_in-none order bytes not = rw (records_in-none order bytes not) refl

left_in-step : (order : Order) (bytes : List ℕ) → begins_whole order bytes ≡ true
    → left_in order bytes ≡ left_in order (drop (record_size order bytes) bytes)
unfolding left_in
left_in-step order bytes w =
    let size = length_record order bytes w in
    let rest = records_in order (drop (record_size order bytes) bytes) in
    let sum : length (concat (records_in order bytes)) ≡ record_size order bytes + length (concat rest) =
    rw (records_in-step order bytes w) (omega (arith, length-append (take (record_size order bytes) bytes) (concat rest))) in
    rw (sum, ← drop-drop (length (concat rest)) (record_size order bytes) bytes) refl

-- ---- reading on

-- the frames of two lists of records, one list after the other
pub frames_from-append : (cpu : ℕ) (format : Format) (index : ℕ) (rs ss : List (List ℕ))
    → frames_from cpu format index (rs ++ ss) ≡ frames_from cpu format index rs ++ frames_from cpu format (index + length rs) ss
frames_from-append cpu format index [] ss = rw add-zero refl
frames_from-append cpu format index (r ∷ rs) ss =
    let rest = frames_from-append cpu format (index + 1) rs ss in
    let at : index + 1 + length rs ≡ index + suc (length rs) = omega arith in
    rw (rest, at) refl

pub read_from-none : (cpu : ℕ) (format : Format) (next : Place) (frames : List Frame) (bytes : List ℕ)
    → begins_whole format.order bytes ≡ false
    → read_from cpu format next frames bytes ≡ record { next = next; frames = frames; left = bytes }
unfolding read_from
read_from-none cpu format next frames bytes not =
    rw (
      records_in-none format.order bytes not,
      left_in-none format.order bytes not,
      add-zero next.stop,
      add-zero next.index,
      append-nil,
    ) refl

pub read_from-step : (cpu : ℕ) (format : Format) (next : Place) (frames : List Frame) (bytes : List ℕ)
    → begins_whole format.order bytes ≡ true
    → read_from cpu format next frames bytes
    ≡ read_from cpu format (place_behind next (take (record_size format.order bytes) bytes))
    (frames ++ frame_of_record cpu format next.index (take (record_size format.order bytes) bytes) ∷ [])
    (drop (record_size format.order bytes) bytes)
unfolding read_from
read_from-step cpu format next frames bytes w =
    let first = take (record_size format.order bytes) bytes in
    let rest = records_in format.order (drop (record_size format.order bytes) bytes) in
    let stop : next.stop + length (first ++ concat rest) ≡ next.stop + length first + length (concat rest) =
    omega (arith, length-append first (concat rest)) in
    let index : next.index + suc (length rest) ≡ next.index + 1 + length rest = omega arith in
    let all = append_assoc frames (frame_of_record cpu format next.index first ∷ [])
    (frames_from cpu format (next.index + 1) rest) in
    rw (records_in-step format.order bytes w, left_in-step format.order bytes w, stop, index, all) refl

-- ---- what holds of a whole reading, record by record

-- the place where reading stopped accounts for each byte, and each record has at least 16
pub record Accounts (order : Order) (next : Place) (bytes : List ℕ) (reached : Reached) : Type 0 where
  pub stop : reached.next.stop + length reached.left ≡ next.stop + length bytes
  pub count : 16 * reached.next.index + next.stop ≤ reached.next.stop + 16 * next.index
  pub part : begins_whole order reached.left ≡ false

accounts_within : (most cpu : ℕ) (format : Format) (next : Place) (frames : List Frame) (bytes : List ℕ) → length bytes ≤ most
    → Accounts format.order next bytes (read_from cpu format next frames bytes)
accounts_within zero cpu format next frames bytes h =
    elim (cases_Bool (begins_whole format.order bytes)) [
      | inl w ↦ absurd (omega (arith, (whole_has format.order bytes w).header))
      | inr not ↦ rw (read_from-none cpu format next frames bytes not) (record { stop = refl; count = omega arith; part = not })
    ]
accounts_within (suc most) cpu format next frames bytes h =
    elim (cases_Bool (begins_whole format.order bytes)) [
      | inl w ↦
          let size = record_size format.order bytes in
          let has = whole_has format.order bytes w in
          let shorter : length (drop size bytes) ≡ length bytes - size = length-drop size bytes in
          let first : length (take size bytes) ≡ size = length_record format.order bytes w in
          let rest = accounts_within most cpu format (place_behind next (take size bytes))
          (frames ++ frame_of_record cpu format next.index (take size bytes) ∷ []) (drop size bytes)
          (omega (arith, has.here)) in
          rw (read_from-step cpu format next frames bytes w) (record {
            stop = omega (arith, rest.stop, has.here);
            count = omega (arith, rest.count, has.header);
            part = rest.part;
          })
      | inr not ↦ rw (read_from-none cpu format next frames bytes not) (record { stop = refl; count = omega arith; part = not })
    ]

pub accounts : (cpu : ℕ) (format : Format) (next : Place) (frames : List Frame) (bytes : List ℕ)
    → Accounts format.order next bytes (read_from cpu format next frames bytes)
accounts cpu format next frames bytes = accounts_within (length bytes) cpu format next frames bytes (omega arith)

-- more bytes are read from where reading stopped
append_within : (most cpu : ℕ) (format : Format) (next : Place) (frames : List Frame) (xs ys : List ℕ) → length xs ≤ most
    → read_from cpu format next frames (xs ++ ys)
    ≡ read_from cpu format (read_from cpu format next frames xs).next (read_from cpu format next frames xs).frames
    ((read_from cpu format next frames xs).left ++ ys)
append_within zero cpu format next frames xs ys h =
    elim (cases_Bool (begins_whole format.order xs)) [
      | inl w ↦ absurd (omega (arith, (whole_has format.order xs w).header))
      | inr not ↦ rw (read_from-none cpu format next frames xs not) refl
    ]
append_within (suc most) cpu format next frames xs ys h =
    elim (cases_Bool (begins_whole format.order xs)) [
      | inl w ↦
          let size = record_size format.order xs in
          let has = whole_has format.order xs w in
          let same : record_size format.order (xs ++ ys) ≡ size =
          ap (λ (n : ℕ). 16 + n) (number_at-append format.order 4 8 xs ys (omega (arith, has.header))) in
          let shorter : length (drop size xs) ≡ length xs - size = length-drop size xs in
          let rest = append_within most cpu format (place_behind next (take size xs))
          (frames ++ frame_of_record cpu format next.index (take size xs) ∷ []) (drop size xs) ys
          (omega (arith, has.here)) in
          let whole = read_from-step cpu format next frames (xs ++ ys) (whole-append format.order xs ys w) in
          rw (
            whole,
            same,
            take-append-le size xs ys has.here,
            drop-append-le size xs ys has.here,
            read_from-step cpu format next frames xs w,
          ) rest
      | inr not ↦ rw (read_from-none cpu format next frames xs not) refl
    ]

pub read_from-append : (cpu : ℕ) (format : Format) (next : Place) (frames : List Frame) (xs ys : List ℕ)
    → read_from cpu format next frames (xs ++ ys)
    ≡ read_from cpu format (read_from cpu format next frames xs).next (read_from cpu format next frames xs).frames
    ((read_from cpu format next frames xs).left ++ ys)
read_from-append cpu format next frames xs ys = append_within (length xs) cpu format next frames xs ys (omega arith)

-- the frames so far stay at the start, whatever comes after them
pub read_from-frames : (cpu : ℕ) (format : Format) (next : Place) (frames : List Frame) (bytes : List ℕ)
    → read_from cpu format next frames bytes
    ≡ record (read_from cpu format next [] bytes) { frames = frames ++ (read_from cpu format next [] bytes).frames }
unfolding read_from
read_from-frames cpu format next frames bytes = refl

-- a reading goes on after its first record
pub reads_on : (cpu : ℕ) (format : Format) (next : Place) (frames : List Frame) (bytes first behind : List ℕ)
    (reached : Reached)
    → begins_whole format.order bytes ≡ true → first ≡ take (record_size format.order bytes) bytes
    → behind ≡ drop (record_size format.order bytes) bytes
    → read_from cpu format next frames bytes ≡ reached
    → read_from cpu format (place_behind next first) (frames ++ frame_of_record cpu format next.index first ∷ [])
    behind ≡ reached
reads_on cpu format next frames bytes first behind reached w f b e =
    rw (f, b) (sym (read_from-step cpu format next frames bytes w) ∙ e)
