-- What holds of the frames of a capture, record by record.
use Rattle.std.proofs.Common.{◌≡◌, ℕ, zero, suc, ◌+◌, ◌-◌, ◌^◌, ◌≤◌, ◌<◌, true, List, [], ◌∷◌, ◌++◌, length, get_or, take, drop}
use Rattle.std.proofs.Common.{refl, sym, ap, subst, ◌∙◌, inl, inr, arith, zero-add}
use Rattle.std.specs.Prelude.{slice_get, All, IfSome, Result, Ok, Err}
use Rattle.std.specs.List.{concat, AllByRecursion, sum_by}
use Rattle.std.proofs.lemmas.Bool.{cases_Bool, cases_lt, le-ltb}
use Rattle.std.proofs.lemmas.List.{append-nil, length-append, length-drop, length-take, take-append-drop, get_or-drop}
use Rattle.std.proofs.lemmas.List.{get_or-take, get_or_past, get_or_default}
use Rattle.std.proofs.lemmas.List.Elements.{All-from_recursion}
use Rattle.std.proofs.lemmas.List.Sums.{sum_by-cons}
use Rattle.byteorder.specs.Numbers.{little_from-lt, big_from-lt}
use Rattle.frame_view.specs.declared.frames.Frame.{Frame}
use Rattle.capture_file.specs.declared.error.CaptureError.{CaptureError}
use Rattle.capture_file.specs.declared.format.Format.{Format}
use Rattle.pcapng_blocks.specs.declared.byte_order.Order.{Order}
use Rattle.pcapng_blocks.specs.declared.byte_order.Order.TheVariants.{Little, Big}
use Rattle.pcapng_blocks.specs.Numbers.{number_at}
use Rattle.capture_file.specs.Pcap.{captured, record_size, begins_whole, header_of, counted, records_in, frame_of_record}
use Rattle.capture_file.specs.Pcap.{frames_from, frames_of}
use Rattle.capture_file.specs.Feeds.{Reached, read_from, first_place}
use Rattle.capture_file.specs.Laws.{IsNumbered, IsCaptured, FitsFrame}
use Rattle.capture_file.proofs.Records.{number_at-append, header_of-append, whole_has, length_record, records_in-none}
use Rattle.capture_file.proofs.Records.{records_in-step, read_from-frames, accounts}
use Rattle.capture_file.proofs.Whole.{all_of, all_accounts, all_append, length-frames_from}
use Rattle.capture_file.proofs.PcapFeeds.{short, refused}

-- ---- the frames of a capture are those of its records

-- after a good header
pub frames_read : (number : ℕ) (format : Format) (bytes : List ℕ) → 24 ≤ length bytes → header_of bytes ≡ Ok format
    → frames_of number bytes ≡ frames_from number format 0 (records_in format.order (drop 24 (counted bytes)))
unfolding frames_of
frames_read number format bytes full passed = rw (le-ltb _ _ full, passed) refl

behind_by : (P : List Frame → Type 0) (number : ℕ) (bytes : List ℕ) (header : Result Format CaptureError) → 24 ≤ length bytes
    → header_of bytes ≡ header → P []
    → ((format : Format) → 24 ≤ length bytes → header_of bytes ≡ Ok format → P (frames_of number bytes))
    → P (frames_of number bytes)
behind_by P number bytes (Ok format) full e none some = some format full e
behind_by P number bytes (Err damage) full e none some = subst P (sym (refused number bytes damage full e).frames) none

-- a fact about all frames, given that it holds without frames and after a good header
frames_by : (P : List Frame → Type 0) (number : ℕ) (bytes : List ℕ) → P []
    → ((format : Format) → 24 ≤ length bytes → header_of bytes ≡ Ok format → P (frames_of number bytes))
    → P (frames_of number bytes)
frames_by P number bytes none some =
    elim (cases_lt (length bytes) 24) [
      | inl less ↦ subst P (sym (short number bytes less).frames) none
      | inr full ↦ behind_by P number bytes (header_of bytes) full refl none some
    ]

-- ---- each record

-- exactly one whole record
pub record IsRecord (order : Order) (bytes : List ℕ) : Type 0 where
  pub header : 16 ≤ length bytes
  pub small : captured order bytes ≤ 262144
  pub size : length bytes ≡ record_size order bytes

first_is : (order : Order) (bytes : List ℕ) → begins_whole order bytes ≡ true
    → IsRecord order (take (record_size order bytes) bytes)
first_is order bytes whole =
    let has = whole_has order bytes whole in
    let first = take (record_size order bytes) bytes in
    let len : length first ≡ record_size order bytes = length_record order bytes whole in
    let same : captured order first ≡ captured order bytes =
    sym (number_at-append order 4 8 first (drop (record_size order bytes) bytes) (omega arith))
    ∙ ap (captured order) (take-append-drop (record_size order bytes) bytes) in
    record { header = omega arith; small = rw same has.small; size = rw same len }

records_within_are : (most : ℕ) (order : Order) (bytes : List ℕ) → length bytes ≤ most
    → AllByRecursion (IsRecord order) (records_in order bytes)
records_within_are zero order bytes h =
    elim (cases_Bool (begins_whole order bytes)) [
      | inl whole ↦ absurd (omega (arith, (whole_has order bytes whole).header))
      | inr not ↦ rw (records_in-none order bytes not) tt
    ]
records_within_are (suc most) order bytes h =
    elim (cases_Bool (begins_whole order bytes)) [
      | inl whole ↦
          let has = whole_has order bytes whole in
          let rest = records_within_are most order (drop (record_size order bytes) bytes)
          (omega (arith, has.here, length-drop (record_size order bytes) bytes)) in
          rw (records_in-step order bytes whole) (first_is order bytes whole, rest)
      | inr not ↦ rw (records_in-none order bytes not) tt
    ]

records_are : (order : Order) (bytes : List ℕ) → AllByRecursion (IsRecord order) (records_in order bytes)
records_are order bytes = records_within_are (length bytes) order bytes (omega arith)

-- ---- what a frame has

captured_frames : (number : ℕ) (format : Format) (index : ℕ) (records : List (List ℕ))
    → AllByRecursion (IsRecord format.order) records
    → AllByRecursion IsCaptured (frames_from number format index records)
unfolding frame_of_record
captured_frames number format index [] told = tt
captured_frames number format index (r ∷ records) told =
    let size = told.0.size in
    let len = length-drop 16 r in (
      record { nsec = omega arith; wire = omega arith; few = omega (arith, told.0.small) },
      captured_frames number format (index + 1) records told.1,
    )

pub frames_captured : (number : ℕ) (bytes : List ℕ) → All IsCaptured (frames_of number bytes)
frames_captured number bytes =
    All-from_recursion IsCaptured (frames_of number bytes)
    (frames_by (λ (fs : List Frame). AllByRecursion IsCaptured fs) number bytes tt (λ format full passed.
    rw (frames_read number format bytes full passed)
    (captured_frames number format 0 (records_in format.order (drop 24 (counted bytes)))
    (records_are format.order (drop 24 (counted bytes))))))

numbered_frames : (number : ℕ) (format : Format) (index i : ℕ) (records : List (List ℕ))
    → IfSome (slice_get (frames_from number format index records) i) (IsNumbered number (index + i))
unfolding frame_of_record
numbered_frames number format index i [] = tt
numbered_frames number format index zero (r ∷ records) = record { cpu = refl; place = omega arith; tag = refl }
numbered_frames number format index (suc i) (r ∷ records) =
    let at : index + 1 + i ≡ index + suc i = omega arith in
    let rest = numbered_frames number format (index + 1) i records in
    subst (λ (n : ℕ). IfSome (slice_get (frames_from number format (index + 1) records) i) (IsNumbered number n)) at rest

pub frames_numbered : (number index : ℕ) (bytes : List ℕ)
    → IfSome (slice_get (frames_of number bytes) index) (IsNumbered number index)
frames_numbered number index bytes =
    frames_by (λ (fs : List Frame). IfSome (slice_get fs index) (IsNumbered number index)) number bytes tt
    (λ format full passed.
    let told = numbered_frames number format 0 index (records_in format.order (drop 24 (counted bytes))) in
    rw (frames_read number format bytes full passed) (rw (zero-add index) at told))

-- ---- how many

pub frames_few : (number : ℕ) (bytes : List ℕ) → length (frames_of number bytes) ≤ 2097150
frames_few number bytes = frames_by (λ (fs : List Frame). length fs ≤ 2097150) number bytes (omega arith) (λ format full passed.
    let told = all_accounts number format bytes full passed in
    omega (arith, told.count, told.stop, length-drop 24 (counted bytes), length-take 33554432 bytes))

frame_bytes : (number : ℕ) (format : Format) (index : ℕ) (records : List (List ℕ))
    → sum_by (λ frame. length frame.bytes) (frames_from number format index records) ≤ length (concat records)
unfolding frame_of_record
frame_bytes number format index [] = omega arith
frame_bytes number format index (r ∷ records) =
    let rest = frame_bytes number format (index + 1) records in
    let sum = sum_by-cons (λ (frame : Frame). length frame.bytes) (frame_of_record number format index r)
    (frames_from number format (index + 1) records) in
    omega (arith, rest, sum, length-append r (concat records), length-drop 16 r)

pub concat_within : (order : Order) (bytes : List ℕ) → length (concat (records_in order bytes)) ≤ length bytes
unfolding read_from
concat_within order bytes =
    let told = (accounts 0 (record { order = order; unit = 1 }) first_place [] bytes).stop in
    omega (arith, told)

pub frames_within : (number : ℕ) (bytes : List ℕ) → sum_by (λ frame. length frame.bytes) (frames_of number bytes) ≤ length bytes
frames_within number bytes =
    frames_by (λ (fs : List Frame). sum_by (λ frame. length frame.bytes) fs ≤ length bytes) number bytes (omega arith)
    (λ format full passed.
    let body = drop 24 (counted bytes) in
    rw (frames_read number format bytes full passed)
    (omega (
      arith,
      frame_bytes number format 0 (records_in format.order body),
      concat_within format.order body,
      length-drop 24 (counted bytes),
      length-take 33554432 bytes,
    )))

-- ---- numbers of 32 bits

IsBytes : List ℕ → Type 0
IsBytes bytes = (i : ℕ) → get_or bytes i 0 < 256

are_bytes : (bytes : List ℕ) → All (λ byte. byte < 256) bytes → IsBytes bytes
unfolding IsBytes
are_bytes bytes all i =
    elim (cases_lt i (length bytes)) [
      | inl less ↦ all i 0 less
      | inr past ↦ rw (get_or_past bytes i 0 past) (omega arith)
    ]

bytes-drop : (n : ℕ) (bytes : List ℕ) → IsBytes bytes → IsBytes (drop n bytes)
unfolding IsBytes
bytes-drop n bytes h i = rw get_or-drop (h (n + i))

bytes-take : (n : ℕ) (bytes : List ℕ) → IsBytes bytes → IsBytes (take n bytes)
unfolding IsBytes
bytes-take n bytes h i =
    elim (cases_lt i n) [
      | inl less ↦ rw (get_or-take n bytes i 0 less) (h i)
      | inr past ↦ rw (get_or_past (take n bytes) i 0 (omega (arith, length-take n bytes))) (omega arith)
    ]

all_bytes : (bytes : List ℕ) → IsBytes bytes → All (λ byte. byte < 256) bytes
unfolding IsBytes
all_bytes bytes h k d less = rw (get_or_default bytes k d 0 less) (h k)

number_fits : (order : Order) (at : ℕ) (bytes : List ℕ) → IsBytes bytes → number_at order 4 at bytes < 2 ^ 32
unfolding number_at IsBytes
number_fits Little at bytes h = little_from-lt 0 4 (drop at bytes) (λ k. rw get_or-drop (h (at + k)))
number_fits Big at bytes h = big_from-lt 0 4 (drop at bytes) (λ k. rw get_or-drop (h (at + k)))

records_bytes : (most : ℕ) (order : Order) (bytes : List ℕ) → length bytes ≤ most → IsBytes bytes
    → AllByRecursion IsBytes (records_in order bytes)
records_bytes zero order bytes h fits =
    elim (cases_Bool (begins_whole order bytes)) [
      | inl whole ↦ absurd (omega (arith, (whole_has order bytes whole).header))
      | inr not ↦ rw (records_in-none order bytes not) tt
    ]
records_bytes (suc most) order bytes h fits =
    elim (cases_Bool (begins_whole order bytes)) [
      | inl whole ↦
          let has = whole_has order bytes whole in
          let size = record_size order bytes in
          let rest = records_bytes most order (drop size bytes) (omega (arith, has.here, length-drop size bytes))
          (bytes-drop size bytes fits) in
          rw (records_in-step order bytes whole) (bytes-take size bytes fits, rest)
      | inr not ↦ rw (records_in-none order bytes not) tt
    ]

fitting_frames : (number : ℕ) (format : Format) (index : ℕ) (records : List (List ℕ)) → number < 2 ^ 32
    → index + length records ≤ 2 ^ 32 → AllByRecursion IsBytes records
    → AllByRecursion FitsFrame (frames_from number format index records)
unfolding frame_of_record
fitting_frames number format index [] cpu few fits = tt
fitting_frames number format index (r ∷ records) cpu few fits =
    let long = number_fits format.order 8 r fits.0 in
    let wide = number_fits format.order 12 r fits.0 in (
      record {
        cpu = cpu;
        index = omega arith;
        sec = number_fits format.order 0 r fits.0;
        wire = omega arith;
        bytes = all_bytes (drop 16 r) (bytes-drop 16 r fits.0);
      },
      fitting_frames number format (index + 1) records cpu (omega arith) fits.1,
    )

pub frames_fitting : (number : ℕ) (bytes : List ℕ) → number < 2 ^ 32 → All (λ byte. byte < 256) bytes
    → All FitsFrame (frames_of number bytes)
frames_fitting number bytes cpu fits =
    All-from_recursion FitsFrame (frames_of number bytes)
    (frames_by (λ (fs : List Frame). AllByRecursion FitsFrame fs) number bytes tt (λ format full passed.
    let body = drop 24 (counted bytes) in
    let few = frames_few number bytes in
    let count : length (frames_of number bytes) ≡ length (records_in format.order body) =
    ap length (frames_read number format bytes full passed)
    ∙ length-frames_from number format 0 (records_in format.order body) in
    let told = records_bytes (length body) format.order body (omega arith)
    (bytes-drop 24 (counted bytes) (bytes-take 33554432 bytes (are_bytes bytes fits))) in
    rw (frames_read number format bytes full passed)
    (fitting_frames number format 0 (records_in format.order body) cpu (omega arith) told)))

-- ---- more bytes, and damage

append_behind : (number : ℕ) (bytes more : List ℕ) (header : Result Format CaptureError) → 24 ≤ length bytes
    → header_of bytes ≡ header
    → (new : List Frame) × (frames_of number (bytes ++ more) ≡ frames_of number bytes ++ new)
append_behind number bytes more (Ok format) full e =
    let next = (all_of number bytes).next in
    let fresh = (all_of number bytes).left ++ take (33554432 - length bytes) more in
    let all : read_from number format next (frames_of number bytes) fresh ≡ all_of number (bytes ++ more) =
    all_append number format bytes more full e in (
      (read_from number format next [] fresh).frames,
      ap (λ (r : Reached). r.frames) (sym all ∙ read_from-frames number format next (frames_of number bytes) fresh),
    )
append_behind number bytes more (Err damage) full e =
    let was = refused number bytes damage full e in
    let now = refused number (bytes ++ more) damage (omega (arith, length-append bytes more))
    (header_of-append bytes more full ∙ e) in
    ([], now.frames ∙ sym was.frames ∙ sym (append-nil (frames_of number bytes)))

pub frames_append : (number : ℕ) (bytes more : List ℕ)
    → (new : List Frame) × (frames_of number (bytes ++ more) ≡ frames_of number bytes ++ new)
frames_append number bytes more =
    elim (cases_lt (length bytes) 24) [
      | inl less ↦ (frames_of number (bytes ++ more), rw ((short number bytes less).frames) refl)
      | inr full ↦ append_behind number bytes more (header_of bytes) full refl
    ]
