-- What a reader returns: the first fault of the definition, or the packets of the text.
use Rattle.std.proofs.Common.{◌≡◌, ℕ, zero, suc, ◌+◌, ◌-◌, ◌%◌, ◌≤◌, ◌<◌, Bool, true, false, List, [], ◌∷◌, ◌++◌, length}
use Rattle.std.proofs.Common.{get_or, take, drop, replicate, refl, sym, ap, ◌∙◌, inl, inr, arith}
use Rattle.std.specs.Prelude.{◌==◌, ◌&&◌, nat_le, nat_lt, slice_index, Option, None, Some, Result, Ok, Err, IfOk, IsOk}
use Rattle.std.proofs.Math.Logic.{∥∥₁_elim}
use Rattle.std.proofs.Math.Bridge.{le_prop}
use Rattle.std.specs.Option.{option_or}
use Rattle.std.proofs.lemmas.Bool.{cases_lt, and_parts, and_from, ltb-true, leb-true, le-leb, lt-ltb, eqb-true, eq-eqb}
use Rattle.std.proofs.lemmas.Option.{none-some}
use Rattle.std.proofs.lemmas.List.{append-nil, length-drop, length-replicate, length-take, take_all, take-append-le}
use Rattle.std.proofs.lemmas.List.{drop-append-le, get_or_append_left, get_or-append_right, get_or-replicate, get_or_past}
use Rattle.byteorder.specs.Numbers.{little_from-append}
use Rattle.frame_view.specs.declared.frames.Packet.{Packet}
use Rattle.tp_layout.specs.declared.error.LayoutError.{LayoutError}
use Rattle.tp_layout.specs.declared.error.LayoutKind.{LayoutKind}
use Rattle.tp_layout.specs.declared.error.LayoutKind.TheVariants.{Field}
use Rattle.tp_layout.specs.declared.requests.RingRequest.{RingRequest}
use Rattle.tp_layout.specs.declared.checks.Ends.TheVariants.{UpTo, At}
use Rattle.tp_layout.specs.Requests.{IsShape, first_of}
use Rattle.tp_layout.specs.Rows.{row, zeros, number_at, first_fault}
use Rattle.tp_layout.specs.Blocks.{Descriptor, IsLawful, BeginsWith, HasText, BeginsLawfully, time_rows, private_rows, end_may}
use Rattle.tp_layout.specs.Blocks.{block_text, needs_of, last_time}
use Rattle.tp_layout.specs.Faults.{descriptor_at, packets_in, packets_fault, area_of, packets_of, fault_by, fault_of, padded}
use Rattle.tp_layout.specs.Faults.{text_fault}
use Rattle.tp_layout.specs.Checks.{unless, told, EndsWithin, fits_of, head_tests, descriptor_tests, packets_tests, time_tests}
use Rattle.tp_layout.specs.Checks.{block_tests}
use Rattle.tp_layout.specs.Readers.{IsTextOf}
use Rattle.tp_layout.proofs.Bytes.{IsBytes, bytes-drop, bytes-take}
use Rattle.tp_layout.proofs.Chains.{fixed, none, head_tests_are, packets_tests_are, zeros_step}
use Rattle.tp_layout.proofs.Walks.{head, or_none}
use Rattle.tp_layout.proofs.Opens.{split, within, needs-cons, length-block_text}
use Rattle.tp_layout.proofs.BlockTexts.{BlockReads, block_reads, BlockPasses, block_passes, first_time_in}

-- ---- the reader's tests are those of the definition

or_assoc : (a b c : Option LayoutError) → option_or (option_or a b) c ≡ option_or a (option_or b c)
or_assoc None b c = refl
or_assoc (Some fault) b c = refl

or_same : (a b c : Option LayoutError) → (a ≡ None → b ≡ c) → option_or a b ≡ option_or a c
or_same None b c h = h refl
or_same (Some fault) b c h = refl

both_fields : (a b : Bool) (kind : LayoutKind) (at : ℕ) (rest : Option LayoutError)
    → unless a kind at (unless b kind at rest) ≡ unless (a && b) kind at rest
both_fields true b kind at rest = refl
both_fields false b kind at rest = refl

or_first : (a b : Option LayoutError) → option_or a b ≡ None → a ≡ None
or_first None b e = refl
or_first (Some fault) b e = absurd (none-some _ (sym e))

-- the times of a descriptor
times_are : (desc : Descriptor) (bytes : List ℕ)
    → first_fault 0 32 (time_rows desc) bytes ≡ time_tests (desc.first_sec, desc.first_nsec)
    (desc.last_sec, desc.last_nsec) bytes
unfolding time_tests
times_are desc bytes =
    let a = number_at 4 32 bytes == desc.first_sec in
    let b = number_at 4 36 bytes == desc.first_nsec in
    let c = number_at 4 40 bytes == desc.last_sec in
    let d = number_at 4 44 bytes == desc.last_nsec in
    fixed 0 32 (row 32 4 desc.first_sec) _ bytes _ refl
    (fixed 0 36 (row 32 4 desc.first_nsec) _ bytes _ refl
    (fixed 0 40 (row 40 4 desc.last_sec) _ bytes _ refl
    (fixed 0 44 (row 40 4 desc.last_nsec) [] bytes None refl (none 0 48 bytes))))
    ∙ both_fields a b Field 32 (unless c Field 40 (unless d Field 40 None))
    ∙ ap (unless (a && b) Field 32) (both_fields c d Field 40 None)

pub tests_are : (fits : ℕ → Bool) (shape : RingRequest) (bytes : List ℕ) → IsBytes bytes
    → fault_by fits shape bytes ≡ block_tests fits shape bytes
unfolding fault_by block_tests packets_of
tests_are fits shape bytes h =
    let count = number_at 4 12 bytes in
    let area = area_of shape bytes in
    let packets = packets_in count area in
    let heads = head_tests_are fits shape packets bytes in
    let private = first_fault 0 48 (private_rows shape) bytes in
    let same : head_tests fits shape bytes ≡ None
    → option_or private (option_or (packets_fault count (first_of shape) area)
    (first_fault 0 32 (time_rows (descriptor_at packets bytes)) bytes))
    ≡ option_or private (option_or (packets_tests count (first_of shape) area)
    (time_tests (number_at 4 4 area, number_at 4 8 area) (last_time packets) bytes)) =
    λ passed.
    let says = head fits shape bytes passed in
    let tests = packets_tests_are count (first_of shape) area
    (bytes-drop (first_of shape) (take (number_at 4 20 bytes) bytes) (bytes-take (number_at 4 20 bytes) bytes h)) in
    let times = times_are (descriptor_at packets bytes) bytes in
    let early = first_time_in count area says.some in
    rw (tests, times, early) refl in
    let rest =
    option_or private
    (option_or (packets_fault count (first_of shape) area)
    (first_fault 0 32 (time_rows (descriptor_at packets bytes)) bytes)) in
    ap (λ (x : Option LayoutError). option_or x rest) heads ∙ or_same (head_tests fits shape bytes) _ _ same
    ∙ sym (or_assoc (head_tests fits shape bytes) private _)

-- ---- answers

pub ok_by : (answer : Result (List Packet) LayoutError) (packets : List Packet) → told answer ≡ None
    → IfOk answer (λ ps. ps ≡ packets) → answer ≡ Ok packets
ok_by (Ok ps) packets e so = ap Ok so
ok_by (Err fault) packets e so = absurd (none-some _ (sym e))

pub found_by : (answer : Result (List Packet) LayoutError) (P : List Packet → Type 0)
    → (told answer ≡ None → (ps : List Packet) → answer ≡ Ok ps → P ps) → IfOk answer P
found_by (Ok ps) P h = h refl ps refl
found_by (Err fault) P h = tt

if_ok : (answer : Result (List Packet) LayoutError) (packets others : List Packet) → IfOk answer (λ ps. ps ≡ packets)
    → packets ≡ others → IfOk answer (λ ps. ps ≡ others)
if_ok (Ok ps) packets others so e = so ∙ e
if_ok (Err fault) packets others so e = tt

-- a block that passed begins with the text of its packets
pub has_text : (shape : RingRequest) (bytes : List ℕ) → BlockReads shape bytes → HasText shape bytes (packets_of shape bytes)
has_text shape bytes read =
    let text = block_text shape (number_at 8 24 bytes) (number_at 4 8 bytes) (packets_of shape bytes) in
    let begins : take (length text) bytes ≡ text =
    ap (λ (n : ℕ). take n bytes) (length-block_text shape (number_at 8 24 bytes) (number_at 4 8 bytes) (packets_of shape bytes)
    ∙ sym read.end_is)
    ∙ read.text in
    (number_at 8 24 bytes, number_at 4 8 bytes, record { lawful = read.lawful; begins = begins })

-- the packets of a lawful text end where they may
needs_eight : (packets : List Packet) → needs_of packets % 8 ≡ 0
needs_eight [] = refl
needs_eight (packet ∷ packets) = omega (arith, needs_eight packets, needs-cons packet packets)

some_need : (packets : List Packet) → 0 < length packets → 0 < needs_of packets
some_need [] some = absurd (omega arith)
some_need (packet ∷ packets) some = omega (arith, needs-cons packet packets)

pub end_lawful : (shape : RingRequest) (number status : ℕ) (packets : List Packet) → IsLawful shape number status packets
    → end_may shape (first_of shape + needs_of packets) ≡ true
end_lawful shape number status packets lawful =
    let eight = needs_eight packets in
    let some = some_need packets lawful.some in
    let end = first_of shape + needs_of packets in
    let even : end % 8 ≡ 0 = omega (arith, eight) in
    and_from _ _ (and_from (end % 8 == 0) _ (eq-eqb (end % 8) 0 even) (lt-ltb (first_of shape) end (omega (arith, some))))
    (le-leb end shape.block_size lawful.fits)

-- a lawful text at the start passes
pub begins_passing : (fits : ℕ → Bool) (shape : RingRequest) (number status : ℕ) (packets : List Packet) (bytes : List ℕ)
    → shape.block_size ≤ 1048576
    → ((end : ℕ) → end_may shape end ≡ true → fits end ≡ true) → BeginsWith shape number status packets bytes
    → BlockPasses fits shape number status packets bytes
begins_passing fits shape number status packets bytes sound may is =
    let text = block_text shape number status packets in
    block_passes fits shape number status packets bytes (drop (length text) bytes) sound is.lawful
    (may (first_of shape + needs_of packets) (end_lawful shape number status packets is.lawful)) (split text bytes is.begins)

-- ---- a block

pub block_fault : (shape : RingRequest) (most : ℕ) (bytes : List ℕ) → IsBytes bytes → most ≡ shape.block_size
    → block_tests (fits_of (UpTo most) shape) shape bytes ≡ fault_of shape bytes
unfolding fault_of
block_fault shape most bytes h e = ap (λ (n : ℕ). block_tests (fits_of (UpTo n) shape) shape bytes) e
    ∙ sym (tests_are (end_may shape) shape bytes h)

-- where a block's packets may end
block_ends : (shape : RingRequest) (size : ℕ) → size ≡ shape.block_size → EndsWithin shape (end_may shape) size
block_ends shape size e end fits =
    let outer = and_parts ((end % 8 == 0) && nat_lt (first_of shape) end) (nat_le end shape.block_size) fits in
    let inner = and_parts (end % 8 == 0) (nat_lt (first_of shape) end) outer.0 in
    (ltb-true _ _ inner.1, omega (arith, leb-true _ _ outer.1, e))

pub block_found : (answer : Result (List Packet) LayoutError) (shape : RingRequest) (bytes : List ℕ) → IsBytes bytes
    → IsShape shape → length bytes ≡ shape.block_size
    → told answer ≡ fault_of shape bytes → IfOk answer (λ ps. ps ≡ packets_of shape bytes)
    → IfOk answer (λ ps. HasText shape bytes ps)
unfolding fault_of
block_found (Err fault) shape bytes h sound size e so = tt
block_found (Ok ps) shape bytes h sound size e so =
    let pages = sound.pages in
    let some = sound.some in
    let tests = sym (tests_are (end_may shape) shape bytes h) ∙ sym e in
    rw so (has_text shape bytes
    (block_reads (end_may shape) shape bytes h (omega (arith, size)) (omega (arith, size))
    (block_ends shape (length bytes) size) tests))

pub block_only : (answer : Result (List Packet) LayoutError) (shape : RingRequest) (bytes : List ℕ) → IsBytes bytes
    → IsShape shape
    → told answer ≡ fault_of shape bytes → IfOk answer (λ ps. ps ≡ packets_of shape bytes)
    → (number status : ℕ) (packets : List Packet) → BeginsWith shape number status packets bytes → answer ≡ Ok packets
unfolding fault_of
block_only answer shape bytes h sound e so number status packets begins =
    let passed_text = begins_passing (end_may shape) shape number status packets bytes sound.small (λ end may. may) begins in
    ok_by answer packets (e ∙ tests_are (end_may shape) shape bytes h ∙ passed_text.tests)
    (if_ok answer (packets_of shape bytes) packets so passed_text.packets_are)

-- ---- a text on its own

padded_bytes : (shape : RingRequest) (text : List ℕ) → IsBytes text → IsBytes (padded shape text)
padded_bytes shape text h i =
    let n = shape.block_size - length text in
    let zeros_behind : List ℕ = replicate n 0 in
    elim (cases_lt i (length text)) [
      | inl less ↦ rw (get_or_append_left text zeros_behind 0 i less) (h i)
      | inr past ↦ rw (get_or-append_right text zeros_behind (length text) i 0 refl past) (zero_byte n (i - length text))
    ]
  where
    zero_byte : (n i : ℕ) → get_or (replicate n 0) i 0 < 256
    zero_byte n i =
        elim (cases_lt i n) [
          | inl less ↦ rw (get_or-replicate {A = ℕ} n i 0 0 less) (omega arith)
          | inr past ↦
              rw (get_or_past {X = ℕ} (replicate n 0) i 0 (omega (arith, length-replicate {A = ℕ} n 0, past))) (omega arith)
        ]

number_front : (n at : ℕ) (text rest : List ℕ) → at + n ≤ length text → number_at n at (text ++ rest) ≡ number_at n at text
unfolding number_at
number_front n at text rest fits =
    rw (drop-append-le at text rest (omega arith))
    (little_from-append n (drop at text) rest (omega (arith, length-drop at text)))

zeros_front : (at n : ℕ) (text rest : List ℕ) → at + n ≤ length text
    → first_fault 0 at (zeros at n) (text ++ rest) ≡ first_fault 0 at (zeros at n) text
zeros_front at zero text rest fits = none 0 at (text ++ rest) ∙ sym (none 0 at text)
zeros_front at (suc n) text rest fits =
    let byte : slice_index (text ++ rest) at ≡ slice_index text at = get_or_append_left text rest 0 at (omega arith) in
    zeros_step 0 at n (text ++ rest) ∙ rw (byte, zeros_front (at + 1) n text rest (omega arith)) (sym (zeros_step 0 at n text))

head_front : (fits : ℕ → Bool) (shape : RingRequest) (text rest : List ℕ) → 48 ≤ length text
    → head_tests fits shape (text ++ rest) ≡ head_tests fits shape text
unfolding head_tests
head_front fits shape text rest header =
    rw (
      number_front 4 0 text rest (omega arith),
      number_front 4 4 text rest (omega arith),
      number_front 4 8 text rest (omega arith),
      number_front 4 12 text rest (omega arith),
      number_front 4 16 text rest (omega arith),
      number_front 4 20 text rest (omega arith),
      number_front 8 24 text rest (omega arith),
    ) refl

times_front : (first last : ℕ × ℕ) (text rest : List ℕ) → 48 ≤ length text
    → time_tests first last (text ++ rest) ≡ time_tests first last text
unfolding time_tests
times_front first last text rest header =
    rw (
      number_front 4 32 text rest (omega arith),
      number_front 4 36 text rest (omega arith),
      number_front 4 40 text rest (omega arith),
      number_front 4 44 text rest (omega arith),
    ) refl

-- the tests after those of the head
behind_head : RingRequest → ℕ → List ℕ → List ℕ → Option LayoutError
behind_head shape count area bytes =
    option_or (packets_tests count (first_of shape) area)
    (time_tests (number_at 4 4 area, number_at 4 8 area) (last_time (packets_in count area)) bytes)

behind_front : (shape : RingRequest) (count : ℕ) (area text rest : List ℕ) → 48 ≤ length text
    → behind_head shape count area (text ++ rest) ≡ behind_head shape count area text
unfolding behind_head
behind_front shape count area text rest header =
    ap (option_or (packets_tests count (first_of shape) area))
    (times_front (number_at 4 4 area, number_at 4 8 area) (last_time (packets_in count area)) text rest header)

-- what follows a text doesn't count if its packets end with it
front_tests_are : (fits : ℕ → Bool) (shape : RingRequest) (text rest : List ℕ) → 48 ≤ length text
    → ((end : ℕ) → fits end ≡ true → (first_of shape < end) × (end ≡ length text))
    → block_tests fits shape (text ++ rest) ≡ block_tests fits shape text
unfolding block_tests behind_head
front_tests_are fits shape text rest header ends =
    let bytes = text ++ rest in
    let first = first_of shape in
    let whole = head_tests fits shape text in
    let private = first_fault 0 48 (private_rows shape) in
    let after : List ℕ → Option LayoutError =
    λ xs. option_or (private xs) (behind_head shape (number_at 4 12 xs) (area_of shape xs) xs) in
    let same : whole ≡ None → after bytes ≡ after text = λ passed.
    let says = head fits shape text passed in
    let end = number_at 4 20 text in
    let range = ends end says.end in
    let zeros_same : private bytes ≡ private text = zeros_front 48 (first - 48) text rest (omega (arith, range.0, range.1)) in
    let count : number_at 4 12 bytes ≡ number_at 4 12 text = number_front 4 12 text rest (omega arith) in
    let area : area_of shape bytes ≡ area_of shape text =
    ap (λ (n : ℕ). drop first (take n bytes)) (number_front 4 20 text rest (omega arith))
    ∙ ap (drop first) (take-append-le end text rest (omega (arith, range.1))) in
    ap (λ (x : Option LayoutError). option_or x
    (behind_head shape (number_at 4 12 bytes) (area_of shape bytes) bytes)) zeros_same
    ∙ ap (option_or (private text))
    (ap (λ (n : ℕ). behind_head shape n (area_of shape bytes) bytes) count
    ∙ ap (λ (xs : List ℕ). behind_head shape (number_at 4 12 text) xs bytes) area
    ∙ behind_front shape (number_at 4 12 text) (area_of shape text) text rest header) in
    or_assoc (head_tests fits shape bytes) (private bytes) _
    ∙ ap (λ (x : Option LayoutError). option_or x (after bytes)) (head_front fits shape text rest header)
    ∙ or_same whole (after bytes) (after text) same
    ∙ sym (or_assoc whole (private text) _)

head_passes : (fits : ℕ → Bool) (shape : RingRequest) (bytes : List ℕ) → block_tests fits shape bytes ≡ None
    → head_tests fits shape bytes ≡ None
unfolding block_tests
head_passes fits shape bytes e =
    let both = or_first (descriptor_tests fits shape bytes) _ e in
    or_first (head_tests fits shape bytes) (first_fault 0 48 (private_rows shape) bytes) both

-- where the packets of a text may end
text_ends : (shape : RingRequest) (size end : ℕ) → fits_of (At size) shape end ≡ true → (first_of shape < end) × (end ≡ size)
text_ends shape size end fits =
    let both = and_parts (end_may shape end) (end == size) fits in
    let outer = and_parts ((end % 8 == 0) && nat_lt (first_of shape) end) (nat_le end shape.block_size) both.0 in
    let inner = and_parts (end % 8 == 0) (nat_lt (first_of shape) end) outer.0 in
    (ltb-true _ _ inner.1, eqb-true _ _ both.1)

pub text_fault_is : (shape : RingRequest) (text : List ℕ) → IsBytes text → 48 ≤ length text
    → block_tests (fits_of (At (length text)) shape) shape text ≡ text_fault shape text
unfolding text_fault
text_fault_is shape text h header =
    sym (tests_are (fits_of (At (length text)) shape) shape (padded shape text) (padded_bytes shape text h)
    ∙ front_tests_are (fits_of (At (length text)) shape) shape text (replicate (shape.block_size - length text) 0) header
    (text_ends shape (length text)))

pub text_found : (answer : Result (List Packet) LayoutError) (shape : RingRequest) (text : List ℕ) → IsBytes text
    → 48 ≤ length text → length text ≤ shape.block_size
    → told answer ≡ block_tests (fits_of (At (length text)) shape) shape text → IfOk answer (λ ps. ps ≡ packets_of shape text)
    → IfOk answer (λ ps. IsTextOf shape text ps)
text_found (Err fault) shape text h header size e so = tt
text_found (Ok ps) shape text h header size e so =
    let fits = fits_of (At (length text)) shape in
    let ends : EndsWithin shape fits (length text) = λ end fit. let range = text_ends shape (length text) end fit in
    (range.0, omega (arith, range.1)) in
    let read = block_reads fits shape text h header size ends (sym e) in
    let says = head fits shape text (head_passes fits shape text (sym e)) in
    let range = text_ends shape (length text) (number_at 4 20 text) says.end in
    let whole : text ≡ block_text shape (number_at 8 24 text) (number_at 4 8 text) (packets_of shape text) =
    sym (take_all (number_at 4 20 text) text (omega (arith, range.1))) ∙ read.text in
    rw so (number_at 8 24 text, number_at 4 8 text, read.lawful, whole)

pub text_only : (answer : Result (List Packet) LayoutError) (shape : RingRequest) (text : List ℕ) → IsShape shape
    → told answer ≡ block_tests (fits_of (At (length text)) shape) shape text → IfOk answer (λ ps. ps ≡ packets_of shape text)
    → (number status : ℕ) (packets : List Packet) → IsLawful shape number status packets
    → text ≡ block_text shape number status packets → answer ≡ Ok packets
text_only answer shape text sound e so number status packets lawful is =
    let end = first_of shape + needs_of packets in
    let size : end ≡ length text = sym (ap length is ∙ length-block_text shape number status packets) in
    let fit : fits_of (At (length text)) shape end ≡ true =
    and_from (end_may shape end) (end == length text) (end_lawful shape number status packets lawful)
    (eq-eqb end (length text) size) in
    let passed_text = block_passes (fits_of (At (length text)) shape) shape number status packets text [] sound.small lawful fit
    (is ∙ sym (append-nil (block_text shape number status packets))) in
    ok_by answer packets (e ∙ passed_text.tests) (if_ok answer (packets_of shape text) packets so passed_text.packets_are)

-- ---- the text that a block begins with

pub lent : (shape : RingRequest) (number status : ℕ) (packets : List Packet) (bytes : List ℕ) → shape.block_size ≤ 1048576
    → BeginsWith shape number status packets bytes → take (number_at 4 20 bytes) bytes ≡ block_text shape number status packets
lent shape number status packets bytes sound is =
    let passed_text = begins_passing (end_may shape) shape number status packets bytes sound (λ end may. may) is in
    ap (λ (n : ℕ). take n bytes) (passed_text.end_is ∙ sym (length-block_text shape number status packets)) ∙ is.begins

-- a block that begins with a lawful text has all of it
pub begins_within : (shape : RingRequest) (number status : ℕ) (bytes : List ℕ) → shape.block_size ≤ 1048576
    → BeginsLawfully shape number status bytes → (48 ≤ length bytes) × (number_at 4 20 bytes ≤ length bytes)
begins_within shape number status bytes sound begins =
    let long : (packets : List Packet) → BeginsWith shape number status packets bytes → 48 ≤ length bytes = λ packets is.
    omega (
      arith,
      within (block_text shape number status packets) bytes is.begins,
      length-block_text shape number status packets,
    ) in
    let ends : (packets : List Packet) → BeginsWith shape number status packets bytes
    → number_at 4 20 bytes ≤ length bytes = λ packets is.
    omega (
      arith,
      within (block_text shape number status packets) bytes is.begins,
      length-block_text shape number status packets,
      (begins_passing (end_may shape) shape number status packets bytes sound (λ end may. may) is).end_is,
    ) in
    (∥∥₁_elim begins le_prop (λ p. long p.0 p.1), ∥∥₁_elim begins le_prop (λ p. ends p.0 p.1))

-- a block that is known to begin with a lawful text is read
pub surely_ok : (answer : Result (List Packet) LayoutError) (shape : RingRequest) (number status : ℕ) (bytes : List ℕ)
    → ((number status : ℕ) (packets : List Packet) → BeginsWith shape number status packets bytes → answer ≡ Ok packets)
    → BeginsLawfully shape number status bytes → IsOk answer
surely_ok (Ok ps) shape number status bytes only begins = refl
surely_ok (Err fault) shape number status bytes only begins =
    let never : ⊥ = ∥∥₁_elim begins (Prim.hlevel) (λ p. none-some _ (sym (ap told (only number status p.0 p.1)))) in
    absurd never

-- ---- bytes that begin with a lawful text

-- what is known of them
pub record BeginsWell (shape : RingRequest) (bytes : List ℕ) : Type 0 where
  pub header : 48 ≤ length bytes
  pub order : first_of shape ≤ number_at 4 20 bytes
  pub within : number_at 4 20 bytes ≤ length bytes
  pub tests : packets_tests (number_at 4 12 bytes) (first_of shape) (area_of shape bytes) ≡ None
  pub small : length (area_of shape bytes) ≤ 1048576

-- their packets pass the tests
packets_pass : (shape : RingRequest) (number status : ℕ) (packets : List Packet) (bytes : List ℕ) → shape.block_size ≤ 1048576
    → BeginsWith shape number status packets bytes
    → packets_tests (number_at 4 12 bytes) (first_of shape) (area_of shape bytes) ≡ None
unfolding block_tests
packets_pass shape number status packets bytes sound is =
    let passed_text = begins_passing (end_may shape) shape number status packets bytes sound (λ end may. may) is in
    let rest = or_none (descriptor_tests (end_may shape) shape bytes) _ passed_text.tests in
    (or_none (packets_tests (number_at 4 12 bytes) (first_of shape) (area_of shape bytes)) _ rest.1).0

-- a lawful text has no fault
no_fault : (shape : RingRequest) (number status : ℕ) (bytes : List ℕ) (answer : Option LayoutError)
    → ((packets : List Packet) → BeginsWith shape number status packets bytes → answer ≡ None)
    → BeginsLawfully shape number status bytes → answer ≡ None
no_fault shape number status bytes None passes begins = refl
no_fault shape number status bytes (Some fault) passes begins =
    let never : ⊥ = ∥∥₁_elim begins (Prim.hlevel) (λ p. none-some _ (sym (passes p.0 p.1))) in
    absurd never

pub begins_well : (shape : RingRequest) (number status : ℕ) (bytes : List ℕ) → shape.block_size ≤ 1048576
    → BeginsLawfully shape number status bytes → BeginsWell shape bytes
begins_well shape number status bytes sound begins =
    let whole = begins_within shape number status bytes sound begins in
    let ends : (packets : List Packet) → BeginsWith shape number status packets bytes
    → number_at 4 20 bytes ≡ first_of shape + needs_of packets = λ packets is.
    (begins_passing (end_may shape) shape number status packets bytes sound (λ end may. may) is).end_is in
    let after : first_of shape ≤ number_at 4 20 bytes = ∥∥₁_elim begins le_prop (λ p. omega (arith, ends p.0 p.1)) in
    let fits : number_at 4 20 bytes ≤ shape.block_size =
    ∥∥₁_elim begins le_prop (λ p. omega (arith, ends p.0 p.1, p.1.lawful.fits)) in
    record {
      header = whole.0;
      order = after;
      within = whole.1;
      tests = no_fault shape number status bytes _
          (λ packets is. packets_pass shape number status packets bytes sound is) begins;
      small = omega (
        arith,
        sound,
        fits,
        length-drop (first_of shape) (take (number_at 4 20 bytes) bytes),
        length-take (number_at 4 20 bytes) bytes,
      );
    }

-- and the packets are read
pub begins_read : (shape : RingRequest) (number status : ℕ) (packets : List Packet) (bytes : List ℕ)
    → shape.block_size ≤ 1048576
    → BeginsWith shape number status packets bytes → packets_of shape bytes ≡ packets
begins_read shape number status packets bytes sound is =
    (begins_passing (end_may shape) shape number status packets bytes sound (λ end may. may) is).packets_are

-- where the packets of n bytes may end
abbrev ends_in : RingRequest → ℕ → ℕ → Bool
ends_in shape size end = end_may shape end && nat_le end size

ends_there : (shape : RingRequest) (size : ℕ) → EndsWithin shape (ends_in shape size) size
ends_there shape size end fits =
    let both = and_parts (end_may shape end) (nat_le end size) fits in
    let outer = and_parts ((end % 8 == 0) && nat_lt (first_of shape) end) (nat_le end shape.block_size) both.0 in
    let inner = and_parts (end % 8 == 0) (nat_lt (first_of shape) end) outer.0 in
    (ltb-true _ _ inner.1, leb-true _ _ both.1)

begins_pass : (shape : RingRequest) (number status : ℕ) (packets : List Packet) (bytes : List ℕ) → shape.block_size ≤ 1048576
    → BeginsWith shape number status packets bytes → block_tests (ends_in shape (length bytes)) shape bytes ≡ None
begins_pass shape number status packets bytes sound is =
    let text = block_text shape number status packets in
    let end = first_of shape + needs_of packets in
    let long : end ≤ length bytes = omega (arith, within text bytes is.begins, length-block_text shape number status packets) in
    let fit : ends_in shape (length bytes) end ≡ true =
    and_from (end_may shape end) (nat_le end (length bytes)) (end_lawful shape number status packets is.lawful)
    (le-leb end (length bytes) long) in
    (block_passes (ends_in shape (length bytes)) shape number status packets bytes (drop (length text) bytes) sound is.lawful
    fit (split text bytes is.begins)).tests

pub begins_has : (shape : RingRequest) (number status : ℕ) (bytes : List ℕ) → IsBytes bytes → shape.block_size ≤ 1048576
    → length bytes ≤ shape.block_size
    → BeginsLawfully shape number status bytes → HasText shape bytes (packets_of shape bytes)
begins_has shape number status bytes h sound size begins =
    let header = (begins_within shape number status bytes sound begins).0 in
    let passed = no_fault shape number status bytes _
    (λ packets is. begins_pass shape number status packets bytes sound is) begins in
    has_text shape bytes (block_reads (ends_in shape (length bytes)) shape bytes h header size
    (ends_there shape (length bytes)) passed)
