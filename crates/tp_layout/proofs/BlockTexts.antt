-- The text of a block is what passes the tests.
use Rattle.std.proofs.Common.{◌≡◌, ℕ, zero, suc, ◌+◌, ◌-◌, ◌^◌, ◌≤◌, ◌<◌, Bool, true, false, List, [], ◌∷◌, ◌++◌, length, take}
use Rattle.std.proofs.Common.{drop, refl, sym, ap, ◌∙◌, inl, inr, arith, append_assoc}
use Rattle.std.specs.Prelude.{◌==◌, ◌&&◌, ◌||◌, nat_lt, None}
use Rattle.std.specs.List.{AllByRecursion}
use Rattle.std.proofs.Math.Seq.{take-add}
use Rattle.std.proofs.lemmas.Bool.{eq-eqb, eqb-true, lt-ltb, and_parts, and_from, or_cases}
use Rattle.std.proofs.lemmas.Option.{none-some}
use Rattle.std.proofs.lemmas.List.{append-nil, length-drop, length-take, drop-drop, drop_at, drop_all, take_at, take-take}
use Rattle.std.proofs.lemmas.List.{take-append-drop}
use Rattle.frame_view.specs.declared.frames.Packet.{Packet}
use Rattle.ring_model.specs.Sizes.{need_of}
use Rattle.tp_layout.specs.declared.requests.RingRequest.{RingRequest}
use Rattle.tp_layout.specs.Requests.{first_of}
use Rattle.tp_layout.specs.Rows.{number_at, bytes_of}
use Rattle.tp_layout.specs.Packets.{packet_text, need_of_packet, IsLawfulPacket, packet_at, need_at}
use Rattle.tp_layout.specs.Blocks.{IsLawful, head_rows, time_rows, private_rows, end_may, is_status, descriptor_of}
use Rattle.tp_layout.specs.Blocks.{descriptor_text, packets_text, block_text, needs_of, first_time, last_time, last_time_after}
use Rattle.tp_layout.specs.Faults.{packets_in, area_of, packets_of}
use Rattle.tp_layout.specs.Checks.{EndsWithin, head_tests, packet_tests, packets_tests, time_tests, block_tests}
use Rattle.tp_layout.proofs.Bytes.{IsBytes, bytes-drop, bytes-take, number_fits}
use Rattle.tp_layout.proofs.Walks.{front, head, unless_none, or_none, packets_step, packets_in_step, packets_end, packets_left}
use Rattle.tp_layout.proofs.Walks.{packets_in-length, none_in, packets_suc, packets_in_suc, not_last}
use Rattle.tp_layout.proofs.Puts.{length-packet_text}
use Rattle.tp_layout.proofs.Opens.{needs-cons, length-descriptor, length-packets_text, length-block_text}
use Rattle.tp_layout.proofs.Tables.{AllRead, AllFit, bytes_read, read_bytes, zeros_read, zeros_passed, zeros_fit, size_of_zeros}
use Rattle.tp_layout.proofs.Tables.{behind}
use Rattle.tp_layout.proofs.PacketTexts.{reads, passes_tests, pass}
use Rattle.tp_layout.proofs.PacketTexts as text_proofs

-- ---- packets that passed are a text

pub record PacketsRead (count : ℕ) (bytes : List ℕ) : Type 0 where
  pub text : bytes ≡ packets_text (packets_in count bytes)
  pub each : AllByRecursion IsLawfulPacket (packets_in count bytes)

one_text : (packet : Packet) (bytes : List ℕ) → packets_in 0 bytes ≡ []
    → packets_text (packet ∷ packets_in 0 bytes) ≡ packet_text 0 packet ++ packets_text (packets_in 0 bytes)
unfolding packets_text
one_text packet bytes none = rw none (sym (append-nil (packet_text 0 packet)))

more_text : (packet : Packet) (more : ℕ) (bytes : List ℕ)
    → packets_text (packet ∷ packets_in (suc more) bytes) ≡ packet_text (need_of_packet packet) packet
    ++ packets_text (packets_in (suc more) bytes)
unfolding packets_text packets_in
more_text packet more bytes = refl

pub packets_read : (count at : ℕ) (bytes : List ℕ) → IsBytes bytes → packets_tests count at bytes ≡ None
    → PacketsRead count bytes
unfolding packets_in packets_text
packets_read zero at [] h e = record { text = refl; each = tt }
packets_read zero at (byte ∷ bytes) h e =
    absurd (none-some _ (sym e ∙ packets_left 0 at (byte ∷ bytes) (omega arith) (omega arith)))
packets_read (suc zero) at bytes h e =
    let both = or_none _ _ (sym (packets_step 1 at bytes (omega arith)) ∙ e) in
    let first = reads true at bytes h (front true at bytes both.0) in
    let need = need_at bytes in
    let rest = packets_read zero (at + need) (drop need bytes) (bytes-drop need bytes h) both.1 in
    record {
      text = sym (take-append-drop need bytes) ∙ rw (first.text, rest.text)
          (sym (one_text (packet_at bytes) (drop need bytes) refl));
      each = (first.lawful, rest.each);
    }
packets_read (suc (suc more)) at bytes h e =
    let both = or_none _ _ (sym (packets_suc (suc more) at bytes) ∙ e) in
    let first =
    reads false at bytes h
    (front false at bytes (ap (λ (last : Bool). packet_tests last at bytes) (sym (not_last more)) ∙ both.0)) in
    let need = need_at bytes in
    let rest = packets_read (suc more) (at + need) (drop need bytes) (bytes-drop need bytes h) both.1 in
    let same : need ≡ need_of_packet (packet_at bytes) = ap need_of (sym first.snap) in
    let text : take need bytes ≡ packet_text (need_of_packet (packet_at bytes)) (packet_at bytes) =
    first.text ∙ ap (λ (n : ℕ). packet_text n (packet_at bytes)) same in
    record {
      text = sym (take-append-drop need bytes)
          ∙ ap (λ (xs : List ℕ). xs ++ drop need bytes) text
          ∙ ap (λ (xs : List ℕ). packet_text (need_of_packet (packet_at bytes)) (packet_at bytes) ++ xs) rest.text
          ∙ sym (more_text (packet_at bytes) more (drop need bytes));
      each = (first.lawful, rest.each);
    }

-- ---- a text of packets passes

pub record PacketsArePassing (at : ℕ) (packets : List Packet) (bytes : List ℕ) : Type 0 where
  pub tests : packets_tests (length packets) at bytes ≡ None
  pub packets_are : packets_in (length packets) bytes ≡ packets

-- a packet and those after it
packets_more : (last : Bool) (at : ℕ) (packet : Packet) (packets : List Packet) (bytes rest : List ℕ)
    → (length packets == 0) ≡ last
    → text_proofs.PassesTests last at packet bytes → drop (need_of_packet packet) bytes ≡ rest
    → PacketsArePassing (at + need_of_packet packet) packets rest
    → PacketsArePassing at (packet ∷ packets) bytes
packets_more last at packet packets bytes rest is_last first behind_it more =
    let back : drop (need_at bytes) bytes ≡ rest = rw first.need_is behind_it in
    record {
      tests = packets_suc (length packets) at bytes ∙ rw (is_last, first.tests, back, first.need_is) more.tests;
      packets_are = packets_in_suc (length packets) bytes ∙ rw (first.packet_is, back, more.packets_are) refl;
    }

pub packets_are_passing : (at : ℕ) (packets : List Packet) → AllByRecursion IsLawfulPacket packets → needs_of packets ≤ 1048576
    → PacketsArePassing at packets (packets_text packets)
unfolding packets_text
packets_are_passing at [] each small =
    record { tests = packets_end 0 at [] (omega arith) (omega arith); packets_are = none_in 0 [] refl }
packets_are_passing at (packet ∷ []) each small =
    let text = packet_text 0 packet in
    let need : need_of_packet packet ≤ 1048576 = omega (arith, small, needs-cons packet []) in
    let first = passes_tests true at packet text [] need each.0 (sym (append-nil text)) in
    let past : drop (need_of_packet packet) text ≡ [] =
    drop_all (need_of_packet packet) text (omega (arith, length-packet_text 0 packet)) in
    packets_more true at packet [] text [] refl first past
    (packets_are_passing (at + need_of_packet packet) [] tt (omega arith))
packets_are_passing at (packet ∷ next ∷ packets) each small =
    let text = packet_text (need_of_packet packet) packet in
    let rest = packets_text (next ∷ packets) in
    let sum = needs-cons packet (next ∷ packets) in
    let first = passes_tests false at packet (text ++ rest) rest (omega (arith, small, sum)) each.0 refl in
    let past : drop (need_of_packet packet) (text ++ rest) ≡ rest =
    drop_at text rest (need_of_packet packet) (length-packet_text (need_of_packet packet) packet) in
    packets_more false at packet (next ∷ packets) (text ++ rest) rest (not_last (length packets)) first past
    (packets_are_passing (at + need_of_packet packet) (next ∷ packets) each.1 (omega (arith, small, sum)))

-- ---- a block that passed is a text

-- the time of the packet at the start
pub first_time_in : (count : ℕ) (bytes : List ℕ) → 0 < count
    → first_time (packets_in count bytes) ≡ (number_at 4 4 bytes, number_at 4 8 bytes)
unfolding packet_at
first_time_in count bytes some = rw (packets_in_step count bytes some) refl

times_read : (first last : ℕ × ℕ) (bytes : List ℕ) → time_tests first last bytes ≡ None
    → (number_at 4 32 bytes ≡ first.0)
    × ((number_at 4 36 bytes ≡ first.1) × ((number_at 4 40 bytes ≡ last.0) × (number_at 4 44 bytes ≡ last.1)))
unfolding time_tests
times_read first last bytes e =
    let a = unless_none ((number_at 4 32 bytes == first.0) && (number_at 4 36 bytes == first.1)) _ _ _ e in
    let b = unless_none ((number_at 4 40 bytes == last.0) && (number_at 4 44 bytes == last.1)) _ _ _ a.1 in
    let f = and_parts (number_at 4 32 bytes == first.0) (number_at 4 36 bytes == first.1) a.0 in
    let l = and_parts (number_at 4 40 bytes == last.0) (number_at 4 44 bytes == last.1) b.0 in
    (eqb-true _ _ f.0, (eqb-true _ _ f.1, (eqb-true _ _ l.0, eqb-true _ _ l.1)))

pub record BlockReads (shape : RingRequest) (bytes : List ℕ) : Type 0 where
  pub lawful : IsLawful shape (number_at 8 24 bytes) (number_at 4 8 bytes) (packets_of shape bytes)
  pub end_is : number_at 4 20 bytes ≡ first_of shape + needs_of (packets_of shape bytes)
  pub text : take (number_at 4 20 bytes) bytes ≡ block_text shape (number_at 8 24 bytes) (number_at 4 8 bytes)
      (packets_of shape bytes)

pub block_reads : (fits : ℕ → Bool) (shape : RingRequest) (bytes : List ℕ) → IsBytes bytes → 48 ≤ length bytes
    → length bytes ≤ shape.block_size
    → EndsWithin shape fits (length bytes) → block_tests fits shape bytes ≡ None → BlockReads shape bytes
unfolding block_tests packets_of block_text descriptor_text
block_reads fits shape bytes h header size ends e =
    let a = or_none _ _ e in
    let b = or_none _ _ a.0 in
    let c = or_none _ _ a.1 in
    let says = head fits shape bytes b.0 in
    let end = number_at 4 20 bytes in
    let count = number_at 4 12 bytes in
    let first = first_of shape in
    let range = ends end says.end in
    let area = area_of shape bytes in
    let packets = packets_in count area in
    let read = packets_read count first area (bytes-drop first (take end bytes) (bytes-take end bytes h)) c.0 in
    let area_size : length area ≡ end - first =
    omega (arith, length-drop first (take end bytes), length-take end bytes, range.1) in
    let sum : end ≡ first + needs_of packets =
    omega (arith, ap length read.text, length-packets_text packets, area_size, range.0) in
    let times = times_read (number_at 4 4 area, number_at 4 8 area) (last_time packets) bytes c.1 in
    let early = first_time_in count area says.some in
    let number = number_at 8 24 bytes in
    let status = number_at 4 8 bytes in
    let desc = descriptor_of shape number status packets in
    let counted : count ≡ length packets = sym (packets_in-length count area) in
    let head_read : AllRead 0 (head_rows (end_may shape) shape desc) bytes =
    (says.version, (says.private, (refl, (counted, (says.first, (sum, (refl, tt))))))) in
    let time_read : AllRead 32 (time_rows desc) bytes = (
      times.0 ∙ ap (λ (t : ℕ × ℕ). t.0) (sym early),
      (times.1.0 ∙ ap (λ (t : ℕ × ℕ). t.1) (sym early), (times.1.1.0, (times.1.1.1, tt))),
    ) in
    let private_read = zeros_read 0 48 (first - 48) bytes b.1 in
    let zeros_size = size_of_zeros 48 (first - 48) in
    let one : take 32 bytes ≡ bytes_of (head_rows (end_may shape) shape desc) =
    bytes_read 0 (head_rows (end_may shape) shape desc) bytes h (omega (arith, header)) head_read in
    let two : take 16 (drop 32 bytes) ≡ bytes_of (time_rows desc) =
    bytes_read 32 (time_rows desc) bytes h (omega (arith, header)) time_read in
    let three : take (first - 48) (drop 48 bytes) ≡ bytes_of (private_rows shape) =
    ap (λ (n : ℕ). take n (drop 48 bytes)) (sym zeros_size)
    ∙ bytes_read 48 (private_rows shape) bytes h (omega (arith, zeros_size, range.0, range.1)) private_read in
    let parts : first ≡ 32 + (16 + (first - 48)) = omega arith in
    let front : take first bytes ≡ descriptor_text shape desc =
    ap (λ (n : ℕ). take n bytes) parts
    ∙ take-add 32 (16 + (first - 48)) bytes
    ∙ ap (λ (xs : List ℕ). take 32 bytes ++ xs)
    (take-add 16 (first - 48) (drop 32 bytes)
    ∙ ap (λ (xs : List ℕ). take 16 (drop 32 bytes) ++ take (first - 48) xs) (drop-drop 16 32 bytes))
    ∙ rw (one, two, three) refl in
    let body : take end bytes ≡ take first bytes ++ area =
    sym (take-append-drop first (take end bytes))
    ∙ ap (λ (xs : List ℕ). xs ++ area) (take-take first end bytes (omega (arith, range.0))) in
    record {
      lawful = record {
        numbered = says.number;
        small = number_fits 8 24 bytes h;
        retired = says.status;
        some = omega (arith, says.some, counted);
        each = read.each;
        fits = omega (arith, sum, range.1, size);
      };
      end_is = sum;
      text = body ∙ ap (λ (xs : List ℕ). xs ++ area) front ∙ ap (λ (xs : List ℕ). descriptor_text shape desc ++ xs) read.text;
    }

-- ---- a text passes

few_packets : (packets : List Packet) → length packets ≤ needs_of packets
few_packets [] = omega arith
few_packets (packet ∷ packets) = omega (arith, few_packets packets, needs-cons packet packets)

small_status : (status : ℕ) → is_status status ≡ true → status ≤ 37
small_status status e =
    elim (or_cases ((status == 1) || (status == 5) || (status == 33)) (status == 37) e) [
      | inl low ↦ elim (or_cases ((status == 1) || (status == 5)) (status == 33) low) [
        | inl lower ↦ elim (or_cases (status == 1) (status == 5) lower) [
          | inl one ↦ let n = eqb-true status 1 one in omega (arith, n)
          | inr five ↦ let n = eqb-true status 5 five in omega (arith, n)
        ]
        | inr timed ↦ let n = eqb-true status 33 timed in omega (arith, n)
      ]
      | inr both ↦ let n = eqb-true status 37 both in omega (arith, n)
    ]

-- a time fits its fields
IsTime : ℕ × ℕ → Type 0
IsTime time = (time.0 < 2 ^ 32) × (time.1 < 2 ^ 32)

packet_time : (packet : Packet) → IsLawfulPacket packet → IsTime (packet.sec, packet.nsec)
unfolding IsTime
packet_time packet lawful = let nsec = lawful.nsec in (lawful.typed.sec, omega arith)

last_small : (time : ℕ × ℕ) (packets : List Packet) → IsTime time → AllByRecursion IsLawfulPacket packets
    → IsTime (last_time_after time packets)
last_small time [] small each = small
last_small time (packet ∷ packets) small each = last_small (packet.sec, packet.nsec) packets (packet_time packet each.0) each.1

first_small : (packets : List Packet) → AllByRecursion IsLawfulPacket packets → IsTime (first_time packets)
unfolding IsTime
first_small [] each = (omega arith, omega arith)
first_small (packet ∷ packets) each = packet_time packet each.0

none_small : IsTime (0, 0)
unfolding IsTime
none_small = (omega arith, omega arith)

times_fit : (shape : RingRequest) (number status : ℕ) (packets : List Packet) → AllByRecursion IsLawfulPacket packets
    → AllFit (time_rows (descriptor_of shape number status packets))
unfolding IsTime
times_fit shape number status packets each =
    let first = first_small packets each in
    let last = last_small (0, 0) packets none_small each in
    (first.0, (first.1, (last.0, (last.1, tt))))

pub record BlockPasses (fits : ℕ → Bool) (shape : RingRequest) (number status : ℕ) (packets : List Packet) (bytes : List ℕ)
    : Type 0 where
  pub tests : block_tests fits shape bytes ≡ None
  pub packets_are : packets_of shape bytes ≡ packets
  pub number_is : number_at 8 24 bytes ≡ number
  pub status_is : number_at 4 8 bytes ≡ status
  pub end_is : number_at 4 20 bytes ≡ first_of shape + needs_of packets

pub block_passes : (fits : ℕ → Bool) (shape : RingRequest) (number status : ℕ) (packets : List Packet) (bytes rest : List ℕ)
    → shape.block_size ≤ 1048576
    → IsLawful shape number status packets → fits (first_of shape + needs_of packets) ≡ true
    → bytes ≡ block_text shape number status packets ++ rest
    → BlockPasses fits shape number status packets bytes
unfolding block_tests packets_of block_text descriptor_text head_tests time_tests
block_passes fits shape number status packets bytes rest sound lawful fit e =
    let first = first_of shape in
    let end = first + needs_of packets in
    let desc = descriptor_of shape number status packets in
    let head_table = head_rows (end_may shape) shape desc in
    let time_table = time_rows desc in
    let private_table = private_rows shape in
    let small = lawful.fits in
    let few = few_packets packets in
    let texts = packets_text packets in
    let whole : bytes ≡ bytes_of head_table ++ (bytes_of time_table ++ (bytes_of private_table ++ (texts ++ rest))) =
    e ∙ simp append_assoc refl in
    let after_head : drop 32 bytes ≡ bytes_of time_table ++ (bytes_of private_table ++ (texts ++ rest)) =
    behind 0 head_table bytes _ whole in
    let after_times : drop 48 bytes ≡ bytes_of private_table ++ (texts ++ rest) = behind 32 time_table bytes _ after_head in
    let status_small = small_status status lawful.retired in
    let head_fit : AllFit head_table =
    (omega arith, (omega arith, (omega arith, (omega arith, (omega arith, (omega arith, (lawful.small, tt))))))) in
    let h = read_bytes 0 head_table bytes _ head_fit whole in
    let t = read_bytes 32 time_table bytes _ (times_fit shape number status packets lawful.each) after_head in
    let private = zeros_passed 0 48 (first - 48) bytes
    (read_bytes 48 private_table bytes (texts ++ rest) (zeros_fit 48 (first - 48)) after_times) in
    let size = length-block_text shape number status packets in
    let cut : take end bytes ≡ block_text shape number status packets =
    ap (take end) e ∙ take_at (block_text shape number status packets) rest end size in
    let area : area_of shape bytes ≡ texts =
    ap (λ (n : ℕ). drop first (take n bytes)) h.1.1.1.1.1.0 ∙ ap (drop first) cut
    ∙ drop_at (descriptor_text shape desc) texts first (length-descriptor shape desc) in
    let passed_text = packets_are_passing first packets lawful.each (omega (arith, small)) in
    let packets_same : packets_in (number_at 4 12 bytes) (area_of shape bytes) ≡ packets =
    rw (h.1.1.1.0, area) passed_text.packets_are in
    let early : first_time packets ≡ (number_at 4 4 (area_of shape bytes), number_at 4 8 (area_of shape bytes)) =
    ap first_time (sym packets_same) ∙ first_time_in (number_at 4 12 bytes) (area_of shape bytes)
    (omega (arith, h.1.1.1.0, lawful.some)) in
    let heads : head_tests fits shape bytes ≡ None =
    pass (number_at 4 0 bytes == 2) _ _ _ (eq-eqb _ _ h.0)
    (pass (number_at 4 4 bytes == 48) _ _ _ (eq-eqb _ _ h.1.0)
    (pass (is_status (number_at 4 8 bytes)) _ _ _ (ap is_status h.1.1.0 ∙ lawful.retired)
    (pass (nat_lt 0 (number_at 4 12 bytes)) _ _ _ (lt-ltb 0 (number_at 4 12 bytes) (omega (arith, h.1.1.1.0, lawful.some)))
    (pass (number_at 4 16 bytes == first) _ _ _ (eq-eqb _ _ h.1.1.1.1.0)
    (pass (fits (number_at 4 20 bytes)) _ _ _ (ap fits h.1.1.1.1.1.0 ∙ fit)
    (pass (nat_lt 0 (number_at 8 24 bytes)) _ _ _
    (lt-ltb 0 (number_at 8 24 bytes) (omega (arith, h.1.1.1.1.1.1.0, lawful.numbered))) refl)))))) in
    let tests : packets_tests (number_at 4 12 bytes) first (area_of shape bytes) ≡ None =
    rw (h.1.1.1.0, area) passed_text.tests in
    let times : time_tests (number_at 4 4 (area_of shape bytes), number_at 4 8 (area_of shape bytes))
    (last_time (packets_in (number_at 4 12 bytes) (area_of shape bytes))) bytes ≡ None =
    rw packets_same
    (pass ((number_at 4 32 bytes == number_at 4 4 (area_of shape bytes))
    && (number_at 4 36 bytes == number_at 4 8 (area_of shape bytes))) _ _ _
    (and_from _ _ (eq-eqb _ _ (t.0 ∙ ap (λ (p : ℕ × ℕ). p.0) early)) (eq-eqb _ _ (t.1.0 ∙ ap (λ (p : ℕ × ℕ). p.1) early)))
    (pass ((number_at 4 40 bytes == (last_time packets).0) && (number_at 4 44 bytes == (last_time packets).1)) _ _ _
    (and_from _ _ (eq-eqb _ _ t.1.1.0) (eq-eqb _ _ t.1.1.1.0)) refl)) in
    record {
      tests = rw (heads, private, tests, times) refl;
      packets_are = packets_same;
      number_is = h.1.1.1.1.1.1.0;
      status_is = h.1.1.0;
      end_is = h.1.1.1.1.1.0;
    }
