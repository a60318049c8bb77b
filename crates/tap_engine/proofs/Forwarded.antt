-- What members sent is short enough for an output file.
use Rattle.std.proofs.Common.{◌≡◌, ℕ, ◌*◌, ◌/◌, ◌%◌, ◌<◌, ◌≤◌, Bool, true, false, List, length, get_or}
use Rattle.std.proofs.Common.{Option, None, Some, refl, sym, subst, arith}
use Rattle.std.specs.Prelude.{All, IfSome, map, nat_le, nat_lt, not, ◌==◌, ◌||◌, ◌&&◌}
use Rattle.std.specs.Prelude.{if◌then◌else◌}
use Rattle.std.specs.List.{filter}
use Rattle.std.proofs.Math.Nat.{le-mul_of_pos_right, mul-div-le}
use Rattle.std.proofs.lemmas.Bool.{eqb-false, leb-true, ltb-false}
use Rattle.std.proofs.lemmas.List.Elements.{All-map, All-weaker, filter_passes}
use Rattle.frame_view.specs.Vlan.{frame_of}
use Rattle.frame_view.specs.declared.frames.Packet.{Packet}
use Rattle.setup_text.specs.Sound.{IsSetup}
use Rattle.run_reports.specs.declared.reports.Forwards.{Forwards}
use Rattle.run_reports.specs.declared.reports.MemberReport.{MemberReport}
use Rattle.run_reports.specs.declared.reports.RunReport.{RunReport}
use Rattle.setup_text.specs.declared.setups.Setup.{Setup}
use Rattle.tap_forward.specs.Bridges.{sent_for}
use Rattle.tap_forward.specs.Forwards.{as_sent, is_sendable, sent_of}
use Rattle.tap_saving.specs.Files.{CanBeOutput}
use Rattle.tp_layout.specs.Requests.{frames_in, receive_fault}
use Rattle.tp_layout.specs.declared.error.RequestError.TheVariants.{BlockCount, BlockSize, FrameAlign}
use Rattle.tp_layout.specs.declared.error.RequestError.TheVariants.{FrameCount, FrameSmall, Private}
use Rattle.tp_layout.specs.declared.requests.RingRequest.{RingRequest}
use Rattle.tx_ring.specs.Rings.{room_of}
use Rattle.tap_engine.specs.Findings.{IsSentBy}

-- ---- a frame fits into a block

passed : {X : Type 0} (test : Bool) (fault : X) (rest : Option X)
    → (if test then Some fault else rest) ≡ None → (test ≡ false) × (rest ≡ None)
passed true fault rest none = cc
passed false fault rest none = (refl, none)

neither : (a b : Bool) → a || b ≡ false → (a ≡ false) × (b ≡ false)
neither true b none = cc
neither false b none = (refl, none)

frame_fits : (size frame : ℕ) → 0 < size / frame → frame ≤ size
frame_fits size frame some =
    let more = le-mul_of_pos_right {m = size / frame} frame some in
    let most = mul-div-le size frame in
    omega (arith, more, most)

frame_small : (request : RingRequest) → receive_fault request ≡ None
    → request.frame_size ≤ 1048576
unfolding receive_fault
frame_small r none =
    let t1 = passed ((r.block_size == 0) || not (r.block_size % 4096 == 0)
    || nat_lt 1048576 r.block_size) BlockSize _ none in
    let t2 = passed (nat_lt r.block_nr 2 || nat_lt 256 r.block_nr
    || nat_lt 67108864 (r.block_size * r.block_nr)) BlockCount _ t1.1 in
    let t3 = passed (nat_lt 1024 r.sizeof_priv) Private _ t2.1 in
    let t4 = passed (nat_lt r.frame_size 68) FrameSmall _ t3.1 in
    let t5 = passed (not (r.frame_size % 16 == 0)) FrameAlign _ t4.1 in
    let t6 = passed ((r.block_size / r.frame_size == 0) || not (frames_in r == r.frame_nr))
    FrameCount _ t5.1 in
    let size = ltb-false 1048576 r.block_size (neither _ (nat_lt 1048576 r.block_size) t1.0).1 in
    let some = eqb-false (r.block_size / r.frame_size) 0
    (neither (r.block_size / r.frame_size == 0) (not (frames_in r == r.frame_nr)) t6.0).0 in
    let fits = frame_fits r.block_size r.frame_size (omega (arith, some)) in
    omega (arith, size, fits)

-- ---- what is sent fits into a slot

both : (a b : Bool) → (a && b) ≡ true → (a ≡ true) × (b ≡ true)
both true b h = (refl, h)
both false b h = cc

sendable_fits : (room : ℕ) (packet : Packet) → is_sendable room packet ≡ true
    → length (frame_of packet) ≤ room
sendable_fits room packet is =
    leb-true (length (frame_of packet)) room
    (both (nat_le 14 (length (frame_of packet))) (nat_le (length (frame_of packet)) room) is).1

sent_fits : (room : ℕ) (packets : List Packet) → room ≤ 4294967291
    → CanBeOutput (sent_of room packets)
unfolding sent_of
sent_fits room packets small =
    All-map (λ (packet : Packet). length packet.bytes ≤ 4294967291) as_sent
    (filter (is_sendable room) packets)
    (All-weaker (λ packet. is_sendable room packet ≡ true)
    (λ packet. length (as_sent packet).bytes ≤ 4294967291)
    (λ packet is. let fits = sendable_fits room packet is in omega (arith, fits, small))
    (filter (is_sendable room) packets) (filter_passes (is_sendable room) packets))

-- so is what each member sent
members_fit : (room : ℕ) (members : List MemberReport) → room ≤ 4294967291
    → All CanBeOutput (map (sent_for room) members)
members_fit room members small =
    All-map CanBeOutput (sent_for room) members
    (λ k member within. sent_fits room (get_or members k member).walked small)

room_small : (setup : Setup) → IsSetup setup → room_of setup.shape ≤ 4294967291
room_small setup sound =
    let small = subst (λ (r : RingRequest). r.frame_size ≤ 1048576) (sym sound.shape)
    (frame_small setup.request sound.ring) in
    omega (arith, small)

pub sends_short : (sent : Bool) (setup : Setup) (report : RunReport) (forwards : Option Forwards)
    → IsSetup setup → IsSentBy sent setup report forwards
    → IfSome forwards (λ forwards. All CanBeOutput forwards.sent)
sends_short true setup report None sound h = absurd h
sends_short true setup report (Some forwards) sound h =
    subst (λ (sent : List (List Packet)). All CanBeOutput sent) (sym h.sent)
    (members_fit (room_of setup.shape) report.members (room_small setup sound))
sends_short false setup report None sound h = tt
sends_short false setup report (Some forwards) sound h = absurd h
