-- How many packets a block that begins with a lawful text has.
use Rattle.std.proofs.Common.{ℕ, ◌*◌, ◌≤◌, List, [], ◌∷◌, length, subst, sym, arith}
use Rattle.std.proofs.Math.Logic.{∥∥₁_elim}
use Rattle.std.proofs.Props.{props}
use Rattle.frame_view.specs.declared.frames.Packet.{Packet}
use Rattle.tp_layout.proofs.Opens.{needs-cons}
use Rattle.tp_layout.proofs.LawfulReads.{tells}
use Rattle.tp_layout.specs.Blocks.{BeginsWith, needs_of}
use Rattle.tp_layout.specs.Layouts.{Taken, taken_in}
use Rattle.tp_layout.specs.BlockWrites.{ShapedBytes}
use Rattle.tp_layout.specs.declared.requests.RingRequest.{RingRequest}
use Rattle.reader_walk.specs.Takers.{IsReadable}

-- each packet takes at least 80 bytes
needs_80 : (packets : List Packet) → 80 * length packets ≤ needs_of packets
needs_80 [] = omega arith
needs_80 (packet ∷ packets) = omega (arith, needs_80 packets, needs-cons packet packets)

few_in_text : (shape : RingRequest) (number status : ℕ) (packets : List Packet) (bytes : List ℕ) → shape.block_size ≤ 1048576
    → BeginsWith shape number status packets bytes → length (taken_in shape bytes).packets ≤ 16383
few_in_text shape number status packets bytes small begins =
    let within = begins.lawful.fits in
    let needs = needs_80 packets in
    let many : length packets ≤ 16383 = omega arith in
    subst (λ (block : Taken). length block.packets ≤ 16383) (sym (tells shape number status packets bytes small begins)) many

pub few_packets : (shape : RingRequest) (block : ShapedBytes) → block.shape.block_size ≤ 1048576 → IsReadable shape block
    → length (taken_in shape block.bytes).packets ≤ 16383
few_packets shape block sound readable =
    let text = readable.text in
    subst (λ (s : RingRequest). length (taken_in s block.bytes).packets ≤ 16383) readable.shape_is
    (∥∥₁_elim text.2 (search props) (λ found. few_in_text block.shape text.0 text.1 found.0 block.bytes sound found.1))
