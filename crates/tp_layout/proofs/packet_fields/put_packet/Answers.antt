use Rattle.std.proofs.Common.{◌≡◌, ◌+◌, ◌-◌, ◌^◌, ◌≤◌, ◌<◌, ℕ, List, length, replicate, refl, ◌∙◌, ap, subst}
use Rattle.std.proofs.lemmas.List.{length-take-le}
use Rattle.frame_view.specs.Headers.{address_of, protocol_of}
use Rattle.ring_model.specs.Offers.{packet_of}
use Rattle.tp_layout.specs.Packets.{need_of_packet, packet_text}
use Rattle.tp_layout.specs.BlockWrites.{put}
use Rattle.tp_layout.proofs.Bytes.{IsBytes, all_bytes}
use Rattle.tp_layout.proofs.Puts.{packet_put}
use Rattle.tp_layout.proofs.packet_fields.put_packet.Goals as goal

pub returns-clause-written : goal.returns-clause-written
returns-clause-written c =
    let at = c.args.at in
    let o = c.args.offer.now in
    let packet = packet_of c.args.fill o in
    let kept = length-take-le o.snap o.frame.bytes c.requires.sound.captured in
    let need = c.need-need.ensures in
    let fits : at + need_of_packet packet ≤ length c.args.bytes.now = rw kept c.requires.fits in
    let zeros : c.put_u64.new.bytes ≡ put (at + (need_of_packet packet - 8)) (replicate 8 0) c.args.bytes.now =
    rw (kept, c.put_u64.ensures, need) refl in
    let address = c.put_address.ensures.written packet (rw c.as_slice-frame.ensures refl) refl
    (rw c.as_slice-frame.ensures refl) in
    let copied : c.put_bytes.new.bytes ≡ put (at + 82) packet.bytes c.put_zeros-2.new.bytes =
    rw (c.put_bytes.ensures.written, c.split_at.ensures.front, c.as_slice-frame.ensures) refl in
    packet_put at c.need-need.result packet c.args.bytes.now _ _ _ _ _ _ fits zeros c.put_header.ensures.written
    c.put_zeros.ensures address c.put_zeros-2.ensures copied
    ∙ ap (λ (n : ℕ). put at (packet_text n packet) c.args.bytes.now) need

pub returns-clause-typed : goal.returns-clause-typed
returns-clause-typed c =
    let frame = c.args.offer.now.frame.bytes in
    let numbers = c.put_header.ensures.typed in
    let same : c.as_slice-frame.result.now ≡ frame = c.as_slice-frame.ensures in
    record {
      sec = numbers.sec;
      wire = numbers.wire;
      rxhash = numbers.rxhash;
      tci = numbers.tci;
      protocol = subst (λ (xs : List ℕ). protocol_of xs < 2 ^ 16) same c.put_address.ensures.protocol;
      six = refl;
      addr = all_bytes (address_of 6 frame) (subst (λ (xs : List ℕ). IsBytes (address_of 6 xs)) same
          c.put_address.ensures.typed);
    }
