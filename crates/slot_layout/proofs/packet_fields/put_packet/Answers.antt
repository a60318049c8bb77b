use Rattle.std.proofs.Common.{◌≡◌, ◌+◌, ◌^◌, ◌≤◌, ◌<◌, ℕ, List, length, refl, ap, subst, ◌∙◌}
use Rattle.std.proofs.lemmas.List.{length-take-le}
use Rattle.frame_view.specs.Headers.{address_of, link_of}
use Rattle.frame_view.specs.declared.headers.Link.{Link}
use Rattle.tp_layout.specs.BlockWrites.{put}
use Rattle.tp_layout.proofs.Bytes.{IsBytes, all_bytes}
use Rattle.slot_layout.specs.SlotDump.{slot_packet_of}
use Rattle.slot_layout.proofs.SlotPuts.{slot_put}
use Rattle.slot_layout.proofs.packet_fields.put_packet.Goals as goal

pub returns-clause-written : goal.returns-clause-written
returns-clause-written c =
    let o = c.args.offer.now in
    let packet = slot_packet_of o in
    let kept = length-take-le o.snap o.frame.bytes c.requires.sound.captured in
    let link : c.link_header-link.result ≡ link_of o.frame.bytes = c.link_header-link.ensures ∙ ap link_of c.as_slice.ensures in
    let fits : 66 + length packet.bytes ≤ length c.args.bytes.now = rw kept c.requires.fits in
    let kept_data : c.put_bytes.new.bytes ≡ put 66 packet.bytes c.put_zeros-2.new.bytes =
    c.put_bytes.ensures.written ∙ ap (λ (xs : List ℕ). put 66 xs c.put_zeros-2.new.bytes) c.captured.ensures in
    let address = c.put_link_address.ensures.written packet (rw link refl) refl (rw link refl) in
    slot_put c.args.status packet c.args.bytes.now _ _ _ _ _ fits c.put_header.ensures.written c.put_zeros.ensures address
    c.put_zeros-2.ensures kept_data

pub returns-clause-typed : goal.returns-clause-typed
returns-clause-typed c =
    let frame = c.args.offer.now.frame.bytes in
    let link : c.link_header-link.result ≡ link_of frame = c.link_header-link.ensures ∙ ap link_of c.as_slice.ensures in
    let numbers = c.put_header.ensures.typed in
    let small : IsBytes (address_of 6 frame) = subst (λ (l : Link). IsBytes l.from) link c.put_link_address.ensures.typed in
    record {
      sec = numbers.sec;
      wire = numbers.wire;
      rxhash = numbers.rxhash;
      tci = numbers.tci;
      protocol = subst (λ (l : Link). l.protocol < 2 ^ 16) link c.put_link_address.ensures.protocol;
      six = refl;
      addr = all_bytes (address_of 6 frame) small;
    }
