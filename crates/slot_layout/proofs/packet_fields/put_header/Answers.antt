use Rattle.std.proofs.Common.{refl, arith}
use Rattle.std.proofs.lemmas.List.{length-take-le}
use Rattle.byteorder.specs.Endian.{little_bytes}
use Rattle.slot_layout.specs.SlotDump.{slot_packet_of}
use Rattle.slot_layout.specs.SlotTexts.{slot_header_rows}
use Rattle.tp_layout.specs.Rows.{bytes_of}
use Rattle.tp_layout.proofs.Puts.{all, nothing, piece}
use Rattle.slot_layout.proofs.packet_fields.put_header.Goals as goal

pub returns-clause-written : goal.returns-clause-written
unfolding bytes_of
returns-clause-written c =
    let o = c.args.offer.now in
    let fits = c.requires.fits in
    let kept = length-take-le o.snap o.frame.bytes c.requires.snap in
    let p0 = nothing 0 c.args.bytes.now (omega (arith, fits)) in
    let p1 = piece p0 0 (little_bytes 4 c.args.status) refl (omega (arith, fits)) c.put_u32.ensures.written in
    let p2 = piece p1 4 (little_bytes 4 o.frame.wire) refl (omega (arith, fits)) c.put_u32-2.ensures.written in
    let p3 = piece p2 8 (little_bytes 4 o.snap) refl (omega (arith, fits)) c.put_u32-3.ensures.written in
    let p4 = piece p3 12 (little_bytes 2 66) refl (omega (arith, fits)) c.put_u16.ensures in
    let p5 = piece p4 14 (little_bytes 2 80) refl (omega (arith, fits)) c.put_u16-2.ensures in
    let p6 = piece p5 16 (little_bytes 4 o.frame.sec) refl (omega (arith, fits)) c.put_u32-4.ensures.written in
    let p7 = piece p6 20 (little_bytes 4 o.frame.nsec) refl (omega (arith, fits)) c.put_u32-5.ensures.written in
    let p8 = piece p7 24 (little_bytes 2 (c.vlan_fields-tci.result.0)) refl (omega (arith, fits)) c.put_u16-3.ensures in
    let p9 = piece p8 26 (little_bytes 2 (c.vlan_fields-tci.result.1)) refl (omega (arith, fits)) c.put_u16-4.ensures in
    all p9 (bytes_of (slot_header_rows c.args.status (slot_packet_of o))) (rw (c.vlan_fields-tci.ensures.fields, kept) refl)
