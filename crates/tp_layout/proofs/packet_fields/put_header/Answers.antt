use Rattle.std.proofs.Common.{◌+◌, refl, sym, arith}
use Rattle.std.proofs.lemmas.List.{length-take-le}
use Rattle.byteorder.specs.Endian.{little_bytes}
use Rattle.ring_model.specs.Offers.{packet_of}
use Rattle.tp_layout.specs.Packets.{header_rows}
use Rattle.tp_layout.specs.Rows.{bytes_of}
use Rattle.tp_layout.proofs.Bytes.{add-zero}
use Rattle.tp_layout.proofs.Puts.{all, nothing, piece}
use Rattle.tp_layout.proofs.packet_fields.put_header.Goals as goal

pub returns-clause-written : goal.returns-clause-written
unfolding bytes_of
returns-clause-written c =
    let at = c.args.at in
    let o = c.args.offer.now in
    let fits = c.requires.fits in
    let kept = length-take-le o.snap o.frame.bytes c.requires.snap in
    let p0 = nothing at c.args.bytes.now (omega (arith, fits)) in
    let p1 = piece p0 at (little_bytes 4 (c.args.next)) (sym (add-zero at)) (omega (arith, fits)) c.put_u32.ensures.written in
    let p2 = piece p1 (at + 4) (little_bytes 4 (o.frame.sec)) refl (omega (arith, fits)) c.put_u32-2.ensures.written in
    let p3 = piece p2 (at + 8) (little_bytes 4 (o.frame.nsec)) refl (omega (arith, fits)) c.put_u32-3.ensures.written in
    let p4 = piece p3 (at + 12) (little_bytes 4 (o.snap)) refl (omega (arith, fits)) c.put_u32-4.ensures.written in
    let p5 = piece p4 (at + 16) (little_bytes 4 (o.frame.wire)) refl (omega (arith, fits)) c.put_u32-5.ensures.written in
    let p6 = piece p5 (at + 20) (little_bytes 4 (c.vlan_fields-status.result.0)) refl (omega (arith, fits))
    c.put_u32-6.ensures.written in
    let p7 = piece p6 (at + 24) (little_bytes 2 (82)) refl (omega (arith, fits)) c.put_u16.ensures in
    let p8 = piece p7 (at + 26) (little_bytes 2 (96)) refl (omega (arith, fits)) c.put_u16-2.ensures in
    let p9 = piece p8 (at + 28) (little_bytes 4 (c.rxhash.result)) refl (omega (arith, fits)) c.put_u32-7.ensures.written in
    let p10 = piece p9 (at + 32) (little_bytes 4 (c.vlan_fields-status.result.1)) refl (omega (arith, fits))
    c.put_u32-8.ensures.written in
    let p11 = piece p10 (at + 36) (little_bytes 2 (c.vlan_fields-status.result.2)) refl (omega (arith, fits))
    c.put_u16-3.ensures in
    let p12 = piece p11 (at + 38) (little_bytes 2 (0)) refl (omega (arith, fits)) c.put_u16-4.ensures in
    all p12 (bytes_of (header_rows c.args.next (packet_of c.args.fill o)))
    (rw (c.vlan_fields-status.ensures.fields, c.rxhash.ensures, kept) refl)

pub returns-clause-typed : goal.returns-clause-typed
returns-clause-typed c = record {
  sec = c.put_u32-2.ensures.typed;
  wire = c.put_u32-5.ensures.typed;
  rxhash = rw (sym c.rxhash.ensures) c.put_u32-7.ensures.typed;
  tci = c.vlan_fields-status.ensures.typed;
}
