use Rattle.std.proofs.Common.{◌≡◌, ◌+◌, ◌/◌, ◌%◌, ◌∷◌, [], ℕ, List, refl, sym, ap, arith}
use Rattle.std.specs.Prelude.{slice_index}
use Rattle.byteorder.specs.Endian.{little_bytes, big_bytes}
use Rattle.tp_layout.specs.Packets.{address_rows}
use Rattle.tp_layout.specs.Rows.{bytes_of}
use Rattle.tp_layout.proofs.Bytes.{add-zero, one_byte, six_bytes}
use Rattle.tp_layout.proofs.Puts.{all, nothing, piece}
use Rattle.tp_layout.proofs.link_addresses.put_link_address.Goals as goal

pub returns-clause-written : goal.returns-clause-written
unfolding bytes_of
returns-clause-written c packet protocol pkttype addr =
    let at = c.args.at in
    let from = c.args.from.now in
    let fits = c.requires.fits in
    let typed = c.put_bytes-2.ensures.typed in
    let small : (i : ℕ) → slice_index from i % 256 ≡ slice_index from i = λ i. one_byte (slice_index from i) (typed i) in
    let kind : packet.pkttype % 256 ≡ packet.pkttype =
    rw pkttype (one_byte c.args.pkttype (omega (arith, c.ranges.pkttype.fits))) in
    let p0 = nothing at c.args.bytes.now (omega (arith, fits)) in
    let p1 = piece p0 at (little_bytes 2 17) (sym (add-zero at)) (omega (arith, fits)) c.put_u16.ensures in
    let p2 = piece p1 (at + 2) (big_bytes 2 c.args.protocol) refl (omega (arith, fits)) c.put_network_u16.ensures in
    let p3 = piece p2 (at + 4) (little_bytes 4 1) refl (omega (arith, fits)) c.put_u32.ensures.written in
    let p4 = piece p3 (at + 8) (little_bytes 2 1) refl (omega (arith, fits)) c.put_u16-2.ensures in
    let p5 = piece p4 (at + 10) (c.args.pkttype ∷ 6 ∷ []) refl (omega (arith, fits)) c.put_bytes.ensures.written in
    let p6 = piece p5 (at + 12) from refl (omega (arith, fits, c.requires.six)) c.put_bytes-2.ensures.written in
    let n = c.args.protocol in
    let low : n % 256 % 256 ≡ n % 256 = one_byte (n % 256) (omega arith) in
    all p6 (bytes_of (address_rows packet))
    (rw (kind, protocol, pkttype, addr, small 0, small 1, small 2, small 3, small 4, small 5, low)
    (ap (λ (xs : List ℕ). 17 ∷ 0 ∷ n / 256 % 256 ∷ n % 256 ∷ 1 ∷ 0 ∷ 0 ∷ 0 ∷ 1 ∷ 0 ∷ c.args.pkttype ∷ 6 ∷ xs)
    (six_bytes from c.requires.six)))
