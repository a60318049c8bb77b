use Rattle.std.proofs.Common.{refl, arith}
use Rattle.byteorder.specs.Endian.{little_bytes}
use Rattle.tp_layout.specs.BlockWrites.{closing_times}
use Rattle.tp_layout.proofs.Puts.{all, nothing, piece}
use Rattle.tp_layout.proofs.block_headers.put_times.Goals as goal

pub returns : goal.returns
unfolding closing_times
returns c =
    let o = c.args.closing.now in
    let fits = c.requires in
    let p0 = nothing 32 c.args.bytes.now (omega (arith, fits)) in
    let p1 = piece p0 32 (little_bytes 4 o.first_sec) refl (omega (arith, fits)) c.put_u32.ensures.written in
    let p2 = piece p1 36 (little_bytes 4 o.first_nsec) refl (omega (arith, fits)) c.put_u32-2.ensures.written in
    let p3 = piece p2 40 (little_bytes 4 o.last_sec) refl (omega (arith, fits)) c.put_u32-3.ensures.written in
    let p4 = piece p3 44 (little_bytes 4 o.last_nsec) refl (omega (arith, fits)) c.put_u32-4.ensures.written in
    all p4 (closing_times o) refl
