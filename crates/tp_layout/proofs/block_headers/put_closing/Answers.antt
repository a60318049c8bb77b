use Rattle.std.proofs.Common.{◌++◌, refl, arith}
use Rattle.byteorder.specs.Endian.{little_bytes}
use Rattle.tp_layout.specs.BlockWrites.{closed}
use Rattle.tp_layout.proofs.Puts.{all, nothing, piece}
use Rattle.tp_layout.proofs.block_headers.put_closing.Goals as goal

pub returns : goal.returns
unfolding closed
returns c =
    let o = c.args.closing.now in
    let fits = c.requires.fits in
    let order = c.requires.behind in
    let p0 = nothing 8 c.args.bytes.now (omega (arith, fits, order)) in
    let p1 = piece p0 8 (little_bytes 4 o.status) refl (omega (arith, fits, order)) c.put_u32.ensures.written in
    let p2 = piece p1 12 (little_bytes 4 o.packets) refl (omega (arith, fits, order)) c.put_u32-2.ensures.written in
    let front = all p2 (little_bytes 4 o.status ++ little_bytes 4 o.packets) refl in
    rw (c.put_u32-4.ensures.written, c.put_times.ensures, c.put_u32-3.ensures.written, front) refl
