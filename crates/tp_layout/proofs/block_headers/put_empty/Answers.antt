use Rattle.std.proofs.Common.{◌≡◌, ◌+◌, ◌-◌, ◌≤◌, ◌++◌, ℕ, replicate, refl, sym, ap, ◌∙◌, arith}
use Rattle.std.proofs.lemmas.List.{length-replicate, replicate-append-replicate}
use Rattle.byteorder.specs.Endian.{little_bytes}
use Rattle.tp_layout.specs.Rows.{bytes_of}
use Rattle.tp_layout.specs.Blocks.{descriptor_text}
use Rattle.tp_layout.specs.BlockWrites.{open_header}
use Rattle.tp_layout.proofs.Puts.{all, nothing, piece, bytes_of-zeros}
use Rattle.tp_layout.proofs.block_headers.put_empty.Goals as goal

zeros_split : (first : ℕ) → 48 ≤ first → replicate {A = ℕ} (first - 32) 0 ≡ replicate 16 0 ++ replicate (first - 48) 0
zeros_split first order =
    let n : first - 32 ≡ 16 + (first - 48) = omega arith in
    ap (λ (k : ℕ). replicate {A = ℕ} k 0) n ∙ sym (replicate-append-replicate 16 (first - 48) 0)

pub returns : goal.returns
unfolding open_header descriptor_text bytes_of
returns c shape e =
    let first = c.args.first in
    let fits = c.requires.fits in
    let order = c.requires.order in
    let p0 = nothing 0 c.args.bytes.now (omega (arith, fits, order)) in
    let p1 = piece p0 0 (little_bytes 4 2) refl (omega (arith, fits, order)) c.put_u32.ensures.written in
    let p2 = piece p1 4 (little_bytes 4 48) refl (omega (arith, fits, order)) c.put_u32-2.ensures.written in
    let p3 = piece p2 8 (little_bytes 4 0) refl (omega (arith, fits, order)) c.put_u32-3.ensures.written in
    let p4 = piece p3 12 (little_bytes 4 0) refl (omega (arith, fits, order)) c.put_u32-4.ensures.written in
    let p5 = piece p4 16 (little_bytes 4 first) refl (omega (arith, fits, order)) c.put_u32-5.ensures.written in
    let p6 = piece p5 20 (little_bytes 4 first) refl (omega (arith, fits, order)) c.put_u32-6.ensures.written in
    let p7 = piece p6 24 (little_bytes 8 c.args.number) refl (omega (arith, fits, order)) c.put_u64.ensures in
    let p8 = piece p7 32 (replicate (first - 32) 0) refl (omega (arith, fits, order, length-replicate {A = ℕ} (first - 32) 0))
    c.put_zeros.ensures in
    all p8 (open_header shape c.args.number) (rw (bytes_of-zeros, sym e, zeros_split first order) refl)
