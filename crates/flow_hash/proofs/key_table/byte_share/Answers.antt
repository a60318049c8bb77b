use Rattle.std.proofs.Common.{arith, refl}
use Rattle.flow_hash.proofs.Windows.{window_of}
use Rattle.flow_hash.proofs.BitLists.{toeplitz_of-bit}
use Rattle.flow_hash.specs.Toeplitz.{toeplitz_of, bits_of}
use Rattle.flow_hash.proofs.key_table.byte_share.Goals as goal

pub loop-bit-init : goal.loop-bit-init
unfolding toeplitz_of
loop-bit-init c = refl

pub loop-bit-preserved : goal.loop-bit-preserved
loop-bit-preserved c =
    let step = toeplitz_of-bit (bits_of c.args.key.now) c.args.byte c.loop-bit.bit (omega arith) in
    let bits = window_of c.args.key.now c.loop-bit.bit c.requires (omega arith) in
    cc
