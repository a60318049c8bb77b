use Rattle.pcapng_blocks.proofs.Names.{◌≡◌, ◌+◌, ◌*◌, ◌≤◌, length, split_from, spot_of, Extends}
use Rattle.pcapng_blocks.proofs.block_reader.BlockReader.split_blocks.Given as goal

-- the frames so far, and those of what is left, are all
abbrev pub invariant-loop-error : goal.invariant-loop-error
invariant-loop-error l = record {
  splits : split_from l.self.cpu (spot_of l.cursor l.interfaces.items) l.into l.left
      ≡ split_from l.self.cpu (spot_of l.fn.cursor l.fn.interfaces.items) l.fn.into l.bytes;
  first : l.cursor.first ≤ length l.interfaces.items;
  count : 16 * l.cursor.index ≤ l.cursor.stop;
  bound : l.cursor.stop + length l.left ≤ 33554432;
  held : Extends l.fn.interfaces.items l.interfaces.items;
  appended : Extends l.fn.into l.into;
}

abbrev pub decreases-loop-error : goal.decreases-loop-error
decreases-loop-error l = length l.left
