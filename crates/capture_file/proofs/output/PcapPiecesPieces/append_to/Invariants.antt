use Rattle.std.proofs.Common.{◌≡◌, ◌<◌, ◌≤◌, ◌++◌, length, All}
use Rattle.std.specs.List.{flat_map}
use Rattle.std.specs.Vec.{vec_capacity}
use Rattle.capture_file.specs.Output.{record_text}
use Rattle.capture_file.proofs.output.PcapPiecesPieces.append_to.Given as goal

-- what was appended and what is left are all bytes; if a record isn't whole the buffer is full
abbrev pub invariant-loop-buffer : goal.invariant-loop-buffer
invariant-loop-buffer l =
    (l.buffer.items ++ (l.rest ++ flat_map record_text l.packets) ≡ l.fn.buffer.items ++ l.fn.self)
    × (0 < length l.rest → vec_capacity l.fn.buffer ≤ length l.buffer.items)
    × (length l.buffer.items ≤ vec_capacity l.fn.buffer)
    × (vec_capacity l.fn.buffer ≤ vec_capacity l.buffer)
    × All (λ packet. length packet.bytes ≤ 4294967291) l.packets

abbrev pub decreases-loop-buffer : goal.decreases-loop-buffer
decreases-loop-buffer l = length l.packets
