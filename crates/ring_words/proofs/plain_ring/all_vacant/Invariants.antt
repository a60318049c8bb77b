use Rattle.std.proofs.Common.{◌≡◌, ◌+◌, ◌≤◌, ◌++◌, length, map}
use Rattle.std.specs.Vec.Iter.{into_iter_items}
use Rattle.std.specs.VecDeque.{deque_capacity, deque_len}
use Rattle.ring_words.specs.declared.plain_ring.Vacant.{Vacant}
use Rattle.ring_words.proofs.plain_ring.all_vacant.Given as goal

-- what was taken and what is left of the blocks are all of them, and there is room for what is left
abbrev pub invariant-loop-block : goal.invariant-loop-block
invariant-loop-block g l =
    let free : g.row.B.Denot → Vacant g.row.B.Denot = λ block. record { block = block; mark = 0 } in
    ((goal.iterator-loop-block g).can_next l.block-iterator)
    × ((goal.iterator-loop-block g).is_finite l.block-iterator)
    × (l.vacant.items ++ map free (into_iter_items l.block-iterator) ≡ map free (into_iter_items l.initial.block-iterator))
    × (length (into_iter_items l.block-iterator) + deque_len l.vacant ≤ deque_capacity l.vacant)
