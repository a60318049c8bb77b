use Rattle.std.proofs.Common.{◌≡◌, ◌++◌, ◌≤◌}
use Rattle.std.specs.Vec.{vec_capacity}
use Rattle.std.specs.Vec.Iter.{into_iter_items}
use Rattle.ring_words.specs.PlainRings.{marks_of}
use Rattle.ring_words.proofs.closing_ring.marks_of.Given as goal

-- the words of the places so far and of those that are left are the words of all places
abbrev pub invariant-loop-place : goal.invariant-loop-place
invariant-loop-place g l =
    ((goal.iterator-loop-place g).can_next l.place-iterator)
    × ((goal.iterator-loop-place g).is_finite l.place-iterator)
    × (l.marks.items ++ marks_of (into_iter_items l.place-iterator) ≡ marks_of (into_iter_items l.initial.place-iterator))
    × (l.places ≤ vec_capacity l.marks)
