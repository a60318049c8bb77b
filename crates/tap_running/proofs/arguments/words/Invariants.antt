use Rattle.std.proofs.Common.{◌≡◌, ◌≤◌, ◌+◌, Some, length, map, All, IsUtf8}
use Rattle.tap_running.proofs.arguments.words.Given as goal

-- each answer so far is a word
abbrev pub invariant-loop-index : goal.invariant-loop-index
invariant-loop-index g l =
    All IsUtf8 l.words.items × All (λ word. length word ≤ 33554432) l.words.items
    × (l.told.items ≡ map Some l.words.items)
    × (l.index ≡ length l.words.items + 1)
