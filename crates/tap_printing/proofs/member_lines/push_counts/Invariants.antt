-- The lines so far.
use Rattle.std.proofs.Common.{◌≡◌, ◌++◌, take}
use Rattle.std.specs.List.{flat_map}
use Rattle.tap_printing.specs.Lines.{count_line}
use Rattle.tap_printing.specs.Statistics.{seen_by}
use Rattle.tap_printing.proofs.member_lines.push_counts.Given as goal

abbrev pub invariant-loop-stats : goal.invariant-loop-stats
invariant-loop-stats l = l.text.items ≡ l.initial.text.items
    ++ flat_map (λ stats. count_line l.member (seen_by l.kind stats)) (take l.stats-index l.counts)
