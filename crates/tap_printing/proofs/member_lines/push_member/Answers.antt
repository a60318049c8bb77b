-- The lines are those of the statistics as the ring has them.
use Rattle.std.proofs.Common.{◌++◌, ap, append_assoc, ◌∙◌, ℕ, List}
use Rattle.std.specs.List.{flat_map}
use Rattle.ring_model.specs.Ring.{Size}
use Rattle.ring_model.specs.declared.notes.Stats.{Stats}
use Rattle.tap_printing.specs.Lines.{count_line, member_line, member_text}
use Rattle.tap_printing.specs.Statistics.{seen_by, totals_by}
use Rattle.tap_printing.proofs.SeenStatistics.{counts_seen, totals_seen}
use Rattle.tap_printing.proofs.member_lines.push_member.Goals as goal

pub returns-clause-stats : goal.returns-clause-stats
returns-clause-stats c = λ room many.
    let size : Size = record { room = room; blocks = many; tov = c.args.tov } in
    c.seen-totals.ensures
    ∙ ap (seen_by c.args.kind) (c.in_ok-tally.ensures.totals room many)
    ∙ totals_seen c.args.kind size c.args.report.now.notes

pub returns-clause-lines : goal.returns-clause-lines
unfolding member_text
returns-clause-lines c = λ room many.
    let size : Size = record { room = room; blocks = many; tov = c.args.tov } in
    let report = c.args.report.now in
    let before : List ℕ = c.args.text.now.items in
    let totals = totals_by c.args.kind size report.notes in
    let own : List ℕ = member_line c.args.member totals report.blocks in
    let each : Stats → List ℕ = λ stats. count_line c.args.member (seen_by c.args.kind stats) in
    c.in_ok-push_counts.ensures
    ∙ ap (λ (lines : List ℕ). lines ++ flat_map each c.as_slice.result.now)
    (c.in_ok-push_line.ensures
    ∙ ap (λ (line : List ℕ). before ++ line) (c.in_ok-member_line.ensures
    ∙ ap (λ (stats : Stats). member_line c.args.member stats report.blocks)
    (returns-clause-stats c room many)))
    ∙ ap (λ (lines : List ℕ). (before ++ own) ++ lines)
    (ap (flat_map each) (c.as_slice.ensures ∙ c.in_ok-tally.ensures.counts room many)
    ∙ counts_seen c.args.kind size report.notes (count_line c.args.member))
    ∙ append_assoc before own _
