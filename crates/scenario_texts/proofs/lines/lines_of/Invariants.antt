use Rattle.std.proofs.Common.{◌≡◌, ◌++◌, ◌==◌, length, map}
use Rattle.std.specs.List.{slice_split}
use denote.Text.{Utf8}
use denote.Shadow.{shadow}
use Rattle.scenario_texts.proofs.lines.lines_of.Given as goal

abbrev pub invariant-loop-front : goal.invariant-loop-front
invariant-loop-front l = shadow (Utf8 l.rest) × (slice_split (λ b. b == 10) l.text
    ≡ map (λ x. x.now) l.lines.items ++ slice_split (λ b. b == 10) l.rest)

abbrev pub decreases-loop-front : goal.decreases-loop-front
decreases-loop-front l = length l.rest
