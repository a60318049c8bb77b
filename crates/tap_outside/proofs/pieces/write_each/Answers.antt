use Rattle.std.proofs.Common.{rules, List, ℕ, ◌++◌, ap, ◌∙◌, append_assoc}
use Rattle.tap_outside.proofs.Fronts.{Appends-then}
use Rattle.tap_outside.proofs.pieces.write_each.Goals as goal

pub loop-to-preserved : goal.loop-to-preserved
loop-to-preserved g c =
    let left = g.P.Pieces.left in
    let written = c.loop-to.invariant.0 in
    let piece = c.as_slice.result.now in (
      (
        written.0 ++ piece,
        Appends-then _ _ _ written.0 piece written.1 c.in_ok-write_whole.ensures.ok,
        append_assoc written.0 piece (left c.append_to.new.self)
            ∙ ap (λ (bytes : List ℕ). written.0 ++ bytes)
            (ap (λ (bytes : List ℕ). bytes ++ left c.append_to.new.self) c.as_slice.ensures.value
            ∙ c.append_to.ensures.moved
            ∙ ap (λ (bytes : List ℕ). bytes ++ left c.loop-to.pieces) c.loop-to.invariant.1)
            ∙ written.2,
      ),
      c.clear-in-loop-to.ensures.items,
      search rules,
    )
