use Rattle.std.proofs.Common.{◌≡◌, ℕ, ◌+◌, ◌-◌, ◌*◌, ◌/◌, ap, ◌∙◌, arith}
use Rattle.ring_sizes.proofs.Counts.{steps_fit}
use Rattle.ring_sizes.proofs.paces.Timing.steps_before.Goals as goal

pub overflow_cast-result : goal.overflow_cast-result
overflow_cast-result c =
    let few = steps_fit c.args.self.now c.args.at c.requires.sound c.requires.early in
    let since : c.from.result ≡ c.args.at - c.args.self.now.start =
    omega (arith, c.from.ensures, c.saturating_sub-since.ensures) in
    let is = ap (λ (n : ℕ). (n * c.from-2.result + c.from-3.result) / c.from-4.result) since
    ∙ ap (λ (n : ℕ). ((c.args.at - c.args.self.now.start) * n + c.from-3.result) / c.from-4.result) c.from-2.ensures
    ∙ ap (λ (n : ℕ). ((c.args.at - c.args.self.now.start) * c.args.self.now.parts + n) / c.from-4.result) c.from-3.ensures
    ∙ ap (λ (n : ℕ). ((c.args.at - c.args.self.now.start) * c.args.self.now.parts + (c.args.self.now.span - 1)) / n)
    c.from-4.ensures in
    omega (arith, few, is)
