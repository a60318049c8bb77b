use Rattle.std.proofs.Common.{ℕ, ◌≡◌, ◌+◌, ◌-◌, ◌*◌, ◌/◌, ◌%◌, ap, ◌∙◌, arith}
use Rattle.std.proofs.Math.Nat.{div-le_self}
use Rattle.std.proofs.lemmas.Nat.Gcd.{le_of_dvd}
use Rattle.ring_sizes.specs.declared.paces.Timing.{Timing}
use Rattle.ring_sizes.proofs.Leeways.{no_step_passed, place_of}
use Rattle.ring_sizes.proofs.paces.Timing.leeway_to_steps.Goals as goal

pub overflow_cast-result : goal.overflow_cast-result
overflow_cast-result c =
    let shift = c.from.result * c.from-2.result + c.from-3.result in
    let few = div-le_self (c.args.unit - 1 - shift * c.from-parts.result % c.args.unit) c.from-parts.result in
    let most = le_of_dvd c.requires.sound.span c.requires.unit.1.1 in
    omega (arith, few, most, c.requires.sound.brief)

pub returns : goal.returns
returns c = λ phase more early.
    let pace : Timing = c.args.self.now in
    let place : (c.from.result * c.from-2.result + c.from-3.result) * c.from-parts.result ≡ place_of pace pace.phase =
    ap (λ (n : ℕ). (n * c.from-2.result + c.from-3.result) * c.from-parts.result) c.from.ensures
    ∙ ap (λ (n : ℕ). (pace.phase * n + c.from-3.result) * c.from-parts.result) c.from-2.ensures
    ∙ ap (λ (n : ℕ). (pace.phase * 1000000 + n) * c.from-parts.result) c.from-3.ensures
    ∙ ap (λ (n : ℕ). (pace.phase * 1000000 + pace.start) * n) c.from-parts.ensures in
    no_step_passed pace phase c.args.unit _ c.requires.sound c.requires.unit.0 c.requires.unit.1 more early
    (ap (λ (n : ℕ). (c.args.unit - 1 - n % c.args.unit) / c.from-parts.result) place
    ∙ ap (λ (n : ℕ). (c.args.unit - 1 - place_of pace pace.phase % c.args.unit) / n) c.from-parts.ensures)
