use Rattle.std.proofs.Common.{ℕ, ◌≡◌, ◌*◌, subst, ap, ◌∙◌, arith}
use Rattle.std.specs.Int.{IsGcd}
use Rattle.std.proofs.Math.Nat.{mul-le-mul_right}
use Rattle.std.proofs.lemmas.Nat.Gcd.{IsGcd-from_mod, IsGcd-from_zero}
use Rattle.ring_sizes.specs.declared.paces.Timing.{Timing}
use Rattle.ring_sizes.proofs.paces.Timing.unit.Goals as goal

pub loop-rest-init : goal.loop-rest-init
loop-rest-init c =
    let pace : Timing = c.args.self.now in
    let is : c.from.result * c.from-2.result * c.from-3.result ≡ pace.tov * 1000000 * pace.parts =
    ap (λ (n : ℕ). n * c.from-2.result * c.from-3.result) c.from.ensures
    ∙ ap (λ (n : ℕ). pace.tov * n * c.from-3.result) c.from-2.ensures
    ∙ ap (λ (n : ℕ). pace.tov * 1000000 * n) c.from-3.ensures in
    let much = mul-le-mul_right {m = 1} {n = pace.tov * 1000000} pace.parts (omega (arith, c.requires.tov)) in
    record {
      some = omega (arith, is, much, c.requires.parts);
      goes = λ unit gcd.
          subst (λ (n : ℕ). IsGcd n pace.span unit) is
          (subst (λ (n : ℕ). IsGcd (c.from.result * c.from-2.result * c.from-3.result) n unit) c.from-rest.ensures gcd);
    }

pub loop-rest-preserved : goal.loop-rest-preserved
loop-rest-preserved c = record {
  some = c.loop-rest-test.true;
  goes = λ unit gcd.
      c.loop-rest.invariant.goes unit (IsGcd-from_mod c.loop-rest.unit c.loop-rest.rest unit gcd);
}

pub returns : goal.returns
returns c = (
  c.loop-rest.invariant.some,
  c.loop-rest.invariant.goes c.loop-rest.unit
      (IsGcd-from_zero c.loop-rest.unit c.loop-rest.rest (omega (arith, c.loop-rest-test.false))),
)
