use Rattle.std.proofs.Common.{◌≡◌, ℕ, ◌+◌, ◌/◌, ◌^◌, sym, ap, ◌∙◌, add-one, pow-suc, div-one}
use Rattle.std.proofs.Math.Nat.{div-div-eq-div-mul}
use Rattle.pcapng_blocks.proofs.interfaces.decimal.Goals as goal

tenth : (n i : ℕ) → n / 10 ^ i / 10 ≡ n / 10 ^ (i + 1)
tenth n i = div-div-eq-div-mul n (10 ^ i) 10 ∙ ap (λ (m : ℕ). n / m) (sym (pow-suc 10 i))
    ∙ ap (λ (k : ℕ). n / 10 ^ k) (sym (add-one i))

pub loop-init : goal.loop-init
loop-init c = sym (div-one c.args.scaled)

pub loop-preserved : goal.loop-preserved
loop-preserved c = ap (λ (q : ℕ). q / 10) c.loop.invariant ∙ tenth c.args.scaled c.loop.counter
