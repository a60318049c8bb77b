-- The reader's steps between two changes of its stalls.
use Rattle.std.proofs.Common.{◌≡◌, ℕ, zero, suc, ◌+◌, ◌-◌, ◌<◌, ◌≤◌, ◌⊎◌, Bool, true, false, cond, List, [], ◌∷◌}
use Rattle.std.proofs.Common.{length, refl, sym, ap, ◌∙◌, arith}
use Rattle.std.specs.Prelude.{nat_le, nat_lt, ◌&&◌}
use Rattle.std.proofs.lemmas.Grind.{common_steps}
use Rattle.ring_sizes.specs.Schedules.{IsPace, awake, is_stalled, step_moment, steps_before}
use Rattle.ring_sizes.specs.declared.paces.Timing.{Timing}
use Rattle.ring_sizes.specs.declared.paces.StallTime.{StallTime}
use Rattle.ring_sizes.proofs.Counts.{step_comes, step_rises}
use Rattle.ring_sizes.proofs.ReaderSteps.{awake_join}

pub all_awake : (stalls : List StallTime) (pace : Timing) (done steps : ℕ) → length stalls ≡ 0
    → awake stalls pace done steps ≡ steps
all_awake [] pace done zero none = refl
all_awake [] pace done (suc steps) none =
    let rest = all_awake [] pace (done + 1) steps none in omega (arith, rest)
all_awake (stall ∷ stalls) pace done steps none = absurd (omega (arith, none))

-- how many of so many steps are awake where all are stalled, or none is
abbrev pub alike : Bool → ℕ → ℕ
alike stalled steps = cond stalled 0 steps

one_more : (stalled : Bool) (steps : ℕ) → cond stalled 0 1 + alike stalled steps ≡ alike stalled (suc steps)
one_more true steps = omega arith
one_more false steps = omega arith

none_more : (stalled : Bool) → 0 ≡ alike stalled 0
none_more true = refl
none_more false = refl

awake_alike : (stalls : List StallTime) (pace : Timing) (done steps : ℕ) (stalled : Bool)
    → ((number : ℕ) → done < number → number ≤ done + steps → is_stalled stalls (step_moment pace number) ≡ stalled)
    → awake stalls pace done steps ≡ alike stalled steps
awake_alike stalls pace done zero stalled same = none_more stalled
awake_alike stalls pace done (suc steps) stalled same =
    let rest = awake_alike stalls pace (done + 1) steps stalled
    (λ number more few. same number (omega (arith, more)) (omega (arith, few))) in
    let here = ap {B = ℕ} (λ (stalled : Bool). cond stalled 0 1) (same (done + 1) (omega arith) (omega arith)) in
    omega (arith, rest, here, one_more stalled steps)

-- the steps up to a change
pub awake_next : (stalls : List StallTime) (pace : Timing) (done change next to before later total : ℕ) (stalled : Bool)
    → IsPace pace → done < to → stalled ≡ is_stalled stalls (step_moment pace (done + 1))
    → ((at : ℕ) → step_moment pace (done + 1) ≤ at → at < change
    → is_stalled stalls at ≡ is_stalled stalls (step_moment pace (done + 1)))
    → next ≤ steps_before pace change → next ≤ to → done ≤ next → later ≡ before + alike stalled (next - done)
    → before + awake stalls pace done (to - done) ≡ total
    → later + awake stalls pace next (to - next) ≡ total
awake_next stalls pace done change next to before later total stalled sound more is same soon few behind counts goes =
    let all = awake_alike stalls pace done (next - done) stalled
    (λ number some most.
    let by = (step_comes pace change number sound (omega (arith, some))).0 (omega (arith, most, soon, behind)) in
    let from = step_rises pace (done + 1) number sound.parts (omega (arith, some)) in
    same (step_moment pace number) from by ∙ sym is) in
    let join = awake_join stalls pace done (next - done) (to - next) in
    let a : done + (next - done) ≡ next = omega (arith, behind) in
    let b : next - done + (to - next) ≡ to - done = omega (arith, behind, few) in
    let from = ap (λ (n : ℕ). awake stalls pace n (to - next)) a in
    let whole = ap (awake stalls pace done) b in
    omega (arith, all, join, from, whole, counts, goes)

-- the next change comes after the next step
pub step_before_change : (pace : Timing) (done change to : ℕ) → IsPace pace → done < to → step_moment pace (done + 1) < change
    → done < steps_before pace change
step_before_change pace done change to sound more later =
    let few = (step_comes pace change (done + 1) sound (omega arith)).1 later in omega (arith, few)

-- a stall that neither begins nor ends from one moment on, up to another
pub same_stall : (stall : StallTime) (moment at : ℕ) → moment ≤ at
    → (at < stall.from) ⊎ ((stall.from ≤ moment) × (at < stall.from + stall.length)) ⊎ (stall.from + stall.length ≤ moment)
    → (nat_le stall.from at && nat_lt at (stall.from + stall.length))
    ≡ (nat_le stall.from moment && nat_lt moment (stall.from + stall.length))
same_stall stall moment at later h = grind (arith, common_steps)
