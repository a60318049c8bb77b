-- The first phase at which a number is best, where the reader's beginning makes no difference.
use Rattle.std.proofs.Common.{◌≡◌, ℕ, ◌+◌, ◌<◌, ◌≤◌, inl, inr, subst, arith}
use Rattle.ring_sizes.specs.Phases.{IsBeginning, IsEarlier, IsFirst, IsFirstFewest, IsFirstMost, IsPhase, or_fewer, or_more}
use Rattle.ring_sizes.specs.declared.tries.Reached.{Reached}
use Rattle.ring_sizes.specs.declared.tries.Tries.{Tries}
use Rattle.ring_sizes.proofs.Stretches.{fewer_phase, more_phase}
use Rattle.ring_sizes.proofs.Worsts.{IsOrder, fewest, most}

module _ (number_of : ℕ → ℕ) (tries : Tries) (some : tries.first_from < tries.from_end) (phase : ℕ) where
  abbrev number_at : ℕ → ℕ → ℕ
  number_at phase from = number_of phase

  abbrev here : Tries
  here = record tries { first_phase = phase; phase_end = phase + 1 }

  abbrev found : ℕ → Reached
  found number = record { number = number; phase = phase; from = tries.first_from }

  one_phase : (Best Better : ℕ → ℕ → Type 0) → IsOrder Best Better → (number : ℕ) → number ≡ number_of phase
      → IsFirst Best Better here number_at (found number)
  one_phase Best Better order number is = record {
    phase = (omega arith, omega arith);
    from = (omega arith, some);
    reached = is;
    best = λ other from p f.
        let same : phase ≡ other = omega (arith, p.0, p.1) in
        subst (λ (n : ℕ). Best number (number_of n)) same (subst (Best number) is (order.same number));
    first = λ other from p f earlier. none other from p f earlier;
  } where
    none : (other from : ℕ) → IsPhase here other → IsBeginning here from → IsEarlier other from (found number)
        → Better number (number_of other)
    none other from p f (inl h) = absurd (omega (arith, h, p.0))
    none other from p f (inr h) = absurd (omega (arith, h.1, f.0))

  pub one_most : (number : ℕ) → number ≡ number_of phase → IsFirstMost here number_at (found number)
  one_most number is = one_phase _ _ most number is

  pub one_fewest : (number : ℕ) → number ≡ number_of phase → IsFirstFewest here number_at (found number)
  one_fewest number is = one_phase _ _ fewest number is

  pub next_most : (number : ℕ) (worst : Reached) → IsFirstMost (record tries { phase_end = phase }) number_at worst
      → tries.first_phase < phase → number ≡ number_of phase
      → IsFirstMost (record tries { phase_end = phase + 1 }) number_at (or_more worst (found number))
  next_most number worst h later is =
      more_phase number_at tries phase (phase + 1) worst (found number) h (one_most number is) later (omega arith)

  pub next_fewest : (number : ℕ) (best : Reached) → IsFirstFewest (record tries { phase_end = phase }) number_at best
      → tries.first_phase < phase → number ≡ number_of phase
      → IsFirstFewest (record tries { phase_end = phase + 1 }) number_at (or_fewer best (found number))
  next_fewest number best h later is =
      fewer_phase number_at tries phase (phase + 1) best (found number) h (one_fewest number is) later (omega arith)

-- all phases were tried
pub all_tried : (Best Better : ℕ → ℕ → Type 0) (number_at : ℕ → ℕ → ℕ) (tries : Tries) (phase : ℕ) (found : Reached)
    → phase ≤ tries.phase_end → tries.phase_end ≤ phase
    → IsFirst Best Better (record tries { phase_end = phase }) number_at found → IsFirst Best Better tries number_at found
all_tried Best Better number_at tries phase found few many h =
    let all : phase ≡ tries.phase_end = omega (arith, few, many) in
    subst (λ (n : ℕ). IsFirst Best Better (record tries { phase_end = n }) number_at found) all h
