-- The first of the beginnings that were tried at which a number is best.
use Rattle.std.proofs.Common.{◌≡◌, ◌↔◌, ℕ, ◌+◌, ◌<◌, ◌≤◌, ◌^◌, ◌⊎◌, inl, inr, Bool, true, false, cond, List, refl}
use Rattle.std.proofs.Common.{ap, subst, ◌∙◌, arith}
use Rattle.std.specs.Prelude.{nat_lt}
use Rattle.std.proofs.lemmas.Grind.{common_steps}
use Rattle.std.proofs.lemmas.Bool.{cases_lt}
use Rattle.ring_events.specs.Happenings.{NeverFreezes}
use Rattle.ring_events.specs.declared.events.Happening.{Happening}
use Rattle.ring_sizes.specs.EventLists.{events_of}
use Rattle.ring_sizes.specs.Passes.{first_pass}
use Rattle.ring_sizes.specs.Phases.{AreTried, IsBeginning, IsEarlier, IsFirst, IsFirstFewest, IsFirstMost, IsPhase, begun}
use Rattle.ring_sizes.specs.Phases.{least_of, or_fewer, or_more}
use Rattle.ring_sizes.specs.Schedules.{IsPace, schedule_to}
use Rattle.ring_sizes.specs.declared.paces.Arrival.{Arrival}
use Rattle.ring_sizes.specs.declared.paces.Timing.{Timing}
use Rattle.ring_sizes.specs.declared.paces.StallTime.{StallTime}
use Rattle.ring_sizes.specs.declared.tries.Reached.{Reached}
use Rattle.ring_sizes.specs.declared.tries.Tries.{Tries}
use Rattle.ring_sizes.proofs.Never.{all_grow, threshold_at}

-- what is best is no worse than any, and what is better than the best so far is better than any so far
pub record IsOrder (Best Better : ℕ → ℕ → Type 0) : Type 0 where
  pub same : (n : ℕ) → Best n n
  pub weak : (n m : ℕ) → Better n m → Best n m
  pub chain : (n m k : ℕ) → Best n m → Best m k → Best n k
  pub better : (n m k : ℕ) → Better n m → Best m k → Better n k
  pub after : (n m k : ℕ) → Best n m → Better m k → Better n k

pub most : IsOrder (λ number other. other ≤ number) (λ number other. other < number)
most = record {
  same = λ n. omega arith;
  weak = λ n m h. omega (arith, h);
  chain = λ n m k h g. omega (arith, h, g);
  better = λ n m k h g. omega (arith, h, g);
  after = λ n m k h g. omega (arith, h, g);
}

pub fewest : IsOrder (λ number other. number ≤ other) (λ number other. number < other)
fewest = record {
  same = λ n. omega arith;
  weak = λ n m h. omega (arith, h);
  chain = λ n m k h g. omega (arith, h, g);
  better = λ n m k h g. omega (arith, h, g);
  after = λ n m k h g. omega (arith, h, g);
}

module _ (Best Better : ℕ → ℕ → Type 0) (order : IsOrder Best Better) (number_at : ℕ → ℕ → ℕ) where
  abbrev Found : Tries → Reached → Type 0
  Found tries found = IsFirst Best Better tries number_at found

  -- ---- the beginnings of one phase

  abbrev at_phase : Tries → ℕ → Tries
  at_phase tries end = record tries { phase_end = tries.first_phase + 1; from_end = end }

  only : (tries : Tries) (phase from : ℕ) → IsPhase (at_phase tries (tries.first_from + 1)) phase
      → IsBeginning (at_phase tries (tries.first_from + 1)) from
      → number_at tries.first_phase tries.first_from ≡ number_at phase from
  only tries phase from p f =
      let a : tries.first_phase ≡ phase = omega (arith, p.0, p.1) in
      let b : tries.first_from ≡ from = omega (arith, f.0, f.1) in
      ap (λ (n : ℕ). number_at n tries.first_from) a ∙ ap (number_at phase) b

  pub first_try : (tries : Tries) (number : ℕ) → number ≡ number_at tries.first_phase tries.first_from
      → Found (at_phase tries (tries.first_from + 1))
      (record { number = number; phase = tries.first_phase; from = tries.first_from })
  first_try tries number is = record {
    phase = (omega arith, omega arith);
    from = (omega arith, omega arith);
    reached = is;
    best = λ phase from p f. subst (Best number) (is ∙ only tries phase from p f) (order.same number);
    first = λ phase from p f earlier. none phase from p f earlier;
  } where
    none : (phase from : ℕ) → IsPhase (at_phase tries (tries.first_from + 1)) phase
        → IsBeginning (at_phase tries (tries.first_from + 1)) from
        → IsEarlier phase from (record { number = number; phase = tries.first_phase; from = tries.first_from })
        → Better number (number_at phase from)
    none phase from p f (inl h) = absurd (omega (arith, h, p.0))
    none phase from p f (inr h) = absurd (omega (arith, h.1, f.0))

  last_try : (tries : Tries) (tried number phase from : ℕ) → number ≡ number_at tries.first_phase tried
      → IsPhase (at_phase tries (tried + 1)) phase → from < tried + 1 → tried ≤ from → number ≡ number_at phase from
  last_try tries tried number phase from is p few many =
      let a : tries.first_phase ≡ phase = omega (arith, p.0, p.1) in
      let b : tried ≡ from = omega (arith, few, many) in
      is ∙ ap (λ (n : ℕ). number_at n tried) a ∙ ap (number_at phase) b

  -- one beginning more, which is better
  pub better_from : (tries : Tries) (tried number : ℕ) (found : Reached) → Found (at_phase tries tried) found
      → tries.first_from < tried → number ≡ number_at tries.first_phase tried → Better number found.number
      → Found (at_phase tries (tried + 1)) (record { number = number; phase = tries.first_phase; from = tried })
  better_from tries tried number found h some is more = record {
    phase = (omega arith, omega arith);
    from = (omega (arith, some), omega arith);
    reached = is;
    best = λ phase from p f. best phase from p f (cases_lt from tried);
    first = λ phase from p f earlier. first phase from p f earlier;
  } where
    best : (phase from : ℕ) → IsPhase (at_phase tries (tried + 1)) phase → IsBeginning (at_phase tries (tried + 1)) from
        → (from < tried) ⊎ (tried ≤ from) → Best number (number_at phase from)
    best phase from p f (inl few) =
        order.weak number _ (order.better number found.number _ more (h.best phase from p (f.0, few)))
    best phase from p f (inr many) =
        subst (Best number) (last_try tries tried number phase from is p f.1 many) (order.same number)

    first : (phase from : ℕ) → IsPhase (at_phase tries (tried + 1)) phase → IsBeginning (at_phase tries (tried + 1)) from
        → IsEarlier phase from (record { number = number; phase = tries.first_phase; from = tried })
        → Better number (number_at phase from)
    first phase from p f (inl early) = absurd (omega (arith, early, p.0))
    first phase from p f (inr early) = order.better number found.number _ more (h.best phase from p (f.0, early.1))

  -- one beginning more, which is no better
  pub same_from : (tries : Tries) (tried number : ℕ) (found : Reached) → Found (at_phase tries tried) found
      → number ≡ number_at tries.first_phase tried → Best found.number number → Found (at_phase tries (tried + 1)) found
  same_from tries tried number found h is few = record {
    phase = h.phase;
    from = (h.from.0, omega (arith, h.from.1));
    reached = h.reached;
    best = λ phase from p f. best phase from p f (cases_lt from tried);
    first = λ phase from p f earlier. first phase from p f earlier;
  } where
    best : (phase from : ℕ) → IsPhase (at_phase tries (tried + 1)) phase → IsBeginning (at_phase tries (tried + 1)) from
        → (from < tried) ⊎ (tried ≤ from) → Best found.number (number_at phase from)
    best phase from p f (inl below) = h.best phase from p (f.0, below)
    best phase from p f (inr many) = subst (Best found.number) (last_try tries tried number phase from is p f.1 many) few

    first : (phase from : ℕ) → IsPhase (at_phase tries (tried + 1)) phase → IsBeginning (at_phase tries (tried + 1)) from
        → IsEarlier phase from found → Better found.number (number_at phase from)
    first phase from p f (inl early) = absurd (omega (arith, early, p.0, h.phase.1))
    first phase from p f (inr early) = h.first phase from p (f.0, omega (arith, early.1, h.from.1)) (inr early)

  pub next_from : (tries : Tries) (tried number : ℕ) (found : Reached) (take : Bool) → Found (at_phase tries tried) found
      → tries.first_from < tried → number ≡ number_at tries.first_phase tried
      → (take ≡ true → Better number found.number) → (take ≡ false → Best found.number number)
      → Found (at_phase tries (tried + 1))
      (cond take (record { number = number; phase = tries.first_phase; from = tried }) found)
  next_from tries tried number found true h some is more few = better_from tries tried number found h some is (more refl)
  next_from tries tried number found false h some is more few = same_from tries tried number found h is (few refl)

-- ---- the greatest and the least

-- where each number is another, the first of those is that of these
pub first_as : (Best Better : ℕ → ℕ → Type 0) (tries : Tries) (one other : ℕ → ℕ → ℕ) (found : Reached)
    → ((phase from : ℕ) → one phase from ≡ other phase from)
    → IsFirst Best Better tries one found → IsFirst Best Better tries other found
first_as Best Better tries one other found same is = record {
  phase = is.phase;
  from = is.from;
  reached = is.reached ∙ same found.phase found.from;
  best = λ phase from at_phase at_from. subst (Best found.number) (same phase from) (is.best phase from at_phase at_from);
  first = λ phase from at_phase at_from earlier.
      subst (Better found.number) (same phase from) (is.first phase from at_phase at_from earlier);
}

pub less : (n m : ℕ) → nat_lt n m ≡ true → n < m
less n m e = grind (arith, common_steps)

pub not_less : (n m : ℕ) → nat_lt n m ≡ false → m ≤ n
not_less n m e = grind (arith, common_steps)

module _ (number_at : ℕ → ℕ → ℕ) (tries : Tries) (tried : ℕ) where
  pub more_from : (number : ℕ) (found : Reached)
      → IsFirstMost (record tries { phase_end = tries.first_phase + 1; from_end = tried }) number_at found
      → tries.first_from < tried → number ≡ number_at tries.first_phase tried
      → IsFirstMost (record tries { phase_end = tries.first_phase + 1; from_end = tried + 1 }) number_at
      (or_more found (record { number = number; phase = tries.first_phase; from = tried }))
  more_from number found h some is =
      next_from _ _ most number_at tries tried number found (nat_lt found.number number) h some is (less found.number number)
      (not_less found.number number)

  pub fewer_from : (number : ℕ) (found : Reached)
      → IsFirstFewest (record tries { phase_end = tries.first_phase + 1; from_end = tried }) number_at found
      → tries.first_from < tried → number ≡ number_at tries.first_phase tried
      → IsFirstFewest (record tries { phase_end = tries.first_phase + 1; from_end = tried + 1 }) number_at
      (or_fewer found (record { number = number; phase = tries.first_phase; from = tried }))
  fewer_from number found h some is =
      next_from _ _ fewest number_at tries tried number found (nat_lt number found.number) h some is
      (less number found.number) (not_less number found.number)

-- ---- what is tried is a pace

pub tried_pace : (pace : Timing) (tries : Tries) (phase from : ℕ) → AreTried pace tries → phase < tries.phase_end
    → from < 2 ^ 32
    → IsPace (begun pace phase from)
tried_pace pace tries phase from h few late = record {
  tov = omega (arith, few, h.below);
  short = h.tov;
  phase = omega (arith, few, h.below);
  span = h.span;
  brief = h.brief;
  parts = h.parts;
  quick = h.quick;
  late = omega (arith, late);
}

pub one_from : (pace : Timing) (tries : Tries) (from : ℕ) → AreTried pace tries → from < tries.from_end
    → AreTried pace (record tries { first_from = from })
one_from pace tries from h few = record {
  tov = h.tov;
  span = h.span;
  brief = h.brief;
  parts = h.parts;
  quick = h.quick;
  phases = h.phases;
  below = h.below;
  beginnings = few;
}

-- ---- what the pass reports

pub least_some : (room : ℕ) (stalls : List StallTime) (pace : Timing) (arrivals : List Arrival) (end : ℕ)
    → 1 ≤ least_of room stalls pace arrivals end
least_some room stalls pace arrivals end =
    all_grow room pace.tov (schedule_to stalls pace arrivals end) (first_pass pace.tov)

pub never_at : (room blocks : ℕ) (stalls : List StallTime) (pace : Timing) (arrivals : List Arrival) (end : ℕ)
    (happenings : List Happening)
    → events_of happenings ≡ schedule_to stalls pace arrivals end → 1 ≤ blocks
    → NeverFreezes (record { room = room; blocks = blocks; tov = pace.tov }) happenings
    ↔ (least_of room stalls pace arrivals end ≤ blocks)
never_at room blocks stalls pace arrivals end happenings same some =
    threshold_at room pace.tov blocks happenings _ _ same refl some
