-- The first at which a number is best, with one beginning more.
use Rattle.std.proofs.Common.{◌≡◌, ℕ, ◌+◌, ◌<◌, ◌≤◌, ◌⊎◌, inl, inr, Bool, true, false, cond, refl, subst, arith}
use Rattle.std.specs.Prelude.{nat_lt, ◌==◌, ◌&&◌, ◌||◌}
use Rattle.std.proofs.lemmas.Grind.{common_steps}
use Rattle.std.proofs.lemmas.Bool.{cases_lt}
use Rattle.ring_sizes.specs.Phases.{IsBeginning, IsEarlier, IsFirst, IsFirstFewest, IsFirstMost, IsPhase}
use Rattle.ring_sizes.specs.Phases.{fewer_first, more_first}
use Rattle.ring_sizes.specs.declared.tries.Reached.{Reached}
use Rattle.ring_sizes.specs.declared.tries.Tries.{Tries}
use Rattle.ring_sizes.proofs.Worsts.{IsOrder, fewest, less, most, not_less}

module _ (Best Better : ℕ → ℕ → Type 0) (order : IsOrder Best Better) (number_at : ℕ → ℕ → ℕ) where
  abbrev Found : Tries → Reached → Type 0
  Found tries found = IsFirst Best Better tries number_at found

  abbrev upto : Tries → ℕ → Tries
  upto tries end = record tries { from_end = end }

  abbrev only_from : Tries → ℕ → Tries
  only_from tries from = record tries { first_from = from; from_end = from + 1 }

  -- one beginning more, at which one is better
  better_column : (tries : Tries) (tried : ℕ) (found new : Reached) → Found (upto tries tried) found
      → Found (only_from tries tried) new → tries.first_from < tried → Better new.number found.number
      → Found (upto tries (tried + 1)) new
  better_column tries tried found new h g some more = record {
    phase = g.phase;
    from = (omega (arith, some, g.from.0), g.from.1);
    reached = g.reached;
    best = λ phase from p f. best phase from p f (cases_lt from tried);
    first = λ phase from p f earlier. first phase from p f earlier (cases_lt from tried);
  } where
    before : (phase from : ℕ) → IsPhase tries phase → IsBeginning (upto tries (tried + 1)) from → from < tried
        → Better new.number (number_at phase from)
    before phase from p f early = order.better new.number found.number _ more (h.best phase from p (f.0, early))

    best : (phase from : ℕ) → IsPhase tries phase → IsBeginning (upto tries (tried + 1)) from
        → (from < tried) ⊎ (tried ≤ from) → Best new.number (number_at phase from)
    best phase from p f (inl early) = order.weak new.number _ (before phase from p f early)
    best phase from p f (inr late) = g.best phase from p (late, f.1)

    first : (phase from : ℕ) → IsPhase tries phase → IsBeginning (upto tries (tried + 1)) from → IsEarlier phase from new
        → (from < tried) ⊎ (tried ≤ from) → Better new.number (number_at phase from)
    first phase from p f earlier (inl early) = before phase from p f early
    first phase from p f earlier (inr late) = g.first phase from p (late, f.1) earlier

  -- one beginning more, at which one is as good at an earlier phase
  earlier_column : (tries : Tries) (tried : ℕ) (found new : Reached) → Found (upto tries tried) found
      → Found (only_from tries tried) new → tries.first_from < tried → found.number ≡ new.number
      → new.phase < found.phase
      → Found (upto tries (tried + 1)) new
  earlier_column tries tried found new h g some same less = record {
    phase = g.phase;
    from = (omega (arith, some, g.from.0), g.from.1);
    reached = g.reached;
    best = λ phase from p f. best phase from p f (cases_lt from tried);
    first = λ phase from p f earlier. first phase from p f earlier (cases_lt from tried);
  } where
    best : (phase from : ℕ) → IsPhase tries phase → IsBeginning (upto tries (tried + 1)) from
        → (from < tried) ⊎ (tried ≤ from) → Best new.number (number_at phase from)
    best phase from p f (inl early) =
        subst (λ (n : ℕ). Best n (number_at phase from)) same (h.best phase from p (f.0, early))
    best phase from p f (inr late) = g.best phase from p (late, f.1)

    sooner : (phase from : ℕ) → IsEarlier phase from new → phase < found.phase
    sooner phase from (inl early) = omega (arith, early, less)
    sooner phase from (inr early) = omega (arith, early.0, less)

    first : (phase from : ℕ) → IsPhase tries phase → IsBeginning (upto tries (tried + 1)) from → IsEarlier phase from new
        → (from < tried) ⊎ (tried ≤ from) → Better new.number (number_at phase from)
    first phase from p f earlier (inl early) =
        subst (λ (n : ℕ). Better n (number_at phase from)) same
        (h.first phase from p (f.0, early) (inl (sooner phase from earlier)))
    first phase from p f earlier (inr late) = g.first phase from p (late, f.1) earlier

  -- one beginning more, at which none is better, and none as good at an earlier phase
  same_column : (tries : Tries) (tried : ℕ) (found new : Reached) → Found (upto tries tried) found
      → Found (only_from tries tried) new → Best found.number new.number
      → (new.phase < found.phase → Better found.number new.number)
      → Found (upto tries (tried + 1)) found
  same_column tries tried found new h g few strict = record {
    phase = h.phase;
    from = (h.from.0, omega (arith, h.from.1));
    reached = h.reached;
    best = λ phase from p f. best phase from p f (cases_lt from tried);
    first = λ phase from p f earlier. first phase from p f earlier (cases_lt from tried);
  } where
    best : (phase from : ℕ) → IsPhase tries phase → IsBeginning (upto tries (tried + 1)) from
        → (from < tried) ⊎ (tried ≤ from) → Best found.number (number_at phase from)
    best phase from p f (inl early) = h.best phase from p (f.0, early)
    best phase from p f (inr late) = order.chain found.number new.number _ few (g.best phase from p (late, f.1))

    late_one : (phase from : ℕ) → IsPhase tries phase → tried ≤ from → from < tried + 1 → phase < found.phase
        → (phase < new.phase) ⊎ (new.phase ≤ phase) → Better found.number (number_at phase from)
    late_one phase from p late up sooner (inl before) =
        order.after found.number new.number _ few (g.first phase from p (late, up) (inl before))
    late_one phase from p late up sooner (inr not_before) =
        order.better found.number new.number _ (strict (omega (arith, sooner, not_before))) (g.best phase from p (late, up))

    first : (phase from : ℕ) → IsPhase tries phase → IsBeginning (upto tries (tried + 1)) from → IsEarlier phase from found
        → (from < tried) ⊎ (tried ≤ from) → Better found.number (number_at phase from)
    first phase from p f earlier (inl early) = h.first phase from p (f.0, early) earlier
    first phase from p f (inl sooner) (inr late) = late_one phase from p late f.1 sooner (cases_lt phase new.phase)
    first phase from p f (inr sooner) (inr late) = absurd (omega (arith, sooner.1, late, h.from.1))

  pub next_column : (tries : Tries) (tried : ℕ) (found new : Reached) (better same sooner : Bool)
      → Found (upto tries tried) found
      → Found (only_from tries tried) new → tries.first_from < tried
      → (better ≡ true → Better new.number found.number) → (better ≡ false → Best found.number new.number)
      → (same ≡ true → found.number ≡ new.number)
      → (better ≡ false → same ≡ false → Better found.number new.number)
      → (sooner ≡ true → new.phase < found.phase) → (sooner ≡ false → found.phase ≤ new.phase)
      → Found (upto tries (tried + 1)) (cond (better || (same && sooner)) new found)
  next_column tries tried found new true same sooner h g some more few equal unlike less not_less =
      better_column tries tried found new h g some (more refl)
  next_column tries tried found new false true true h g some more few equal unlike less not_less =
      earlier_column tries tried found new h g some (equal refl) (less refl)
  next_column tries tried found new false true false h g some more few equal unlike less not_less =
      let later = not_less refl in
      same_column tries tried found new h g (few refl) (λ sooner. absurd (omega (arith, sooner, later)))
  next_column tries tried found new false false sooner h g some more few equal unlike less not_less =
      same_column tries tried found new h g (few refl) (λ sooner. unlike refl refl)

equal : (n m : ℕ) → (n == m) ≡ true → n ≡ m
equal n m e = grind (arith, common_steps)

unlike : (n m : ℕ) → nat_lt n m ≡ false → (n == m) ≡ false → m < n
unlike n m e f = grind (arith, common_steps)

unlike_fewer : (n m : ℕ) → nat_lt m n ≡ false → (n == m) ≡ false → n < m
unlike_fewer n m e f = grind (arith, common_steps)

module _ (number_at : ℕ → ℕ → ℕ) (tries : Tries) (tried : ℕ) where
  pub more_column : (found new : Reached) → IsFirstMost (record tries { from_end = tried }) number_at found
      → IsFirstMost (record tries { first_from = tried; from_end = tried + 1 }) number_at new → tries.first_from < tried
      → IsFirstMost (record tries { from_end = tried + 1 }) number_at (more_first found new)
  more_column found new h g some =
      next_column _ _ most number_at tries tried found new (nat_lt found.number new.number)
      (found.number == new.number) (nat_lt new.phase found.phase) h g some
      (less found.number new.number) (not_less found.number new.number)
      (equal found.number new.number)
      (λ e f. unlike found.number new.number e f)
      (less new.phase found.phase) (not_less new.phase found.phase)

  pub fewer_column : (found new : Reached) → IsFirstFewest (record tries { from_end = tried }) number_at found
      → IsFirstFewest (record tries { first_from = tried; from_end = tried + 1 }) number_at new → tries.first_from < tried
      → IsFirstFewest (record tries { from_end = tried + 1 }) number_at (fewer_first found new)
  fewer_column found new h g some =
      next_column _ _ fewest number_at tries tried found new (nat_lt new.number found.number)
      (found.number == new.number) (nat_lt new.phase found.phase) h g some
      (less new.number found.number) (not_less new.number found.number)
      (equal found.number new.number)
      (λ e f. unlike_fewer found.number new.number e f)
      (less new.phase found.phase) (not_less new.phase found.phase)
