-- The first at which a number is best, with more phases.
use Rattle.std.proofs.Common.{◌≡◌, ℕ, ◌+◌, ◌<◌, ◌≤◌, ◌⊎◌, inl, inr, Bool, true, false, cond, List, refl}
use Rattle.std.proofs.Common.{ap, subst, sym, ◌∙◌, arith}
use Rattle.std.specs.Prelude.{nat_lt}
use Rattle.ring_sizes.specs.Courses.{all_went_on, first_course}
use Rattle.ring_sizes.specs.Orders.{IsUnit, at_phase}
use Rattle.ring_sizes.specs.Passes.{first_pass, passed_all}
use Rattle.ring_sizes.specs.Schedules.{schedule_to}
use Rattle.ring_sizes.specs.declared.events.Event.{Event}
use Rattle.ring_sizes.specs.declared.paces.Arrival.{Arrival}
use Rattle.ring_sizes.specs.declared.paces.Timing.{Timing}
use Rattle.ring_sizes.specs.declared.paces.StallTime.{StallTime}
use Rattle.std.proofs.lemmas.Bool.{cases_lt}
use Rattle.ring_sizes.specs.Phases.{IsBeginning, IsEarlier, IsFirst, IsFirstFewest, IsFirstMost, IsPhase}
use Rattle.ring_sizes.specs.Phases.{begun, drops_of, least_of, or_fewer, or_more}
use Rattle.ring_sizes.specs.declared.tries.Reached.{Reached}
use Rattle.ring_sizes.specs.declared.tries.Tries.{Tries}
use Rattle.ring_sizes.proofs.Worsts.{IsOrder, fewest, less, most, not_less}

module _ (Best Better : ℕ → ℕ → Type 0) (order : IsOrder Best Better) (number_at : ℕ → ℕ → ℕ) where
  abbrev Found : Tries → Reached → Type 0
  Found tries found = IsFirst Best Better tries number_at found

  -- neighbouring phases with the same number at one beginning
  pub same_numbers : (tries : Tries) (number next : ℕ) → tries.first_phase < next
      → number ≡ number_at tries.first_phase tries.first_from
      → ((phase : ℕ) → tries.first_phase ≤ phase → phase < next
      → number_at phase tries.first_from ≡ number_at tries.first_phase tries.first_from)
      → Found (record tries { phase_end = next; from_end = tries.first_from + 1 })
      (record { number = number; phase = tries.first_phase; from = tries.first_from })
  same_numbers tries number next some is same = record {
    phase = (omega arith, some);
    from = (omega arith, omega arith);
    reached = is;
    best = λ phase from p f. subst (Best number) (all phase from p f) (order.same number);
    first = λ phase from p f earlier. none phase from p f earlier;
  } where
    all : (phase from : ℕ) → IsPhase (record tries { phase_end = next }) phase
        → IsBeginning (record tries { from_end = tries.first_from + 1 }) from → number ≡ number_at phase from
    all phase from p f =
        let at : tries.first_from ≡ from = omega (arith, f.0, f.1) in
        is ∙ sym (same phase p.0 p.1) ∙ ap (number_at phase) at

    none : (phase from : ℕ) → IsPhase (record tries { phase_end = next }) phase
        → IsBeginning (record tries { from_end = tries.first_from + 1 }) from
        → IsEarlier phase from (record { number = number; phase = tries.first_phase; from = tries.first_from })
        → Better number (number_at phase from)
    none phase from p f (inl h) = absurd (omega (arith, h, p.0))
    none phase from p f (inr h) = absurd (omega (arith, h.1, f.0))

  abbrev below : Tries → ℕ → Tries
  below tries end = record tries { phase_end = end }

  abbrev onward : Tries → ℕ → ℕ → Tries
  onward tries phase end = record tries { first_phase = phase; phase_end = end }

  -- more phases, of which one is better
  better_phase : (tries : Tries) (tried end : ℕ) (found new : Reached) → Found (below tries tried) found
      → Found (onward tries tried end) new → tries.first_phase < tried → Better new.number found.number
      → Found (below tries end) new
  better_phase tries tried end found new h g some more = record {
    phase = (omega (arith, some, g.phase.0), g.phase.1);
    from = g.from;
    reached = g.reached;
    best = λ phase from p f. best phase from p f (cases_lt phase tried);
    first = λ phase from p f earlier. first phase from p f earlier (cases_lt phase tried);
  } where
    before : (phase from : ℕ) → IsPhase (below tries end) phase → IsBeginning tries from → phase < tried
        → Better new.number (number_at phase from)
    before phase from p f early = order.better new.number found.number _ more (h.best phase from (p.0, early) f)

    best : (phase from : ℕ) → IsPhase (below tries end) phase → IsBeginning tries from
        → (phase < tried) ⊎ (tried ≤ phase) → Best new.number (number_at phase from)
    best phase from p f (inl early) = order.weak new.number _ (before phase from p f early)
    best phase from p f (inr late) = g.best phase from (late, p.1) f

    first : (phase from : ℕ) → IsPhase (below tries end) phase → IsBeginning tries from → IsEarlier phase from new
        → (phase < tried) ⊎ (tried ≤ phase) → Better new.number (number_at phase from)
    first phase from p f earlier (inl early) = before phase from p f early
    first phase from p f earlier (inr late) = g.first phase from (late, p.1) f earlier

  -- more phases, of which none is better
  same_phase : (tries : Tries) (tried end : ℕ) (found new : Reached) → Found (below tries tried) found
      → Found (onward tries tried end) new → tried ≤ end → Best found.number new.number → Found (below tries end) found
  same_phase tries tried end found new h g up few = record {
    phase = (h.phase.0, omega (arith, h.phase.1, up));
    from = h.from;
    reached = h.reached;
    best = λ phase from p f. best phase from p f (cases_lt phase tried);
    first = λ phase from p f earlier. first phase from p f earlier;
  } where
    best : (phase from : ℕ) → IsPhase (below tries end) phase → IsBeginning tries from
        → (phase < tried) ⊎ (tried ≤ phase) → Best found.number (number_at phase from)
    best phase from p f (inl early) = h.best phase from (p.0, early) f
    best phase from p f (inr late) = order.chain found.number new.number _ few (g.best phase from (late, p.1) f)

    first : (phase from : ℕ) → IsPhase (below tries end) phase → IsBeginning tries from → IsEarlier phase from found
        → Better found.number (number_at phase from)
    first phase from p f (inl early) = h.first phase from (p.0, omega (arith, early, h.phase.1)) f (inl early)
    first phase from p f (inr early) =
        h.first phase from (p.0, omega (arith, early.0, h.phase.1)) f (inr early)

  pub next_phase : (tries : Tries) (tried end : ℕ) (found new : Reached) (take : Bool) → Found (below tries tried) found
      → Found (onward tries tried end) new → tries.first_phase < tried → tried ≤ end
      → (take ≡ true → Better new.number found.number) → (take ≡ false → Best found.number new.number)
      → Found (below tries end) (cond take new found)
  next_phase tries tried end found new true h g some up more few =
      better_phase tries tried end found new h g some (more refl)
  next_phase tries tried end found new false h g some up more few =
      same_phase tries tried end found new h g up (few refl)

module _ (number_at : ℕ → ℕ → ℕ) (tries : Tries) (tried : ℕ) where
  pub more_phase : (end : ℕ) (found new : Reached) → IsFirstMost (record tries { phase_end = tried }) number_at found
      → IsFirstMost (record tries { first_phase = tried; phase_end = end }) number_at new → tries.first_phase < tried
      → tried ≤ end
      → IsFirstMost (record tries { phase_end = end }) number_at (or_more found new)
  more_phase end found new h g some up =
      next_phase _ _ most number_at tries tried end found new (nat_lt found.number new.number) h g some up
      (less found.number new.number) (not_less found.number new.number)

  pub fewer_phase : (end : ℕ) (found new : Reached) → IsFirstFewest (record tries { phase_end = tried }) number_at found
      → IsFirstFewest (record tries { first_phase = tried; phase_end = end }) number_at new → tries.first_phase < tried
      → tried ≤ end
      → IsFirstFewest (record tries { phase_end = end }) number_at (or_fewer found new)
  fewer_phase end found new h g some up =
      next_phase _ _ fewest number_at tries tried end found new (nat_lt new.number found.number) h g some up
      (less new.number found.number) (not_less new.number found.number)

-- ---- the same events give the same numbers

pub least_same : (room : ℕ) (stalls : List StallTime) (pace : Timing) (phase : ℕ) (arrivals : List Arrival) (end : ℕ)
    → schedule_to stalls (at_phase pace phase) arrivals end ≡ schedule_to stalls pace arrivals end
    → least_of room stalls (at_phase pace phase) arrivals end ≡ least_of room stalls pace arrivals end
least_same room stalls pace phase arrivals end same =
    ap (λ (events : List Event). (passed_all room pace.tov events (first_pass pace.tov)).least) same

pub drops_same : (room blocks : ℕ) (stalls : List StallTime) (pace : Timing) (phase : ℕ) (arrivals : List Arrival)
    (end : ℕ)
    → schedule_to stalls (at_phase pace phase) arrivals end ≡ schedule_to stalls pace arrivals end
    → drops_of room blocks stalls (at_phase pace phase) arrivals end ≡ drops_of room blocks stalls pace arrivals end
drops_same room blocks stalls pace phase arrivals end same =
    ap (λ (events : List Event). (all_went_on room blocks pace.tov events (first_course pace.tov)).dropped) same

-- the unit is that of the timer and the reader at each phase
pub unit_stays : (pace : Timing) (phase other from unit : ℕ) (first here : Timing) → first ≡ begun pace phase from
    → here ≡ begun pace other from → IsUnit first unit → IsUnit here unit
unit_stays pace phase other from unit first here e f is =
    subst (λ (pace : Timing). IsUnit pace unit) (sym f) (subst (λ (pace : Timing). IsUnit pace unit) e is)

-- ---- a number that is the same at some phases

abbrev pub IsSame : (Timing → ℕ) → Timing → ℕ → Type 0
IsSame number_of here next = (phase : ℕ) → here.phase ≤ phase → phase < next
    → number_of (at_phase here phase) ≡ number_of here

module _ (number_of : Timing → ℕ) (pace : Timing) (tries : Tries) where
  abbrev number_at : ℕ → ℕ → ℕ
  number_at phase from = number_of (begun pace phase from)

  -- at the first beginning, from one phase up to another
  abbrev between : ℕ → ℕ → Tries
  between phase end = record tries { first_phase = phase; phase_end = end; from_end = tries.first_from + 1 }

  abbrev reached_at : ℕ → ℕ → Reached
  reached_at number phase = record { number = number; phase = phase; from = tries.first_from }

  module _ (Best Better : ℕ → ℕ → Type 0) (order : IsOrder Best Better) (tried next number : ℕ) (here : Timing) where
    pub alike : here ≡ begun pace tried tries.first_from → tried < next → number ≡ number_of here
        → IsSame number_of here next → IsFirst Best Better (between tried next) number_at (reached_at number tried)
    alike is up counted same =
        same_numbers Best Better order number_at (record tries { first_phase = tried }) number next up
        (counted ∙ ap number_of is) (subst (λ (here : Timing). IsSame number_of here next) is same)

  module _ (tried next number : ℕ) (here : Timing) (found : Reached) where
    pub next_most : here ≡ begun pace tried tries.first_from → tries.first_phase < tried → tried < next
        → IsFirstMost (record tries { phase_end = tried; from_end = tries.first_from + 1 }) number_at found
        → number ≡ number_of here → IsSame number_of here next
        → IsFirstMost (record tries { phase_end = next; from_end = tries.first_from + 1 }) number_at
        (or_more found (reached_at number tried))
    next_most is some up h counted same =
        more_phase number_at (record tries { from_end = tries.first_from + 1 }) tried next found (reached_at number tried) h
        (alike _ _ most tried next number here is up counted same) some (omega (arith, up))

    pub next_fewest : here ≡ begun pace tried tries.first_from → tries.first_phase < tried → tried < next
        → IsFirstFewest (record tries { phase_end = tried; from_end = tries.first_from + 1 }) number_at found
        → number ≡ number_of here → IsSame number_of here next
        → IsFirstFewest (record tries { phase_end = next; from_end = tries.first_from + 1 }) number_at
        (or_fewer found (reached_at number tried))
    next_fewest is some up h counted same =
        fewer_phase number_at (record tries { from_end = tries.first_from + 1 }) tried next found (reached_at number tried) h
        (alike _ _ fewest tried next number here is up counted same) some (omega (arith, up))
