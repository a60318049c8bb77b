-- The events of a schedule are in the order of their moments.
use Rattle.std.proofs.Common.{◌≡◌, ℕ, zero, suc, ◌+◌, ◌-◌, ◌*◌, ◌/◌, ◌<◌, ◌≤◌, ◌⊎◌, inl, inr, Bool, true, false, List, [], ◌∷◌}
use Rattle.std.proofs.Common.{◌++◌, max, replicate, sym, subst, arith}
use Rattle.std.proofs.Math.Nat.{div-mul-le_self}
use Rattle.std.proofs.lemmas.Bool.{cases_lt}
use Rattle.std.proofs.lemmas.Nat.{le-div, mul-le}
use Rattle.ring_sizes.specs.Schedules.{IsPace, is_stalled, step_moment, steps_before, tick_moment, ticks_by}
use Rattle.ring_sizes.specs.declared.events.Event.TheVariants.{Packet, Read}
use Rattle.ring_sizes.specs.declared.paces.Arrival.{Arrival}
use Rattle.ring_sizes.specs.declared.paces.Timing.{Timing}
use Rattle.ring_sizes.specs.declared.paces.StallTime.{StallTime}
use Rattle.ring_sizes.proofs.Counts.{step_comes}
use Rattle.pace_laws.proofs.Beats.{beats_in, beats_on, each, packet_of, reads_at, stamped_from, step_reads, steps_in}
use Rattle.pace_laws.proofs.Beats.{steps_on, tick_of}
use Rattle.pace_laws.proofs.BeatKinds.{ComeIn, later_one, ticks_between}
use Rattle.pace_laws.proofs.Orders.{Runs, key_of, runs_on, sooner}

same_run : (low at n high : ℕ) → low ≤ 3 * at + 2 → 3 * at + 2 ≤ high → low ≤ high
    → Runs low (replicate n (record { at = at; event = Read })) high
same_run low at zero high l h k = k
same_run low at (suc n) high l h k = (l, same_run (3 * at + 2) at n high (omega arith) h h)

reads_run : (stalled : Bool) (low at n high : ℕ) → low ≤ 3 * at + 2 → 3 * at + 2 ≤ high → low ≤ high
    → Runs low (reads_at stalled at n) (max low (3 * at + 2))
reads_run true low at n high l h k = omega arith
reads_run false low at n high l h k =
    subst (λ (top : ℕ). Runs low (replicate n (record { at = at; event = Read })) top) (is_top l)
    (same_run low at n (3 * at + 2) l (omega arith) l)
  where
    is_top : low ≤ 3 * at + 2 → 3 * at + 2 ≡ max low (3 * at + 2)
    is_top l = omega (arith, l)

module _ (stalls : List StallTime) (pace : Timing) (blocks : ℕ) where
  -- the next steps after so many come between these moments, the later one not included
  abbrev StepsIn : ℕ → ℕ → ℕ → ℕ → Type 0
  StepsIn more done since at =
      (n : ℕ) → done < n → n ≤ done + more → (since ≤ step_moment pace n) × (step_moment pace n < at)

  pub step_order : (sound : IsPace pace) (one other : ℕ) → one ≤ other → step_moment pace one ≤ step_moment pace other
  step_order sound one other h =
      let spans = mul-le (one - 1) pace.span (other - 1) pace.span (omega (arith, h)) (omega arith) in
      let floor = div-mul-le_self ((one - 1) * pace.span) pace.parts in
      let whole = le-div ((one - 1) * pace.span / pace.parts) ((other - 1) * pace.span) pace.parts sound.parts
      (omega (arith, spans, floor)) in
      omega (arith, whole)

  steps_after : (sound : IsPace pace) (more done since at : ℕ) → StepsIn (suc more) done since at
      → StepsIn more (done + 1) (step_moment pace (done + 1)) at
  steps_after sound more done since at t =
      λ n later few. (step_order sound (done + 1) n (omega (arith, later)), (t n (omega (arith, later)) (omega (arith, few))).1)

  steps_run : (sound : IsPace pace) (more done low since at high : ℕ) → StepsIn more done since at
      → low ≤ 3 * since + 2 → 3 * at ≤ high → low ≤ high
      → Runs low (steps_on stalls pace blocks done more) high
  steps_run sound zero done low since at high t l h k = k
  steps_run sound (suc more) done low since at high t l h k =
      let here = t (done + 1) (omega arith) (omega arith) in
      let moment = step_moment pace (done + 1) in
      let a : low ≤ 3 * moment + 2 = omega (arith, here.0, l) in
      let b : 3 * moment + 2 ≤ high = omega (arith, here.1, h) in
      let c : max low (3 * moment + 2) ≤ 3 * moment + 2 = omega (arith, a) in
      let d : max low (3 * moment + 2) ≤ high = omega (arith, k, b) in
      runs_on low (step_reads stalls pace blocks (done + 1)) (max low (3 * moment + 2))
      (steps_on stalls pace blocks (done + 1) more) high
      (reads_run (is_stalled stalls moment) low moment (each stalls pace blocks) high a b k)
      (steps_run sound more (done + 1) (max low (3 * moment + 2)) moment at high (steps_after sound more done since at t) c h d)

  in_time : (sound : IsPace pace) (since at : ℕ)
      → StepsIn (steps_before pace at - steps_before pace since) (steps_before pace since) since at
  in_time sound since at = λ n later few.
      (from_since n later (cases_lt (step_moment pace n) since), before_end n later few)
    where
      from_since : (n : ℕ) → steps_before pace since < n → (step_moment pace n < since) ⊎ (since ≤ step_moment pace n)
          → since ≤ step_moment pace n
      from_since n later (inl h) =
          let counted = (step_comes pace since n sound (omega (arith, later))).1 h in absurd (omega (arith, later, counted))
      from_since n later (inr h) = h

      before_end : (n : ℕ) → steps_before pace since < n
          → n ≤ steps_before pace since + (steps_before pace at - steps_before pace since) → step_moment pace n < at
      before_end n later few =
          (step_comes pace at n sound (omega (arith, later))).0 (omega (arith, later, few))

  pub in_run : (sound : IsPace pace) (low since at high : ℕ) → low ≤ 3 * since + 2 → 3 * at ≤ high → low ≤ high
      → Runs low (steps_in stalls pace blocks since at) high
  in_run sound low since at high l h k =
      steps_run sound (steps_before pace at - steps_before pace since) (steps_before pace since) low since at high
      (in_time sound since at) l h k

  -- the next ticks after so many come between these keys
  abbrev TicksRun : ℕ → ℕ → ℕ → ℕ → Type 0
  TicksRun more ticks low at =
      (n : ℕ) → ticks < n → n ≤ ticks + more → (low ≤ 3 * tick_moment pace n) × (tick_moment pace n ≤ at)

  tick_order : (one other : ℕ) → one ≤ other → 3 * tick_moment pace one ≤ 3 * tick_moment pace other
  tick_order one other h = grind arith

  ticks_after : (more ticks low at : ℕ) → TicksRun (suc more) ticks low at
      → TicksRun more (ticks + 1) (3 * tick_moment pace (ticks + 1)) at
  ticks_after more ticks low at t =
      λ n later few. (tick_order (ticks + 1) n (omega (arith, later)), (t n (omega (arith, later)) (omega (arith, few))).1)

  beats_run : (sound : IsPace pace) (more ticks low since at high : ℕ) → TicksRun more ticks low at → low ≤ 3 * since + 2
      → 3 * at ≤ high → low ≤ high
      → Runs low (beats_on stalls pace blocks more ticks since at) high
  beats_run sound zero ticks low since at high t l h k = in_run sound low since at high l h k
  beats_run sound (suc more) ticks low since at high t l h k =
      let here = t (ticks + 1) (omega arith) (omega arith) in
      let next = tick_moment pace (ticks + 1) in
      runs_on low (steps_in stalls pace blocks since next) (3 * next)
      (tick_of pace (ticks + 1) ∷ beats_on stalls pace blocks more (ticks + 1) next at) high
      (in_run sound low since next (3 * next) l (omega arith) here.0) (
        omega arith,
        sooner (key_of (tick_of pace (ticks + 1))) (3 * next)
            (beats_on stalls pace blocks more (ticks + 1) next at) high (omega arith)
            (beats_run sound more (ticks + 1) (3 * next) next at high (ticks_after more ticks low at t) (omega arith) h
            (omega (arith, here.1, h))),
      )

  between : (sound : IsPace pace) (since by at : ℕ) → since ≤ by → by ≤ at
      → TicksRun (ticks_by pace by - ticks_by pace since) (ticks_by pace since) (3 * since + 1) at
  between sound since by at l m = λ n later few.
      let here = ticks_between stalls pace blocks sound since by l n later few in
      (omega (arith, here.0), omega (arith, here.1, m))

  pub stamped_run : (sound : IsPace pace) (end since : ℕ) (arrivals : List Arrival) → ComeIn since arrivals end
      → Runs (3 * since + 1) (stamped_from stalls pace blocks end since arrivals) (3 * (end + 1))
  stamped_run sound end since [] h =
      beats_run sound (ticks_by pace end - ticks_by pace since) (ticks_by pace since) (3 * since + 1) since (end + 1)
      (3 * (end + 1)) (between sound since end (end + 1) h (omega arith)) (omega arith) (omega arith) (omega (arith, h))
  stamped_run sound end since (arrival ∷ arrivals) h =
      let at = arrival.at in
      let whole : Runs (3 * since + 1) (beats_in stalls pace blocks since at at
      ++ packet_of arrival ∷ stamped_from stalls pace blocks end at arrivals) (3 * (end + 1)) =
      runs_on (3 * since + 1) (beats_in stalls pace blocks since at at) (3 * at + 1)
      (packet_of arrival ∷ stamped_from stalls pace blocks end at arrivals) (3 * (end + 1))
      (beats_run sound (ticks_by pace at - ticks_by pace since) (ticks_by pace since) (3 * since + 1) since at (3 * at + 1)
      (between sound since at at h.0 (omega arith)) (omega arith) (omega arith) (omega (arith, h.0)))
      (omega arith, stamped_run sound end at arrivals h.1) in
      subst (λ (at : ℕ). Runs (3 * since + 1) (beats_in stalls pace blocks since at at
      ++ record { at = at; event = Packet arrival.need } ∷ stamped_from stalls pace blocks end at arrivals) (3 * (end + 1)))
      (sym (later_one since at h.0)) whole
