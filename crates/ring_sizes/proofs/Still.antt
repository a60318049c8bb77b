-- Nothing comes before the next tick and the next step; numbers after a gap.
use Rattle.std.proofs.Common.{◌≡◌, ℕ, ◌+◌, ◌-◌, ◌*◌, ◌<◌, ◌≤◌, Bool, true, false, cond, List, min, refl, sym, ap, subst}
use Rattle.std.proofs.Common.{◌∙◌, arith}
use Rattle.std.specs.Prelude.{nat_lt, nat_le, ◌||◌, ◌==◌}
use Rattle.std.proofs.lemmas.Grind.{common_steps}
use Rattle.std.proofs.Math.Nat.{mul-le-mul_right}
use Rattle.ring_sizes.specs.Passes.{IsWithin, ticked, with_next}
use Rattle.ring_sizes.specs.Places.{place_at}
use Rattle.ring_sizes.specs.Rests.{IsTicked, after_last, after_next, read_on, read_to, rested}
use Rattle.ring_sizes.specs.Schedules.{IsPace, awake, step_moment, steps_before, tick_moment, ticks_by}
use Rattle.ring_sizes.specs.declared.paces.Timing.{Timing}
use Rattle.ring_sizes.specs.declared.paces.StallTime.{StallTime}
use Rattle.ring_sizes.specs.declared.sizes.Pass.{Pass}
use Rattle.ring_sizes.specs.declared.timed.TimedPlace.{TimedPlace}
use Rattle.ring_sizes.proofs.Counts.{same_steps, same_ticks}
use Rattle.ring_sizes.proofs.Within.{ticked_within, weaker}

pub same_place : (pace : Timing) (place : TimedPlace) (since at : ℕ) → IsPace pace → place ≡ place_at pace since → since ≤ at
    → at < place.tick_at → at ≤ place.step_at → place ≡ place_at pace at
same_place pace place since at sound e later tick step =
    let next = ap (λ (p : TimedPlace). p.tick_at) e in
    let then = ap (λ (p : TimedPlace). p.step_at) e in
    let ticks = same_ticks pace since at sound.tov later (omega (arith, tick, next)) in
    let steps = same_steps pace since at sound later (omega (arith, step, then)) in
    e
    ∙ ap (λ (n : ℕ). record (place_at pace since) { ticks = n; tick_at = tick_moment pace (n + 1) }) (sym ticks)
    ∙ ap (λ (n : ℕ). record (place_at pace at) { steps = n; step_at = step_moment pace (n + 1) }) (sym steps)

none_read : (takes_all : Bool) (pass : Pass) → pass ≡ read_on takes_all 0 pass
none_read true pass = refl
none_read false pass =
    let none : pass.released ≡ pass.released + min 0 (pass.done - pass.released) = omega arith in
    ap (λ (n : ℕ). record pass { released = n }) none

still : (stalls : List StallTime) (pace : Timing) (since at : ℕ) (pass : Pass) → steps_before pace at ≡ steps_before pace since
    → pass ≡ read_to stalls pace (steps_before pace since) (steps_before pace at) pass
still stalls pace since at pass steps =
    let none : 0 ≡ steps_before pace at - steps_before pace since = omega (arith, steps) in
    none_read pace.takes_all pass
    ∙ ap (λ (n : ℕ). read_on pace.takes_all (awake stalls pace (steps_before pace since) n) pass) none

rested_by : (stalls : List StallTime) (pace : Timing) (since at : ℕ) (pass : Pass) (empty few more : Bool)
    → nat_le (ticks_by pace at) (ticks_by pace since) ≡ few → nat_lt (ticks_by pace since) (ticks_by pace at) ≡ more
    → ticks_by pace at ≡ ticks_by pace since → steps_before pace at ≡ steps_before pace since
    → pass ≡ cond (empty || few)
    (read_to stalls pace (steps_before pace since) (steps_before pace at)
    (cond more (ticked pace.tov (ticks_by pace at * pace.tov) pass) pass))
    (read_to stalls pace (steps_before pace (tick_moment pace (ticks_by pace since + 1))) (steps_before pace at)
    (after_last pace (ticks_by pace since + 1) (ticks_by pace at)
    (after_next stalls pace (ticks_by pace since) (steps_before pace since) pass)))
rested_by stalls pace since at pass empty few true e f ticks steps = absurd (grind (arith, common_steps))
rested_by stalls pace since at pass empty false false e f ticks steps = absurd (grind (arith, common_steps))
rested_by stalls pace since at pass true true false e f ticks steps = still stalls pace since at pass steps
rested_by stalls pace since at pass false true false e f ticks steps = still stalls pace since at pass steps

pub same_rest : (stalls : List StallTime) (pace : Timing) (place : TimedPlace) (since at : ℕ) (pass : Pass) → IsPace pace
    → place ≡ place_at pace since → since ≤ at → at < place.tick_at → at ≤ place.step_at
    → pass ≡ rested stalls pace (ticks_by pace since) (ticks_by pace at) (steps_before pace since) (steps_before pace at) pass
same_rest stalls pace place since at pass sound e later tick step =
    let next = ap (λ (p : TimedPlace). p.tick_at) e in
    let then = ap (λ (p : TimedPlace). p.step_at) e in
    let ticks = same_ticks pace since at sound.tov later (omega (arith, tick, next)) in
    let steps = same_steps pace since at sound later (omega (arith, step, then)) in
    rested_by stalls pace since at pass pass.empty (nat_le (ticks_by pace at) (ticks_by pace since))
    (nat_lt (ticks_by pace since) (ticks_by pace at)) refl refl ticks steps

pub rested_at : (stalls : List StallTime) (pace : Timing) (place next : TimedPlace) (since at : ℕ) (pass : Pass)
    → place ≡ place_at pace since → next ≡ place_at pace at
    → rested stalls pace place.ticks next.ticks place.steps next.steps pass
    ≡ rested stalls pace (ticks_by pace since) (ticks_by pace at) (steps_before pace since) (steps_before pace at) pass
rested_at stalls pace place next since at pass e f =
    ap (λ (p : TimedPlace). rested stalls pace p.ticks next.ticks p.steps next.steps pass) e
    ∙ ap (λ (p : TimedPlace). rested stalls pace (ticks_by pace since) p.ticks (steps_before pace since) p.steps pass) f

-- ---- numbers stay small

pub released_few : (takes_all none : Bool) (steps released done : ℕ) → released ≤ done
    → cond takes_all (cond none released done) (released + min steps (done - released)) ≤ done
released_few true true steps released done h = h
released_few true false steps released done h = omega arith
released_few false none steps released done h = grind (arith, common_steps)

pub within_read : (bound : ℕ) (takes_all : Bool) (steps : ℕ) (pass : Pass) → IsWithin bound pass
    → IsWithin bound (read_on takes_all steps pass)
within_read bound takes_all steps pass h = record {
  few = h.few;
  behind = released_few takes_all (steps == 0) steps pass.released pass.done h.behind;
  used = h.used;
}

within_last : (bound : ℕ) (pace : Timing) (next last : ℕ) (pass : Pass) (more : Bool) → IsWithin bound pass
    → IsWithin (bound + 1) (cond more (ticked pace.tov (last * pace.tov) pass) pass)
within_last bound pace next last pass true h = ticked_within bound pace.tov (last * pace.tov) pass h
within_last bound pace next last pass false h = weaker bound (bound + 1) pass (omega arith) h

pub last_within : (bound : ℕ) (pace : Timing) (next last : ℕ) (pass : Pass) → IsWithin bound pass
    → IsWithin (bound + 1) (after_last pace next last pass)
last_within bound pace next last pass h = within_last bound pace next last pass (nat_lt next last) h

pub rested_within : (bound : ℕ) (stalls : List StallTime) (pace : Timing) (ticks last from to : ℕ) (pass : Pass)
    → IsWithin bound pass → IsWithin (bound + 2) (rested stalls pace ticks last from to pass)
rested_within bound stalls pace ticks last from to pass h = by_case (pass.empty || nat_le last ticks) where
  by_case : (still : Bool)
      → IsWithin (bound + 2) (cond still
      (read_to stalls pace from to (after_last pace ticks last pass))
      (read_to stalls pace (steps_before pace (tick_moment pace (ticks + 1))) to
      (after_last pace (ticks + 1) last (after_next stalls pace ticks from pass))))
  by_case true =
      weaker (bound + 1) (bound + 2) _ (omega arith)
      (within_read (bound + 1) pace.takes_all _ _ (last_within bound pace ticks last pass h))
  by_case false =
      weaker (bound + 1 + 1) (bound + 2) _ (omega arith)
      (within_read (bound + 1 + 1) pace.takes_all _ _
      (last_within (bound + 1) pace (ticks + 1) last _
      (ticked_within bound pace.tov _ _ (within_read bound pace.takes_all _ pass h))))

-- ---- the clock

ticked_by : (pace : Timing) (first last : ℕ) (pass : Pass) (early empty : Bool) → pass.deadline ≤ first * pace.tov + pace.tov
    → first ≤ last
    → IsTicked pace last (cond early (record pass { clock = last * pace.tov })
    (cond empty (record pass { clock = last * pace.tov; deadline = last * pace.tov + pace.tov })
    (record (with_next pass) {
      used = 0;
      empty = true;
      clock = last * pace.tov;
      deadline = last * pace.tov + pace.tov;
    })))
ticked_by pace first last pass true empty due later =
    let more = mul-le-mul_right {m = first} {n = last} pace.tov later in record {
      clock = refl;
      deadline = omega
          (arith, due, more);
    }
ticked_by pace first last pass false true due later = record { clock = refl; deadline = omega arith }
ticked_by pace first last pass false false due later = record { clock = refl; deadline = omega arith }

ticked_on : (pace : Timing) (first last : ℕ) (pass : Pass) → pass.deadline ≤ first * pace.tov + pace.tov → first ≤ last
    → IsTicked pace last (ticked pace.tov (last * pace.tov) pass)
ticked_on pace first last pass due later =
    ticked_by pace first last pass (nat_lt (last * pace.tov) pass.deadline) pass.empty due later

last_ticks : (pace : Timing) (next last : ℕ) (pass : Pass) (more : Bool) → nat_lt next last ≡ more → IsTicked pace next pass
    → next ≤ last → IsTicked pace last (cond more (ticked pace.tov (last * pace.tov) pass) pass)
last_ticks pace next last pass true e h later = ticked_on pace next last pass h.deadline later
last_ticks pace next last pass false e h later =
    let same : next ≡ last = grind (arith, common_steps) in subst (λ (n : ℕ). IsTicked pace n pass) same h

pub rested_ticked : (stalls : List StallTime) (pace : Timing) (ticks last from to : ℕ) (pass : Pass) → ticks ≤ last
    → IsTicked pace ticks pass → IsTicked pace last (rested stalls pace ticks last from to pass)
rested_ticked stalls pace ticks last from to pass later h = by_case pass.empty (nat_le last ticks) refl where
  rest : IsTicked pace last (after_last pace ticks last pass)
  rest = last_ticks pace ticks last pass _ refl h later

  by_case : (empty few : Bool) → nat_le last ticks ≡ few
      → IsTicked pace last (cond (empty || few)
      (read_to stalls pace from to (after_last pace ticks last pass))
      (read_to stalls pace (steps_before pace (tick_moment pace (ticks + 1))) to
      (after_last pace (ticks + 1) last (after_next stalls pace ticks from pass))))
  by_case true few e = record { clock = rest.clock; deadline = rest.deadline }
  by_case false true e = record { clock = rest.clock; deadline = rest.deadline }
  by_case false false e =
      let next = ticked_on pace ticks (ticks + 1)
      (read_to stalls pace from (steps_before pace (tick_moment pace (ticks + 1))) pass) h.deadline (omega arith) in
      let end = last_ticks pace (ticks + 1) last _ _ refl next (grind (arith, common_steps)) in
      record { clock = end.clock; deadline = end.deadline }
