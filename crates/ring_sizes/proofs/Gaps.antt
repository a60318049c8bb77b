-- What comes between two frames, done one by one, is what the arithmetic says.
use Rattle.std.proofs.Common.{◌≡◌, ℕ, zero, suc, ◌+◌, ◌-◌, ◌*◌, ◌<◌, ◌≤◌, Bool, true, false, cond, List, ◌∷◌}
use Rattle.std.proofs.Common.{refl, sym, ap, subst, ◌∙◌, arith}
use Rattle.std.specs.Prelude.{nat_lt, nat_le, ◌||◌}
use Rattle.std.proofs.Math.Nat.{mul-le-mul_right}
use Rattle.std.proofs.lemmas.Grind.{common_steps}
use Rattle.ring_sizes.specs.Passes.{passed_all, ticked, with_next}
use Rattle.ring_sizes.specs.Rests.{IsTicked, after_last, after_next, read_on, read_to, rested}
use Rattle.ring_sizes.specs.Schedules.{IsPace, awake, beats, steps_before}
use Rattle.ring_sizes.specs.Schedules.{steps_from, tick_moment, ticks_by}
use Rattle.ring_sizes.specs.declared.events.Event.{Event}
use Rattle.ring_sizes.specs.declared.events.Event.TheVariants.{Tick}
use Rattle.ring_sizes.specs.declared.paces.Timing.{Timing}
use Rattle.ring_sizes.specs.declared.paces.StallTime.{StallTime}
use Rattle.ring_sizes.specs.declared.sizes.Pass.{Pass}
use Rattle.ring_sizes.proofs.Counts.{moments_rise, next_tick, steps_rise, tick_comes}
use Rattle.ring_sizes.proofs.ReaderSteps.{awake_join, passed_append, reads, reads_join}

-- ---- ticks of an empty block

pub due_by : (tov ms : ℕ) (pass : Pass) (early empty : Bool) → early ≡ false → empty ≡ true
    → cond early (record pass { clock = ms })
    (cond empty (record pass { clock = ms; deadline = ms + tov })
    (record (with_next pass) { used = 0; empty = true; clock = ms; deadline = ms + tov }))
    ≡ record pass { clock = ms; deadline = ms + tov }
due_by tov ms pass true empty e f = absurd (grind (arith, common_steps, e))
due_by tov ms pass false true e f = refl
due_by tov ms pass false false e f = absurd (grind (arith, common_steps, f))

pub not_early : (ms deadline : ℕ) (early : Bool) → nat_lt ms deadline ≡ early → deadline ≤ ms → early ≡ false
not_early ms deadline true e due = absurd (grind (arith, common_steps))
not_early ms deadline false e due = refl

due_empty : (tov ms : ℕ) (pass : Pass) → pass.empty ≡ true → pass.deadline ≤ ms
    → ticked tov ms pass ≡ record pass { clock = ms; deadline = ms + tov }
due_empty tov ms pass empty due =
    due_by tov ms pass (nat_lt ms pass.deadline) pass.empty (not_early ms pass.deadline
    (nat_lt ms pass.deadline) refl due) empty

none_later : (next last : ℕ) (more : Bool) → nat_lt next last ≡ more → last ≤ next → false ≡ nat_lt next last
none_later next last true e h = absurd (grind (arith, common_steps))
none_later next last false e h = sym e

some_later : (next last : ℕ) (more : Bool) → nat_lt next last ≡ more → next < last → true ≡ nat_lt next last
some_later next last true e h = sym e
some_later next last false e h = absurd (grind (arith, common_steps))

module _ (room : ℕ) (stalls : List StallTime) (pace : Timing) (sound : IsPace pace) where
  abbrev run : List Event → Pass → Pass
  run events pass = passed_all room pace.tov events pass

  abbrev upto : ℕ → ℕ
  upto at = steps_before pace at

  abbrev read : ℕ → ℕ → Pass → Pass
  read from to pass = read_to stalls pace from to pass

  -- the pass at this tick, with an empty block
  abbrev at_tick : ℕ → Pass → Pass
  at_tick number pass = record pass { clock = number * pace.tov; deadline = number * pace.tov + pace.tov }

  steps_run : (since at : ℕ) (pass : Pass) → run (steps_from stalls pace since at) pass ≡ read (upto since) (upto at) pass
  steps_run since at pass =
      reads room pace.tov pace.takes_all (awake stalls pace (upto since) (upto at - upto since)) pass

  join : (from middle to : ℕ) (pass : Pass) → from ≤ middle → middle ≤ to
      → read middle to (read from middle pass) ≡ read from to pass
  join from middle to pass early late =
      let a : from + (middle - from) ≡ middle = omega (arith, early) in
      let b : middle - from + (to - middle) ≡ to - from = omega (arith, early, late) in
      reads_join pace.takes_all (awake stalls pace from (middle - from)) (awake stalls pace middle (to - middle)) pass
      ∙ ap (λ (n : ℕ). read_on pace.takes_all n pass)
      (ap (λ (n : ℕ). awake stalls pace from (middle - from) + awake stalls pace n (to - middle)) (sym a)
      ∙ awake_join stalls pace from (middle - from) (to - middle)
      ∙ ap (awake stalls pace from) b)

  -- the events of the next tick and of the rest
  head_run : (more ticks since at : ℕ) (pass : Pass)
      → let next = tick_moment pace (ticks + 1) in
      run (beats stalls pace (suc more) ticks since at) pass
      ≡ run (beats stalls pace more (ticks + 1) next at)
      (ticked pace.tov ((ticks + 1) * pace.tov) (read (upto since) (upto next) pass))
  head_run more ticks since at pass =
      let next = tick_moment pace (ticks + 1) in
      passed_append room pace.tov (steps_from stalls pace since next)
      (Tick ((ticks + 1) * pace.tov) ∷ beats stalls pace more (ticks + 1) next at) pass
      ∙ ap (λ (pass : Pass). run (beats stalls pace more (ticks + 1) next at) (ticked pace.tov ((ticks + 1) * pace.tov) pass))
      (steps_run since next pass)

  -- ticks of an empty block, from a tick on
  rests : (more ticks last since at : ℕ) (pass : Pass) → last ≡ ticks + more → pass.empty ≡ true
      → pass.clock ≡ ticks * pace.tov → pass.deadline ≡ ticks * pace.tov + pace.tov
      → since ≤ tick_moment pace (ticks + 1) → since ≤ at → (1 ≤ more → tick_moment pace (ticks + more) ≤ at)
      → run (beats stalls pace more ticks since at) pass ≡ read (upto since) (upto at) (at_tick last pass)
  rests zero ticks last since at pass e empty clock deadline soon later by =
      let same : ticks ≡ last = omega (arith, e) in
      steps_run since at pass
      ∙ ap (read (upto since) (upto at))
      (ap (λ (n : ℕ). record pass { clock = n }) clock
      ∙ ap (λ (n : ℕ). record pass { clock = ticks * pace.tov; deadline = n }) deadline
      ∙ ap (λ (n : ℕ). at_tick n pass) same)
  rests (suc more) ticks last since at pass e empty clock deadline soon later by =
      let next = tick_moment pace (ticks + 1) in
      let due : pass.deadline ≤ (ticks + 1) * pace.tov = grind (arith, common_steps) in
      let nexts : next ≤ at = rests_by more ticks at (by (omega arith)) in
      head_run more ticks since at pass
      ∙ ap (run (beats stalls pace more (ticks + 1) next at))
      (due_empty pace.tov ((ticks + 1) * pace.tov) (read (upto since) (upto next) pass) empty due)
      ∙ rests more (ticks + 1) last next at (read (upto since) (upto next) (at_tick (ticks + 1) pass)) (omega (arith, e)) empty
      refl refl (moments_rise pace ticks) nexts
      (λ some. subst (λ (n : ℕ). tick_moment pace n ≤ at) (let f : ticks + suc more ≡ ticks + 1 + more = omega arith in f)
      (by (omega arith)))
      ∙ join (upto since) (upto next) (upto at) (at_tick last pass) (steps_rise pace since next sound soon)
      (steps_rise pace next at sound nexts)
    where
      rests_by : (more ticks at : ℕ) → tick_moment pace (ticks + suc more) ≤ at → tick_moment pace (ticks + 1) ≤ at
      rests_by more ticks at h =
          let most = mul-le-mul_right {m = ticks + 1} {n = ticks + suc more} (pace.tov * 1000000) (omega arith) in
          omega (arith, most, h)

  -- ---- a whole gap

  abbrev tick : ℕ → Pass → Pass
  tick number pass = ticked pace.tov (number * pace.tov) pass

  -- the last of some ticks of an empty block, of which the first is due
  last_empty : (next last : ℕ) (pass : Pass) (more : Bool) → nat_lt next last ≡ more → next ≤ last → pass.empty ≡ true
      → pass.clock ≡ next * pace.tov → pass.deadline ≡ next * pace.tov + pace.tov
      → cond more (tick last pass) pass ≡ at_tick last pass
  last_empty next last pass true e few empty clock deadline =
      let more : next < last = grind (arith, common_steps) in
      let most = mul-le-mul_right {m = next + 1} {n = last} pace.tov (omega (arith, more)) in
      due_empty pace.tov (last * pace.tov) pass empty (omega (arith, deadline, most))
  last_empty next last pass false e few empty clock deadline =
      let same : next ≡ last = grind (arith, common_steps) in
      ap (λ (n : ℕ). record pass { clock = n }) clock
      ∙ ap (λ (n : ℕ). record pass { clock = next * pace.tov; deadline = n }) deadline
      ∙ ap (λ (n : ℕ). at_tick n pass) same

  -- a due tick leaves an empty block
  ticked_empty : (ms : ℕ) (pass : Pass) (early empty : Bool) → early ≡ false
      → let later = cond early (record pass { clock = ms })
      (cond empty (record pass { clock = ms; deadline = ms + pace.tov })
      (record (with_next pass) { used = 0; empty = true; clock = ms; deadline = ms + pace.tov })) in
      empty ≡ pass.empty
      → (later.empty ≡ true) × (later.clock ≡ ms) × (later.deadline ≡ ms + pace.tov)
  ticked_empty ms pass true empty e same = absurd (grind (arith, common_steps, e))
  ticked_empty ms pass false true e same = (sym same, refl, refl)
  ticked_empty ms pass false false e same = (refl, refl, refl)

  -- more ticks come: the next one and the rest
  ticks_run : (more last since at : ℕ) (pass : Pass) (empty : Bool) → empty ≡ pass.empty
      → IsTicked pace (ticks_by pace since) pass
      → last ≡ ticks_by pace since + suc more → last ≤ ticks_by pace at
      → run (beats stalls pace (suc more) (ticks_by pace since) since at) pass
      ≡ cond empty (read (upto since) (upto at) (tick last pass))
      (read (upto (tick_moment pace (ticks_by pace since + 1))) (upto at)
      (after_last pace (ticks_by pace since + 1) last (after_next stalls pace (ticks_by pace since) (upto since) pass)))
  ticks_run more last since at pass empty same h e f =
      let ticks = ticks_by pace since in
      let next = tick_moment pace (ticks + 1) in
      let soon : since ≤ next = let s = next_tick pace since sound.tov in omega (arith, s) in
      let by : next ≤ at = (tick_comes pace at (ticks + 1) sound.tov).0 (omega (arith, e, f)) in
      let due : pass.deadline ≤ (ticks + 1) * pace.tov = let d = h.deadline in grind (arith, common_steps) in
      let first = tick (ticks + 1) (read (upto since) (upto next) pass) in
      let opened = ticked_empty ((ticks + 1) * pace.tov) (read (upto since) (upto next) pass)
      (nat_lt ((ticks + 1) * pace.tov) pass.deadline) pass.empty
      (not_early ((ticks + 1) * pace.tov) pass.deadline (nat_lt ((ticks + 1) * pace.tov) pass.deadline) refl due) refl in
      let rest : run (beats stalls pace (suc more) ticks since at) pass ≡ read (upto next) (upto at) (at_tick last first) =
      head_run more ticks since at pass
      ∙ rests more (ticks + 1) last next at first (omega (arith, e)) opened.0 opened.1 opened.2 (moments_rise pace ticks) by
      (λ some. (tick_comes pace at (ticks + 1 + more) sound.tov).0 (omega (arith, e, f))) in
      by_empty empty same rest due soon by opened where
        by_empty : (empty : Bool) → empty ≡ pass.empty
            → let ticks = ticks_by pace since in
            let next = tick_moment pace (ticks + 1) in
            let first = tick (ticks + 1) (read (upto since) (upto next) pass) in
            run (beats stalls pace (suc more) ticks since at) pass ≡ read (upto next) (upto at) (at_tick last first)
            → pass.deadline ≤ (ticks + 1) * pace.tov → since ≤ next → next ≤ at
            → (first.empty ≡ true) × (first.clock ≡ (ticks + 1) * pace.tov) × (first.deadline
            ≡ (ticks + 1) * pace.tov + pace.tov)
            → run (beats stalls pace (suc more) ticks since at) pass
            ≡ cond empty (read (upto since) (upto at) (tick last pass))
            (read (upto next) (upto at) (after_last pace (ticks + 1) last
            (after_next stalls pace (ticks_by pace since) (upto since) pass)))
        by_empty true same rest due soon by opened =
            let ticks = ticks_by pace since in
            let next = tick_moment pace (ticks + 1) in
            let most = mul-le-mul_right {m = ticks + 1} {n = last} pace.tov (omega (arith, e)) in
            rest
            ∙ ap (λ (p : Pass). read (upto next) (upto at) (at_tick last p))
            (due_empty pace.tov ((ticks + 1) * pace.tov) (read (upto since) (upto next) pass) (sym same) due)
            ∙ join (upto since) (upto next) (upto at) (at_tick last pass) (steps_rise pace since next sound soon)
            (steps_rise pace next at sound by)
            ∙ ap (read (upto since) (upto at)) (sym (due_empty pace.tov (last * pace.tov) pass (sym same) (omega
            (arith, due, most))))
        by_empty false same rest due soon by opened =
            let ticks = ticks_by pace since in
            let next = tick_moment pace (ticks + 1) in
            let first = tick (ticks + 1) (read (upto since) (upto next) pass) in
            rest
            ∙ ap (read (upto next) (upto at))
            (sym (last_empty (ticks + 1) last first (nat_lt (ticks + 1) last) refl (omega
            (arith, e)) opened.0 opened.1 opened.2))

  gap_by : (more last since at : ℕ) (pass : Pass) (empty few : Bool) → empty ≡ pass.empty
      → nat_le last (ticks_by pace since) ≡ few
      → more ≡ last - ticks_by pace since → IsTicked pace (ticks_by pace since) pass → last ≤ ticks_by pace at
      → run (beats stalls pace more (ticks_by pace since) since at) pass
      ≡ cond (empty || few)
      (read (upto since) (upto at) (after_last pace (ticks_by pace since) last pass))
      (read (upto (tick_moment pace (ticks_by pace since + 1))) (upto at)
      (after_last pace (ticks_by pace since + 1) last (after_next stalls pace (ticks_by pace since) (upto since) pass)))
  gap_by zero last since at pass true few same e m h by =
      steps_run since at pass
      ∙ ap (λ (more : Bool). read (upto since) (upto at) (cond more (tick last pass) pass))
      (none_later (ticks_by pace since) last (nat_lt (ticks_by pace since) last) refl (omega (arith, m)))
  gap_by zero last since at pass false true same e m h by =
      steps_run since at pass
      ∙ ap (λ (more : Bool). read (upto since) (upto at) (cond more (tick last pass) pass))
      (none_later (ticks_by pace since) last (nat_lt (ticks_by pace since) last) refl (omega (arith, m)))
  gap_by zero last since at pass false false same e m h by = absurd (grind (arith, common_steps))
  gap_by (suc more) last since at pass true few same e m h by =
      ticks_run more last since at pass true same h (omega (arith, m)) by
      ∙ ap (λ (some : Bool). read (upto since) (upto at) (cond some (tick last pass) pass))
      (some_later (ticks_by pace since) last (nat_lt (ticks_by pace since) last) refl (omega (arith, m)))
  gap_by (suc more) last since at pass false true same e m h by = absurd (grind (arith, common_steps))
  gap_by (suc more) last since at pass false false same e m h by =
      ticks_run more last since at pass false same h (omega (arith, m)) by

  pub gap : (last since at : ℕ) (pass : Pass) → IsTicked pace (ticks_by pace since) pass → last ≤ ticks_by pace at
      → run (beats stalls pace (last - ticks_by pace since) (ticks_by pace since) since at) pass
      ≡ rested stalls pace (ticks_by pace since) last (upto since) (upto at) pass
  gap last since at pass h by =
      gap_by (last - ticks_by pace since) last since at pass pass.empty (nat_le last (ticks_by pace since)) refl refl refl h by
