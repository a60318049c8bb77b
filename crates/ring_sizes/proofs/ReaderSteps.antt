-- The reader's steps one after another, and together.
use Rattle.std.proofs.Common.{◌≡◌, ℕ, zero, suc, ◌+◌, ◌-◌, ◌<◌, ◌≤◌, Bool, true, false, cond, List, [], ◌∷◌, ◌++◌}
use Rattle.std.proofs.Common.{replicate, min, refl, sym, ap, ◌∙◌, arith}
use Rattle.std.specs.Prelude.{◌==◌, nat_lt}
use Rattle.std.proofs.lemmas.Grind.{common_steps}
use Rattle.std.proofs.lemmas.List.{replicate-append-replicate}
use Rattle.ring_sizes.specs.Passes.{passed, passed_all}
use Rattle.ring_sizes.specs.Rests.{read_on}
use Rattle.ring_sizes.specs.Schedules.{awake, step_event}
use Rattle.ring_sizes.specs.declared.events.Event.{Event}
use Rattle.ring_sizes.specs.declared.events.Event.TheVariants.{Read, ReadAll}
use Rattle.ring_sizes.specs.declared.paces.Timing.{Timing}
use Rattle.ring_sizes.specs.declared.paces.StallTime.{StallTime}
use Rattle.ring_sizes.specs.declared.sizes.Pass.{Pass}

pub passed_append : (room tov : ℕ) (events more : List Event) (pass : Pass)
    → passed_all room tov (events ++ more) pass ≡ passed_all room tov more (passed_all room tov events pass)
passed_append room tov [] more pass = refl
passed_append room tov (event ∷ events) more pass = passed_append room tov events more (passed room tov event pass)

-- ---- the reader's steps

pub all_again : (none : Bool) (done : ℕ) → cond none done done ≡ done
all_again true done = refl
all_again false done = refl

pub not_none : (steps : ℕ) (none : Bool) → (steps == 0) ≡ none → 0 < steps → none ≡ false
not_none steps true e some = absurd (grind (arith, common_steps))
not_none steps false e some = refl

pub more_read : (more : ℕ) (released done : ℕ) → released < done
    → released + 1 + min more (done - (released + 1)) ≡ released + min (suc more) (done - released)
more_read more released done some = grind (arith, common_steps)

pub none_read : (more : ℕ) (released done : ℕ) → done ≤ released
    → released + min more (done - released) ≡ released + min (suc more) (done - released)
none_read more released done none = grind (arith, common_steps)

module _ (room tov : ℕ) where
  reads_all : (steps : ℕ) (pass : Pass) → passed_all room tov (replicate steps ReadAll) pass ≡ read_on true steps pass
  reads_all zero pass = refl
  reads_all (suc more) pass =
      reads_all more (record pass { released = pass.done })
      ∙ ap (λ (n : ℕ). record pass { released = n })
      (all_again (more == 0) pass.done
      ∙ ap (λ (none : Bool). cond none pass.released pass.done) (sym (not_none (suc more) (suc more == 0) refl (omega arith))))

  reads_one_by : (more : ℕ) (pass : Pass) (some : Bool) → nat_lt pass.released pass.done ≡ some
      → ((later : Pass) → passed_all room tov (replicate more Read) later ≡ read_on false more later)
      → passed_all room tov (replicate more Read) (cond some (record pass { released = pass.released + 1 }) pass)
      ≡ read_on false (suc more) pass
  reads_one_by more pass true e rest =
      rest (record pass { released = pass.released + 1 })
      ∙ ap (λ (n : ℕ). record pass { released = n }) (more_read more pass.released pass.done (grind (arith, common_steps)))
  reads_one_by more pass false e rest =
      rest pass
      ∙ ap (λ (n : ℕ). record pass { released = n }) (none_read more pass.released pass.done (grind (arith, common_steps)))

  reads_one : (steps : ℕ) (pass : Pass) → passed_all room tov (replicate steps Read) pass ≡ read_on false steps pass
  reads_one zero pass =
      let none : pass.released ≡ pass.released + min 0 (pass.done - pass.released) = omega arith in
      ap (λ (n : ℕ). record pass { released = n }) none
  reads_one (suc more) pass = reads_one_by more pass (nat_lt pass.released pass.done) refl (reads_one more)

  pub reads : (takes_all : Bool) (steps : ℕ) (pass : Pass)
      → passed_all room tov (replicate steps (step_event takes_all)) pass ≡ read_on takes_all steps pass
  reads true steps pass = reads_all steps pass
  reads false steps pass = reads_one steps pass

pub reads_join : (takes_all : Bool) (steps more : ℕ) (pass : Pass)
    → read_on takes_all more (read_on takes_all steps pass) ≡ read_on takes_all (steps + more) pass
reads_join takes_all steps more pass =
    sym (reads 0 0 takes_all more (read_on takes_all steps pass))
    ∙ ap (passed_all 0 0 (replicate more (step_event takes_all))) (sym (reads 0 0 takes_all steps pass))
    ∙ sym (passed_append 0 0 (replicate steps (step_event takes_all)) (replicate more (step_event takes_all)) pass)
    ∙ ap (λ (events : List Event). passed_all 0 0 events pass) (replicate-append-replicate steps more (step_event takes_all))
    ∙ reads 0 0 takes_all (steps + more) pass

pub awake_join : (stalls : List StallTime) (pace : Timing) (done steps more : ℕ)
    → awake stalls pace done steps + awake stalls pace (done + steps) more ≡ awake stalls pace done (steps + more)
awake_join stalls pace done zero more =
    let a : done + 0 ≡ done = omega arith in
    let b : 0 + more ≡ more = omega arith in
    let from = ap (λ (n : ℕ). awake stalls pace n more) a in
    let to = ap (awake stalls pace done) b in
    omega (arith, from, to)
awake_join stalls pace done (suc steps) more =
    let rest = awake_join stalls pace (done + 1) steps more in
    let e : done + 1 + steps ≡ done + suc steps = omega arith in
    let f : suc (steps + more) ≡ suc steps + more = omega arith in
    let from = ap (λ (n : ℕ). awake stalls pace n more) e in
    let to = ap (awake stalls pace done) f in
    omega (arith, rest, from, to)
