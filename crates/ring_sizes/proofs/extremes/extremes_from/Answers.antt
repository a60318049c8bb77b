use Rattle.std.proofs.Common.{ℕ, ◌+◌, ◌<◌, ap, subst, sym, arith}
use Rattle.ring_sizes.specs.Phases.{IsFirstFewest, IsFirstMost, begun}
use Rattle.ring_sizes.specs.declared.extremes.Extremes.{Extremes}
use Rattle.ring_sizes.specs.declared.paces.Timing.{Timing}
use Rattle.ring_sizes.proofs.Stretches.{alike, next_fewest, next_most, unit_stays}
use Rattle.ring_sizes.proofs.Worsts.{fewest, most}
use Rattle.ring_sizes.proofs.extremes.extremes_from.Goals as goal

pub next_other-phase-requires-in-loop-phase-clause-unit : goal.next_other-phase-requires-in-loop-phase-clause-unit
next_other-phase-requires-in-loop-phase-clause-unit g c =
    unit_stays c.args.pace.now c.args.tries.now.first_phase c.loop-phase.phase c.args.tries.now.first_from c.unit-unit.result
    c.begun-first.result c.begun-here.result c.begun-first.ensures c.begun-here.ensures c.unit-unit.ensures

pub loop-phase-init : goal.loop-phase-init
loop-phase-init g c =
    let pace = c.args.pace.now in
    let tries = c.args.tries.now in
    let number_of : Timing → ℕ = g.M.Measure.number c.args.measure.now in
    let next = c.next_other-phase.result in
    let at = ap (λ (pace : Timing). pace.phase) c.begun-first.ensures in
    let later : tries.first_phase < next = omega (arith, at, c.next_other-phase.ensures.later) in
    let number = c.number_at-number.result in
    let upto = record tries { phase_end = next; from_end = tries.first_from + 1 } in
    record {
      some = later;
      below = c.next_other-phase.ensures.last;
      fewest =
          subst (λ (extremes : Extremes). IsFirstFewest upto (λ phase from. number_of (begun pace phase from)) extremes.fewest)
          (sym c.only-extremes.ensures)
          (alike number_of pace tries _ _ fewest tries.first_phase next number c.begun-first.result c.begun-first.ensures later
          c.number_at-number.ensures c.next_other-phase.ensures.same);
      most =
          subst (λ (extremes : Extremes). IsFirstMost upto (λ phase from. number_of (begun pace phase from)) extremes.most)
          (sym c.only-extremes.ensures)
          (alike number_of pace tries _ _ most tries.first_phase next number c.begun-first.result c.begun-first.ensures later
          c.number_at-number.ensures c.next_other-phase.ensures.same);
    }

pub loop-phase-preserved : goal.loop-phase-preserved
loop-phase-preserved g c =
    let pace = c.args.pace.now in
    let tries = c.args.tries.now in
    let number_of : Timing → ℕ = g.M.Measure.number c.args.measure.now in
    let tried = c.loop-phase.phase in
    let next = c.next_other-phase-in-loop-phase.result in
    let at = ap (λ (pace : Timing). pace.phase) c.begun-here.ensures in
    let later : tried < next = omega (arith, at, c.next_other-phase-in-loop-phase.ensures.later) in
    let number = c.number_at-number-in-loop-phase.result in
    let counted = c.number_at-number-in-loop-phase.ensures in
    let same = c.next_other-phase-in-loop-phase.ensures.same in
    let upto = record tries { phase_end = next; from_end = tries.first_from + 1 } in
    record {
      some = omega (arith, c.loop-phase.invariant.some, later);
      below = c.next_other-phase-in-loop-phase.ensures.last;
      fewest =
          subst (λ (extremes : Extremes). IsFirstFewest upto (λ phase from. number_of (begun pace phase from)) extremes.fewest)
          (sym c.or-extremes.ensures)
          (next_fewest number_of pace tries tried next number c.begun-here.result c.loop-phase.extremes.fewest
          c.begun-here.ensures c.loop-phase.invariant.some later c.loop-phase.invariant.fewest counted same);
      most =
          subst (λ (extremes : Extremes). IsFirstMost upto (λ phase from. number_of (begun pace phase from)) extremes.most)
          (sym c.or-extremes.ensures)
          (next_most number_of pace tries tried next number c.begun-here.result c.loop-phase.extremes.most
          c.begun-here.ensures c.loop-phase.invariant.some later c.loop-phase.invariant.most counted same);
    }
