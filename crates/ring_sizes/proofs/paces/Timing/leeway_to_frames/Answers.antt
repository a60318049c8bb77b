use Rattle.std.proofs.Common.{ℕ, ◌≡◌, ◌≤◌, ◌+◌, ◌<◌, ◌^◌, max, get_or, subst, sym, ap, ◌∙◌, arith, rules}
use Rattle.std.proofs.lemmas.List.Elements.{All-get_or}
use Rattle.std.proofs.lemmas.Grind.{common_steps}
use Rattle.ring_sizes.specs.Orders.{PassesNoFrame}
use Rattle.ring_sizes.specs.Schedules.{tick_moment, ticks_by}
use Rattle.ring_sizes.specs.declared.paces.Arrival.{Arrival}
use Rattle.ring_sizes.specs.declared.paces.Timing.{Timing}
use Rattle.ring_sizes.proofs.Counts.{same_ticks}
use Rattle.ring_sizes.proofs.Frames.{max_below}
use Rattle.ring_sizes.proofs.Leeways.{end_stays, frame_goes, no_frame_at_once}
use Rattle.ring_sizes.proofs.paces.Timing.leeway_to_frames.Goals.{else-next-at, then-next-at}
use Rattle.ring_sizes.proofs.paces.Timing.leeway_to_frames.Goals as goal

pub returns-then-leeway-lt-MILLISECOND : goal.returns-then-leeway-lt-MILLISECOND
returns-then-leeway-lt-MILLISECOND c = λ phase more early.
    let same : c.args.self.now.phase ≡ phase = omega (arith, more, early) in
    subst (λ (phase : ℕ). PassesNoFrame c.args.self.now phase c.args.end 0 c.args.arrivals.now) same
    (no_frame_at_once c.args.self.now c.args.end 0 c.args.arrivals.now)

rises : (since at next : ℕ) → next ≡ max since at → since ≤ next
rises since at next e = grind (arith, common_steps, e)

pub loop-arrival-preserved : goal.loop-arrival-preserved
loop-arrival-preserved c =
    let pace : Timing = c.args.self.now in
    let none : Arrival = record { at = 0; need = 0 } in
    let index : ℕ = c.loop-arrival.arrival-index in
    let since : ℕ = c.loop-arrival.at in
    let at : ℕ = c.max-at.result in
    let arrival : Arrival = get_or c.args.arrivals.now index none in
    let max_is : at ≡ max since arrival.at = search rules in
    let soon : arrival.at < 2 ^ 53 =
    All-get_or (λ (arrival : Arrival). arrival.at < 2 ^ 53) c.args.arrivals.now index none c.loop-arrival-test.true
    c.requires.early in
    let early = max_below since arrival.at (2 ^ 53) c.loop-arrival.invariant.early soon in
    let moment : c.if-next-at.next ≡ tick_moment pace (ticks_by pace at + 1) =
    elim c.if-next-at.branch [
      | then-next-at w ↦ w.next-is ∙ w.next_tick-next-then-next-at.ensures.moment
      | else-next-at w ↦
          (let here = c.loop-arrival.invariant.next in
          let same = same_ticks pace since at c.requires.sound.tov (rises since arrival.at at max_is)
          (omega (arith, here, w.if-next-at.false)) in
          w.next-is ∙ here ∙ ap (λ (ticks : ℕ). tick_moment pace (ticks + 1)) (sym same))
    ] in
    let later : at < c.if-next-at.next =
    elim c.if-next-at.branch [
      | then-next-at w ↦ omega (arith, w.next-is, w.next_tick-next-then-next-at.ensures.later)
      | else-next-at w ↦ omega (arith, w.next-is, w.if-next-at.false)
    ] in
    record {
      early = omega (arith, max_is, early);
      later = later;
      next = moment;
      goes =
          frame_goes pace c.args.end since at c.loop-arrival.leeway c.if-next-at.next c.min-leeway.result index
          c.args.arrivals.now none c.requires.sound.tov c.loop-arrival-test.true max_is moment c.min-leeway.ensures
          c.loop-arrival.invariant.goes;
    }

pub returns : goal.returns
returns c =
    end_stays c.args.self.now c.args.end c.loop-arrival.at c.loop-arrival.leeway c.next_tick.result c.min.result
    c.loop-arrival.arrival-index c.args.arrivals.now c.requires.sound.tov c.loop-arrival-test.false
    c.next_tick.ensures.moment c.min.ensures c.loop-arrival.invariant.goes
