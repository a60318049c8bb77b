use Rattle.std.proofs.Common.{◌≡◌, ℕ, ◌+◌, ◌-◌, ◌*◌, ◌^◌, sym, ap, ◌∙◌, arith}
use Rattle.poll_sizes.specs.Beats.{tick_beat, ticks_on, timer_of}
use Rattle.poll_sizes.specs.Polls.{all_beaten, beaten, pass_done}
use Rattle.poll_sizes.specs.declared.polls.PollTiming.{PollTiming}
use Rattle.ring_sizes.specs.Passes.{passed}
use Rattle.ring_sizes.specs.Schedules.{tick_moment}
use Rattle.ring_sizes.specs.declared.events.Event.TheVariants.{Tick}
use Rattle.ring_sizes.proofs.Within.{weaker}
use Rattle.poll_sizes.proofs.PassTicks.{IsEmpty, last, stays, still}
use Rattle.poll_sizes.proofs.PollMoments.{few_by, few_last, upto_last}
use Rattle.poll_sizes.proofs.Skips.{next_goes, no_tick}
use Rattle.poll_sizes.proofs.polled_passes.Polled+Pass.rest.Goals as goal

pub beat-requires : goal.beat-requires
beat-requires c =
    let few = few_last c.args.pace.now c.requires.sound c.args.last c.requires.few.1 in
    weaker (2 ^ 62 + c.loop-done.done) (2 ^ 62 + 2 ^ 61) c.loop-done.self.ring (omega (arith, few, c.loop-done-test.true))
    (c.loop-done.invariant.within (2 ^ 62)
    (weaker (2 ^ 62) (2 ^ 62 + c.args.ticks) c.args.self.now.ring (omega arith) c.requires.within))

pub loop-done-preserved : goal.loop-done-preserved
loop-done-preserved c =
    let pace : PollTiming = c.args.pace.now in
    let done : ℕ = c.loop-done.done in
    let next : ℕ = c.next_tick-next.result in
    let later = c.next_tick-next.ensures.later in
    let goes : c.beat.new.self
    ≡ beaten (passed c.args.room pace.tov) pass_done c.args.stalls.now pace.delay (tick_beat pace next) c.loop-done.self =
    c.beat.ensures.goes
    ∙ ap (λ (at : ℕ). beaten (passed c.args.room pace.tov) pass_done c.args.stalls.now pace.delay
    (record { at = at; event = Tick (next * c.from.result) }) c.loop-done.self) c.tick_moment-at.ensures
    ∙ ap (λ (tov : ℕ). beaten (passed c.args.room pace.tov) pass_done c.args.stalls.now pace.delay
    (record { at = tick_moment (timer_of pace) next; event = Tick (next * tov) }) c.loop-done.self) c.from.ensures in
    record {
      begun = omega (arith, c.loop-done.invariant.begun, later);
      most = upto_last next c.args.last c.args.ticks c.next_tick-next.ensures.last;
      within = λ bound h.
          weaker (bound + done + 1) (bound + next) c.beat.new.self.ring (omega (arith, later))
          (c.beat.ensures.within (bound + done) (c.loop-done.invariant.within bound h));
      goes =
          ap (all_beaten (passed c.args.room pace.tov) pass_done c.args.stalls.now pace.delay
          (ticks_on pace (c.args.last - next) next)) goes
          ∙ sym (next_goes (passed c.args.room pace.tov) pass_done c.args.stalls.now pace IsEmpty
          (still c.args.room pace.tov) (stays c.args.room pace.tov) (last c.args.room pace.tov) done next c.args.last
          c.loop-done.self later c.next_tick-next.ensures.last
          (λ more.
          let both = c.next_tick-next.ensures.skips more in (sym c.is_empty.ensures ∙ both.0, both.1)))
          ∙ c.loop-done.invariant.goes;
    }

pub returns-clause-goes : goal.returns-clause-goes
returns-clause-goes c =
    sym (no_tick (passed c.args.room c.args.pace.now.tov) pass_done c.args.stalls.now c.args.pace.now c.args.last
    c.loop-done.done c.loop-done.self (omega (arith, c.loop-done-test.false)))
    ∙ c.loop-done.invariant.goes

pub returns-clause-within : goal.returns-clause-within
returns-clause-within c = λ bound most begun few h.
    let by = few_by c.loop-done.done c.args.last c.args.ticks most c.loop-done.invariant.most few begun in
    weaker (bound + c.loop-done.done) (bound + most) c.loop-done.self.ring (omega (arith, by))
    (c.loop-done.invariant.within bound h)
