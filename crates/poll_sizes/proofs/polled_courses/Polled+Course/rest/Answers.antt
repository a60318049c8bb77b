use Rattle.std.proofs.Common.{◌≡◌, ℕ, ◌+◌, ◌-◌, ◌*◌, ◌^◌, sym, ap, ◌∙◌, arith}
use Rattle.poll_sizes.specs.Beats.{tick_beat, ticks_on, timer_of}
use Rattle.poll_sizes.specs.Polls.{all_beaten, beaten, course_done}
use Rattle.poll_sizes.specs.declared.polls.PollTiming.{PollTiming}
use Rattle.ring_sizes.specs.Courses.{went_on}
use Rattle.ring_sizes.specs.Schedules.{tick_moment}
use Rattle.ring_sizes.specs.declared.events.Event.TheVariants.{Tick}
use Rattle.ring_sizes.proofs.CourseGaps.{smaller}
use Rattle.poll_sizes.proofs.CourseTicks.{IsIdle, last, stays, still}
use Rattle.poll_sizes.proofs.PollMoments.{few_by, few_last, upto_last}
use Rattle.poll_sizes.proofs.Skips.{next_goes, no_tick}
use Rattle.poll_sizes.proofs.polled_courses.Polled+Course.rest.Goals as goal

pub is_idle-requires : goal.is_idle-requires
is_idle-requires c =
    let few = few_last c.args.pace.now c.requires.sound c.args.last c.requires.few.1 in
    smaller (2 ^ 62 + c.loop-done.done) (2 ^ 63) c.loop-done.self.ring (omega (arith, few, c.loop-done-test.true))
    (c.loop-done.invariant.small (2 ^ 62)
    (smaller (2 ^ 62) (2 ^ 62 + c.args.ticks) c.args.self.now.ring (omega arith) c.requires.small))

pub beat-requires : goal.beat-requires
beat-requires c =
    let few = few_last c.args.pace.now c.requires.sound c.args.last c.requires.few.1 in
    smaller (2 ^ 62 + c.loop-done.done) (2 ^ 62 + 2 ^ 61) c.loop-done.self.ring (omega (arith, few, c.loop-done-test.true))
    (c.loop-done.invariant.small (2 ^ 62)
    (smaller (2 ^ 62) (2 ^ 62 + c.args.ticks) c.args.self.now.ring (omega arith) c.requires.small))

pub loop-done-preserved : goal.loop-done-preserved
loop-done-preserved c =
    let pace : PollTiming = c.args.pace.now in
    let blocks : ℕ = c.args.blocks in
    let done : ℕ = c.loop-done.done in
    let next : ℕ = c.next_tick-next.result in
    let later = c.next_tick-next.ensures.later in
    let goes : c.beat.new.self
    ≡ beaten (went_on c.args.room blocks pace.tov) course_done c.args.stalls.now pace.delay (tick_beat pace next)
    c.loop-done.self =
    c.beat.ensures.goes
    ∙ ap (λ (at : ℕ). beaten (went_on c.args.room blocks pace.tov) course_done c.args.stalls.now pace.delay
    (record { at = at; event = Tick (next * c.from.result) }) c.loop-done.self) c.tick_moment-at.ensures
    ∙ ap (λ (tov : ℕ). beaten (went_on c.args.room blocks pace.tov) course_done c.args.stalls.now pace.delay
    (record { at = tick_moment (timer_of pace) next; event = Tick (next * tov) }) c.loop-done.self) c.from.ensures in
    record {
      begun = omega (arith, c.loop-done.invariant.begun, later);
      most = upto_last next c.args.last c.args.ticks c.next_tick-next.ensures.last;
      small = λ bound h.
          smaller (bound + done + 1) (bound + next) c.beat.new.self.ring (omega (arith, later))
          (c.beat.ensures.small (bound + done) (c.loop-done.invariant.small bound h));
      goes =
          ap (all_beaten (went_on c.args.room blocks pace.tov) course_done c.args.stalls.now pace.delay
          (ticks_on pace (c.args.last - next) next)) goes
          ∙ sym (next_goes (went_on c.args.room blocks pace.tov) course_done c.args.stalls.now pace (IsIdle blocks)
          (still blocks pace.tov c.args.room) (stays blocks pace.tov c.args.room) (last blocks pace.tov c.args.room) done next
          c.args.last c.loop-done.self later c.next_tick-next.ensures.last
          (λ more.
          let both = c.next_tick-next.ensures.skips more in (sym c.is_idle.ensures ∙ both.0, both.1)))
          ∙ c.loop-done.invariant.goes;
    }

pub returns-clause-goes : goal.returns-clause-goes
returns-clause-goes c =
    sym (no_tick (went_on c.args.room c.args.blocks c.args.pace.now.tov) course_done c.args.stalls.now c.args.pace.now
    c.args.last c.loop-done.done c.loop-done.self (omega (arith, c.loop-done-test.false)))
    ∙ c.loop-done.invariant.goes

pub returns-clause-small : goal.returns-clause-small
returns-clause-small c = λ bound most begun few h.
    let by = few_by c.loop-done.done c.args.last c.args.ticks most c.loop-done.invariant.most few begun in
    smaller (bound + c.loop-done.done) (bound + most) c.loop-done.self.ring (omega (arith, by))
    (c.loop-done.invariant.small bound h)
