use Rattle.std.proofs.Common.{◌∙◌, refl, subst, sym, ℕ, Bool, List}
use Rattle.capture_reports.specs.Feeders.{HasFed}
use Rattle.cpu_feed.specs.Feeds.{Feeds}
use Rattle.fanout_group.specs.Judgements.{AgreesAt}
use Rattle.fanout_group.specs.RulesOfJudging.{judge_rules_of}
use Rattle.member_turns.specs.Seats.{Lock}
use Rattle.run_reports.specs.Jobs as jobs
use Rattle.cpu_feeders.specs.inside.TurnGroups.{Draws, HasMade}
use Rattle.cpu_feeders.specs.inside.TurnLaws.{same_itself, same_on}
use Rattle.cpu_feeders.proofs.GroupFrames.{feeds_more, feeds_none, takes_all}
use Rattle.cpu_feeders.proofs.feeder.feed_all.Goals as goal

pub feeding-init : goal.feeding-init
feeding-init g c = record {
  cpu = record { number = refl; first = refl; shape = refl };
  group = same_itself c.args.group.now;
  goes = c.requires.goes;
  drawing = c.requires.drawing;
}

pub feed-requires-clause-takes : goal.feed-requires-clause-takes
feed-requires-clause-takes g c =
    takes_all c.args.job.now c.rules_at-rules.result c.args.feed.now c.feeding.feed c.args.group.now c.feeding.group
    c.requires.members c.feeding.invariant.cpu
    c.feeding.invariant.group c.feeding.invariant.goes c.rules_at-rules.ensures.room c.rules_at-rules.ensures.some

pub feeding-preserved : goal.feeding-preserved
feeding-preserved g c =
    let was = c.feeding.invariant in
    let agrees = subst (λ (cpu : ℕ). AgreesAt cpu (jobs.judge_rules_of c.args.job.now) (judge_rules_of c.rules_at-rules.result))
    (c.number.ensures ∙ sym was.cpu.number) c.rules_at-rules.ensures.agrees in
    let step = feeds_more c.args.job.now c.args.group.now.dealer.now c.rules_at-rules.result c.feeding.feed c.feed.new.self
    c.feeding.group c.feed.new.group
    was.goes was.drawing agrees c.rules_at-rules.ensures.room c.in_ok-feed.ensures.lawful c.in_ok-feed.ensures.room
    c.a_delivery_adds_its_notes.ensures
    (subst (λ (more : Bool). Feeds HasMade Draws c.rules_at-rules.result more c.feeding.feed c.feed.new.self c.feeding.group
    c.feed.new.group) c.if-branch.true c.in_ok-feed.ensures.fed) in
    record {
      cpu = record {
        number = step.1.cpu.number ∙ was.cpu.number;
        first = step.1.cpu.first ∙ was.cpu.first;
        shape = step.1.cpu.shape ∙ was.cpu.shape;
      };
      group = same_on c.args.group.now c.feeding.group c.feed.new.group was.group step.1.group;
      goes = step.1.goes;
      drawing = step.1.drawing;
    }

pub returns-clause-fed : goal.returns-clause-fed
returns-clause-fed g c =
    let was = c.feeding.invariant in
    let agrees = subst (λ (cpu : ℕ). AgreesAt cpu (jobs.judge_rules_of c.args.job.now) (judge_rules_of c.rules_at-rules.result))
    (c.number.ensures ∙ sym was.cpu.number) c.rules_at-rules.ensures.agrees in
    let out = feeds_none c.args.job.now c.args.group.now.dealer.now c.rules_at-rules.result c.feeding.feed c.feed.new.self
    c.feeding.group c.feed.new.group
    was.goes was.drawing agrees c.rules_at-rules.ensures.room c.in_ok-feed.ensures.lawful c.in_ok-feed.ensures.room
    c.a_delivery_adds_its_notes.ensures
    (subst (λ (more : Bool). Feeds HasMade Draws c.rules_at-rules.result more c.feeding.feed c.feed.new.self c.feeding.group
    c.feed.new.group) c.if-branch.false c.in_ok-feed.ensures.fed) in
    let after = c.feed.new.group in
    subst (λ (locks : List Lock). HasFed c.args.job.now locks c.args.feed.now.number c.feed.new.self
    after.member_seats.now.items after.seat.now) was.group.members
    (subst (λ (number : ℕ). HasFed c.args.job.now c.feeding.group.members.now number c.feed.new.self
    after.member_seats.now.items after.seat.now) was.cpu.number out.fed)
