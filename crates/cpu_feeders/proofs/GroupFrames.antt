-- A feeder and its group with one more frame.
use Rattle.std.proofs.Common.{◌≡◌, ◌<◌, ◌+◌, ◌-◌, ◌*◌, ℕ, List, true, false, Option, None, Some, refl, sym, ap, ◌∙◌, subst}
use Rattle.capture_reports.specs.Feeders.{HasFed}
use Rattle.cpu_feed.specs.Fed.{FedOne}
use Rattle.cpu_feed.specs.CpuFeeds.{Feeding, IsAllOfCpu, IsSameCpu, Takes}
use Rattle.cpu_feed.specs.Feeds.{Feeds, ReceivesIfAny}
use Rattle.cpu_feed.specs.Lawful.{IsLawful}
use Rattle.fanout_group.specs.Deliveries.{TakesAllOf}
use Rattle.fanout_group.specs.Judgements.{AgreesAt, JudgeRules, rules_by}
use Rattle.fanout_group.specs.RulesOfJudging.{judge_rules_of}
use Rattle.fanout_group.specs.Paths.{Path, logged}
use Rattle.fanout_group.specs.Plans.{Shape}
use Rattle.fanout_group.specs.declared.judgements.ArrivalRules.{ArrivalRules}
use Rattle.frame_view.specs.declared.frames.Frame.{Frame}
use Rattle.member_turns.specs.Seats.{Lock}
use Rattle.cpu_feeders.specs.Feeds.{AreMembersFor}
use Rattle.run_reports.specs.Jobs as jobs
use Rattle.setup_text.specs.declared.jobs.Job.{Job}
use Rattle.ticket_dealer.specs.Seats.{DealerValue, SeatValue}
use Rattle.tp_layout.specs.Requests.{room_of}
use Rattle.cpu_feeders.specs.declared.turn_group.TurnGroup.{TurnGroup}
use Rattle.cpu_feeders.specs.inside.FeedSteps.{Goes, IsDrawing}
use Rattle.cpu_feeders.specs.inside.TurnGroups.{AreTried, Draws, HasMade, HasRoom, IsSameGroup, TakesAt}
use Rattle.cpu_feeders.specs.inside.TurnLaws.{same_itself}
use Rattle.cpu_feeders.proofs.Deliveries.{DeliveryAdds, draws_on, offer_in, received}
use Rattle.cpu_feeders.proofs.NextFrames.{goes_next, goes_still, has_fed}
use Rattle.cpu_feeders.proofs.Offered.{takes_each}

abbrev pub GoesWith : {R G : Type 0} → Job → Feeding → TurnGroup R G → Type 0
GoesWith job feed group = Goes job group.members.now feed group.member_seats.now.items group.seat.now

-- the group takes each sound offer of the feeder's CPU
pub takes_all : {R G : Type 0} (job : Job) (rules : ArrivalRules) (first feed : Feeding) (start group : TurnGroup R G)
    → AreMembersFor job first.number start.members.now
    → IsSameCpu first feed → IsSameGroup start group → GoesWith job feed group → rules.room ≡ room_of job.setup.shape
    → 82 < rules.room
    → TakesAllOf (TakesAt group.members.now group.member_seats.now.items) feed.path.shape.members rules.room feed.number
takes_all job rules first feed start group members cpu same goes room_is some member offer inside place sound =
    takes_each job feed.number (9 * (2097151 - feed.fed)) rules.room group.members.now group.member_seats.now.items
    (subst (λ (locks : List Lock). AreMembersFor job feed.number locks) (sym same.members)
    (subst (λ (number : ℕ). AreMembersFor job number start.members.now) (sym cpu.number) members))
    goes.member_seats_are room_is some member offer
    (subst (λ (shape : Shape). member < shape.members) goes.shape inside) place sound

-- a feeder goes on with the same CPU and the same group
pub record GoesOn {R G : Type 0} (job : Job) (dealer : DealerValue) (old new : Feeding) (before after : TurnGroup R G)
    : Type 0 where
  pub cpu : IsSameCpu old new
  pub group : IsSameGroup before after
  pub goes : GoesWith job new after
  pub drawing : IsDrawing dealer after.seat.now

-- a feeder has fed all frames to its group
pub record IsFedOut {R G : Type 0} (job : Job) (dealer : DealerValue) (old new : Feeding) (before after : TurnGroup R G)
    : Type 0 where
  pub first : new.first ≡ old.first
  pub group : IsSameGroup before after
  pub fed : HasFed job before.members.now old.number new after.member_seats.now.items after.seat.now
  pub drawing : IsDrawing dealer after.seat.now

module _ {R G : Type 0} (job : Job) (dealer : DealerValue) (rules : ArrivalRules) (old new : Feeding)
    (before after : TurnGroup R G)
    (goes : GoesWith job old before) (drawing : IsDrawing dealer before.seat.now)
    (agrees : AgreesAt old.number (jobs.judge_rules_of job) (judge_rules_of rules))
    (room_is : rules.room ≡ room_of job.setup.shape)
    (lawful : (judge : JudgeRules) (all : List Frame) → AgreesAt old.number judge (judge_rules_of rules) → IsAllOfCpu all new
    → IsLawful (rules_by old.path.shape judge) all old → IsLawful (rules_by old.path.shape judge) all new)
    (room : (turns : ℕ) → HasRoom before.member_seats.now.items (turns + 9) → HasRoom after.member_seats.now.items turns)
    (adds : DeliveryAdds) where
  abbrev Lawfully : Feeding → Type 0
  Lawfully feed = (all : List Frame) → IsAllOfCpu all feed → IsLawful (jobs.rules_of job) all old
      → IsLawful (jobs.rules_of job) all feed

  lawfully : Lawfully new
  lawfully all whole =
      subst (λ (shape : Shape). IsLawful (rules_by shape (jobs.judge_rules_of job)) all old
      → IsLawful (rules_by shape (jobs.judge_rules_of job)) all new) goes.shape
      (lawful (jobs.judge_rules_of job) all agrees whole)

  -- what arrived was received, if anything did
  goes_behind : (mid : Feeding) (arrival : Option Frame) → IsSameCpu old mid
      → ((all : List Frame) → IsAllOfCpu all mid → Takes all old arrival mid)
      → FedOne old mid → ReceivesIfAny HasMade Draws rules arrival mid new before after
      → (new.fed ≡ old.fed + 1) × GoesOn job dealer old new before after
  goes_behind mid None same takes fed is =
      subst (λ (feed : Feeding). (feed.fed ≡ old.fed + 1) × GoesOn job dealer old feed before after) (sym is.0)
      (subst (λ (group : TurnGroup R G). (mid.fed ≡ old.fed + 1) × GoesOn job dealer old mid before group) (sym is.1) (
        fed.one,
        record {
          cpu = same;
          group = same_itself before;
          goes = goes_still job before.members.now old mid before.member_seats.now.items before.seat.now None goes same takes
              refl (subst Lawfully is.0 lawfully) fed;
          drawing = drawing;
        },
      ))
  goes_behind mid (Some frame) same takes fed is =
      let came = received (jobs.judge_rules_of job) rules frame mid.path new.path before after
      (subst (λ (cpu : ℕ). AgreesAt cpu (jobs.judge_rules_of job) (judge_rules_of rules)) (sym (is.place ∙ same.number)) agrees)
      is.received in
      let next : Feeding = record mid { path = logged came.entry mid.path } in
      let next_is : new ≡ next = is.new_is ∙ ap (λ (path : Path). record mid { path = path }) came.new_is in
      let tried =
      subst (λ (room : ℕ). AreTried (offer_in room job.setup.mac came.entry frame) came.entry.tries before.members.now
      before.member_seats.now.items
      after.member_seats.now.items) room_is came.tried in
      subst (λ (feed : Feeding). (feed.fed ≡ old.fed + 1) × GoesOn job dealer old feed before after) (sym next_is) (
        fed.one,
        record {
          cpu = record { number = same.number; first = same.first; shape = same.shape };
          group = came.same;
          goes = subst (λ (locks : List Lock). Goes job locks next after.member_seats.now.items after.seat.now)
              (sym came.same.members)
              (goes_next job before.members.now old mid before.member_seats.now.items before.seat.now (Some frame) goes same
              takes frame refl fed came.entry
              after.member_seats.now.items after.seat.now (subst Lawfully next_is lawfully) tried room
              (ap (λ (seat : SeatValue). seat.drawn) came.seat_is) adds);
          drawing = draws_on dealer came.entry.ticket before.seat.now after.seat.now came.seat_is drawing;
        },
      )

  pub feeds_more : Feeds HasMade Draws rules true old new before after
      → (new.fed ≡ old.fed + 1) × GoesOn job dealer old new before after
  feeds_more feeds = goes_behind feeds.mid feeds.arrival feeds.same feeds.takes feeds.goes feeds.receives

  pub feeds_none : Feeds HasMade Draws rules false old new before after → IsFedOut job dealer old new before after
  feeds_none feeds =
      let mid : Feeding = feeds.mid in
      let is : ReceivesIfAny HasMade Draws rules None mid new before after =
      subst (λ (arrival : Option Frame). ReceivesIfAny HasMade Draws rules arrival mid new before after) feeds.goes.none
      feeds.receives in
      subst (λ (feed : Feeding). IsFedOut job dealer old feed before after) (sym is.0)
      (subst (λ (group : TurnGroup R G). IsFedOut job dealer old mid before group) (sym is.1) (record {
        first = feeds.same.first;
        group = same_itself before;
        fed = subst (λ (number : ℕ). HasFed job before.members.now number mid before.member_seats.now.items before.seat.now)
            feeds.same.number
            (has_fed job before.members.now old mid before.member_seats.now.items before.seat.now feeds.arrival goes feeds.same
            feeds.takes feeds.goes.none
            (subst Lawfully is.0 lawfully) feeds.goes.end);
        drawing = drawing;
      }))
