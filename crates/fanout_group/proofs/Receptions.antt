-- An offer is delivered, and an arrival is received.
use Rattle.std.proofs.Common.{◌≡◌, ◌≢◌, ℕ, ◌<◌, Bool, true, false, cond, List, [], ◌∷◌, ◌++◌, refl, sym, ap, ◌∙◌, subst, arith}
use Rattle.std.proofs.Common.{ne_eqb}
use Rattle.std.specs.Prelude.{Option, None, Some, option_copied, unwrap_or}
use Rattle.frame_view.specs.declared.frames.Frame.{Frame}
use Rattle.ring_model.specs.Offers.{offer_of}
use Rattle.ring_model.specs.declared.notes.Offer.{Offer}
use Rattle.fanout_group.specs.Deliveries.{AreTriesOf, HasDrawn, IsAdmitted, IsDelivery, IsGivenUp, Received, home_for}
use Rattle.fanout_group.specs.Judgements.{AgreesAt, IsJudged, JudgeRules, first_entry, hash_by, offer_by, offer_if}
use Rattle.fanout_group.specs.Judgements.{rules_by, verdict_by}
use Rattle.fanout_group.specs.RulesOfJudging.{judge_rules_of}
use Rattle.fanout_group.specs.Logs.{IsEntry}
use Rattle.fanout_group.specs.Paths.{IsPath, IsPathTo, Path}
use Rattle.fanout_group.specs.Plans.{Shape, rolls_over}
use Rattle.fanout_group.specs.Routes.{IsBegun, IsRoute, present_after}
use Rattle.fanout_group.specs.Rules.{HasTicket, home_by}
use Rattle.fanout_group.specs.declared.judgements.ArrivalRules.{ArrivalRules}
use Rattle.fanout_group.specs.declared.logs.ArrivalLog.{ArrivalLog}
use Rattle.fanout_group.specs.declared.logs.Try.{Try}
use Rattle.fanout_group.specs.declared.modes.Mode.{Mode}
use Rattle.fanout_group.specs.declared.modes.Mode.TheVariants.{Cpu, Hash, Lb, Qm, Rollover}
use Rattle.fanout_group.specs.inside.TryEffects.{AreListed}
use Rattle.fanout_group.proofs.LikeJudgeRules.{judged_alike}
use Rattle.fanout_group.proofs.LongerLogs.{delivered, logs_one, passed_over}
use Rattle.fanout_group.proofs.RouteBounds.{present_after-route, present_of_route}

no_refusal : (rolls : Bool) (members home : ℕ) → IsBegun rolls members home []
no_refusal true members home = (0, omega arith, refl)
no_refusal false members home = refl

-- ---- a delivery

module _ {D : Type 0} (made : Offer → List Try → D → D → Type 0) (shape : Shape) (offer : Offer) (ticket : Option ℕ)
    (queue present home : ℕ)
    (home_is : home ≡ home_for shape offer ticket queue present) (told now : List Try) (before after : D) where
  pub is_delivery : (mode : Mode) (next : ℕ)
      → AreListed made offer (IsRoute (rolls_over shape) shape.members home) told now before after
      → mode ≡ shape.mode → next ≡ present_after mode present now
      → IsDelivery made shape offer ticket queue present next told now before after
  is_delivery mode next listed mode_is next_is = record {
    more = listed.more;
    told_is = listed.told_is;
    made_is = listed.made_is;
    route = subst (λ (at : ℕ). IsRoute (rolls_over shape) shape.members at listed.more) home_is listed.such;
    present_is = next_is ∙ ap (λ (m : Mode). present_after m present now) mode_is
        ∙ ap (λ (tries : List Try). present_after shape.mode present tries) listed.told_is
        ∙ present_of_route shape.mode (rolls_over shape) shape.members home present told listed.more listed.such;
  }

  -- the present member is one of the group
  pub still_member : (next : ℕ) → IsDelivery made shape offer ticket queue present next told now before after
      → home < shape.members
      → present < shape.members → next < shape.members
  still_member next is at here =
      let route = subst (λ (from : ℕ). IsRoute (rolls_over shape) shape.members from is.more) (sym home_is) is.route in
      subst (λ (n : ℕ). n < shape.members) (sym is.present_is)
      (present_after-route (rolls_over shape) shape.mode shape.members home present is.more at here route)

-- ---- an arrival

module _ {G : Type 0} (made : Offer → List Try → G → G → Type 0) (drew : ℕ → G → G → Type 0) (rules : ArrivalRules)
    (arrival : Frame) (entry : ArrivalLog)
    (offer : Option Offer) where
  pub is_admitted : (shape : Shape) (mode : Mode) (ticket : Option ℕ) (before mid : G) → mode ≡ shape.mode
      → HasTicket mode ticket
      → HasDrawn drew ticket before mid → entry ≡ first_entry (judge_rules_of rules) arrival ticket
      → ((group : JudgeRules) → AgreesAt arrival.cpu group (judge_rules_of rules)
      → IsJudged group rules.room arrival entry offer)
      → IsAdmitted drew rules shape arrival entry offer before mid
  is_admitted shape mode ticket before mid mode_is has draws is judged =
      let same : ticket ≡ entry.ticket = sym (ap (λ (e : ArrivalLog). e.ticket) is) in
      record {
        ticket = subst (λ (t : Option ℕ). HasTicket shape.mode t) same (subst (λ (m : Mode). HasTicket m ticket) mode_is has);
        drawn = subst (λ (t : Option ℕ). HasDrawn drew t before mid) same draws;
        judged = judged;
      }

  module _ (old : Path) (before mid after : G) (admitted : IsAdmitted drew rules old.shape arrival entry offer before mid) where
    pub is_received : (new : Path) (next : ℕ) (now : ArrivalLog)
        → AreTriesOf IsRoute made old.shape entry.ticket rules.queue old.present offer now.tries mid after
        → now ≡ record entry { tries = now.tries } → next ≡ present_after old.shape.mode old.present now.tries
        → new ≡ record old { present = next; log = old.log ++ now ∷ [] }
        → Received made drew rules arrival old new before after
    is_received new next now tried now_is next_is new_is = record {
      entry = entry;
      offer = offer;
      mid = mid;
      admitted = admitted;
      tries = now.tries;
      tried = tried;
      new_is = new_is
          ∙ ap (λ (present : ℕ). record old { present = present; log = old.log ++ now ∷ [] }) next_is
          ∙ ap (λ (e : ArrivalLog). record old {
            present = present_after old.shape.mode old.present now.tries;
            log = old.log ++ e ∷ [];
          }) now_is;
    }

    pub is_given_up : (tries : List Try)
        → AreTriesOf IsBegun made old.shape entry.ticket rules.queue old.present offer tries mid after
        → IsGivenUp made drew rules arrival old before after
    is_given_up tries tried =
        record { entry = entry; offer = offer; mid = mid; admitted = admitted; tries = tries; tried = tried }

-- no try was made yet
pub none_begun : {G : Type 0} (made : Offer → List Try → G → G → Type 0)
    (none_made : (offer : Offer) (group : G) → made offer [] group group)
    (shape : Shape) (ticket : Option ℕ) (queue present : ℕ) (offer : Option Offer) (group : G)
    → AreTriesOf IsBegun made shape ticket queue present offer [] group group
none_begun made none_made shape ticket queue present None group = (refl, refl)
none_begun made none_made shape ticket queue present (Some offer) group =
    (no_refusal (rolls_over shape) shape.members _, none_made offer group)

-- ---- the log stays lawful

module _ {G : Type 0} (made : Offer → List Try → G → G → Type 0) (drew : ℕ → G → G → Type 0) (rules : ArrivalRules)
    (arrival : Frame) (old new : Path)
    (before after : G) (received : Received made drew rules arrival old new before after) (judge : JudgeRules)
    (agrees : AgreesAt arrival.cpu judge (judge_rules_of rules)) where
  entry_by : (offer : Option Offer) → IsJudged judge rules.room arrival received.entry offer
      → AreTriesOf IsRoute made old.shape received.entry.ticket rules.queue old.present offer received.tries received.mid after
      → IsEntry (rules_by old.shape judge) old.present arrival (record received.entry { tries = received.tries })
  entry_by None judged tried =
      subst (λ (tries : List Try). IsEntry (rules_by old.shape judge) old.present arrival
      (record received.entry { tries = tries })) (sym tried.0)
      (subst (λ (tries : List Try). IsEntry (rules_by old.shape judge) old.present arrival
      (record received.entry { tries = tries }))
      (ap (λ (e : ArrivalLog). e.tries) judged.entry_is)
      (passed_over old.shape judge rules.room old.present arrival received.entry received.admitted.ticket judged))
  entry_by (Some offer) judged tried =
      delivered old.shape judge rules.room old.present rules.queue arrival received.entry offer received.tries
      received.admitted.ticket agrees.queue judged tried.0

  pub stays_lawful : (frames : List Frame) → IsPathTo (rules_by old.shape judge) frames arrival old
      → IsPath (rules_by old.shape judge) frames new
  stays_lawful frames to =
      subst (λ (path : Path). IsPath (rules_by old.shape judge) frames path) (sym received.new_is)
      (logs_one old.shape judge frames arrival (record received.entry { tries = received.tries }) old refl to
      (entry_by received.offer (received.admitted.judged judge agrees) received.tried))

-- ---- what is judged of an arrival

module _ (rules : ArrivalRules) (arrival : Frame) (hash verdict : ℕ)
    (hash_is : hash ≡ hash_by (option_copied rules.key) arrival)
    (verdict_is : verdict ≡ verdict_by (judge_rules_of rules) arrival) where
  offers : offer_by (judge_rules_of rules) rules.room arrival ≡ offer_if rules.room rules.own hash verdict arrival
  offers =
      ap (λ (h : ℕ). offer_if rules.room rules.own h (verdict_by (judge_rules_of rules) arrival) arrival) (sym hash_is)
      ∙ ap (λ (v : ℕ). offer_if rules.room rules.own hash v arrival) (sym verdict_is)

  pub offers_nothing : verdict ≡ 0 → offer_by (judge_rules_of rules) rules.room arrival ≡ None
  offers_nothing none = offers ∙ ap (λ (v : ℕ). offer_if rules.room rules.own hash v arrival) none

  offers_it : (offer : Offer) → verdict ≢ 0 → offer ≡ offer_of rules.room rules.own hash verdict arrival
      → offer_by (judge_rules_of rules) rules.room arrival ≡ Some offer
  offers_it offer some is =
      offers
      ∙ ap (λ (b : Bool). cond b None (Some (offer_of rules.room rules.own hash verdict arrival))) (ne_eqb verdict 0 some)
      ∙ ap (λ (o : Offer). Some o) (sym is)

  entry_so : (ticket : Option ℕ) (tries : List Try)
      → record (first_entry (judge_rules_of rules) arrival ticket) { hash = hash; verdict = verdict; tries = tries }
      ≡ record (first_entry (judge_rules_of rules) arrival ticket) { tries = tries }
  entry_so ticket tries =
      ap (λ (h : ℕ). record (first_entry (judge_rules_of rules) arrival ticket) { hash = h; verdict = verdict; tries = tries })
      hash_is
      ∙ ap (λ (v : ℕ). record (first_entry (judge_rules_of rules) arrival ticket) { verdict = v; tries = tries }) verdict_is

  module _ {G : Type 0} (made : Offer → List Try → G → G → Type 0) (drew : ℕ → G → G → Type 0) (ticket : Option ℕ)
      (mid after : G) where
    -- the tries of the offer that is made
    pub tries_from_home : (Such : Bool → ℕ → ℕ → List Try → Type 0) (shape : Shape) (queue present home : ℕ) (offer : Offer)
        (tries : List Try)
        → verdict ≢ 0 → offer ≡ offer_of rules.room rules.own hash verdict arrival
        → home ≡ home_by shape.mode shape.members hash (unwrap_or ticket 0) arrival.cpu queue present
        → Such (rolls_over shape) shape.members home tries → made offer tries mid after
        → AreTriesOf Such made shape ticket queue present (offer_by (judge_rules_of rules) rules.room arrival) tries mid after
    tries_from_home Such shape queue present home offer tries some is home_is such its =
        subst (λ (o : Option Offer). AreTriesOf Such made shape ticket queue present o tries mid after)
        (sym (offers_it offer some is)) (
          subst (λ (at : ℕ). Such (rolls_over shape) shape.members at tries)
              (home_is ∙ sym (ap (λ (o : Offer). home_for shape o ticket queue present) is)) such,
          its,
        )

    module _ (old : Path) (before : G) (mode : Mode) (mode_is : mode ≡ old.shape.mode) (has : HasTicket mode ticket)
        (draws : HasDrawn drew ticket before mid) where
      admitted : IsAdmitted drew rules old.shape arrival (first_entry (judge_rules_of rules) arrival ticket)
          (offer_by (judge_rules_of rules) rules.room arrival) before mid
      admitted =
          is_admitted made drew rules arrival _ _ old.shape mode ticket before mid mode_is has draws refl
          (λ group agree. judged_alike arrival group (judge_rules_of rules) agree rules.room ticket _ _ refl refl)

      pub receives : (tries : List Try) (next : ℕ) (new : Path)
          → AreTriesOf IsRoute made old.shape ticket rules.queue old.present
          (offer_by (judge_rules_of rules) rules.room arrival)
          tries mid after
          → next ≡ present_after old.shape.mode old.present tries
          → new ≡ record old {
            present = next;
            log = old.log ++ (record {
              index = arrival.index;
              ticket = ticket;
              hash = hash;
              verdict = verdict;
              tries = tries;
            }) ∷ [];
          }
          → Received made drew rules arrival old new before after
      receives tries next new tried next_is new_is =
          is_received made drew rules arrival _ _ old before mid after admitted new next
          (record (first_entry (judge_rules_of rules) arrival ticket) { hash = hash; verdict = verdict; tries = tries })
          tried (entry_so ticket tries) next_is new_is

      pub gives_up : (tries : List Try)
          → AreTriesOf IsBegun made old.shape ticket rules.queue old.present
          (offer_by (judge_rules_of rules) rules.room arrival)
          tries mid after
          → IsGivenUp made drew rules arrival old before after
      gives_up tries tried = is_given_up made drew rules arrival _ _ old before mid after admitted tries tried

-- with no try the present member stays
pub present_after-none : (mode : Mode) (present : ℕ) → present ≡ present_after mode present []
present_after-none Hash present = refl
present_after-none Lb present = refl
present_after-none Cpu present = refl
present_after-none Qm present = refl
present_after-none Rollover present = refl
