-- What is known of a group once an arrival's tries were made: they are told between two of its
-- states.
use Rattle.std.specs.Prelude.{◌≡◌, ℕ, ◌<◌, Bool, List, [], ◌++◌, Option, None, Some, unwrap_or}
use Rattle.frame_view.specs.declared.frames.Frame.{Frame}
use Rattle.ring_model.specs.Offers.{IsSound}
use Rattle.ring_model.specs.declared.notes.Offer.{Offer}
use Rattle.fanout_group.specs.Judgements.{AgreesAt, IsJudged, JudgeRules}
use Rattle.fanout_group.specs.RulesOfJudging.{judge_rules_of}
use Rattle.fanout_group.specs.Paths.{Path, logged}
use Rattle.fanout_group.specs.Plans.{Shape, rolls_over}
use Rattle.fanout_group.specs.Routes.{IsBegun, IsRoute, present_after}
use Rattle.fanout_group.specs.Rules.{HasTicket, home_by}
use Rattle.fanout_group.specs.declared.judgements.ArrivalRules.{ArrivalRules}
use Rattle.fanout_group.specs.declared.logs.ArrivalLog.{ArrivalLog}
use Rattle.fanout_group.specs.declared.logs.Try.{Try}

-- the member that an offer is for first
abbrev pub home_for : Shape → Offer → Option ℕ → ℕ → ℕ → ℕ
home_for shape offer ticket queue present =
    home_by shape.mode shape.members offer.hash (unwrap_or ticket 0) offer.frame.cpu queue present

-- ---- a delivery

-- an offer was delivered at a desk: its tries are a route of the group, in the order in which they
-- were made, they are reported at the end of a list, and they decide the present member
pub record IsDelivery {D : Type 0} (made : Offer → List Try → D → D → Type 0) (shape : Shape)
    (offer : Offer) (ticket : Option ℕ) (queue present next : ℕ) (told now : List Try)
    (before after : D) : Type 0 where
  pub more : List Try
  pub told_is : now ≡ told ++ more
  pub made_is : made offer more before after
  pub route : IsRoute (rolls_over shape) shape.members
      (home_for shape offer ticket queue present) more
  pub present_is : next ≡ present_after shape.mode present more

-- memory ran out in a delivery: the tries that were made are reported too, and all were refused
pub record IsBegunDelivery {D : Type 0} (made : Offer → List Try → D → D → Type 0) (shape : Shape)
    (offer : Offer) (ticket : Option ℕ) (queue present : ℕ) (told now : List Try)
    (before after : D) : Type 0 where
  pub more : List Try
  pub told_is : now ≡ told ++ more
  pub made_is : made offer more before after
  pub begun : IsBegun (rolls_over shape) shape.members
      (home_for shape offer ticket queue present) more

-- ---- an arrival

-- each member of a group of n takes each sound offer of a CPU
abbrev pub TakesAllOf : (ℕ → Offer → Type 0) → ℕ → ℕ → ℕ → Type 0
TakesAllOf takes n room cpu =
    (member : ℕ) (offer : Offer) → member < n → offer.frame.cpu ≡ cpu → IsSound room offer
    → takes member offer

-- a group after a ticket was drawn from it, if there is one
abbrev pub HasDrawn : {G : Type 0} → (ℕ → G → G → Type 0) → Option ℕ → G → G → Type 0
HasDrawn drew None before after = after ≡ before
HasDrawn drew (Some ticket) before after = drew ticket before after

-- an arrival was judged, with no try yet, once it had drawn its ticket
pub record IsAdmitted {G : Type 0} (drew : ℕ → G → G → Type 0) (rules : ArrivalRules)
    (shape : Shape) (arrival : Frame) (entry : ArrivalLog) (offer : Option Offer) (before after : G)
    : Type 0 where
  pub ticket : HasTicket shape.mode entry.ticket
  pub drawn : HasDrawn drew entry.ticket before after
  pub judged : (group : JudgeRules) → AgreesAt arrival.cpu group (judge_rules_of rules)
      → IsJudged group rules.room arrival entry offer

-- the tries of an arrival's offer, which are such tries from its home on, made the one group of the
-- other; without an offer there is none
abbrev pub AreTriesOf : {G : Type 0} → (Bool → ℕ → ℕ → List Try → Type 0)
    → (Offer → List Try → G → G → Type 0) → Shape → Option ℕ → ℕ → ℕ → Option Offer → List Try
    → G → G → Type 0
AreTriesOf Such made shape ticket queue present None tries before after =
    (tries ≡ []) × (after ≡ before)
AreTriesOf Such made shape ticket queue present (Some offer) tries before after =
    Such (rolls_over shape) shape.members (home_for shape offer ticket queue present) tries
    × made offer tries before after

-- an arrival was received: it drew its ticket, its offer was delivered, and it is logged with the
-- tries that were made
pub record Received {G : Type 0} (made : Offer → List Try → G → G → Type 0)
    (drew : ℕ → G → G → Type 0) (rules : ArrivalRules) (arrival : Frame) (old new : Path)
    (before after : G) : Type 0 where
  -- its entry before the tries, and its offer
  pub entry : ArrivalLog
  pub offer : Option Offer
  -- the group once the ticket was drawn
  pub mid : G
  pub admitted : IsAdmitted drew rules old.shape arrival entry offer before mid
  pub tries : List Try
  pub tried : AreTriesOf IsRoute made old.shape entry.ticket rules.queue old.present
      offer tries mid after
  pub new_is : new ≡ logged (record entry { tries = tries }) old

-- memory ran out while an arrival was received: the tries that were made were all refused, so no
-- member has its packet
pub record IsGivenUp {G : Type 0} (made : Offer → List Try → G → G → Type 0)
    (drew : ℕ → G → G → Type 0) (rules : ArrivalRules) (arrival : Frame) (path : Path)
    (before after : G) : Type 0 where
  pub entry : ArrivalLog
  pub offer : Option Offer
  pub mid : G
  pub admitted : IsAdmitted drew rules path.shape arrival entry offer before mid
  pub tries : List Try
  pub tried : AreTriesOf IsBegun made path.shape entry.ticket rules.queue path.present
      offer tries mid after
