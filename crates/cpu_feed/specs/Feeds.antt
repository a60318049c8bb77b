-- A CPU is fed its next frame, and a group receives what arrives with it.
use Rattle.std.specs.Prelude.{◌≡◌, ◌⊎◌, ℕ, Bool, List, MatchBool, Option, None, Some}
use Rattle.fanout_group.specs.Arrivals.{IsArrival}
use Rattle.fanout_group.specs.Deliveries.{IsGivenUp, Received}
use Rattle.fanout_group.specs.Paths.{Path}
use Rattle.fanout_group.specs.declared.judgements.ArrivalRules.{ArrivalRules}
use Rattle.fanout_group.specs.declared.logs.Try.{Try}
use Rattle.frame_view.specs.declared.frames.Frame.{Frame}
use Rattle.ring_model.specs.declared.notes.Offer.{Offer}
use Rattle.cpu_feed.specs.Fed.{FedOne, IsAtItsEnd}
use Rattle.cpu_feed.specs.CpuFeeds.{Feeding, IsAllOfCpu, IsSameCpu, Takes}

-- no frame was left, so nothing arrived
pub record HasNone (old new : Feeding) (arrival : Option Frame) : Type 0 where
  pub end : IsAtItsEnd new
  pub fed : new.fed ≡ old.fed
  pub none : arrival ≡ None

-- an arrival of the CPU was received by a group
pub record Receives {G : Type 0} (made : Offer → List Try → G → G → Type 0)
    (drew : ℕ → G → G → Type 0) (rules : ArrivalRules) (arrival : Frame) (old new : Feeding)
    (before after : G) : Type 0 where
  pub sound : IsArrival arrival
  pub place : arrival.cpu ≡ old.number
  pub received : Received made drew rules arrival old.path new.path before after
  pub new_is : new ≡ record old { path = new.path }

-- what arrived was received, if anything did
abbrev pub ReceivesIfAny : {G : Type 0} → (Offer → List Try → G → G → Type 0)
    → (ℕ → G → G → Type 0) → ArrivalRules → Option Frame → Feeding → Feeding → G → G → Type 0
ReceivesIfAny made drew rules None old new before after = (new ≡ old) × (after ≡ before)
ReceivesIfAny made drew rules (Some arrival) old new before after =
    Receives made drew rules arrival old new before after

-- one more frame was fed and what arrived with it was received, or none was left
pub record Feeds {G : Type 0} (made : Offer → List Try → G → G → Type 0)
    (drew : ℕ → G → G → Type 0) (rules : ArrivalRules) (more : Bool) (old new : Feeding)
    (before after : G) : Type 0 where
  -- the CPU once the frame was fed, and what arrived with it
  pub mid : Feeding
  pub arrival : Option Frame
  pub same : IsSameCpu old mid
  pub takes : (all : List Frame) → IsAllOfCpu all mid → Takes all old arrival mid
  pub goes : MatchBool more (FedOne old mid) (HasNone old mid arrival)
  pub receives : ReceivesIfAny made drew rules arrival mid new before after

-- memory ran out: nothing had arrived, or the arrival was given up
abbrev pub GivesUp : {G : Type 0} → (Offer → List Try → G → G → Type 0)
    → (ℕ → G → G → Type 0) → ArrivalRules → G → G → Type 0
GivesUp made drew rules before after =
    (after ≡ before)
    ⊎ ((arrival : Frame) × (path : Path) × IsGivenUp made drew rules arrival path before after)
