-- The members of a group on one thread, and the next ticket: what tries and draws make of them.
use Rattle.std.specs.Prelude.{◌≡◌, ℕ, ◌+◌, ◌^◌, ◌<◌, ◌≤◌, List, length, slice_index_or, All}
use Rattle.fanout_group.specs.declared.logs.Try.{Try}
use Rattle.receive_ring.specs.Replay.{no_ring}
use Rattle.run_reports.specs.RingSteps.{RingSteps}
use Rattle.receive_ring.specs.TakenOffers.{Takes}
use Rattle.ring_model.specs.Rings.{Ring}
use Rattle.ring_model.specs.declared.notes.Offer.{Offer}
use Rattle.replay_machine.specs.Deliveries.{AreTried}

-- the rings of the members, and the next ticket
pub record GroupValue : Type 0 where
  pub members : List Ring
  pub ticket : ℕ

-- there is such a member, and its ring takes the offer
pub record TakesAt (members : List Ring) (member : ℕ) (offer : Offer) : Type 0 where
  pub within : member < length members
  pub takes : Takes offer (slice_index_or members member no_ring)

-- each ring has room for n notes more
abbrev pub HasRoomFor : ℕ → List Ring → Type 0
HasRoomFor n members = All (λ ring. length ring.notes + n ≤ 2 ^ 39) members

-- these tries, one after another, each with its note, made the one group of the other
pub record IsMadeBy (steps : RingSteps) (offer : Offer) (tries : List Try) (old new : GroupValue)
    : Type 0 where
  pub tried : AreTried steps offer tries old.members new.members
  pub ticket_is : new.ticket ≡ old.ticket

-- the next ticket was drawn
pub record IsDrawn (ticket : ℕ) (old new : GroupValue) : Type 0 where
  pub ticket_is : ticket ≡ old.ticket
  pub new_is : new ≡ record old { ticket = old.ticket + 1 }
