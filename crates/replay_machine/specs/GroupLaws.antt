-- Tries after other tries, and room for fewer.
use Rattle.std.proofs.Common.{ℕ, ◌+◌, ◌≤◌, List, [], ◌∷◌, ◌++◌, refl, ◌∙◌, subst}
use Rattle.std.proofs.Common.{arith}
use Rattle.fanout_group.specs.declared.logs.Try.{Try}
use Rattle.run_reports.specs.RingSteps.{RingSteps}
use Rattle.ring_model.specs.Rings.{Ring}
use Rattle.ring_model.specs.declared.notes.Offer.{Offer}
use Rattle.replay_machine.specs.Deliveries.{AreTried}
use Rattle.replay_machine.specs.RingGroups.{GroupValue, HasRoomFor, IsMadeBy}

pub tried_on : (steps : RingSteps) (offer : Offer) (a b : List Try) (first next last : List Ring)
    → AreTried steps offer a first next → AreTried steps offer b next last
    → AreTried steps offer (a ++ b) first last
tried_on steps offer [] b first next last h k =
    subst (λ (rings : List Ring). AreTried steps offer b rings last) h k
tried_on steps offer (t ∷ a) b first next last h k =
    (h.0, h.1, tried_on steps offer a b h.0 next last h.2 k)

pub made_by_none : (steps : RingSteps) (offer : Offer) (group : GroupValue)
    → IsMadeBy steps offer [] group group
made_by_none steps offer group = record { tried = refl; ticket_is = refl }

pub made_by_more : (steps : RingSteps) (offer : Offer) (tries more : List Try)
    (first next last : GroupValue)
    → IsMadeBy steps offer tries first next → IsMadeBy steps offer more next last
    → IsMadeBy steps offer (tries ++ more) first last
made_by_more steps offer tries more first next last h k = record {
  tried = tried_on steps offer tries more first.members next.members last.members h.tried k.tried;
  ticket_is = k.ticket_is ∙ h.ticket_is;
}

pub room_for_fewer : (members : List Ring) (less more : ℕ) → less ≤ more
    → HasRoomFor more members → HasRoomFor less members
room_for_fewer members less more le room =
    λ k d within. let one = room k d within in omega (arith, one, le)
