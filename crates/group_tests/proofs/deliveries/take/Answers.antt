use Rattle.std.specs.Prelude.{None}
use Rattle.ring_model.specs.Offers.{offer_of}
use Rattle.group_tests.proofs.deliveries.take.Goals as goal

pub returns-clause-members : goal.returns-clause-members
returns-clause-members c =
    λ member within. (c.receive.ensures.same member (offer_of 0 None 0 0 c.args.arrival)).0 (c.requires.members member within)
