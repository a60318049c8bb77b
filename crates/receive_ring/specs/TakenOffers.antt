-- When a ring takes an offer, and when a line of a schedule may come.
use Rattle.std.specs.Prelude.{◌≤◌, List, All}
use Rattle.ring_model.specs.Offers.{IsSound}
use Rattle.ring_model.specs.Rings.{Ring}
use Rattle.ring_model.specs.Sizes.{need_of}
use Rattle.ring_model.specs.Unreleased.{last_moment}
use Rattle.ring_model.specs.declared.notes.Offer.{Offer}
use Rattle.setup_text.specs.declared.lines.Line.{Line}
use Rattle.setup_text.specs.declared.lines.Line.TheVariants.{Feed, Read, Tick, Stats}

-- the offer is sound for the ring's blocks, and fits into an empty one
pub record Takes (offer : Offer) (ring : Ring) : Type 0 where
  pub sound : IsSound ring.size.room offer
  pub fits : need_of offer.snap ≤ ring.size.room

-- a tick isn't before a ring's last one, and a schedule can name its moment; every other line is
-- allowed
abbrev pub MayCome : Line → List Ring → Type 0
MayCome (Tick ms) rings = (ms ≤ 4294967295) × All (λ ring. last_moment 0 ring.notes ≤ ms) rings
MayCome (Feed cpu) rings = Unit {0}
MayCome (Read member) rings = Unit {0}
MayCome (Stats member) rings = Unit {0}
