-- What the tally of notes keeps of a ring's state.
use Rattle.std.specs.Prelude.{◌≡◌, ◌+◌, List, [], ◌∷◌, Option, None, Some}
use Rattle.ring_model.specs.Ring.{State}
use Rattle.ring_model.specs.declared.notes.Offer.{Offer}
use Rattle.ring_model.specs.declared.notes.Note.{Note}
use Rattle.ring_model.specs.declared.notes.Note.TheVariants.{Counted}
use Rattle.ring_model.specs.declared.notes.Stats.{Stats}
use Rattle.ring_model.specs.declared.tally.Open.{Open}
use Rattle.ring_model.specs.declared.tally.Open.TheVariants.{Frozen, Empty, Filled}
use Rattle.ring_model.specs.declared.tally.Ledger.{Ledger}

-- whether the open block has packets
abbrev pub open_of : Option (List Offer) → Open
open_of None = Frozen
open_of (Some []) = Empty
open_of (Some (offer ∷ offers)) = Filled

-- a ledger is that of a state
pub record Counts (ledger : Ledger) (state : State) : Type 0 where
  pub open_is : ledger.«open» ≡ open_of state.now
  pub clock_is : ledger.clock ≡ state.clock
  pub deadline_is : ledger.deadline ≡ state.deadline
  pub kept_is : ledger.kept ≡ state.kept
  pub dropped_is : ledger.dropped ≡ state.dropped
  pub freezes_is : ledger.freezes ≡ state.freezes

-- the sums of two statistics
abbrev pub plus : Stats → Stats → Stats
plus one other = record {
  packets = one.packets + other.packets;
  drops = one.drops + other.drops;
  freezes = one.freezes + other.freezes;
}

-- a list of the statistics if the note takes them, otherwise an empty one
abbrev pub taken_at : Note → Stats → List Stats
taken_at Counted stats = stats ∷ []
taken_at note stats = []

-- the sums with the statistics where the note takes them
abbrev pub with_taken : Note → Stats → Stats → Stats
with_taken Counted stats totals = plus totals stats
with_taken note stats totals = totals
