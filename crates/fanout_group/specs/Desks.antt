-- What a desk answers, and what it reports of the tries that were made at it.
use Rattle.std.specs.Prelude.{◌≡◌, ℕ}
use Rattle.ring_model.specs.declared.notes.Offer.{Offer}
use Rattle.ring_model.specs.declared.notes.Put.{Put}
use Rattle.ring_model.specs.declared.notes.Put.TheVariants as puts
use Rattle.ring_model.specs.declared.notes.Tried.{Tried}
use Rattle.ring_model.specs.declared.notes.Tried.TheVariants as tries
use Rattle.fanout_group.specs.declared.logs.Fate.{Fate}
use Rattle.fanout_group.specs.declared.logs.Fate.TheVariants.{Kept, Refused, Dropped}

-- the fate of a packet that a member may refuse, and of one that it may drop
abbrev pub fate_of_try : Tried → Fate
fate_of_try tries.Kept = Kept
fate_of_try (tries.Refused offer) = Refused

abbrev pub fate_of_put : Put → Fate
fate_of_put puts.Kept = Kept
fate_of_put (puts.Dropped number) = Dropped

-- a refusal hands back the offer that was given
abbrev pub HandsBack : Offer → Tried → Type 0
HandsBack offer tries.Kept = Unit {0}
HandsBack offer (tries.Refused back) = back ≡ offer

-- each member takes the same offers as before
abbrev pub TakesTheSame : (ℕ → Offer → Type 0) → (ℕ → Offer → Type 0) → Type 0
TakesTheSame before now =
    (member : ℕ) (offer : Offer)
    → (before member offer → now member offer) × (now member offer → before member offer)
