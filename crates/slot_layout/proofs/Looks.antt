-- What a look at the next slot says.
use Rattle.std.proofs.Common.{◌≡◌, ℕ, ◌-◌, ◌<◌, Bool, true, false, cond, refl, arith}
use Rattle.std.specs.Prelude.{nat_lt}
use Rattle.std.proofs.lemmas.Bool.{ltb-true}
use Rattle.ring_model.specs.KnownReleases.{put_by, try_by}
use Rattle.ring_model.specs.Unreleased.{IsUnreleased}
use Rattle.ring_model.specs.declared.notes.Found.{Found}
use Rattle.ring_model.specs.declared.notes.Found.TheVariants.{Free, Held}
use Rattle.ring_model.specs.declared.notes.Offer.{Offer}
use Rattle.slot_layout.specs.SlotReleases.{slot_put_note, slot_try_note}
use Rattle.slot_layout.specs.SlotSteps.{SlotMayFollow, SlotState, next_slot}

-- what holds of a packet's note if it holds of Kept and of the note for a held slot
by_look : (P : Found → Type 0) (slots released : ℕ) (s : SlotState) (held : Bool) → nat_lt released (next_slot s - slots) ≡ held
    → P Free → (released < next_slot s - slots → P (Held (next_slot s - slots)))
    → P (cond held (Held (next_slot s - slots)) Free)
by_look P slots released s true e free found = found (ltb-true released (next_slot s - slots) e)
by_look P slots released s false e free found = free

pub slot_put_may_follow : (slots released : ℕ) (s : SlotState) (offer : Offer)
    → SlotMayFollow slots s (slot_put_note slots released s offer)
slot_put_may_follow slots released s offer =
    by_look (λ found. SlotMayFollow slots s (put_by offer found)) slots released s _ refl tt
    (λ less. (omega (arith, less), omega (arith, less)))

pub slot_try_may_follow : (slots released : ℕ) (s : SlotState) (offer : Offer)
    → SlotMayFollow slots s (slot_try_note slots released s offer)
slot_try_may_follow slots released s offer =
    by_look (λ found. SlotMayFollow slots s (try_by offer found)) slots released s _ refl tt
    (λ less. (omega (arith, less), omega (arith, less)))

pub slot_put_unreleased : (slots released : ℕ) (s : SlotState) (offer : Offer)
    → IsUnreleased released (slot_put_note slots released s offer)
slot_put_unreleased slots released s offer =
    by_look (λ found. IsUnreleased released (put_by offer found)) slots released s _ refl tt (λ less. less)

pub slot_try_unreleased : (slots released : ℕ) (s : SlotState) (offer : Offer)
    → IsUnreleased released (slot_try_note slots released s offer)
slot_try_unreleased slots released s offer =
    by_look (λ found. IsUnreleased released (try_by offer found)) slots released s _ refl tt (λ less. less)
