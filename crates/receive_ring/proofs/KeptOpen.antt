-- What a replay needs of the steps of its rings: each keeps a ring open.
use Rattle.std.proofs.Common.{◌≡◌, ℕ, ◌≤◌, Bool, true, false, cond, refl}
use Rattle.std.specs.Prelude.{nat_lt}
use Rattle.ring_model.specs.Rings.{Ring, fresh, noted}
use Rattle.ring_model.specs.declared.notes.Note.TheVariants.{Counted}
use Rattle.ring_model.specs.declared.notes.Offer.{Offer}
use Rattle.run_reports.specs.RingSteps.{RingSteps, put_note, read_by, ticked, try_note}

-- what is preserved is about a ring whose clock isn't past a moment
pub record KeepOpen (steps : RingSteps) (P : ℕ → Ring → Type 0) : Type 0 where
  pub first : P 0 (fresh steps.size)
  pub put : (clock : ℕ) (ring : Ring) (offer : Offer) → P clock ring → P clock (noted ring (put_note steps ring offer))
  pub tried : (clock : ℕ) (ring : Ring) (offer : Offer) → P clock ring → P clock (noted ring (try_note steps ring offer))
  pub tick : (clock ms : ℕ) (ring : Ring) → clock ≤ ms → P clock ring → P ms (ticked steps ms ring)
  pub count : (clock : ℕ) (ring : Ring) → P clock ring → P clock (noted ring Counted)
  pub read : (clock : ℕ) (ring : Ring) → P clock ring → P clock (read_by steps ring)

released_notes : (ring : Ring) (released : ℕ) (later : Bool)
    → (cond later (record ring { released = released }) ring).notes ≡ ring.notes
released_notes ring released true = refl
released_notes ring released false = refl

pub read_notes : (steps : RingSteps) (ring : Ring) → (read_by steps ring).notes ≡ ring.notes
read_notes steps ring = released_notes ring _ (nat_lt ring.released (steps.retired ring))
