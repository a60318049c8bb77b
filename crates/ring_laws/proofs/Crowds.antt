-- A ring that retires blocks of one packet each.
use Rattle.std.proofs.Common.{◌≡◌, ℕ, zero, suc, ◌+◌, ◌-◌, ◌<◌, ◌≤◌, Bool, true, List, [], ◌∷◌, length, None, Some, refl, ap}
use Rattle.std.proofs.Common.{◌∙◌, arith, length-append}
use Rattle.std.specs.Prelude.{◌==◌}
use Rattle.std.proofs.lemmas.Grind.{common_steps}
use Rattle.ring_events.specs.Happenings.{happened}
use Rattle.ring_events.specs.declared.events.Happening.TheVariants.{Put}
use Rattle.ring_laws.specs.Beginnings.{at_deadline, crowded}
use Rattle.ring_laws.proofs.DueTicks.{look_free, look_held, ticks_at}
use Rattle.ring_laws.proofs.Fillings.{need, put_in}
use Rattle.ring_model.specs.Ring.{Size, State, next_number, open_count, status_of}
use Rattle.ring_model.specs.Rings.{Ring, fresh, state}
use Rattle.ring_model.specs.declared.notes.Found.TheVariants.{Free, Held}
use Rattle.ring_model.specs.declared.notes.Offer.{Offer}

-- a ring that got `base` blocks back and then retired some blocks, with these packets open
pub record IsCrowd (size : Size) (base blocks : ℕ) (lossless : Bool) (offers : List Offer) (ring : Ring) : Type 0 where
  pub size_is : ring.size ≡ size
  pub released : ring.released ≡ base
  pub done : length (state ring).done ≡ base + blocks
  pub now : (state ring).now ≡ Some offers
  pub deadline : (state ring).deadline ≡ (state ring).clock + size.tov
  pub dropped : ((state ring).dropped == 0) ≡ lossless

-- one whose last block froze it
pub record IsFull (size : Size) (ring : Ring) (released dropped : ℕ) : Type 0 where
  pub size_is : ring.size ≡ size
  pub released_is : ring.released ≡ released
  pub done : length (state ring).done ≡ size.blocks
  pub now : (state ring).now ≡ None
  pub deadline : (state ring).deadline ≡ (state ring).clock + size.tov
  pub dropped_is : (state ring).dropped ≡ dropped

pub fresh_crowd : (size : Size) → IsCrowd size 0 0 true [] (fresh size)
fresh_crowd size =
    record { size_is = refl; released = refl; done = refl; now = refl; deadline = omega arith; dropped = refl }

feeds : (size : Size) (base blocks : ℕ) (lossless : Bool) (offer : Offer) (ring : Ring)
    → IsCrowd size base blocks lossless [] ring
    → need offer ≤ size.room → IsCrowd size base blocks lossless (offer ∷ []) (happened (Put offer) ring)
feeds size base blocks lossless offer ring h fits =
    let room = ap (λ (s : Size). s.room) h.size_is in
    let put = put_in ring [] offer h.now (omega (arith, fits, room)) in
    record {
      size_is = put.size ∙ h.size_is;
      released = put.released ∙ h.released;
      done = ap length put.done ∙ h.done;
      now = put.now;
      deadline = omega (arith, put.deadline, put.clock, h.deadline);
      dropped = ap (λ (n : ℕ). n == 0) put.dropped ∙ h.dropped;
    }

retires : (size : Size) (base blocks : ℕ) (lossless : Bool) (offer : Offer) (ring : Ring)
    → IsCrowd size base blocks lossless (offer ∷ []) ring → suc blocks < size.blocks
    → IsCrowd size base (suc blocks) lossless [] (at_deadline ring)
retires size base blocks lossless offer ring h few =
    let s = state ring in
    let places = ap (λ (z : Size). z.blocks) h.size_is in
    let tov = ap (λ (z : Size). z.tov) h.size_is in
    let opens = ap open_count h.now in
    let free = look_free ring.size ring.released s (omega (arith, few, places, opens, h.released, h.done)) in
    let later = ticks_at ring s.deadline (Some (offer ∷ [])) Free (omega arith) h.now free in
    let clock = ap (λ (s : State). s.clock) later in
    let deadline = ap (λ (s : State). s.deadline) later in
    let done = ap (λ (s : State). length s.done) later in
    let longer = length-append s.done ((offer ∷ [], status_of true s) ∷ []) in
    record {
      size_is = h.size_is;
      released = h.released;
      done = omega (arith, done, longer, h.done);
      now = ap (λ (s : State). s.now) later;
      deadline = omega (arith, clock, deadline, tov);
      dropped = ap (λ (s : State). s.dropped == 0) later ∙ h.dropped;
    }

none_lost : (n : ℕ) → (n == 0) ≡ true → n ≡ 0
none_lost n e = grind (arith, common_steps)

freezes : (size : Size) (blocks : ℕ) (offer : Offer) (ring : Ring) → IsCrowd size 0 blocks true (offer ∷ []) ring
    → suc blocks ≡ size.blocks
    → IsFull size (at_deadline ring) 0 0
freezes size blocks offer ring h many =
    let s = state ring in
    let places = ap (λ (z : Size). z.blocks) h.size_is in
    let tov = ap (λ (z : Size). z.tov) h.size_is in
    let opens = ap open_count h.now in
    let held = look_held ring.size ring.released s (omega (arith, many, places, opens, h.released, h.done)) in
    let later = ticks_at ring s.deadline (Some (offer ∷ [])) (Held (next_number s - ring.size.blocks))
    (omega arith) h.now held in
    let clock = ap (λ (s : State). s.clock) later in
    let deadline = ap (λ (s : State). s.deadline) later in
    let done = ap (λ (s : State). length s.done) later in
    let longer = length-append s.done ((offer ∷ [], status_of true s) ∷ []) in
    record {
      size_is = h.size_is;
      released_is = h.released;
      done = omega (arith, done, longer, h.done, many);
      now = ap (λ (s : State). s.now) later;
      deadline = omega (arith, clock, deadline, tov);
      dropped_is = ap (λ (s : State). s.dropped) later ∙ none_lost s.dropped h.dropped;
    }

pub crowds : (size : Size) (base : ℕ) (lossless : Bool) (offer : Offer) (blocks : ℕ) (ring : Ring)
    → IsCrowd size base 0 lossless [] ring → need offer ≤ size.room → blocks < size.blocks
    → IsCrowd size base blocks lossless [] (crowded ring offer blocks)
crowds size base lossless offer zero ring first fits few = first
crowds size base lossless offer (suc blocks) ring first fits few =
    let before = crowded ring offer blocks in
    let h = crowds size base lossless offer blocks ring first fits (omega arith) in
    retires size base blocks lossless offer (happened (Put offer) before)
    (feeds size base blocks lossless offer before h fits) few

pub fills_up : (size : Size) (offer : Offer) (blocks : ℕ) → need offer ≤ size.room → suc blocks ≡ size.blocks
    → IsFull size (crowded (fresh size) offer (suc blocks)) 0 0
fills_up size offer blocks fits many =
    let ring = crowded (fresh size) offer blocks in
    let h = crowds size 0 true offer blocks (fresh size) (fresh_crowd size) fits (omega arith) in
    freezes size blocks offer (happened (Put offer) ring) (feeds size 0 blocks true offer ring h fits) many
