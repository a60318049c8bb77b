-- The clock that notes leave is the moment of their last tick.
use Rattle.std.proofs.Common.{◌≡◌, ℕ, ◌+◌, Bool, true, false, cond, List, [], ◌∷◌, Option, None, Some, refl, sym, ap, ◌∙◌}
use Rattle.std.specs.Prelude.{nat_lt}
use Rattle.ring_model.specs.Ring.{Size, State, after, after_all, after_drop, after_due}
use Rattle.ring_model.specs.Unreleased.{last_moment}
use Rattle.ring_model.specs.declared.notes.Found.{Found}
use Rattle.ring_model.specs.declared.notes.Found.TheVariants.{NotAsked, Free, Held}
use Rattle.ring_model.specs.declared.notes.Note.{Note}
use Rattle.ring_model.specs.declared.notes.Note.TheVariants.{Kept, Refused, Dropped, Ticked, Counted, Finished}
use Rattle.ring_model.specs.declared.notes.Offer.{Offer}

drop_clock : (s : State) (now : Option (List Offer)) → (after_drop s now).clock ≡ s.clock
drop_clock s None = refl
drop_clock s (Some offers) = refl

kept_clock : (size : Size) (s : State) (offer : Offer) (found : Found) → (after size s (Kept offer found)).clock ≡ s.clock
kept_clock size s offer NotAsked = refl
kept_clock size s offer Free = refl
kept_clock size s offer (Held number) = refl

tick_clock : (early : Bool) (s due : State) (ms deadline : ℕ)
    → (cond early (record s { clock = ms }) (record due { clock = ms; deadline = deadline })).clock ≡ ms
tick_clock true s due ms deadline = refl
tick_clock false s due ms deadline = refl

goes_on : (notes : List Note) (clock before : ℕ) → clock ≡ before → last_moment clock notes ≡ last_moment before notes
goes_on notes clock before e = ap (λ moment. last_moment moment notes) e

pub clock_from : (size : Size) (s : State) (notes : List Note) → (after_all size s notes).clock ≡ last_moment s.clock notes
clock_from size s [] = refl
clock_from size s (Kept offer found ∷ notes) =
    clock_from size (after size s (Kept offer found)) notes ∙ goes_on notes _ s.clock (kept_clock size s offer found)
clock_from size s (Refused cpu index need number ∷ notes) = clock_from size s notes
clock_from size s (Dropped cpu index need number ∷ notes) =
    clock_from size (after_drop s s.now) notes ∙ goes_on notes _ s.clock (drop_clock s s.now)
clock_from size s (Ticked ms found ∷ notes) =
    clock_from size (after size s (Ticked ms found)) notes
    ∙ goes_on notes _ ms (tick_clock (nat_lt ms s.deadline) s (after_due s s.now found) ms (ms + size.tov))
clock_from size s (Counted ∷ notes) = clock_from size (after size s Counted) notes
clock_from size s (Finished ∷ notes) = clock_from size (after size s Finished) notes
