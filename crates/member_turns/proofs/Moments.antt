-- The clock of a ring is the moment of the last tick, which the timer's own notes give.
use Rattle.std.proofs.Common.{◌≡◌, ℕ, Bool, true, false, List, [], ◌∷◌, Option, Some, None, refl, ap, ◌∙◌, eq-eqb}
use Rattle.std.proofs.Common.{if◌then◌else◌}
use Rattle.std.proofs.lemmas.Bool.{false≢true}
use Rattle.std.specs.Prelude.{◌==◌, nat_lt, ◌+◌}
use Rattle.ring_model.specs.Ring.{Size, State, after, after_all, after_drop, after_due, first_state, state_of}
use Rattle.ring_model.specs.declared.notes.Found.{Found}
use Rattle.ring_model.specs.declared.notes.Found.TheVariants.{NotAsked, Free, Held}
use Rattle.ring_model.specs.declared.notes.Note.{Note}
use Rattle.ring_model.specs.declared.notes.Note.TheVariants.{Kept, Refused, Dropped, Ticked, Counted, Finished}
use Rattle.ring_model.specs.declared.notes.Offer.{Offer}
use Rattle.turn_lock.specs.Histories.{own}
use Rattle.member_turns.specs.Entries.{may_add, may_note}
use Rattle.member_turns.specs.Seats.{moment_from, moment_of}
use Rattle.member_turns.specs.declared.ring_base.RingBase.{RingBase}

drop_clock : (state : State) (now : Option (List Offer)) → (after_drop state now).clock ≡ state.clock
drop_clock state None = refl
drop_clock state (Some offers) = refl

tick_clock : (b : Bool) (state due : State) (ms late : ℕ)
    → (if b then record state { clock = ms } else record due { clock = ms; deadline = late }).clock ≡ ms
tick_clock true state due ms late = refl
tick_clock false state due ms late = refl

-- one note brings the clock to its moment
clock_after : (size : Size) (state : State) (note : Note) (notes : List Note)
    → moment_from (after size state note).clock notes ≡ moment_from state.clock (note ∷ notes)
clock_after size state (Kept offer NotAsked) notes = refl
clock_after size state (Kept offer Free) notes = refl
clock_after size state (Kept offer (Held number)) notes = refl
clock_after size state (Refused cpu index need number) notes = refl
clock_after size state (Dropped cpu index need number) notes =
    ap (λ (ms : ℕ). moment_from ms notes) (drop_clock state state.now)
clock_after size state (Ticked ms found) notes = ap (λ (at : ℕ). moment_from at notes)
    (tick_clock (nat_lt ms state.deadline) state (after_due state state.now found) ms (ms + size.tov))
clock_after size state Counted notes = refl
clock_after size state Finished notes = refl

clock_from : (size : Size) (state : State) (notes : List Note)
    → (after_all size state notes).clock ≡ moment_from state.clock notes
clock_from size state [] = refl
clock_from size state (note ∷ notes) = clock_from size (after size state note) notes ∙ clock_after size state note notes

-- the clock that notes leave
pub clock_is : (size : Size) (notes : List Note) → (state_of size notes).clock ≡ moment_of notes
clock_is size notes = clock_from size (first_state size) notes

-- a note without a moment may be left out
or_not : (b : Bool) (ms : ℕ) (note : Note) (notes : List Note) → moment_from ms (note ∷ notes) ≡ moment_from ms notes
    → moment_from ms (if b then note ∷ notes else notes) ≡ moment_from ms notes
or_not true ms note notes same = same
or_not false ms note notes same = refl

-- and a tick is the timer's
is_kept : (b : Bool) (ms now : ℕ) (found : Found) (notes : List Note) → b ≡ true
    → moment_from ms (if b then Ticked now found ∷ notes else notes) ≡ moment_from now notes
is_kept true ms now found notes same = refl
is_kept false ms now found notes same = absurd (false≢true same)

moments_own : (cpus ms : ℕ) (notes : List Note) → moment_from ms (own (may_add cpus) cpus notes) ≡ moment_from ms notes
moments_own cpus ms [] = refl
moments_own cpus ms (Kept offer found ∷ notes) =
    or_not (may_add cpus cpus (Kept offer found)) ms (Kept offer found) (own (may_add cpus) cpus notes) refl
    ∙ moments_own cpus ms notes
moments_own cpus ms (Refused cpu index need number ∷ notes) =
    or_not (may_add cpus cpus (Refused cpu index need number)) ms (Refused cpu index need number)
    (own (may_add cpus) cpus notes) refl ∙ moments_own cpus ms notes
moments_own cpus ms (Dropped cpu index need number ∷ notes) =
    or_not (may_add cpus cpus (Dropped cpu index need number)) ms (Dropped cpu index need number)
    (own (may_add cpus) cpus notes) refl ∙ moments_own cpus ms notes
moments_own cpus ms (Ticked now found ∷ notes) =
    is_kept (cpus == cpus) ms now found (own (may_add cpus) cpus notes) (eq-eqb cpus cpus refl) ∙ moments_own cpus now notes
moments_own cpus ms (Counted ∷ notes) = moments_own cpus ms notes
moments_own cpus ms (Finished ∷ notes) = moments_own cpus ms notes

-- the moment from the timer's own notes is that of all notes
pub own_moment : (base : RingBase) (notes : List Note) → moment_of (own (may_note base) base.cpus notes) ≡ moment_of notes
own_moment base notes = moments_own base.cpus 0 notes
