-- A block that a note found to be still the reader's isn't released.
use Rattle.std.proofs.Common.{◌≡◌, ℕ, ◌-◌, ◌<◌, Bool, true, false, cond, List, Option, refl}
use Rattle.std.specs.Prelude.{nat_lt, ◌||◌}
use Rattle.std.proofs.lemmas.Bool.{ltb-true}
use Rattle.ring_model.specs.KnownReleases.{found_for, has_room, is_empty_block, look, put_by, put_note, tick_note, try_by}
use Rattle.ring_model.specs.KnownReleases.{try_note}
use Rattle.ring_model.specs.Ring.{Size, State, next_number}
use Rattle.ring_model.specs.Sizes.{need_of}
use Rattle.ring_model.specs.Unreleased.{IsUnreleased}
use Rattle.ring_model.specs.declared.notes.Found.{Found}
use Rattle.ring_model.specs.declared.notes.Found.TheVariants.{NotAsked, Free, Held}
use Rattle.ring_model.specs.declared.notes.Note.TheVariants.{Ticked}
use Rattle.ring_model.specs.declared.notes.Offer.{Offer}

-- what was found is no released block
abbrev IsAbove : ℕ → Found → Type 0
IsAbove released NotAsked = Unit {0}
IsAbove released Free = Unit {0}
IsAbove released (Held number) = released < number

looked : (released number : ℕ) (held : Bool) → nat_lt released number ≡ held → IsAbove released (cond held (Held number) Free)
looked released number true e = ltb-true released number e
looked released number false e = tt

look_above : (size : Size) (released : ℕ) (s : State) → IsAbove released (look size released s)
look_above size released s =
    looked released (next_number s - size.blocks) (nat_lt released (next_number s - size.blocks)) refl

unless_room : (released : ℕ) (room : Bool) (found : Found) → IsAbove released found
    → IsAbove released (cond room NotAsked found)
unless_room released true found h = tt
unless_room released false found h = h

put_above : (released : ℕ) (offer : Offer) (found : Found) → IsAbove released found → IsUnreleased released (put_by offer found)
put_above released offer NotAsked h = tt
put_above released offer Free h = tt
put_above released offer (Held number) h = h

try_above : (released : ℕ) (offer : Offer) (found : Found) → IsAbove released found → IsUnreleased released (try_by offer found)
try_above released offer NotAsked h = tt
try_above released offer Free h = tt
try_above released offer (Held number) h = h

tick_above : (released ms : ℕ) (found : Found) → IsAbove released found → IsUnreleased released (Ticked ms found)
tick_above released ms NotAsked h = tt
tick_above released ms Free h = tt
tick_above released ms (Held number) h = h

found_above : (size : Size) (released : ℕ) (s : State) (need : ℕ) → IsAbove released (found_for size released s need)
found_above size released s need =
    unless_room released (has_room size need s.now) (look size released s) (look_above size released s)

pub put_unreleased : (size : Size) (released : ℕ) (s : State) (offer : Offer)
    → IsUnreleased released (put_note size released s offer)
put_unreleased size released s offer =
    put_above released offer (found_for size released s (need_of offer.snap)) (found_above size released s (need_of offer.snap))

pub try_unreleased : (size : Size) (released : ℕ) (s : State) (offer : Offer)
    → IsUnreleased released (try_note size released s offer)
try_unreleased size released s offer =
    try_above released offer (found_for size released s (need_of offer.snap)) (found_above size released s (need_of offer.snap))

pub tick_unreleased : (size : Size) (released : ℕ) (s : State) (ms : ℕ) → IsUnreleased released (tick_note size released s ms)
tick_unreleased size released s ms =
    tick_above released ms _
    (unless_room released (nat_lt ms s.deadline || is_empty_block s.now) (look size released s)
    (look_above size released s))
