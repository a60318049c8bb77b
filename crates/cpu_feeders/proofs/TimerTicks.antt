-- A moment that the timer reports to each member, one after another.
use Rattle.std.proofs.Common.{◌≡◌, ◌<◌, ◌≤◌, ℕ, zero, suc, List, [], ◌∷◌, ◌++◌, length, take, refl, ap, ◌∙◌, subst, arith}
use Rattle.std.proofs.Common.{get_or, length-append}
use Rattle.capture_reports.specs.Ticks.{ticks_of}
use Rattle.member_turns.specs.Seats.{IsReady, Lock, Seat, moment_from, moment_of, own_of}
use Rattle.member_turns.specs.TurnEffects.{IsTickTurn}
use Rattle.ring_model.specs.declared.notes.Found.{Found}
use Rattle.ring_model.specs.declared.notes.Note.{Note}
use Rattle.ring_model.specs.declared.notes.Note.TheVariants.{Kept, Refused, Dropped, Ticked, Counted, Finished}
use Rattle.setup_text.specs.Sound.{AreRising}
use Rattle.capture_reports.specs.Timers.{IsTimed}

-- an element of a list
pub item : {A : Type 0} (xs : List A) (i : ℕ) → i < length xs → A
item [] i below = absurd (omega (arith, below))
item (x ∷ xs) i below = x

pub take_few : (n : ℕ) (xs : List ℕ) → length (take n xs) ≤ length xs
take_few zero xs = omega arith
take_few (suc n) [] = omega arith
take_few (suc n) (x ∷ xs) = let rest = take_few n xs in omega (arith, rest)

-- the moment of the last tick is that of the ticks
abbrev last_from : ℕ → List ℕ → ℕ
last_from ms [] = ms
last_from ms (now ∷ moments) = last_from now moments

last_tick : (ms : ℕ) (notes : List Note) → moment_from ms notes ≡ last_from ms (ticks_of notes)
last_tick ms [] = refl
last_tick ms (Kept offer found ∷ notes) = last_tick ms notes
last_tick ms (Refused cpu index need number ∷ notes) = last_tick ms notes
last_tick ms (Dropped cpu index need number ∷ notes) = last_tick ms notes
last_tick ms (Ticked now found ∷ notes) = last_tick now notes
last_tick ms (Counted ∷ notes) = last_tick ms notes
last_tick ms (Finished ∷ notes) = last_tick ms notes

rises : (before : ℕ) (moments : List ℕ) (i d : ℕ) → AreRising before moments → i < length moments
    → last_from before (take i moments) ≤ get_or moments i d
rises before [] i d rising below = absurd (omega (arith, below))
rises before (x ∷ moments) zero d rising below = rising.0
rises before (x ∷ moments) (suc i) d rising below = rises x moments i d rising.2 (omega (arith, below))

-- so the next moment isn't before the last one that was reported
pub not_before : (moments : List ℕ) (i d : ℕ) (lock : Lock) (seat : Seat) → AreRising 0 moments → i < length moments
    → IsTimed (take i moments) lock seat → moment_of (own_of lock seat) ≤ get_or moments i d
not_before moments i d lock seat rising below timed =
    let last = last_tick 0 (own_of lock seat) ∙ ap (last_from 0) timed.ticks in
    let next = rises 0 moments i d rising below in
    omega (arith, last, next)

pub are_small : (before : ℕ) (moments : List ℕ) (i d : ℕ) → AreRising before moments → i < length moments
    → get_or moments i d ≤ 4294967295
are_small before [] i d rising below = absurd (omega (arith, below))
are_small before (x ∷ moments) zero d rising below = rising.1
are_small before (x ∷ moments) (suc i) d rising below = are_small x moments i d rising.2 (omega (arith, below))

ticks_on : (notes : List Note) (ms : ℕ) (found : Found) → ticks_of (notes ++ Ticked ms found ∷ []) ≡ ticks_of notes ++ ms ∷ []
ticks_on [] ms found = refl
ticks_on (Kept offer seen ∷ notes) ms found = ticks_on notes ms found
ticks_on (Refused cpu index need number ∷ notes) ms found = ticks_on notes ms found
ticks_on (Dropped cpu index need number ∷ notes) ms found = ticks_on notes ms found
ticks_on (Ticked now seen ∷ notes) ms found = ap (λ (more : List ℕ). now ∷ more) (ticks_on notes ms found)
ticks_on (Counted ∷ notes) ms found = ticks_on notes ms found
ticks_on (Finished ∷ notes) ms found = ticks_on notes ms found

-- one more moment
pub timed_more : (moments : List ℕ) (ms : ℕ) (lock : Lock) (seat after : Seat) → IsTimed moments lock seat
    → IsTickTurn lock seat after ms
    → IsTimed (moments ++ ms ∷ []) lock after
timed_more moments ms lock seat after timed turn =
    let turned = turn.turned in
    record {
      ready = subst (λ (n : ℕ). IsReady lock n after) timed.ready.number_is turned.ready;
      entered = let one = turned.entered in let sofar = timed.entered in let long = length-append moments (ms ∷ []) in
          omega (arith, one, sofar, long);
      ticks = ap ticks_of turned.own ∙ ticks_on (own_of lock seat) ms turn.found
          ∙ ap (λ (told : List ℕ). told ++ ms ∷ []) timed.ticks;
    }
