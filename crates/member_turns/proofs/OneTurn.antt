-- One turn of a seat at a member.
use Rattle.std.proofs.Common.{◌≡◌, ℕ, true, List, [], ◌∷◌, ◌++◌, Result, Ok, Err, IfOk, IfErr, refl, sym, ap, ap₂, ◌∙◌, subst}
use Rattle.std.proofs.Common.{◌<◌}
use Rattle.std.proofs.lemmas.Bool.{and_from, eq-eqb, lt-ltb}
use Rattle.block_ring.specs.Machines.{KeepsEnd}
use Rattle.ring_model.specs.KnownReleases.{put_by, try_by}
use Rattle.ring_model.specs.Ring.{Size, state_of}
use Rattle.ring_model.specs.declared.notes.Found.{Found}
use Rattle.ring_model.specs.declared.notes.Found.TheVariants.{NotAsked, Free, Held}
use Rattle.ring_model.specs.declared.notes.Note.{Note}
use Rattle.ring_model.specs.declared.notes.Note.TheVariants.{Ticked}
use Rattle.ring_model.specs.declared.notes.Offer.{Offer}
use Rattle.ring_words.specs.TableEnds.{Feeding, feed_of}
use Rattle.turn_lock.specs.Histories.{GoesOn, IsTurn, own}
use Rattle.turn_lock.specs.Seats.{AddsIn, inside, outside}
use Rattle.turn_lock.proofs.Lists.{own_stays, own_turn}
use Rattle.member_turns.specs.Entries.{is_seat_of, may_note}
use Rattle.member_turns.specs.EntryLaws.{one_seat}
use Rattle.member_turns.specs.Seats.{IsReady, Lock, Seat, moment_of, own_of}
use Rattle.member_turns.specs.TurnEffects.{Turned}
use Rattle.member_turns.specs.declared.ring_base.RingBase.{RingBase}
use Rattle.member_turns.proofs.Moments.{clock_is, own_moment}

-- a CPU's seat may add notes about its frames
seat_may : (base : RingBase) (number cpu : ℕ) → number ≡ cpu → cpu < base.cpus → is_seat_of base.cpus number cpu ≡ true
seat_may base number cpu same few = and_from _ _ (eq-eqb cpu number (sym same)) (lt-ltb cpu base.cpus few)

-- the note of a packet that is put or tried is its CPU's
pub put_may : (base : RingBase) (number : ℕ) (offer : Offer) (found : Found) → number ≡ offer.frame.cpu
    → offer.frame.cpu < base.cpus
    → IsTurn (may_note base) number (put_by offer found ∷ [])
put_may base number offer NotAsked same few = (seat_may base number offer.frame.cpu same few, refl)
put_may base number offer Free same few = (seat_may base number offer.frame.cpu same few, refl)
put_may base number offer (Held held) same few = (seat_may base number offer.frame.cpu same few, refl)

pub try_may : (base : RingBase) (number : ℕ) (offer : Offer) (found : Found) → number ≡ offer.frame.cpu
    → offer.frame.cpu < base.cpus
    → IsTurn (may_note base) number (try_by offer found ∷ [])
try_may base number offer NotAsked same few = (seat_may base number offer.frame.cpu same few, refl)
try_may base number offer Free same few = (seat_may base number offer.frame.cpu same few, refl)
try_may base number offer (Held held) same few = (seat_may base number offer.frame.cpu same few, refl)

-- and that of a tick is the timer's
pub tick_may : (base : RingBase) (number ms : ℕ) (found : Found) → number ≡ base.cpus
    → IsTurn (may_note base) number (Ticked ms found ∷ [])
tick_may base number ms found same = (eq-eqb number base.cpus same, refl)

-- a seat that is in its turn leaves with these additional entries
pub adds_in : (base : RingBase) (seat entered : Seat) (before stored added : List Note) → entered ≡ inside seat before
    → stored ≡ before ++ added → IsTurn (may_note base) seat.number added → AddsIn (may_note base) entered stored
adds_in base seat entered before stored added in_turn more turn = (
  before,
  ap (λ (s : Seat). s.turn) in_turn,
  (added, more, subst (λ (s : Seat). IsTurn (may_note base) s.number added) (sym in_turn) turn),
)

-- what is known of a seat once it has entered
pub record Entered (lock : Lock) (seat entered : Seat) (before : List Note) : Type 0 where
  pub goes : GoesOn (may_note lock.base) seat.number seat.last before
  pub in_turn : entered ≡ inside seat before

-- the same for the lock and the seat that the caller sees
pub entered_at : (within lock : Lock) (own_seat seat entered : Seat) (before : List Note) → within ≡ lock → own_seat ≡ seat
    → GoesOn (may_note within.base) own_seat.number own_seat.last before → entered ≡ inside own_seat before
    → Entered lock seat entered before
entered_at within lock own_seat seat entered before same_lock same_seat goes in_turn =
    subst (λ (l : Lock). Entered l seat entered before) same_lock
    (subst (λ (s : Seat). Entered within s entered before) same_seat (record { goes = goes; in_turn = in_turn }))

-- and this is the state after the turn
pub turn_done : (lock : Lock) (seat entered after : Seat) (number : ℕ) (before stored added : List Note)
    → IsReady lock number seat
    → Entered lock seat entered before → stored ≡ before ++ added
    → IsTurn (may_note lock.base) seat.number added → after ≡ outside entered stored → Turned lock seat after added
turn_done lock seat entered after number before stored added ready at more turn left =
    let is : after ≡ outside (inside seat before) (before ++ added) =
    left ∙ ap₂ (λ (s : Seat) (xs : List Note). outside s xs) at.in_turn more in
    subst (λ (s : Seat). Turned lock seat s added) (sym is) (record {
      ready = record { idle = (ready.idle.0, refl); number_is = refl };
      entered = refl;
      own = own_turn (may_note lock.base) (one_seat lock.base) seat.number seat.last before added at.goes turn;
    })

-- the timer knows the clock of the ring
pub clock_known : (lock : Lock) (seat : Seat) (size : Size) (before : List Note) → IsReady lock lock.base.cpus seat
    → GoesOn (may_note lock.base) seat.number seat.last before → (state_of size before).clock ≡ moment_of (own_of lock seat)
clock_known lock seat size before ready goes =
    clock_is size before ∙ sym (own_moment lock.base before)
    ∙ ap (λ (n : ℕ). moment_of (own (may_note lock.base) n before)) (sym ready.number_is)
    ∙ ap moment_of (own_stays (may_note lock.base) (one_seat lock.base) seat.number seat.last before goes)

-- a call of the ring leaves the kind of its blocks
pub same_kind : (before after : Feeding) → KeepsEnd (feed_of before) (feed_of after) → after.kind ≡ before.kind
same_kind before after keeps = ap (λ ring. ring.kind) keeps.ring

-- what follows from either answer of a call follows from the call
pub of_both : {T E : Type 0} {C : Type 0} (answer : Result T E) (P : T → Type 0) (Q : E → Type 0) → IfOk answer P
    → IfErr answer Q
    → ((x : T) → P x → C) → ((e : E) → Q e → C) → C
of_both (Ok x) P Q ok err by_ok by_err = by_ok x ok
of_both (Err e) P Q ok err by_ok by_err = by_err e err
