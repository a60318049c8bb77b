-- The notes and the rings of members that were closed.
use Rattle.std.proofs.Common.{◌≡◌, ℕ, zero, suc, ◌<◌, List, [], ◌∷◌, ◌++◌, length, get_or, refl, sym, ap, ◌∙◌, subst, arith}
use Rattle.std.specs.Prelude.{true}
use Rattle.std.specs.List.{AllByRecursion}
use Rattle.std.proofs.lemmas.List.{get_or-map, length-map}
use Rattle.capture_reports.specs.Seats as seats
use Rattle.capture_reports.specs.Ticks.{NoneCounted, ticks_of}
use Rattle.member_turns.specs.Closings.{AreClosedNotes, HasOwn, IsOfSeat}
use Rattle.member_turns.specs.Entries.{may_add, may_note}
use Rattle.member_turns.specs.Seats.{Lock, Seat, own_of}
use Rattle.ring_model.specs.Ring.{IsWholeRun}
use Rattle.ring_model.specs.declared.notes.Note.{Note}
use Rattle.setup_text.specs.declared.jobs.Job.{Job}
use Rattle.ticket_dealer.specs.Seats.{SeatValue}
use Rattle.tp_layout.specs.Requests.{size_of}
use Rattle.turn_lock.specs.Histories.{own}
use Rattle.capture_reports.specs.Closed.{AreRingsOf, IsRingOf, MemberLeft, locks_of, notes_of_members, rings_of}
use Rattle.capture_reports.specs.Left.{AreLeft, CpuLeft, member_seats_at}
use Rattle.capture_reports.specs.Timers.{IsTicked, IsTimed}

-- the laws of the notes that a timer adds
abbrev pub Ticks : Type 0
Ticks = (cpus : ℕ) (notes : List Note) → seats.IsSeatRun cpus notes → ticks_of notes ≡ ticks_of (own (may_add cpus) cpus notes)

abbrev pub Counts : Type 0
Counts = (cpus : ℕ) (notes : List Note) → seats.IsSeatRun cpus notes → NoneCounted notes

-- a note that a seat of the lock may add is one that a seat of a ring of n CPUs may add
of_seats : (lock : Lock) (cpus : ℕ) (notes : List Note) → lock.base.cpus ≡ cpus → AllByRecursion (IsOfSeat lock) notes
    → AllByRecursion (seats.IsOfSeat cpus) notes
of_seats lock cpus [] count all = tt
of_seats lock cpus (note ∷ notes) count all =
    ((all.0.0, subst (λ (n : ℕ). may_add n all.0.0 note ≡ true) count all.0.2), of_seats lock cpus notes count all.1)

-- of a closed member with n CPUs
pub seat_run : (lock : Lock) (cpus : ℕ) (member_seats : List Seat) (notes : List Note) → lock.base.cpus ≡ cpus
    → AreClosedNotes lock member_seats notes
    → seats.IsSeatRun cpus notes
seat_run lock cpus member_seats notes count closed = record {
  history = closed.history;
  notes_are = closed.notes_are;
  each_note = of_seats lock cpus closed.history count closed.each_note;
}

-- the last of the seats
last_has : (P : Seat → Type 0) (member_seats : List Seat) (last : Seat) → AllByRecursion P (member_seats ++ last ∷ []) → P last
last_has P [] last all = all.0
last_has P (member_seat ∷ member_seats) last all = last_has P member_seats last all.1

-- what the timer added there are the moments
ticked : (ticks : Ticks) (counts : Counts) (moments : List ℕ) (lock : Lock) (member_seats : List Seat) (timer : Seat)
    (notes : List Note)
    → AreClosedNotes lock (member_seats ++ timer ∷ []) notes → IsTimed moments lock timer → IsTicked moments notes
ticked ticks counts moments lock member_seats timer notes closed timed =
    let run = seat_run lock lock.base.cpus (member_seats ++ timer ∷ []) notes refl closed in
    let mine : own (may_note lock.base) timer.number notes ≡ own_of lock timer =
    last_has (HasOwn lock notes) member_seats timer closed.each_seat in
    record {
      ticks = ticks lock.base.cpus notes run
          ∙ ap (λ (n : ℕ). ticks_of (own (may_note lock.base) n notes)) (sym timed.ready.number_is)
          ∙ ap ticks_of mine ∙ timed.ticks;
      counted = counts lock.base.cpus notes run;
    }

-- ---- all members of a run

-- what is left of a member
pub record IsMemberLeft (job : Job) (moments : List ℕ) (member : MemberLeft) : Type 0 where
  pub run : IsWholeRun (size_of job.setup.shape) member.notes
  pub ticked : IsTicked moments member.notes
  pub ring : IsRingOf job.setup.shape member.notes member.ring

pub rings_are : (job : Job) (moments : List ℕ) (members : List MemberLeft) → AllByRecursion (IsMemberLeft job moments) members
    → AreRingsOf job.setup.shape (notes_of_members members) (rings_of members)
rings_are job moments [] all = tt
rings_are job moments (member ∷ members) all = (all.0.ring, rings_are job moments members all.1)

-- a fact about each element, by its place
pub by_place : {A : Type 0} (P : A → Type 0) (xs : List A) → ((i : ℕ) (none : A) → i < length xs → P (get_or xs i none))
    → AllByRecursion P xs
by_place P [] each = tt
by_place P (x ∷ xs) each =
    (each zero x (omega arith), by_place P xs (λ i none within. each (suc i) none (omega (arith, within))))

abbrev lock_in : MemberLeft → Lock
lock_in member = member.lock

module _ (ticks : Ticks) (counts : Counts) (job : Job) (moments : List ℕ) (cpus : List CpuLeft) (members : List MemberLeft)
    (timer : List Seat)
    (seats_drawn : List SeatValue) (number : ℕ) (left : AreLeft job moments cpus members timer seats_drawn number) where
  -- a member is there
  pub lock_at : (member : ℕ) (none : MemberLeft) → member < length members
      → get_or (locks_of members) member none.lock ≡ (get_or members member none).lock
  lock_at member none within = get_or-map lock_in members member none none.lock within

  pub within_locks : (member : ℕ) → member < length members → member < length (locks_of members)
  within_locks member within = subst (λ (n : ℕ). member < n) (sym (length-map members lock_in)) within

  member_left : (member : ℕ) (member_seat : Seat) (none : MemberLeft) → member < length members
      → IsMemberLeft job moments (get_or members member none)
  member_left member member_seat none within =
      let closed = left.closed member member_seat none within in
      let there : member < length timer = subst (λ (n : ℕ). member < n) (sym left.timed.count) (within_locks member within) in
      let timed : IsTimed moments (get_or members member none).lock (get_or timer member member_seat) =
      subst (λ (lock : Lock). IsTimed moments lock (get_or timer member member_seat)) (lock_at member none within)
      (left.timed.each member none.lock member_seat there) in
      record {
        run = closed.run;
        ticked = ticked ticks counts moments (get_or members member none).lock (member_seats_at member member_seat cpus)
            (get_or timer member member_seat)
            (get_or members member none).notes closed.notes timed;
        ring = closed.ring;
      }

  -- there is a seat of the timer where there is a member
  some_member_seat : (member : ℕ) (member_seats : List Seat) → member < length member_seats → Seat
  some_member_seat member [] within = absurd (omega (arith, within))
  some_member_seat member (member_seat ∷ member_seats) within = member_seat

  pub members_left : AllByRecursion (IsMemberLeft job moments) members
  members_left = by_place (IsMemberLeft job moments) members (λ member none within.
      member_left member
      (some_member_seat member timer
      (subst (λ (n : ℕ). member < n) (sym left.timed.count) (within_locks member within))) none within)
