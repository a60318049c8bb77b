-- Members, their seats and their readers when all threads have ended.
use Rattle.std.proofs.Common.{◌≡◌, ◌<◌, ℕ, zero, suc, false, List, [], ◌∷◌, ◌++◌, length, length-append, get_or, sym, ap, ◌∙◌}
use Rattle.std.proofs.Common.{subst, arith}
use Rattle.std.specs.Prelude.{map, replicate}
use Rattle.std.specs.List.{AllByRecursion, AllZip}
use Rattle.std.proofs.lemmas.List.{length-map, length-replicate}
use Rattle.history.proofs.Lists.{all_append}
use Rattle.capture_reports.specs.Timers.{AreTimed}
use Rattle.member_turns.specs.Entries.{table_numbers}
use Rattle.member_turns.specs.Seats.{Lock, Seat}
use Rattle.reader_walk.specs.Takers.{Base}
use Rattle.tp_layout.specs.Layouts.{Taken}
use Rattle.setup_text.specs.declared.jobs.Job.{Job}
use Rattle.ticket_dealer.specs.Seats.{DealerValue}
use Rattle.turn_lock.specs.Seats.{IsIdleSeatOf}
use Rattle.cpu_feeders.specs.inside.Closings.{AllAtEnd}
use Rattle.cpu_feeders.specs.inside.FreshWorkers.{IsFreshReader, IsMemberOf, IsReaderAt}
use Rattle.cpu_feeders.specs.inside.MemberSeats.{with_all}
use Rattle.cpu_feeders.specs.Walks.{Walks}
use Rattle.cpu_feeders.specs.WorkerEffects.{IsWalkedOut}
use Rattle.cpu_feeders.specs.declared.feeder.Feeder.{Feeder}
use Rattle.cpu_feeders.specs.declared.walker.ReaderThread.{ReaderThread}
use Rattle.cpu_feeders.proofs.FedFeeders.{Outs, idle_at, member_seats_in, member_seats_long}
use Rattle.cpu_feeders.proofs.TimerTicks.{item}
use Rattle.cpu_feeders.proofs.MemberSeatLists.{all_at, items_at, no_list, nothing, with_all_long}

-- a relation at each place is one of the lists
pub by_places : {A B : Type 0} (R : A → B → Type 0) (xs : List A) (ys : List B) → length ys ≡ length xs
    → ((i : ℕ) (d : A) (e : B) → i < length xs → R (get_or xs i d) (get_or ys i e)) → AllZip R xs ys
by_places R [] [] same each = tt
by_places R [] (y ∷ ys) same each = absurd (omega (arith, same))
by_places R (x ∷ xs) [] same each = absurd (omega (arith, same))
by_places R (x ∷ xs) (y ∷ ys) same each = (
  each zero x y (omega arith),
  by_places R xs ys (omega (arith, same))
      (λ i d e below. each (suc i) d e (omega (arith, below))),
)

pub at_place : {A : Type 0} (P : A → Type 0) (xs : List A) (i : ℕ) (d : A) → AllByRecursion P xs → i < length xs
    → P (get_or xs i d)
at_place P [] i d all within = absurd (omega (arith, within))
at_place P (x ∷ xs) zero d all within = all.0
at_place P (x ∷ xs) (suc i) d all within = at_place P xs i d all.1 (omega (arith, within))

all_mapped : {A B : Type 0} (P : B → Type 0) (f : A → B) (xs : List A) → AllByRecursion (λ (x : A). P (f x)) xs
    → AllByRecursion P (map f xs)
all_mapped P f [] all = tt
all_mapped P f (x ∷ xs) all = (all.0, all_mapped P f xs all.1)

-- ---- the seats at a member

-- all seats of a member are there, and none is in its turn
pub record AreHandedIn (lock : Lock) (member_seats : List Seat) : Type 0 where
  pub all : length member_seats ≡ lock.seats
  pub own : AllByRecursion (IsIdleSeatOf lock) member_seats

-- the seats of all users
abbrev pub columns_of : {S : Type 0} → List (Feeder S) → List Seat → List (List Seat)
columns_of feeders timer = map member_seats_in feeders ++ timer ∷ []

-- the seats at all members
abbrev pub rows_of : {S : Type 0} → ℕ → List (Feeder S) → List Seat → List (List Seat)
rows_of members feeders timer = with_all (replicate members []) (columns_of feeders timer)

module _ {S : Type 0} (job : Job) (dealer : DealerValue) (moments : List ℕ) (locks : List Lock) (before after : List (Feeder S))
    (timer : List Seat)
    (outs : Outs job locks dealer before after) (timed : AreTimed moments locks timer) where
  -- each user has a seat at each member
  columns_long : AllByRecursion (λ (column : List Seat). length column ≡ length locks) (columns_of after timer)
  columns_long =
      all_append (λ (column : List Seat). length column ≡ length locks) (map member_seats_in after) (timer ∷ [])
      (all_mapped (λ (column : List Seat). length column ≡ length locks) member_seats_in after
      (member_seats_long job locks dealer before after outs)) (timed.count, tt)

  pub rows_long : length (rows_of (length locks) after timer) ≡ length locks
  rows_long = with_all_long (columns_of after timer) (replicate (length locks) []) ∙ length-replicate (length locks) []

  -- a member's seats
  pub row_is : (member : ℕ) (row : List Seat) (member_seat : Seat) → member < length locks
      → get_or (rows_of (length locks) after timer) member row ≡ items_at member member_seat (columns_of after timer)
  row_is member row member_seat within =
      let many : length (replicate (length locks) (nothing {A = Seat})) ≡ length locks =
      length-replicate (length locks) nothing in
      all_at (columns_of after timer) (replicate (length locks) []) member row member_seat (omega (arith, within, many))
      (subst (λ (n : ℕ). AllByRecursion (λ (column : List Seat). length column ≡ n) (columns_of after timer))
      (sym many) columns_long)
      ∙ ap (λ (list : List Seat). list ++ items_at member member_seat (columns_of after timer))
      (no_list (length locks) member row within)

  idle_columns : (member : ℕ) (lock : Lock) (member_seat : Seat) → member < length locks
      → AllByRecursion (λ (column : List Seat). IsIdleSeatOf (get_or locks member lock) (get_or column member member_seat))
      (columns_of after timer)
  idle_columns member lock member_seat within =
      let count = timed.count in
      all_append (λ (column : List Seat). IsIdleSeatOf (get_or locks member lock) (get_or column member member_seat))
      (map member_seats_in after) (timer ∷ [])
      (idle_at job locks dealer before after member lock member_seat outs within)
      ((timed.each member lock member_seat (omega (arith, within, count))).ready.idle, tt)

  handed_in : (member : ℕ) (lock : Lock) (row : List Seat) → AllByRecursion (IsMemberOf job) locks
      → length after ≡ length job.setup.cpus
      → member < length locks → AreHandedIn (get_or locks member lock) (get_or (rows_of (length locks) after timer) member row)
  handed_in member lock row members count within =
      let count_timer = timed.count in
      let member_seat : Seat = item timer member (omega (arith, within, count_timer)) in
      let row_member_seats = row_is member row member_seat within in
      let seats = (at_place (IsMemberOf job) locks member lock members within).seats in
      let long = length-map (columns_of after timer) (λ (column : List Seat). get_or column member member_seat) in
      let users = length-append (map member_seats_in after) (timer ∷ []) in
      let fed = length-map after member_seats_in in
      subst (λ (member_seats : List Seat). AreHandedIn (get_or locks member lock) member_seats) (sym row_member_seats) (record {
        all = omega (arith, seats, long, users, fed, count);
        own = all_mapped (IsIdleSeatOf (get_or locks member lock)) (λ (column : List Seat). get_or column member member_seat)
            (columns_of after timer)
            (idle_columns member lock member_seat within);
      })

  pub all_handed_in : AllByRecursion (IsMemberOf job) locks → length after ≡ length job.setup.cpus
      → AllZip AreHandedIn locks (rows_of (length locks) after timer)
  all_handed_in members count =
      by_places AreHandedIn locks (rows_of (length locks) after timer) rows_long
      (λ member lock row within. handed_in member lock row members count within)

-- ---- the readers

module _ {T : Type 0} (base_of : T → Base) (taken_by : T → List Taken) where
  -- a reader of this member that has walked its ring
  pub record IsBack (lock : Lock) (walker : ReaderThread T) : Type 0 where
    pub ring : table_numbers walker.end.id ≡ lock.base.table
    pub shape : (base_of walker.taker).shape ≡ lock.base.shape
    pub walks : Walks base_of taken_by (base_of walker.taker) walker
    pub full : walker.full ≡ false

  pub all_at_end : (locks : List Lock) (rows : List (List Seat)) (walkers : List (ReaderThread T))
      → AllZip AreHandedIn locks rows
      → AllZip IsBack locks walkers → AllAtEnd base_of taken_by locks rows walkers
  all_at_end [] [] [] member_seats readers = tt
  all_at_end [] [] (walker ∷ walkers) member_seats readers = absurd readers
  all_at_end [] (row ∷ rows) walkers member_seats readers = absurd member_seats
  all_at_end (lock ∷ locks) [] walkers member_seats readers = absurd member_seats
  all_at_end (lock ∷ locks) (row ∷ rows) [] member_seats readers = absurd readers
  all_at_end (lock ∷ locks) (row ∷ rows) (walker ∷ walkers) member_seats readers = (
    record {
      all = member_seats.0.all;
      own = member_seats.0.own;
      ring = readers.0.ring;
      shape = readers.0.shape;
      walks = readers.0.walks;
      full = readers.0.full;
    },
    all_at_end locks rows walkers member_seats.1 readers.1,
  )

  module _ (job : Job) (dealer : DealerValue) where
    one_back : (lock : Lock) (old new : ReaderThread T) → IsMemberOf job lock → IsReaderAt lock old
        → IsFreshReader base_of taken_by job.setup.shape dealer old
        → IsWalkedOut base_of taken_by dealer old new → new.full ≡ false → IsBack lock new
    one_back lock old new member at fresh out free = record {
      ring = ap table_numbers out.walked.ring ∙ at;
      shape = ap (λ (base : Base). base.shape) out.walked.walks.base_is ∙ fresh.shape_is ∙ sym member.is_lock.shape;
      walks = subst (λ (base : Base). Walks base_of taken_by base new) (sym out.walked.walks.base_is) out.walked.walks;
      full = free;
    }

    pub all_back : (locks : List Lock) (before after : List (ReaderThread T)) → AllByRecursion (IsMemberOf job) locks
        → AllZip IsReaderAt locks before
        → AllByRecursion (IsFreshReader base_of taken_by job.setup.shape dealer) before
        → AllZip (IsWalkedOut base_of taken_by dealer) before after
        → AllByRecursion (λ (w : ReaderThread T). w.full ≡ false) after
        → AllZip IsBack locks after
    all_back [] [] [] members at fresh outs free = tt
    all_back [] [] (n ∷ after) members at fresh outs free = absurd outs
    all_back [] (o ∷ before) after members at fresh outs free = absurd at
    all_back (lock ∷ locks) [] after members at fresh outs free = absurd at
    all_back (lock ∷ locks) (o ∷ before) [] members at fresh outs free = absurd outs
    all_back (lock ∷ locks) (o ∷ before) (n ∷ after) members at fresh outs free = (
      one_back lock o n members.0 at.0 fresh.0 outs.0 free.0,
      all_back locks before after members.1 at.1 fresh.1 outs.1 free.1,
    )
