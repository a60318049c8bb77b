-- What is left of all members and readers once they are closed.
use Rattle.std.proofs.Common.{◌≡◌, ◌<◌, ℕ, zero, suc, List, [], ◌∷◌, length, get_or, refl, sym, ap, ◌∙◌, subst, arith}
use Rattle.std.specs.Prelude.{map}
use Rattle.std.specs.List.{AllByRecursion, AllZip}
use Rattle.capture_reports.specs.Closed.{IsClosedOver, IsRingOf, MemberLeft, locks_of, notes_of_members, rings_of}
use Rattle.capture_reports.specs.Reported.{taken_of_notes}
use Rattle.member_turns.specs.Seats.{Lock, Seat}
use Rattle.reader_walk.specs.Takers.{Base}
use Rattle.tp_layout.specs.Layouts.{Taken, taken_in}
use Rattle.ring_model.specs.declared.notes.Note.{Note}
use Rattle.ring_words.specs.Pendings.{Pends}
use Rattle.ring_words.specs.Rings.{Entry}
use Rattle.setup_text.specs.declared.jobs.Job.{Job}
use Rattle.ticket_dealer.specs.Seats.{DealerValue, IsFreshOf, SeatValue}
use Rattle.tp_layout.specs.BlockWrites.{ShapedBytes}
use Rattle.tp_layout.specs.declared.requests.RingRequest.{RingRequest}
use Rattle.cpu_feeders.specs.inside.Closings.{AllAtEnd, AllClosedWith, AreAtEnd, IsClosedWith}
use Rattle.cpu_feeders.specs.inside.FreshWorkers.{IsFreshReader, IsMemberOf}
use Rattle.cpu_feeders.specs.Runs.{AreTakersOf}
use Rattle.cpu_feeders.specs.WorkerEffects.{IsWalkedOut}
use Rattle.cpu_feeders.specs.declared.closed_members.Closed.{Closed}
use Rattle.cpu_feeders.specs.declared.walker.ReaderThread.{ReaderThread}

module _ {T : Type 0} where
  abbrev pub notes_in : Closed T → List Note
  notes_in closed = closed.notes

  abbrev pub ring_in : Closed T → Pends ShapedBytes
  ring_in closed = closed.ring

  abbrev pub taker_left : Closed T → T
  taker_left closed = closed.taker

  abbrev pub seat_left : Closed T → SeatValue
  seat_left closed = closed.seat

  abbrev pub one_left : Lock → Closed T → MemberLeft
  one_left lock closed = record { lock = lock; notes = closed.notes; ring = closed.ring }

  -- what is left of the members
  abbrev pub members_left : List Lock → List (Closed T) → List MemberLeft
  members_left [] all = []
  members_left (lock ∷ locks) [] = []
  members_left (lock ∷ locks) (closed ∷ all) = one_left lock closed ∷ members_left locks all

  module _ (base_of : T → Base) (taken_by : T → List Taken) where
    abbrev pub Over : List Lock → List (List Seat) → List (ReaderThread T) → List (Closed T) → Type 0
    Over locks rows walkers all = AllClosedWith base_of taken_by locks rows walkers all

    pub locks_are : (locks : List Lock) (rows : List (List Seat)) (walkers : List (ReaderThread T)) (all : List (Closed T))
        → Over locks rows walkers all
        → locks_of (members_left locks all) ≡ locks
    locks_are [] rows walkers all over = refl
    locks_are (lock ∷ locks) [] walkers all over = absurd over
    locks_are (lock ∷ locks) (row ∷ rows) [] all over = absurd over
    locks_are (lock ∷ locks) (row ∷ rows) (walker ∷ walkers) [] over = absurd over
    locks_are (lock ∷ locks) (row ∷ rows) (walker ∷ walkers) (closed ∷ all) over =
        ap (λ (ls : List Lock). lock ∷ ls) (locks_are locks rows walkers all over.1)

    pub notes_are : (locks : List Lock) (rows : List (List Seat)) (walkers : List (ReaderThread T)) (all : List (Closed T))
        → Over locks rows walkers all
        → notes_of_members (members_left locks all) ≡ map notes_in all
    notes_are [] [] [] [] over = refl
    notes_are [] [] [] (closed ∷ all) over = absurd over
    notes_are [] [] (walker ∷ walkers) all over = absurd over
    notes_are [] (row ∷ rows) walkers all over = absurd over
    notes_are (lock ∷ locks) [] walkers all over = absurd over
    notes_are (lock ∷ locks) (row ∷ rows) [] all over = absurd over
    notes_are (lock ∷ locks) (row ∷ rows) (walker ∷ walkers) [] over = absurd over
    notes_are (lock ∷ locks) (row ∷ rows) (walker ∷ walkers) (closed ∷ all) over =
        ap (λ (ns : List (List Note)). closed.notes ∷ ns) (notes_are locks rows walkers all over.1)

    pub rings_are : (locks : List Lock) (rows : List (List Seat)) (walkers : List (ReaderThread T)) (all : List (Closed T))
        → Over locks rows walkers all
        → rings_of (members_left locks all) ≡ map ring_in all
    rings_are [] [] [] [] over = refl
    rings_are [] [] [] (closed ∷ all) over = absurd over
    rings_are [] [] (walker ∷ walkers) all over = absurd over
    rings_are [] (row ∷ rows) walkers all over = absurd over
    rings_are (lock ∷ locks) [] walkers all over = absurd over
    rings_are (lock ∷ locks) (row ∷ rows) [] all over = absurd over
    rings_are (lock ∷ locks) (row ∷ rows) (walker ∷ walkers) [] over = absurd over
    rings_are (lock ∷ locks) (row ∷ rows) (walker ∷ walkers) (closed ∷ all) over =
        ap (λ (rs : List (Pends ShapedBytes)). closed.ring ∷ rs) (rings_are locks rows walkers all over.1)

    -- each member was closed over its seats
    pub closed_over : (job : Job) (locks : List Lock) (rows : List (List Seat)) (walkers : List (ReaderThread T))
        (all : List (Closed T))
        → Over locks rows walkers all → AllByRecursion (IsMemberOf job) locks
        → (member : ℕ) (row : List Seat) (none : MemberLeft)
        → member < length (members_left locks all)
        → IsClosedOver job.setup.shape (get_or rows member row) (get_or (members_left locks all) member none)
    closed_over job [] rows walkers all over members member row none within = absurd (omega (arith, within))
    closed_over job (lock ∷ locks) [] walkers all over members member row none within = absurd over
    closed_over job (lock ∷ locks) (r ∷ rows) [] all over members member row none within = absurd over
    closed_over job (lock ∷ locks) (r ∷ rows) (walker ∷ walkers) [] over members member row none within = absurd over
    closed_over job (lock ∷ locks) (r ∷ rows) (walker ∷ walkers) (closed ∷ all) over members zero row none within =
        subst (λ (shape : RingRequest). IsClosedOver shape r (one_left lock closed)) members.0.is_lock.shape over.0.over
    closed_over job (lock ∷ locks) (r ∷ rows) (walker ∷ walkers) (closed ∷ all) over members (suc member) row none within =
        closed_over job locks rows walkers all over.1 members.1 member row none (omega (arith, within))

    module _ (dealer : DealerValue) (job : Job) where
      -- the readers' seats drew no ticket
      pub seats_left : (locks : List Lock) (rows : List (List Seat)) (before walkers : List (ReaderThread T))
          (all : List (Closed T))
          → Over locks rows walkers all → AllZip (IsWalkedOut base_of taken_by dealer) before walkers
          → AllByRecursion (IsFreshOf dealer) (map seat_left all)
      seats_left [] [] before [] [] over outs = tt
      seats_left [] [] before [] (closed ∷ all) over outs = absurd over
      seats_left [] [] before (walker ∷ walkers) all over outs = absurd over
      seats_left [] (row ∷ rows) before walkers all over outs = absurd over
      seats_left (lock ∷ locks) [] before walkers all over outs = absurd over
      seats_left (lock ∷ locks) (row ∷ rows) before [] all over outs = absurd over
      seats_left (lock ∷ locks) (row ∷ rows) before (walker ∷ walkers) [] over outs = absurd over
      seats_left (lock ∷ locks) (row ∷ rows) [] (walker ∷ walkers) (closed ∷ all) over outs = absurd outs
      seats_left (lock ∷ locks) (row ∷ rows) (o ∷ before) (walker ∷ walkers) (closed ∷ all) over outs = (
        subst (λ (seat : SeatValue). IsFreshOf dealer seat) (sym over.0.seat) outs.0.seat,
        seats_left locks rows before walkers all over.1 outs.1,
      )

      pub seats_many : (locks : List Lock) (rows : List (List Seat)) (before walkers : List (ReaderThread T))
          (all : List (Closed T))
          → Over locks rows walkers all → AllZip (IsWalkedOut base_of taken_by dealer) before walkers
          → length (map seat_left all) ≡ length before
      seats_many [] [] [] [] [] over outs = refl
      seats_many [] [] (o ∷ before) [] [] over outs = absurd outs
      seats_many [] [] before [] (closed ∷ all) over outs = absurd over
      seats_many [] [] before (walker ∷ walkers) all over outs = absurd over
      seats_many [] (row ∷ rows) before walkers all over outs = absurd over
      seats_many (lock ∷ locks) [] before walkers all over outs = absurd over
      seats_many (lock ∷ locks) (row ∷ rows) before [] all over outs = absurd over
      seats_many (lock ∷ locks) (row ∷ rows) before (walker ∷ walkers) [] over outs = absurd over
      seats_many (lock ∷ locks) (row ∷ rows) [] (walker ∷ walkers) (closed ∷ all) over outs = absurd outs
      seats_many (lock ∷ locks) (row ∷ rows) (o ∷ before) (walker ∷ walkers) (closed ∷ all) over outs =
          ap suc (seats_many locks rows before walkers all over.1 outs.1)

      -- what a taker that read all blocks of a ring has read, by the law on it
      abbrev pub ReadsNotes : Type 0
      ReadsNotes = (notes : List Note) (ring : Pends ShapedBytes) → IsRingOf job.setup.shape notes ring
          → map (λ (entry : Entry). taken_in job.setup.shape entry.0) ring.retired ≡ taken_of_notes job.setup.shape notes

      -- each taker comes back with its base, and has read all blocks
      pub takers_left : (reads : ReadsNotes) (locks : List Lock) (rows : List (List Seat))
          (before walkers : List (ReaderThread T))
          (all : List (Closed T))
          → Over locks rows walkers all → AllByRecursion (IsMemberOf job) locks
          → AllByRecursion (IsFreshReader base_of taken_by job.setup.shape dealer) before
          → AllZip (IsWalkedOut base_of taken_by dealer) before walkers
          → AreTakersOf base_of taken_by job.setup.shape (map notes_in all) (map (λ (w : ReaderThread T). w.taker) before)
          (map taker_left all)
      takers_left reads [] [] [] [] [] over members fresh outs = tt
      takers_left reads [] [] (o ∷ before) [] [] over members fresh outs = absurd outs
      takers_left reads [] [] before [] (closed ∷ all) over members fresh outs = absurd over
      takers_left reads [] [] before (walker ∷ walkers) all over members fresh outs = absurd over
      takers_left reads [] (row ∷ rows) before walkers all over members fresh outs = absurd over
      takers_left reads (lock ∷ locks) [] before walkers all over members fresh outs = absurd over
      takers_left reads (lock ∷ locks) (row ∷ rows) before [] all over members fresh outs = absurd over
      takers_left reads (lock ∷ locks) (row ∷ rows) before (walker ∷ walkers) [] over members fresh outs = absurd over
      takers_left reads (lock ∷ locks) (row ∷ rows) [] (walker ∷ walkers) (closed ∷ all) over members fresh outs = absurd outs
      takers_left reads (lock ∷ locks) (row ∷ rows) (o ∷ before) (walker ∷ walkers) (closed ∷ all) over members fresh outs =
          let base : base_of walker.taker ≡ base_of o.taker = outs.0.walked.walks.base_is in
          let shape : (base_of walker.taker).shape ≡ job.setup.shape = ap (λ (b : Base). b.shape) base ∙ fresh.0.shape_is in
          let ring : IsRingOf job.setup.shape closed.notes closed.ring =
          subst (λ (s : RingRequest). IsRingOf s closed.notes closed.ring) members.0.is_lock.shape over.0.over.ring in (
            record {
              base_is = over.0.base ∙ base;
              taken_is =
                  over.0.read ∙ ap (λ (s : RingRequest). map (λ (entry : Entry). taken_in s entry.0) closed.ring.retired) shape
                  ∙ reads closed.notes closed.ring ring;
            },
            takers_left reads locks rows before walkers all over.1 members.1 fresh.1 outs.1,
          )

    -- ---- a loop that closes one after another

    pub closed_next : (locks lockss : List Lock) (rows rowss : List (List Seat)) (walkers rest : List (ReaderThread T))
        (lock : Lock)
        (row : List Seat)
        (walker : ReaderThread T) (closed : Closed T) (more : List (Closed T)) → locks ≡ lock ∷ lockss → rows ≡ row ∷ rowss
        → walkers ≡ walker ∷ rest
        → IsClosedWith base_of taken_by lock row walker closed → Over lockss rowss rest more
        → Over locks rows walkers (closed ∷ more)
    closed_next locks lockss rows rowss walkers rest lock row walker closed more lock_is row_is walker_is one over =
        subst (λ (ls : List Lock). Over ls rows walkers (closed ∷ more)) (sym lock_is)
        (subst (λ (rs : List (List Seat)). Over (lock ∷ lockss) rs walkers (closed ∷ more)) (sym row_is)
        (subst (λ (ws : List (ReaderThread T)). Over (lock ∷ lockss) (row ∷ rowss) ws (closed ∷ more)) (sym walker_is)
        (one, over)))

    pub at_end_long : (locks : List Lock) (rows : List (List Seat)) (walkers : List (ReaderThread T))
        → AllAtEnd base_of taken_by locks rows walkers
        → (length locks ≡ length walkers) × (length rows ≡ length walkers)
    at_end_long [] [] [] ends = (refl, refl)
    at_end_long [] [] (walker ∷ walkers) ends = absurd ends
    at_end_long [] (row ∷ rows) walkers ends = absurd ends
    at_end_long (lock ∷ locks) [] walkers ends = absurd ends
    at_end_long (lock ∷ locks) (row ∷ rows) [] ends = absurd ends
    at_end_long (lock ∷ locks) (row ∷ rows) (walker ∷ walkers) ends =
        let rest = at_end_long locks rows walkers ends.1 in (ap suc rest.0, ap suc rest.1)

    -- the first of each list, and the others
    pub at_end_next : (locks lockss : List Lock) (rows rowss : List (List Seat)) (walkers rest : List (ReaderThread T))
        (lock : Lock)
        (row : List Seat)
        (walker : ReaderThread T) → locks ≡ lock ∷ lockss → rows ≡ row ∷ rowss → walkers ≡ walker ∷ rest
        → AllAtEnd base_of taken_by locks rows walkers
        → AreAtEnd base_of taken_by lock row walker × AllAtEnd base_of taken_by lockss rowss rest
    at_end_next locks lockss rows rowss walkers rest lock row walker lock_is row_is walker_is ends =
        let both : AllAtEnd base_of taken_by (lock ∷ lockss) (row ∷ rowss) (walker ∷ rest) =
        subst (λ (ws : List (ReaderThread T)). AllAtEnd base_of taken_by (lock ∷ lockss) (row ∷ rowss) ws) walker_is
        (subst (λ (rs : List (List Seat)). AllAtEnd base_of taken_by (lock ∷ lockss) rs walkers) row_is
        (subst (λ (ls : List Lock). AllAtEnd base_of taken_by ls rows walkers) lock_is ends)) in
        (both.0, both.1)

    pub none_closed : (locks : List Lock) (rows : List (List Seat)) (walkers : List (ReaderThread T)) → locks ≡ [] → rows ≡ []
        → walkers ≡ []
        → Over locks rows walkers []
    none_closed locks rows walkers no_lock no_row no_walker =
        subst (λ (ls : List Lock). Over ls rows walkers []) (sym no_lock)
        (subst (λ (rs : List (List Seat)). Over [] rs walkers []) (sym no_row)
        (subst (λ (ws : List (ReaderThread T)). Over [] [] ws []) (sym no_walker) tt))
