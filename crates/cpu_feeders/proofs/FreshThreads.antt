-- The workers of a run before they start.
use Rattle.std.proofs.Common.{◌≡◌, ◌<◌, ◌+◌, ℕ, zero, suc, false, List, [], ◌∷◌, ◌++◌, length, length-append, get_or, take}
use Rattle.std.proofs.Common.{drop, Option, refl, sym, ap, ◌∙◌, subst, arith}
use Rattle.std.specs.Prelude.{map, replicate}
use Rattle.std.specs.List.{AllByRecursion, AllZip}
use Rattle.std.proofs.lemmas.List.{get_or-map, length-map, length-replicate}
use Rattle.capture_reports.specs.Ticks.{ticks_of}
use Rattle.capture_reports.specs.Timers.{AreTimed, IsTimed}
use Rattle.cpu_feed.specs.CpuFeeds.{Feeding}
use Rattle.member_turns.specs.Entries.{may_note}
use Rattle.member_turns.specs.Seats.{IsReady, Lock, Seat, own_of}
use Rattle.member_turns.specs.declared.ring_base.RingBase.{RingBase}
use Rattle.reader_walk.specs.Takers.{Base}
use Rattle.tp_layout.specs.Layouts.{Taken}
use Rattle.ring_model.specs.declared.notes.Note.{Note}
use Rattle.ring_words.specs.Rings.{Entry}
use Rattle.ring_words.specs.TableEnds.{Walking}
use Rattle.setup_text.specs.declared.jobs.Job.{Job}
use Rattle.tap_outside.specs.Seen.{SourceSeen}
use Rattle.ticket_dealer.specs.Seats.{DealerValue, IsFreshOf, SeatValue}
use Rattle.ticket_dealer.specs.Seats as dealt
use Rattle.tp_layout.specs.Requests.{numbers_of}
use Rattle.tp_layout.specs.declared.requests.RingRequest.{RingRequest}
use Rattle.turn_lock.specs.Histories.{own}
use Rattle.turn_lock.specs.Seats.{fresh_seat}
use Rattle.cpu_feeders.specs.Feeds.{IsFreshFeeder, IsFreshSeat, IsFreshMemberSeat}
use Rattle.cpu_feeders.specs.inside.FreshWorkers.{AreFreshThreads, IsFreshReader, IsMemberOf, IsReaderAt, first_feed}
use Rattle.cpu_feeders.specs.inside.FreshWorkers.{first_feeds, in_order}
use Rattle.cpu_feeders.specs.inside.Openings.{IsOpened}
use Rattle.cpu_feeders.specs.Runs.{IsFreshTaker}
use Rattle.cpu_feeders.specs.inside.MemberSeats.{fresh_member_seats, fresh_users}
use Rattle.cpu_feeders.specs.Walks.{Walks, taken_of}
use Rattle.cpu_feeders.specs.WorkerEffects.{IsReadyWorker}
use Rattle.cpu_feeders.specs.declared.feeder.Feeder.{Feeder}
use Rattle.cpu_feeders.specs.declared.timer.Timer.{Timer}
use Rattle.cpu_feeders.specs.declared.walker.ReaderThread.{ReaderThread}
use Rattle.cpu_feeders.specs.declared.worker.Worker.{Worker}
use Rattle.cpu_feeders.specs.declared.worker.Worker.TheVariants as worker
use Rattle.cpu_feeders.proofs.AtEnd.{at_place}
use Rattle.cpu_feeders.proofs.FedFeeders.{feed_in, firsts_long, member_seats_in}
use Rattle.cpu_feeders.proofs.WorkerOrder.{all_ready}

-- the member's list has nothing yet
abbrev pub IsEmpty : Lock → Type 0
IsEmpty lock = lock.first ≡ []

fresh_ready : (lock : Lock) (number : ℕ) → IsReady lock number (fresh_seat lock number)
fresh_ready lock number = record { idle = ((refl, refl, refl), refl); number_is = refl }

none_added : (lock : Lock) (number : ℕ) → IsEmpty lock → own_of lock (fresh_seat lock number) ≡ []
none_added lock number empty = ap (λ (notes : List Note). own (may_note lock.base) number notes) empty

-- a user's seat at a member
member_seat_at : (locks : List Lock) (number member : ℕ) (lock : Lock) (member_seat : Seat) → member < length locks
    → get_or (fresh_member_seats locks number) member member_seat ≡ fresh_seat (get_or locks member lock) number
member_seat_at locks number member lock member_seat within =
    get_or-map (λ (l : Lock). fresh_seat l number) locks member lock member_seat within

member_seats_many : (locks : List Lock) (number : ℕ) → length (fresh_member_seats locks number) ≡ length locks
member_seats_many locks number = length-map locks (λ (l : Lock). fresh_seat l number)

module _ (job : Job) (locks : List Lock) (members : AllByRecursion (IsMemberOf job) locks)
    (empty : AllByRecursion IsEmpty locks)
    (count : length locks ≡ job.setup.plan.members) where
  fresh_timed : (lock : Lock) (cpus : ℕ) (seat : Seat) → lock.base.cpus ≡ cpus → IsEmpty lock → seat ≡ fresh_seat lock cpus
      → IsTimed [] lock seat
  fresh_timed lock cpus seat are none is =
      subst (λ (s : Seat). IsTimed [] lock s) (sym is) (record {
        ready = subst (λ (n : ℕ). IsReady lock n (fresh_seat lock cpus)) (sym are) (fresh_ready lock cpus);
        entered = refl;
        ticks = ap ticks_of (none_added lock cpus none);
      })

  -- the timer's seats
  pub first_timed : (member_seats : List Seat) → member_seats ≡ fresh_member_seats locks (length job.setup.cpus)
      → AreTimed [] locks member_seats
  first_timed member_seats are = subst (λ (s : List Seat). AreTimed [] locks s) (sym are) (record {
    count = member_seats_many locks (length job.setup.cpus);
    each = λ member lock seat within.
        let many = member_seats_many locks (length job.setup.cpus) in
        let there : member < length locks = omega (arith, within, many) in
        fresh_timed (get_or locks member lock) (length job.setup.cpus)
        (get_or (fresh_member_seats locks (length job.setup.cpus)) member seat)
        (at_place (IsMemberOf job) locks member lock members there).is_lock.cpus
        (at_place IsEmpty locks member lock empty there)
        (member_seat_at locks (length job.setup.cpus) member lock seat there);
  })

  fresh_member_seat : (lock : Lock) (number : ℕ) (member_seat : Seat) → IsEmpty lock → member_seat ≡ fresh_seat lock number
      → IsFreshMemberSeat number lock member_seat
  fresh_member_seat lock number member_seat none is =
      subst (λ (s : Seat). IsFreshMemberSeat number lock s) (sym is)
      (record { ready = fresh_ready lock number; entered = refl; none = none_added lock number none })

  module _ {S : Type 0} (dealer : DealerValue) where
    fresh_feeder : (number : ℕ) (first : Option SourceSeen) (feeder : Feeder S)
        → feeder.feed ≡ first_feed job.setup.plan number first
        → feeder.member_seats.items ≡ fresh_member_seats locks number → feeder.full ≡ false → IsFreshSeat dealer feeder.seat
        → number < length job.setup.cpus
        → IsFreshFeeder job locks dealer feeder
    fresh_feeder number first feeder feed member_seats free seat one_of =
        let number_is : feeder.feed.number ≡ number = ap (λ (f : Feeding). f.number) feed in
        let many = member_seats_many locks number in
        let long : length feeder.member_seats.items ≡ length locks = ap (λ (s : List Seat). length s) member_seats ∙ many in
        record {
          full = free;
          fed = ap (λ (f : Feeding). f.fed) feed;
          path = ap (λ (f : Feeding). f.path) feed;
          members = record {
            count = count;
            shape = λ member lock within. (at_place (IsMemberOf job) locks member lock members within).is_lock.shape;
            cpu_is = λ member lock within.
                let cpus = (at_place (IsMemberOf job) locks member lock members within).is_lock.cpus in
                omega (arith, cpus, number_is, one_of);
          };
          count = long;
          each = λ member lock member_seat within.
              let there : member < length locks = omega (arith, within, long) in
              let here : get_or feeder.member_seats.items member member_seat ≡ fresh_seat (get_or locks member lock) number =
              ap (λ (s : List Seat). get_or s member member_seat) member_seats
              ∙ member_seat_at locks number member lock member_seat there in
              subst (λ (n : ℕ). IsFreshMemberSeat n (get_or locks member lock)
              (get_or feeder.member_seats.items member member_seat)) (sym number_is)
              (fresh_member_seat (get_or locks member lock) number (get_or feeder.member_seats.items member member_seat)
              (at_place IsEmpty locks member lock empty there) here);
          seat = seat;
        }

    -- the feeders
    pub fresh_feeders : (at : ℕ) (firsts : List (Option SourceSeen)) (feeders : List (Feeder S))
        → map feed_in feeders ≡ first_feeds job.setup.plan at firsts
        → map member_seats_in feeders ≡ fresh_users locks at (length firsts)
        → AllByRecursion (λ (f : Feeder S). f.full ≡ false) feeders
        → AllByRecursion (λ (f : Feeder S). IsFreshSeat dealer f.seat) feeders → at + length firsts ≡ length job.setup.cpus
        → AllByRecursion (IsFreshFeeder job locks dealer) feeders
    fresh_feeders at firsts [] feeds member_seats free seats all = tt
    fresh_feeders at [] (feeder ∷ feeders) feeds member_seats free seats all = cc
    fresh_feeders at (first ∷ firsts) (feeder ∷ feeders) feeds member_seats free seats all =
        let feed : feeder.feed ≡ first_feed job.setup.plan at first = cc in
        let feeds_left : map feed_in feeders ≡ first_feeds job.setup.plan (at + 1) firsts = cc in
        let member_seat : feeder.member_seats.items ≡ fresh_member_seats locks at = cc in
        let member_seats_left : map member_seats_in feeders ≡ fresh_users locks (at + 1) (length firsts) = cc in (
          fresh_feeder at first feeder feed member_seat free.0 seats.0 (omega (arith, all)),
          fresh_feeders (at + 1) firsts feeders feeds_left member_seats_left free.1 seats.1 (omega (arith, all)),
        )

-- ---- members and readers

-- members that were opened for a job
pub opened_members : (job : Job) (locks : List Lock) (ends : List Walking)
    → AllZip (IsOpened job.setup.shape (length job.setup.cpus)) locks ends
    → AllByRecursion (IsMemberOf job) locks × AllByRecursion IsEmpty locks
opened_members job [] [] opened = (tt, tt)
opened_members job [] (end ∷ ends) opened = absurd opened
opened_members job (lock ∷ locks) [] opened = absurd opened
opened_members job (lock ∷ locks) (end ∷ ends) opened =
    let rest = opened_members job locks ends opened.1 in (
      (
        record {
          is_lock = record {
            cpus = ap (λ (b : RingBase). b.cpus) opened.0.base;
            shape = ap (λ (b : RingBase). b.shape) opened.0.base;
          };
          seats = opened.0.seats;
        },
        rest.0,
      ),
      (opened.0.first, rest.1),
    )

abbrev pub end_in : {T : Type 0} → ReaderThread T → Walking
end_in walker = walker.end

abbrev pub taker_in : {T : Type 0} → ReaderThread T → T
taker_in walker = walker.taker

module _ {T : Type 0} (base_of : T → Base) (taken_by : T → List Taken) (shape : RingRequest) (dealer : DealerValue) where
  fresh_reader : (cpus : ℕ) (lock : Lock) (walker : ReaderThread T) → IsOpened shape cpus lock walker.end
      → IsFreshTaker base_of taken_by shape walker.taker
      → walker.released ≡ 0 → IsFreshOf dealer walker.seat → IsFreshReader base_of taken_by shape dealer walker
  fresh_reader cpus lock walker opened taker released seat =
      let none : walker.end.taken ≡ [] = ap (λ (w : Walking). w.taken) opened.fresh in
      record {
        shape_is = taker.shape_is;
        walks = record {
          base_is = refl;
          kind = ap (λ (w : Walking). w.kind) opened.fresh ∙ ap numbers_of (sym taker.shape_is);
          hand = ap (λ (w : Walking). w.in_hand) opened.fresh;
          released = released ∙ ap (λ (taken : List Entry). length taken) (sym none);
          read = λ free. taker.none ∙ ap (λ (taken : List Entry). taken_of (base_of walker.taker) taken) (sym none);
        };
        seat = seat;
      }

  pub fresh_readers : (cpus : ℕ) (locks : List Lock) (walkers : List (ReaderThread T))
      → AllZip (IsOpened shape cpus) locks (map end_in walkers)
      → AllByRecursion (IsFreshTaker base_of taken_by shape) (map taker_in walkers)
      → AllByRecursion (λ (w : ReaderThread T). (w.released ≡ 0) × (w.full ≡ false)) walkers
      → AllByRecursion (λ (w : ReaderThread T). IsFreshOf dealer w.seat) walkers
      → AllZip IsReaderAt locks walkers × AllByRecursion (IsFreshReader base_of taken_by shape dealer) walkers
  fresh_readers cpus [] [] opened takers fresh seats = (tt, tt)
  fresh_readers cpus [] (walker ∷ walkers) opened takers fresh seats = absurd opened
  fresh_readers cpus (lock ∷ locks) [] opened takers fresh seats = absurd opened
  fresh_readers cpus (lock ∷ locks) (walker ∷ walkers) opened takers fresh seats =
      let rest = fresh_readers cpus locks walkers opened.1 takers.1 fresh.1 seats.1 in (
        (sym (ap (λ (b : RingBase). b.table) opened.0.base), rest.0),
        (fresh_reader cpus lock walker opened.0 takers.0 fresh.0.0 seats.0, rest.1),
      )

-- ---- seats of the dealer

pub all_alike : {A : Type 0} (P : A → Type 0) (count : ℕ) (x : A) → P x → AllByRecursion P (replicate count x)
all_alike P zero x is = tt
all_alike P (suc count) x is = (is, all_alike P count x is)

take_whole : {A : Type 0} (xs ys : List A) → take (length xs) (xs ++ ys) ≡ xs
take_whole [] ys = refl
take_whole (x ∷ xs) ys = ap (λ (zs : List _). x ∷ zs) (take_whole xs ys)

drop_whole : {A : Type 0} (xs ys : List A) → drop (length xs) (xs ++ ys) ≡ ys
drop_whole [] ys = refl
drop_whole (x ∷ xs) ys = drop_whole xs ys

module _ (dealer : DealerValue) (feeders : ℕ) (count : dealer.feeders ≡ feeders) where
  abbrev pub mine : List SeatValue
  mine = replicate dealer.feeders (dealt.fresh_seat dealer 1)

  abbrev pub others : List SeatValue
  others = replicate 9 (dealt.fresh_seat dealer 0)

  long : feeders ≡ length mine
  long = sym (length-replicate dealer.feeders (dealt.fresh_seat dealer 1) ∙ count)

  pub seats_of_feeders : (all front : List SeatValue) → all ≡ dealt.fresh_seats dealer → front ≡ take feeders all
      → AllByRecursion (IsFreshSeat dealer) front
  seats_of_feeders all front are is =
      subst (λ (seats : List SeatValue). AllByRecursion (IsFreshSeat dealer) seats)
      (sym (is ∙ ap (take feeders) are ∙ ap (λ (n : ℕ). take n (mine ++ others)) long ∙ take_whole mine others))
      (all_alike (IsFreshSeat dealer) dealer.feeders (dealt.fresh_seat dealer 1)
      (record { fresh = ((refl, refl), refl); owes = refl }))

  pub seats_many : (all front : List SeatValue) → all ≡ dealt.fresh_seats dealer → front ≡ take feeders all
      → length front ≡ feeders
  seats_many all front are is =
      ap (λ (seats : List SeatValue). length seats)
      (is ∙ ap (take feeders) are ∙ ap (λ (n : ℕ). take n (mine ++ others)) long ∙ take_whole mine others) ∙ sym long

  pub seats_of_others : (all back : List SeatValue) → all ≡ dealt.fresh_seats dealer → back ≡ drop feeders all
      → AllByRecursion (IsFreshOf dealer) back × (length back ≡ 9)
  seats_of_others all back are is =
      let same : back ≡ others = is ∙ ap (drop feeders) are ∙ ap (λ (n : ℕ). drop n (mine ++ others)) long
      ∙ drop_whole mine others in (
        subst (λ (seats : List SeatValue). AllByRecursion (IsFreshOf dealer) seats) (sym same)
            (all_alike (IsFreshOf dealer) 9 (dealt.fresh_seat dealer 0) ((refl, refl), refl)),
        ap (λ (seats : List SeatValue). length seats) same,
      )

-- ---- all threads of a run

module _ {S T : Type 0} (base_of : T → Base) (taken_by : T → List Taken) (job : Job) (firsts : List (Option SourceSeen))
    (takers : List T)
    (locks : List Lock) (dealer : DealerValue) where
  pub fresh_threads : (ends : List Walking) (users : List (List Seat)) (spare : List SeatValue)
      (walkers : List (ReaderThread T))
      (timer : Timer) (feeders : List (Feeder S))
      (workers : List (Worker S T)) → length firsts ≡ length job.setup.cpus → length locks ≡ job.setup.plan.members
      → AllZip (IsOpened job.setup.shape (length job.setup.cpus)) locks ends
      → AllByRecursion (IsFreshTaker base_of taken_by job.setup.shape) takers
      → map taker_in walkers ≡ takers → map end_in walkers ≡ ends
      → AllByRecursion (λ (w : ReaderThread T). (w.released ≡ 0) × (w.full ≡ false)) walkers
      → AllByRecursion (λ (w : ReaderThread T). IsFreshOf dealer w.seat) walkers
      → timer.member_seats.items ≡ fresh_member_seats locks (length job.setup.cpus)
      → users ≡ fresh_users locks 0 (length job.setup.cpus)
      → map feed_in feeders ≡ first_feeds job.setup.plan 0 firsts → map member_seats_in feeders ≡ users
      → AllByRecursion (λ (f : Feeder S). f.full ≡ false) feeders
      → AllByRecursion (λ (f : Feeder S). IsFreshSeat dealer f.seat) feeders
      → length walkers + length spare ≡ 9 → dealer.feeders ≡ length job.setup.cpus → AllByRecursion (IsFreshOf dealer) spare
      → workers ≡ in_order walkers timer feeders → AreFreshThreads base_of taken_by job firsts takers locks dealer spare workers
  fresh_threads ends users spare walkers timer feeders workers sources count opened fresh takers_are ends_are unread seats
      timer_is users_are feeds member_seats free drawing
      spare_count feeder_count spare_are workers_are =
      let members = opened_members job locks ends opened in
      let readers = fresh_readers base_of taken_by job.setup.shape dealer (length job.setup.cpus) locks walkers
      (subst (λ (es : List Walking). AllZip (IsOpened job.setup.shape (length job.setup.cpus)) locks es) (sym ends_are) opened)
      (subst (λ (ts : List T). AllByRecursion (IsFreshTaker base_of taken_by job.setup.shape) ts) (sym takers_are) fresh)
      unread seats in
      let feeders_many : length feeders ≡ length job.setup.cpus =
      sym (length-map feeders feed_in) ∙ ap (λ (fs : List Feeding). length fs) feeds
      ∙ firsts_long job.setup.plan 0 firsts ∙ sources in
      record {
        walkers = walkers;
        timer = timer;
        feeders = feeders;
        workers_are = workers_are;
        sources = sources;
        count = count;
        members = members.0;
        readers = readers.0;
        fresh_readers = readers.1;
        takers_are = takers_are;
        timed = first_timed job locks members.0 members.1 count timer.member_seats.items timer_is;
        fresh_feeders = fresh_feeders job locks members.0 members.1 count dealer 0 firsts feeders feeds
            (member_seats ∙ users_are ∙ ap (λ (n : ℕ). fresh_users locks 0 n) (sym sources)) free drawing
            (omega (arith, sources));
        feeds_are = feeds;
        seats = spare_count;
        feeder_count = feeder_count ∙ sym feeders_many;
        spare_are = spare_are;
      }

ready_reader : {T : Type 0} (base_of : T → Base) (taken_by : T → List Taken) (shape : RingRequest) (dealer : DealerValue)
    (walkers : List (ReaderThread T))
    → AllByRecursion (IsFreshReader base_of taken_by shape dealer) walkers
    → AllByRecursion (λ (w : ReaderThread T). Walks base_of taken_by (base_of w.taker) w × IsFreshOf dealer w.seat) walkers
ready_reader base_of taken_by shape dealer [] fresh = tt
ready_reader base_of taken_by shape dealer (walker ∷ walkers) fresh =
    ((fresh.0.walks, fresh.0.seat), ready_reader base_of taken_by shape dealer walkers fresh.1)

-- all workers are ready
pub fresh_threads_ready : {S T : Type 0} (base_of : T → Base) (taken_by : T → List Taken) (job : Job)
    (firsts : List (Option SourceSeen)) (takers : List T)
    (locks : List Lock) (dealer : DealerValue) (spare : List SeatValue) (workers : List (Worker S T))
    → AreFreshThreads base_of taken_by job firsts takers locks dealer spare workers
    → AllByRecursion (IsReadyWorker {S = S} {T = T} base_of taken_by job locks dealer) workers
fresh_threads_ready {S = S} {T = T} base_of taken_by job firsts takers locks dealer spare workers fresh_threads =
    subst (λ (ws : List (Worker S T)). AllByRecursion (IsReadyWorker {S = S} {T = T} base_of taken_by job locks dealer) ws)
    (sym fresh_threads.workers_are)
    (all_ready base_of taken_by job locks dealer [] fresh_threads.walkers fresh_threads.timer fresh_threads.feeders
    (ready_reader base_of taken_by job.setup.shape dealer fresh_threads.walkers fresh_threads.fresh_readers) fresh_threads.timed
    fresh_threads.fresh_feeders)

-- the timer is among them
pub some_fresh_threads : {S T : Type 0} (base_of : T → Base) (taken_by : T → List Taken) (job : Job)
    (firsts : List (Option SourceSeen)) (takers : List T)
    (locks : List Lock) (dealer : DealerValue) (spare : List SeatValue) (workers : List (Worker S T))
    → AreFreshThreads base_of taken_by job firsts takers locks dealer spare workers → 0 < length workers
some_fresh_threads {S = S} {T = T} base_of taken_by job firsts takers locks dealer spare workers threads =
    let many = ap (λ (ws : List (Worker S T)). length ws) threads.workers_are in
    let walks : List (Worker S T) = map (λ (w : ReaderThread T). worker.Walks w) threads.walkers in
    let others : List (Worker S T) = worker.Ticks threads.timer ∷ map (λ (f : Feeder S). worker.Feeds f) threads.feeders in
    let sum = length-append walks others in
    omega (arith, many, sum)
