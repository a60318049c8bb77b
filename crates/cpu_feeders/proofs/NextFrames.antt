-- A feeder with one more frame.
use Rattle.std.proofs.Common.{◌≡◌, ◌<◌, ◌≤◌, ◌+◌, ◌-◌, ◌*◌, ℕ, List, [], ◌∷◌, ◌++◌, length, length-append, take, append-nil}
use Rattle.std.proofs.Common.{get_or, Option, None, Some, refl, sym, ap, ◌∙◌, subst, arith}
use Rattle.std.proofs.lemmas.List.{take_all}
use Rattle.std.specs.Prelude.{option_to_list}
use Rattle.cpu_feed.specs.Fed.{FedOne, IsAtItsEnd}
use Rattle.cpu_feed.specs.CpuFeeds.{Feeding, IsAllOfCpu, IsSameCpu, Takes, frames_in}
use Rattle.cpu_feed.specs.Lawful.{IsLawful}
use Rattle.fanout_group.specs.Arrivals.{arrivals_of, held_from}
use Rattle.fanout_group.specs.Joined.{tickets_of}
use Rattle.fanout_group.specs.Paths.{IsPath, Path, logged}
use Rattle.fanout_group.specs.Plans.{has_defrag}
use Rattle.fanout_group.specs.declared.logs.ArrivalLog.{ArrivalLog}
use Rattle.frame_view.specs.declared.frames.Frame.{Frame}
use Rattle.member_turns.specs.Seats.{IsReady, Lock, Seat}
use Rattle.run_reports.specs.Jobs.{rules_of}
use Rattle.setup_text.specs.declared.jobs.Job.{Job}
use Rattle.ticket_dealer.specs.Seats.{SeatValue}
use Rattle.tp_layout.specs.Requests.{room_of}
use Rattle.capture_reports.specs.Feeders.{HasFed, IsFedAt}
use Rattle.cpu_feeders.specs.inside.FeedSteps.{AreFedAt, AreMemberSeats, Goes, arrived_of}
use Rattle.cpu_feeders.specs.inside.TurnGroups.{AreTried, HasRoom}
use Rattle.cpu_feeders.proofs.Arrived.{arrived_more, one_each, so_far}
use Rattle.cpu_feeders.proofs.Deliveries.{DeliveryAdds, fed_after, offer_in, tickets_after}

pub fed_same : (job : Job) (cpu other : ℕ) (arrivals arrived : List Frame) (log logs : List ArrivalLog) (locks : List Lock)
    (member_seats : List Seat)
    → other ≡ cpu → arrived ≡ arrivals → logs ≡ log → AreFedAt job cpu arrivals log locks member_seats
    → AreFedAt job other arrived logs locks member_seats
fed_same job cpu other arrivals arrived log logs locks member_seats n a l are member lock member_seat within =
    subst (λ (c : ℕ). IsFedAt job c member arrived logs (get_or locks member lock)
    (get_or member_seats member member_seat)) (sym n)
    (subst (λ (fs : List Frame). IsFedAt job cpu member fs logs (get_or locks member lock)
    (get_or member_seats member member_seat)) (sym a)
    (subst (λ (es : List ArrivalLog). IsFedAt job cpu member arrivals es (get_or locks member lock)
    (get_or member_seats member member_seat)) (sym l)
    (are member lock member_seat within)))

-- the room that a frame leaves
room_left : (seats : List Seat) (old new : ℕ) → new ≡ old + 1 → new ≤ 2097150 → HasRoom seats (9 * (2097151 - old))
    → HasRoom seats (9 * (2097151 - new) + 9)
room_left seats old new one few room member seat within = let entered = room member seat within in
    omega (arith, entered, one, few)

few_drawn : (ticket : Option ℕ) → length (option_to_list ticket) ≤ 1
few_drawn None = omega arith
few_drawn (Some ticket) = omega arith

module _ (job : Job) (locks : List Lock) (old mid : Feeding) (before : List Seat) (seat : SeatValue) (arrival : Option Frame)
    (goes : Goes job locks old before seat)
    (same : IsSameCpu old mid) (takes : (all : List Frame) → IsAllOfCpu all mid → Takes all old arrival mid) where
  log_is : mid.path.log ≡ old.path.log
  log_is = ap (λ (path : Path). path.log) (takes (frames_in mid) (so_far mid)).path_is

  tickets_are : seat.drawn ≡ tickets_of mid.path.log
  tickets_are = goes.tickets ∙ ap (λ (log : List ArrivalLog). tickets_of log) (sym log_is)

  was : (all : List Frame) → IsAllOfCpu all mid → IsPath (rules_of job) (take old.fed all) old.path
  was all whole = goes.lawful all (takes all whole).before

  -- what arrived with the frames so far
  arrived : (all : List Frame) → IsAllOfCpu all mid
      → mid.path.held ≡ held_from (has_defrag mid.path.shape.flags) [] (take mid.fed all)
      → arrived_of all mid ≡ arrived_of all old ++ option_to_list arrival
  arrived all whole held = arrived_more all arrival old mid (takes all whole) (was all whole).held_is held

  -- the notes of the tries before this frame
  noted : (all : List Frame) → IsAllOfCpu all mid → (arrivals : List Frame) → arrivals ≡ arrived_of all old
      → AreFedAt job mid.number arrivals mid.path.log locks before
  noted all whole arrivals is =
      fed_same job old.number mid.number (arrived_of all old) arrivals old.path.log mid.path.log locks before
      same.number is log_is
      (goes.noted all (takes all whole).before)

  -- ---- nothing arrived with it
  module _ (none : arrival ≡ None) (lawful : (all : List Frame) → IsAllOfCpu all mid → IsLawful (rules_of job) all old
      → IsLawful (rules_of job) all mid) where
    lawful_still : (all : List Frame) → IsAllOfCpu all mid → IsLawful (rules_of job) all mid
    lawful_still all whole = lawful all whole (was all whole)

    noted_still : (all : List Frame) → IsAllOfCpu all mid
        → AreFedAt job mid.number (arrived_of all mid) mid.path.log locks before
    noted_still all whole =
        noted all whole (arrived_of all mid)
        (arrived all whole (lawful_still all whole).held_is
        ∙ ap (λ (came : Option Frame). arrived_of all old ++ option_to_list came) none ∙ append-nil (arrived_of all old))

    pub goes_still : FedOne old mid → Goes job locks mid before seat
    goes_still fed = record {
      shape = same.shape ∙ goes.shape;
      few = fed.few;
      member_seats_are = record {
        count = goes.member_seats_are.count;
        ready = λ member lock member_seat within.
            subst (λ (n : ℕ). IsReady (get_or locks member lock) n (get_or before member member_seat)) (sym same.number)
            (goes.member_seats_are.ready member lock member_seat within);
        room = λ member member_seat within.
            let room = goes.member_seats_are.room member member_seat within in
            let one = fed.one in
            omega (arith, room, one);
      };
      lawful = lawful_still;
      noted = noted_still;
      tickets = tickets_are;
      drawn = let one = fed.one in let drawn = goes.drawn in omega (arith, one, drawn);
    }

    -- and none is left
    pub has_fed : IsAtItsEnd mid → HasFed job locks mid.number mid before seat
    has_fed end =
        let frames : List Frame = frames_in mid in
        let all_fed : take mid.fed frames ≡ frames = take_all mid.fed frames end.all in
        record {
          number = refl;
          shape = same.shape ∙ goes.shape;
          ended = end.ended;
          lawful = subst (λ (fs : List Frame). IsPath (rules_of job) fs mid.path) all_fed (lawful_still frames (so_far mid));
          count = goes.member_seats_are.count;
          each = subst (λ (fs : List Frame). AreFedAt job mid.number (arrivals_of (has_defrag mid.path.shape.flags) fs)
              mid.path.log locks before) all_fed
              (noted_still frames (so_far mid));
          tickets = λ lb. tickets_are;
        }

  -- ---- this arrived with it
  module _ (frame : Frame) (some : arrival ≡ Some frame) (fed : FedOne old mid) (entry : ArrivalLog) (after : List Seat)
      (now : SeatValue)
      (lawful : (all : List Frame) → IsAllOfCpu all mid → IsLawful (rules_of job) all old
      → IsLawful (rules_of job) all (record mid { path = logged entry mid.path }))
      (tried : AreTried (offer_in (room_of job.setup.shape) job.setup.mac entry frame) entry.tries locks before after)
      (room : (turns : ℕ) → HasRoom before (turns + 9) → HasRoom after turns)
      (drawn : now.drawn ≡ seat.drawn ++ option_to_list entry.ticket) (adds : DeliveryAdds) where
    abbrev next : Feeding
    next = record mid { path = logged entry mid.path }

    lawful_next : (all : List Frame) → IsAllOfCpu all mid → IsLawful (rules_of job) all next
    lawful_next all whole = lawful all whole (was all whole)

    noted_next : (all : List Frame) → IsAllOfCpu all mid
        → AreFedAt job mid.number (arrived_of all mid) (mid.path.log ++ entry ∷ []) locks after
    noted_next all whole =
        let came : arrived_of all mid ≡ arrived_of all old ++ frame ∷ [] =
        arrived all whole (lawful_next all whole).held_is
        ∙ ap (λ (came : Option Frame). arrived_of all old ++ option_to_list came) some in
        let one_each_so_far : length (arrived_of all old) ≡ length mid.path.log =
        one_each (rules_of job) (take old.fed all) old.path (was all whole)
        ∙ ap (λ (log : List ArrivalLog). length log) (sym log_is) in
        fed_same job mid.number mid.number (arrived_of all old ++ frame ∷ []) (arrived_of all mid) (mid.path.log ++ entry ∷ [])
        (mid.path.log ++ entry ∷ []) locks after
        refl came refl
        (fed_after job mid.number locks before after (arrived_of all old) mid.path.log frame entry adds one_each_so_far tried
        (noted all whole (arrived_of all old) refl))

    seats_next : AreMemberSeats mid.number (9 * (2097151 - mid.fed)) locks after
    seats_next = record {
      count = tried.count ∙ goes.member_seats_are.count;
      ready = λ member lock member_seat within.
          let there : member < length before = let count = tried.count in omega (arith, within, count) in
          (tried.each member lock member_seat there).ready mid.number
          (subst (λ (n : ℕ). IsReady (get_or locks member lock) n (get_or before member member_seat)) (sym same.number)
          (goes.member_seats_are.ready member lock member_seat there));
      room = room (9 * (2097151 - mid.fed)) (room_left before old.fed mid.fed fed.one fed.few goes.member_seats_are.room);
    }

    pub goes_next : Goes job locks next after now
    goes_next = record {
      shape = same.shape ∙ goes.shape;
      few = fed.few;
      member_seats_are = seats_next;
      lawful = lawful_next;
      noted = noted_next;
      tickets = drawn ∙ tickets_after seat.drawn mid.path.log entry tickets_are;
      drawn =
          let long = length-append seat.drawn (option_to_list entry.ticket) in
          let all = ap (λ (tickets : List ℕ). length tickets) drawn in
          let few = few_drawn entry.ticket in
          let one = fed.one in
          let drew = goes.drawn in
          omega (arith, long, all, few, one, drew);
    }
