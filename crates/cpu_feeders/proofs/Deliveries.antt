-- What an arrival leaves of the feeder's group.
use Rattle.std.proofs.Common.{◌≡◌, inl, inr, ◌<◌, ℕ, Bool, true, false, cond, eqb, List, [], ◌∷◌, ◌++◌, length, append-nil}
use Rattle.std.proofs.Common.{get_or, Option, None, Some, refl, sym, ap, ◌∙◌, subst, arith}
use Rattle.std.proofs.lemmas.List.Elements.{filter_map-append}
use Rattle.std.specs.Prelude.{option_to_list}
use Rattle.capture_reports.specs.Tried.{IsDelivered}
use Rattle.cpu_feed.specs.Feeds.{GivesUp}
use Rattle.fanout_group.specs.Deliveries.{AreTriesOf, HasDrawn, Received}
use Rattle.fanout_group.specs.Joined.{AreNotesOf, attempts_at, tickets_of}
use Rattle.fanout_group.specs.Judgements.{AgreesAt, IsJudged, JudgeRules, hash_by, verdict_by}
use Rattle.fanout_group.specs.RulesOfJudging.{judge_rules_of}
use Rattle.fanout_group.specs.Paths.{Path, logged}
use Rattle.fanout_group.specs.Plans.{Shape}
use Rattle.fanout_group.specs.Routes.{IsBegun, IsRoute}
use Rattle.fanout_group.specs.declared.judgements.ArrivalRules.{ArrivalRules}
use Rattle.fanout_group.specs.declared.logs.ArrivalLog.{ArrivalLog}
use Rattle.fanout_group.specs.declared.logs.Try.{Try}
use Rattle.frame_view.specs.declared.frames.Frame.{Frame}
use Rattle.member_turns.specs.Seats.{Lock, Seat, own_of}
use Rattle.ring_model.specs.Offers.{offer_of}
use Rattle.ring_model.specs.declared.notes.Note.{Note}
use Rattle.ring_model.specs.declared.notes.Offer.{Offer}
use Rattle.setup_text.specs.declared.jobs.Job.{Job}
use Rattle.ticket_dealer.specs.Seats.{DealerValue, SeatValue}
use Rattle.tp_layout.specs.Requests.{room_of}
use Rattle.cpu_feeders.specs.declared.turn_group.TurnGroup.{TurnGroup}
use Rattle.cpu_feeders.specs.inside.FeedSteps.{AreFedAt, IsDrawing}
use Rattle.cpu_feeders.specs.inside.TurnGroups.{AreTried, Draws, HasMade, IsSameGroup}
use Rattle.cpu_feeders.specs.inside.TurnLaws.{same_itself, same_on, tried_nothing}

-- what the delivery of an arrival adds to a seat's notes, by the law on it
abbrev pub DeliveryAdds : Type 0
DeliveryAdds =
    (room : ℕ) (address : Option (List ℕ)) (member : ℕ) (arrivals : List Frame) (log : List ArrivalLog) (mine : List Note)
    (arrival : Frame)
    (entry : ArrivalLog) (notes : List Note) → AreNotesOf room address (attempts_at member arrivals log) mine
    → length arrivals ≡ length log → IsDelivered room address member arrival entry notes
    → AreNotesOf room address (attempts_at member (arrivals ++ arrival ∷ []) (log ++ entry ∷ [])) (mine ++ notes)

-- ---- the offer

-- an offer that is made
offer_made : (ended : Bool) (offer made : Offer) → Some made ≡ cond ended None (Some offer) → made ≡ offer
offer_made true offer made e = cc
offer_made false offer made e = cc

-- the offer of an arrival by the entry that it is logged with
abbrev pub offer_in : ℕ → Option (List ℕ) → ArrivalLog → Frame → Offer
offer_in room address entry arrival = offer_of room address entry.hash entry.verdict arrival

by_entry : (group : JudgeRules) (room : ℕ) (arrival : Frame) (entry : ArrivalLog) (offer : Offer)
    → IsJudged group room arrival entry (Some offer)
    → offer ≡ offer_in room group.own entry arrival
by_entry group room arrival entry offer judged =
    offer_made (eqb (verdict_by group arrival) 0)
    (offer_of room group.own (hash_by group.key arrival) (verdict_by group arrival) arrival) offer judged.offer_is
    ∙ ap (λ (e : ArrivalLog). offer_in room group.own e arrival) (sym judged.entry_is)

-- ---- the group

-- a seat has drawn the ticket, if there is one
abbrev drawn_for : SeatValue → Option ℕ → SeatValue
drawn_for seat ticket = record seat { drawn = seat.drawn ++ option_to_list ticket }

-- a feeder's seat at the dealer that hasn't called `done`, after a draw
pub draws_on : (dealer : DealerValue) (ticket : Option ℕ) (seat now : SeatValue) → now ≡ drawn_for seat ticket
    → IsDrawing dealer seat → IsDrawing dealer now
draws_on dealer ticket seat now is drawing =
    subst (λ (s : SeatValue). IsDrawing dealer s) (sym is) (record { own = drawing.own; owes = drawing.owes })

module _ {R G : Type 0} where
  -- the group after the draw of a ticket: only the seat at the dealer has changed
  record IsDrawnFor (ticket : Option ℕ) (before after : TurnGroup R G) : Type 0 where
    pub same : IsSameGroup before after
    pub seat_is : after.seat.now ≡ drawn_for before.seat.now ticket
    pub member_seats_are : after.member_seats.now.items ≡ before.member_seats.now.items

  draw_leaves : (ticket : Option ℕ) (before after : TurnGroup R G) → HasDrawn Draws ticket before after
      → IsDrawnFor ticket before after
  draw_leaves None before after is =
      subst (λ (group : TurnGroup R G). IsDrawnFor None before group) (sym is) (record {
        same = same_itself before;
        seat_is = ap (λ (drawn : List ℕ). record before.seat.now { drawn = drawn }) (sym (append-nil before.seat.now.drawn));
        member_seats_are = refl;
      })
  draw_leaves (Some ticket) before after draws =
      record { same = draws.same; seat_is = draws.seat_is; member_seats_are = draws.member_seats_are }

  -- no try changes the seat at the dealer
  tries_keep : (Such : Bool → ℕ → ℕ → List Try → Type 0) (shape : Shape) (ticket : Option ℕ) (queue present : ℕ)
      (made : Option Offer) (tries : List Try) (before after : TurnGroup R G)
      → AreTriesOf Such HasMade shape ticket queue present made tries before after
      → IsSameGroup before after × (after.seat.now ≡ before.seat.now)
  tries_keep Such shape ticket queue present None tries before after is =
      subst (λ (now : TurnGroup R G). IsSameGroup before now × (now.seat.now ≡ before.seat.now)) (sym is.1)
      (same_itself before, refl)
  tries_keep Such shape ticket queue present (Some offer) tries before after is = (is.1.same, is.1.seat_is)

  -- and these are the tries of what the arrival offers
  tries_are : (Such : Bool → ℕ → ℕ → List Try → Type 0) (shape : Shape) (ticket : Option ℕ) (queue present : ℕ)
      (group : JudgeRules)
      (room : ℕ) (arrival : Frame) (entry : ArrivalLog)
      (made : Option Offer) (tries : List Try) (before after : TurnGroup R G) → IsJudged group room arrival entry made
      → AreTriesOf Such HasMade shape ticket queue present made tries before after
      → AreTried (offer_in room group.own entry arrival) tries before.members.now before.member_seats.now.items
      after.member_seats.now.items
  tries_are Such shape ticket queue present group room arrival entry None tries before after judged is =
      let offer : Offer = offer_in room group.own entry arrival in
      subst (λ (now : TurnGroup R G). AreTried offer tries before.members.now before.member_seats.now.items
      now.member_seats.now.items) (sym is.1)
      (subst (λ (ts : List Try). AreTried offer ts before.members.now before.member_seats.now.items
      before.member_seats.now.items) (sym is.0)
      (tried_nothing offer before.members.now before.member_seats.now.items))
  tries_are Such shape ticket queue present group room arrival entry (Some offer) tries before after judged is =
      subst (λ (o : Offer). AreTried o tries before.members.now before.member_seats.now.items after.member_seats.now.items)
      (by_entry group room arrival entry offer judged) is.1.tried

  -- what an arrival leaves: it is logged, its ticket was drawn and its tries were made
  pub record IsReceived (room : ℕ) (own : Option (List ℕ)) (arrival : Frame) (old new : Path) (before after : TurnGroup R G)
      : Type 0 where
    pub entry : ArrivalLog
    pub new_is : new ≡ logged entry old
    pub same : IsSameGroup before after
    pub seat_is : after.seat.now ≡ drawn_for before.seat.now entry.ticket
    pub tried : AreTried (offer_in room own entry arrival) entry.tries before.members.now before.member_seats.now.items
        after.member_seats.now.items

  pub received : (group : JudgeRules) (rules : ArrivalRules) (arrival : Frame) (old new : Path) (before after : TurnGroup R G)
      → AgreesAt arrival.cpu group (judge_rules_of rules)
      → Received HasMade Draws rules arrival old new before after → IsReceived rules.room group.own arrival old new before after
  received group rules arrival old new before after agrees is =
      let judged = is.admitted.judged group agrees in
      let drawn = draw_leaves is.entry.ticket before is.mid is.admitted.drawn in
      let kept = tries_keep IsRoute old.shape is.entry.ticket rules.queue old.present is.offer is.tries is.mid after is.tried in
      let tried = tries_are IsRoute old.shape is.entry.ticket rules.queue old.present group rules.room arrival is.entry is.offer
      is.tries is.mid after judged is.tried in
      let offer : Offer = offer_in rules.room group.own is.entry arrival in
      record {
        entry = record is.entry { tries = is.tries };
        new_is = is.new_is;
        same = same_on before is.mid after drawn.same kept.0;
        seat_is = kept.1 ∙ drawn.seat_is;
        tried = subst (λ (seats : List Seat). AreTried offer is.tries before.members.now seats after.member_seats.now.items)
            drawn.member_seats_are
            (subst (λ (locks : List Lock). AreTried offer is.tries locks is.mid.member_seats.now.items
            after.member_seats.now.items) drawn.same.members tried);
      }

-- ---- the notes and the tickets

-- each seat has the notes of the log's tries, the last arrival's too
pub fed_after : (job : Job) (cpu : ℕ) (locks : List Lock) (before after : List Seat) (arrivals : List Frame)
    (log : List ArrivalLog) (arrival : Frame) (entry : ArrivalLog)
    → DeliveryAdds → length arrivals ≡ length log
    → AreTried (offer_in (room_of job.setup.shape) job.setup.mac entry arrival) entry.tries locks before after
    → AreFedAt job cpu arrivals log locks before → AreFedAt job cpu (arrivals ++ arrival ∷ []) (log ++ entry ∷ []) locks after
fed_after job cpu locks before after arrivals log arrival entry adds same tried fed member lock member_seat within =
    let there : member < length before = let count = tried.count in omega (arith, within, count) in
    let was = fed member lock member_seat there in
    let now = tried.each member lock member_seat there in
    record {
      ready = now.ready cpu was.ready;
      own = subst (λ (own : List Note). AreNotesOf (room_of job.setup.shape) job.setup.mac
          (attempts_at member (arrivals ++ arrival ∷ []) (log ++ entry ∷ [])) own)
          (sym now.own)
          (adds (room_of job.setup.shape) job.setup.mac member arrivals log
          (own_of (get_or locks member lock) (get_or before member member_seat))
          arrival entry now.notes was.own same now.are_notes);
    }

-- the ticket of one entry
one_ticket : (entry : ArrivalLog) (ticket : Option ℕ) → entry.ticket ≡ ticket → tickets_of (entry ∷ []) ≡ option_to_list ticket
one_ticket entry None is = cc
one_ticket entry (Some ticket) is = cc

-- the tickets that were drawn are those of the log
pub tickets_after : (drawn : List ℕ) (log : List ArrivalLog) (entry : ArrivalLog) → drawn ≡ tickets_of log
    → drawn ++ option_to_list entry.ticket ≡ tickets_of (log ++ entry ∷ [])
tickets_after drawn log entry are =
    ap (λ (tickets : List ℕ). tickets ++ option_to_list entry.ticket) are
    ∙ ap (λ (tickets : List ℕ). tickets_of log ++ tickets) (sym (one_ticket entry entry.ticket refl))
    ∙ sym (filter_map-append (λ (e : ArrivalLog). e.ticket) log (entry ∷ []))
