-- What a deal over a timeline gives a member.
use Rattle.std.proofs.Common.{◌≡◌, ◌≢◌, ℕ, ◌<◌, Bool, true, false, cond, List, [], ◌∷◌, ◌++◌, length, get_or}
use Rattle.std.proofs.Common.{set, drop, refl, sym, ap, ◌∙◌, subst, arith, Option, Some, None}
use Rattle.std.specs.Prelude.{All, map, ◌==◌}
use Rattle.std.proofs.lemmas.Grind.{common_steps}
use Rattle.std.proofs.lemmas.List.{get_or-map, get_or-set_other, get_or-set_same, length-map, length-set, map-append}
use Rattle.std.proofs.lemmas.List.{set-get_or}
use Rattle.std.proofs.lemmas.List.Elements.{All-head, All-push, All-tail}
use Rattle.deal_rules.specs.Marks.{arrival_by, arrival_if, arrival_in, mark_of, ticket_after, waiting_after}
use Rattle.deal_rules.specs.declared.marks.Mark.TheVariants.{Refused, Given}
use Rattle.fanout_group.specs.Rules.{Rules, home_of}
use Rattle.frame_view.specs.declared.frames.Frame.{Frame}
use Rattle.reader_pace.specs.Timelines.{Timed, line_of}
use Rattle.receive_ring.specs.Replay.{ticket_of}
use Rattle.replay_laws.specs.Alone.{Deal, dealt_feed, dealt_line, dealt_lines, dealt_next, given_at}
use Rattle.ring_events.specs.Happenings.{IsPlain, is_plain}
use Rattle.ring_events.specs.declared.events.Happening.{Happening}
use Rattle.ring_events.specs.declared.events.Happening.TheVariants.{Put, Try, Read, ReadAll, Tick, Count}
use Rattle.ring_model.specs.Offers.{offer_of}
use Rattle.ring_model.specs.Sizes.{need_of, snap_of}
use Rattle.ring_sizes.specs.EventLists.{events_of}
use Rattle.ring_sizes.specs.declared.events.Event.{Event}
use Rattle.ring_sizes.specs.declared.events.Event.TheVariants as events
use Rattle.setup_text.specs.declared.lines.Line.{Line}
use Rattle.setup_text.specs.declared.lines.Line.TheVariants as line
use Rattle.pace_laws.proofs.Beats.{packet_of}
use Rattle.pace_laws.proofs.Members.{read_now}
use Rattle.pace_laws.proofs.Orders.{Stamped}
use Rattle.pace_laws.proofs.Spreads.{event_in, events_in}
use Rattle.pace_laws.proofs.Taken.{stamp_of, taken}

pub events_append : (given more : List Happening) → events_of (given ++ more) ≡ events_of given ++ events_of more
events_append [] more = refl
events_append (Put offer ∷ given) more =
    ap (λ (rest : List Event). events.Packet (need_of offer.snap) ∷ rest) (events_append given more)
events_append (Try offer ∷ given) more =
    ap (λ (rest : List Event). events.Packet (need_of offer.snap) ∷ rest) (events_append given more)
events_append (Tick ms ∷ given) more = ap (λ (rest : List Event). events.Tick ms ∷ rest) (events_append given more)
events_append (Read ∷ given) more = ap (λ (rest : List Event). events.Read ∷ rest) (events_append given more)
events_append (ReadAll ∷ given) more = ap (λ (rest : List Event). events.ReadAll ∷ rest) (events_append given more)
events_append (Count ∷ given) more = events_append given more

append_none : (one : List Event) → one ++ [] ≡ one
append_none [] = refl
append_none (event ∷ one) = ap (λ (rest : List Event). event ∷ rest) (append_none one)

join_events : (one two more : List Event) → (one ++ two) ++ more ≡ one ++ (two ++ more)
join_events [] two more = refl
join_events (event ∷ one) two more = ap (λ (rest : List Event). event ∷ rest) (join_events one two more)

drop_one : (first : Option Frame) (waiting : List (Option Frame)) → drop 1 (first ∷ waiting) ≡ waiting
drop_one first waiting = refl

-- a line that takes no statistics
abbrev pub IsUncounted : Line → Type 0
IsUncounted (line.Stats member) = ⊥
IsUncounted of = Unit {0}

abbrev pub IsUncountedItem : Timed → Type 0
IsUncountedItem item = IsUncounted item.line

module _ (rules : Rules) (room member : ℕ) where
  abbrev pub given_in : Deal → List Happening
  given_in deal = get_or deal.given member []

  -- the member is one, and was given this
  pub record Gives (deal : Deal) (all : List Event) : Type 0 where
    pub inside : member < length deal.given
    pub events : events_of (given_in deal) ≡ all
    pub plain : IsPlain (given_in deal)

  -- a member is given nothing, or one thing more
  gives_one : (deal later : Deal) (all : List Event) (one : Happening) (event : Event) → length later.given ≡ length deal.given
      → given_in later ≡ given_in deal ++ one ∷ [] → events_of (one ∷ []) ≡ event ∷ [] → is_plain one ≡ true → Gives deal all
      → Gives later (all ++ event ∷ [])
  gives_one deal later all one event same more event_is plain h = record {
    inside = omega (arith, h.inside, same);
    events = ap events_of more ∙ events_append (given_in deal) (one ∷ [])
        ∙ ap (λ (front : List Event). front ++ events_of (one ∷ [])) h.events
        ∙ ap (λ (back : List Event). all ++ back) event_is;
    plain = subst IsPlain (sym more)
        (All-push (λ happening. is_plain happening ≡ true) (given_in deal) one h.plain plain);
  }

  gives_none : (deal later : Deal) (all : List Event) → later.given ≡ deal.given → Gives deal all → Gives later (all ++ [])
  gives_none deal later all same h = record {
    inside = omega (arith, h.inside, ap (λ (given : List (List Happening)). length given) same);
    events = ap (λ (given : List (List Happening)). events_of (get_or given member [])) same ∙ h.events
        ∙ sym (append_none all);
    plain = subst (λ (given : List (List Happening)). IsPlain (get_or given member [])) (sym same) h.plain;
  }

  -- one thing for one member
  at_member : (deal : Deal) (of : ℕ) (one : Happening) → member < length deal.given → of ≡ member
      → get_or (given_at of one deal.given) member [] ≡ given_in deal ++ one ∷ []
  at_member deal of one inside e =
      ap (λ (of : ℕ). get_or (given_at of one deal.given) member []) e
      ∙ get_or-set_same deal.given member (given_in deal ++ one ∷ []) [] inside

  at_other : (deal : Deal) (of : ℕ) (one : Happening) → member ≢ of
      → get_or (given_at of one deal.given) member [] ≡ given_in deal
  at_other deal of one e = get_or-set_other deal.given of member (get_or deal.given of [] ++ one ∷ []) [] e

  is_it : (of : ℕ) → (of == member) ≡ true → of ≡ member
  is_it of e = grind (arith, common_steps)

  is_other : (of : ℕ) → (of == member) ≡ false → member ≢ of
  is_other of e = grind (arith, common_steps)

  -- given to one member, of whom this is what it means to ours
  given_one : (deal later : Deal) (all : List Event) (of : ℕ) (one : Happening) (stamp : Stamped) (test : Bool)
      → (of == member) ≡ test → later.given ≡ given_at of one deal.given → events_of (one ∷ []) ≡ stamp.event ∷ []
      → is_plain one ≡ true → Gives deal all
      → Gives later (all ++ events_in (cond test (stamp ∷ []) []))
  given_one deal later all of one stamp true t e event_is plain h =
      gives_one deal later all one stamp.event
      (ap (λ (given : List (List Happening)). length given) e ∙ length-set deal.given of (get_or deal.given of [] ++ one ∷ []))
      (ap (λ (given : List (List Happening)). get_or given member []) e ∙ at_member deal of one h.inside (is_it of t))
      event_is plain h
  given_one deal later all of one stamp false t e event_is plain h = record {
    inside = omega (
      arith,
      h.inside,
      ap (λ (given : List (List Happening)). length given) e,
      length-set deal.given of (get_or deal.given of [] ++ one ∷ []),
    );
    events = ap (λ (given : List (List Happening)). events_of (get_or given member [])) e
        ∙ ap events_of (at_other deal of one (is_other of t)) ∙ h.events ∙ sym (append_none all);
    plain = subst IsPlain (sym (ap (λ (given : List (List Happening)). get_or given member []) e
        ∙ at_other deal of one (is_other of t))) h.plain;
  }

  -- a packet for one member
  given_put : (deal later : Deal) (all : List Event) (home moment need : ℕ) (one : Happening) (test : Bool)
      → (home == member) ≡ test → later.given ≡ given_at home one deal.given
      → events_of (one ∷ []) ≡ events.Packet need ∷ [] → is_plain one ≡ true → Gives deal all
      → Gives later (all ++ events_in (map packet_of (cond test (record { at = moment; need = need } ∷ []) [])))
  given_put deal later all home moment need one true t e event_is plain h =
      given_one deal later all home one (packet_of (record { at = moment; need = need })) true t e event_is plain h
  given_put deal later all home moment need one false t e event_is plain h =
      given_one deal later all home one (packet_of (record { at = moment; need = need })) false t e event_is plain h

  -- what a line does
  record Does (moment : ℕ) (of : Line) (deal later : Deal) : Type 0 where
    gives : (all : List Event) → Gives deal all
        → Gives later (all ++ events_in (stamp_of rules room member moment of
        (mark_of rules room deal.ticket (arrival_by deal.waiting of))))
    ticket : later.ticket ≡ ticket_after rules deal.ticket (arrival_by deal.waiting of)
    waiting : later.waiting ≡ waiting_after deal.waiting of
    count : length later.given ≡ length deal.given

  arrival_gives : (moment home need : ℕ) (one : Happening) (deal later : Deal) (refuses : Bool) (all : List Event)
      → later.given ≡ cond refuses deal.given (given_at home one deal.given)
      → events_of (one ∷ []) ≡ events.Packet need ∷ [] → is_plain one ≡ true → Gives deal all
      → Gives later (all ++ events_in (map packet_of (arrival_if member moment (cond refuses Refused (Given home need)))))
  arrival_gives moment home need one deal later true all e event_is plain h = gives_none deal later all e h
  arrival_gives moment home need one deal later false all e event_is plain h =
      given_put deal later all home moment need one (home == member) refl e event_is plain h

  -- what waits at a CPU, of which the next is fed
  record Feeds (moment cpu : ℕ) (waiting : List (Option Frame)) (deal later : Deal) : Type 0 where
    gives : (all : List Event) → Gives deal all
        → Gives later (all ++ events_in (map packet_of
        (arrival_if member moment (mark_of rules room deal.ticket (arrival_in waiting)))))
    ticket : later.ticket ≡ ticket_after rules deal.ticket (arrival_in waiting)
    waiting_is : later.waiting ≡ set deal.waiting cpu (drop 1 waiting)
    count : length later.given ≡ length deal.given

  kept_count : (refuses : Bool) (deal : Deal) (home : ℕ) (one : Happening)
      → length (cond refuses deal.given (given_at home one deal.given)) ≡ length deal.given
  kept_count true deal home one = refl
  kept_count false deal home one = length-set deal.given home (get_or deal.given home [] ++ one ∷ [])

  next_feeds : (moment cpu : ℕ) (waiting : List (Option Frame)) (deal : Deal) → get_or deal.waiting cpu [] ≡ waiting
      → Feeds moment cpu waiting deal (dealt_next rules room cpu waiting deal)
  next_feeds moment cpu [] deal e = record {
    gives = λ all h. gives_none deal deal all refl h;
    ticket = refl;
    waiting_is = sym (set-get_or deal.waiting cpu []) ∙ ap (set deal.waiting cpu) e;
    count = refl;
  }
  next_feeds moment cpu (None ∷ waiting) deal e = record {
    gives = λ all h. gives_none deal (dealt_next rules room cpu (None ∷ waiting) deal) all refl h;
    ticket = refl;
    waiting_is = ap (set deal.waiting cpu) (sym (drop_one None waiting));
    count = refl;
  }
  next_feeds moment cpu (Some frame ∷ waiting) deal e = record {
    gives = λ all h.
        arrival_gives moment (home_of rules 0 (ticket_of rules.mode deal.ticket) frame)
        (need_of (snap_of room (length frame.bytes) (rules.verdict frame)))
        (Put (offer_of room rules.own (rules.hash frame) (rules.verdict frame) frame)) deal
        (dealt_next rules room cpu (Some frame ∷ waiting) deal) (rules.verdict frame == 0) all refl refl refl h;
    ticket = refl;
    waiting_is = ap (set deal.waiting cpu) (sym (drop_one (Some frame) waiting));
    count = kept_count (rules.verdict frame == 0) deal (home_of rules 0 (ticket_of rules.mode deal.ticket) frame) _;
  }

  feed_does : (moment cpu : ℕ) (deal : Deal) → Does moment (line.Feed cpu) deal (dealt_feed rules room cpu deal)
  feed_does moment cpu deal =
      let feeds = next_feeds moment cpu (get_or deal.waiting cpu []) deal refl in
      record { gives = feeds.gives; ticket = feeds.ticket; waiting = feeds.waiting_is; count = feeds.count }

  tick_does : (moment ms : ℕ) (deal : Deal) → Does moment (line.Tick ms) deal (dealt_line rules room (line.Tick ms) deal)
  tick_does moment ms deal = record {
    gives = λ all h.
        gives_one deal (dealt_line rules room (line.Tick ms) deal) all (Tick ms) (events.Tick ms)
        (length-map deal.given (λ given. given ++ Tick ms ∷ []))
        (get_or-map (λ given. given ++ Tick ms ∷ []) deal.given member [] [] h.inside) refl refl h;
    ticket = refl;
    waiting = refl;
    count = length-map deal.given (λ given. given ++ Tick ms ∷ []);
  }

  line_does : (moment : ℕ) (of : Line) (deal : Deal) → IsUncounted of → Does moment of deal (dealt_line rules room of deal)
  line_does moment (line.Feed cpu) deal u = feed_does moment cpu deal
  line_does moment (line.Tick ms) deal u = tick_does moment ms deal
  line_does moment (line.Read of) deal u = record {
    gives = λ all h.
        given_one deal (dealt_line rules room (line.Read of) deal) all of Read (read_now moment) (of == member) refl refl refl
        refl h;
    ticket = refl;
    waiting = refl;
    count = length-set deal.given of (get_or deal.given of [] ++ Read ∷ []);
  }
  line_does moment (line.Stats of) deal u = absurd u

  -- what waits after a timeline
  abbrev pub left_after : List (List (Option Frame)) → List Timed → List (List (Option Frame))
  left_after waiting [] = waiting
  left_after waiting (item ∷ items) = left_after (waiting_after waiting item.line) items

  -- what lines do
  pub record AreDone (items : List Timed) (deal later : Deal) : Type 0 where
    pub gives : (all : List Event) → Gives deal all
        → Gives later (all ++ events_in (taken rules room member deal.ticket deal.waiting items))
    pub waiting : later.waiting ≡ left_after deal.waiting items
    pub count : length later.given ≡ length deal.given

  pub lines_do : (items : List Timed) (deal : Deal) → All IsUncountedItem items
      → AreDone items deal (dealt_lines rules room (map line_of items) deal)
  lines_do [] deal u = record { gives = λ all h. gives_none deal deal all refl h; waiting = refl; count = refl }
  lines_do (item ∷ items) deal u =
      let one = line_does item.moment item.line deal (All-head IsUncountedItem item items u) in
      let later = dealt_line rules room item.line deal in
      let last = dealt_lines rules room (map line_of items) later in
      let rest = lines_do items later (All-tail IsUncountedItem item items u) in
      let arrival = arrival_by deal.waiting item.line in
      let stamp = stamp_of rules room member item.moment item.line (mark_of rules room deal.ticket arrival) in
      let more : taken rules room member later.ticket later.waiting items
      ≡ taken rules room member (ticket_after rules deal.ticket arrival) (waiting_after deal.waiting item.line) items =
      ap (λ (ticket : ℕ). taken rules room member ticket later.waiting items) one.ticket
      ∙ ap (λ (waiting : List (List (Option Frame))). taken rules room member (ticket_after rules deal.ticket arrival) waiting
      items) one.waiting in
      record {
        gives = λ all h.
            subst (Gives last)
            (join_events all (events_in stamp) (events_in (taken rules room member later.ticket later.waiting items))
            ∙ ap (λ (back : List Event). all ++ back)
            (sym (map-append event_in stamp (taken rules room member later.ticket later.waiting items)))
            ∙ ap (λ (back : List Stamped). all ++ events_in (stamp ++ back)) more)
            (rest.gives (all ++ events_in stamp) (one.gives all h));
        waiting = rest.waiting
            ∙ ap (λ (waiting : List (List (Option Frame))). left_after waiting items) one.waiting;
        count = rest.count ∙ one.count;
      }
