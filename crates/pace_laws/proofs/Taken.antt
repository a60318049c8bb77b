-- What a timeline gives one member, as events at their moments.
use Rattle.std.proofs.Common.{◌≡◌, ℕ, ◌+◌, ◌*◌, ◌≤◌, Bool, true, false, cond, List, [], ◌∷◌, ◌++◌, refl, sym, ap}
use Rattle.std.proofs.Common.{◌∙◌, Option}
use Rattle.std.specs.Prelude.{All, map, ◌==◌, if◌then◌else◌}
use Rattle.std.specs.List.{filter}
use Rattle.std.proofs.lemmas.List.{map-append}
use Rattle.std.proofs.lemmas.List.Elements.{All-head, All-tail}
use Rattle.deal_rules.specs.Marks.{arrival_by, arrival_if, arrivals_for, if_fed, mark_of, marked, ticket_after, waiting_after}
use Rattle.deal_rules.specs.declared.marks.Mark.{Mark}
use Rattle.deal_rules.specs.declared.marks.Mark.TheVariants.{Nothing, Refused, Given}
use Rattle.fanout_group.specs.Rules.{Rules}
use Rattle.frame_view.specs.declared.frames.Frame.{Frame}
use Rattle.reader_pace.specs.Orders.{RiseFrom, is_feed, is_feed_line}
use Rattle.reader_pace.specs.Timelines.{Timed}
use Rattle.ring_sizes.specs.declared.events.Event.TheVariants as events
use Rattle.ring_sizes.specs.declared.paces.Arrival.{Arrival}
use Rattle.setup_text.specs.declared.lines.Line.{Line}
use Rattle.setup_text.specs.declared.lines.Line.TheVariants as line
use Rattle.pace_laws.proofs.BeatKinds.{ComeIn, comes_sooner}
use Rattle.pace_laws.proofs.Beats.{packet_of}
use Rattle.pace_laws.proofs.Members.{read_now, read_stamp, read_stamps, tick_stamp, tick_stamps}
use Rattle.pace_laws.proofs.Orders.{Kind, OfPacket, OfRead, OfTick, Rises, Stamped, kinds_append, of_kind}
use Rattle.pace_laws.proofs.Orders.{rises_sooner}
use Rattle.pace_laws.proofs.Rankings.{KeysRise, item_key, rank_in}

module _ (rules : Rules) (room member : ℕ) where
  -- of one line, with which this comes of a frame
  abbrev pub stamp_of : ℕ → Line → Mark → List Stamped
  stamp_of moment (line.Tick ms) mark = record { at = moment; event = events.Tick ms } ∷ []
  stamp_of moment (line.Read of) mark = if of == member then read_now moment ∷ [] else []
  stamp_of moment (line.Feed cpu) mark = map packet_of (arrival_if member moment mark)
  stamp_of moment (line.Stats of) mark = []

  abbrev pub taken : ℕ → List (List (Option Frame)) → List Timed → List Stamped
  taken ticket waiting [] = []
  taken ticket waiting (item ∷ items) =
      let arrival = arrival_by waiting item.line in
      stamp_of item.moment item.line (mark_of rules room ticket arrival)
      ++ taken (ticket_after rules ticket arrival) (waiting_after waiting item.line) items

  -- ---- in order

  read_rises : (low moment : ℕ) (rest : List Stamped) (test : Bool) → low ≤ 3 * moment + 2 → Rises (3 * moment + 2) rest
      → Rises low (cond test (read_now moment ∷ []) [] ++ rest)
  read_rises low moment rest true l h = (l, h)
  read_rises low moment rest false l h = rises_sooner low (3 * moment + 2) rest l h

  packet_rises : (low moment need : ℕ) (rest : List Stamped) (test : Bool) → low ≤ 3 * moment + 1 → Rises (3 * moment + 1) rest
      → Rises low (map packet_of (cond test (record { at = moment; need = need } ∷ []) []) ++ rest)
  packet_rises low moment need rest true l h = (l, h)
  packet_rises low moment need rest false l h = rises_sooner low (3 * moment + 1) rest l h

  mark_rises : (low moment : ℕ) (mark : Mark) (rest : List Stamped) → low ≤ 3 * moment + 1 → Rises (3 * moment + 1) rest
      → Rises low (map packet_of (arrival_if member moment mark) ++ rest)
  mark_rises low moment Nothing rest l h = rises_sooner low (3 * moment + 1) rest l h
  mark_rises low moment Refused rest l h = rises_sooner low (3 * moment + 1) rest l h
  mark_rises low moment (Given home need) rest l h = packet_rises low moment need rest (home == member) l h

  stamp_rises : (low moment : ℕ) (of : Line) (mark : Mark) (rest : List Stamped) → low ≤ 3 * moment + rank_in of
      → Rises (3 * moment + rank_in of) rest → Rises low (stamp_of moment of mark ++ rest)
  stamp_rises low moment (line.Tick ms) mark rest l h = (l, h)
  stamp_rises low moment (line.Read of) mark rest l h = read_rises low moment rest (of == member) l h
  stamp_rises low moment (line.Feed cpu) mark rest l h = mark_rises low moment mark rest l h
  stamp_rises low moment (line.Stats of) mark rest l h = rises_sooner low (3 * moment + 2) rest l h

  pub taken_rises : (low ticket : ℕ) (waiting : List (List (Option Frame))) (items : List Timed) → KeysRise low items
      → Rises low (taken ticket waiting items)
  taken_rises low ticket waiting [] h = tt
  taken_rises low ticket waiting (item ∷ items) h =
      stamp_rises low item.moment item.line (mark_of rules room ticket (arrival_by waiting item.line))
      (taken (ticket_after rules ticket (arrival_by waiting item.line)) (waiting_after waiting item.line) items) h.0
      (taken_rises (item_key item) (ticket_after rules ticket (arrival_by waiting item.line))
      (waiting_after waiting item.line) items h.1)

  -- ---- kinds

  none_read : (kind : Kind) (moment : ℕ) (test : Bool) → (of_kind kind (read_now moment ∷ []) ≡ [])
      → of_kind kind (cond test (read_now moment ∷ []) []) ≡ []
  none_read kind moment true e = e
  none_read kind moment false e = refl

  all_read : (moment : ℕ) (test : Bool)
      → of_kind OfRead (cond test (read_now moment ∷ []) []) ≡ cond test (read_now moment ∷ []) []
  all_read moment true = refl
  all_read moment false = refl

  none_put : (kind : Kind) (moment need : ℕ) (test : Bool)
      → of_kind kind (packet_of (record { at = moment; need = need }) ∷ []) ≡ []
      → of_kind kind (map packet_of (cond test (record { at = moment; need = need } ∷ []) [])) ≡ []
  none_put kind moment need true e = e
  none_put kind moment need false e = refl

  all_put : (moment need : ℕ) (test : Bool)
      → of_kind OfPacket (map packet_of (cond test (record { at = moment; need = need } ∷ []) []))
      ≡ map packet_of (cond test (record { at = moment; need = need } ∷ []) [])
  all_put moment need true = refl
  all_put moment need false = refl

  no_tick_put : (moment : ℕ) (mark : Mark) → of_kind OfTick (map packet_of (arrival_if member moment mark)) ≡ []
  no_tick_put moment Nothing = refl
  no_tick_put moment Refused = refl
  no_tick_put moment (Given home need) = none_put OfTick moment need (home == member) refl

  no_read_put : (moment : ℕ) (mark : Mark) → of_kind OfRead (map packet_of (arrival_if member moment mark)) ≡ []
  no_read_put moment Nothing = refl
  no_read_put moment Refused = refl
  no_read_put moment (Given home need) = none_put OfRead moment need (home == member) refl

  each_put : (moment : ℕ) (mark : Mark)
      → of_kind OfPacket (map packet_of (arrival_if member moment mark)) ≡ map packet_of (arrival_if member moment mark)
  each_put moment Nothing = refl
  each_put moment Refused = refl
  each_put moment (Given home need) = all_put moment need (home == member)

  stamp_ticks : (moment : ℕ) (of : Line) (mark : Mark) → of_kind OfTick (stamp_of moment of mark) ≡ tick_stamp moment of
  stamp_ticks moment (line.Tick ms) mark = refl
  stamp_ticks moment (line.Read of) mark = none_read OfTick moment (of == member) refl
  stamp_ticks moment (line.Feed cpu) mark = no_tick_put moment mark
  stamp_ticks moment (line.Stats of) mark = refl

  stamp_reads : (moment : ℕ) (of : Line) (mark : Mark)
      → of_kind OfRead (stamp_of moment of mark) ≡ read_stamp member moment of
  stamp_reads moment (line.Tick ms) mark = refl
  stamp_reads moment (line.Read of) mark = all_read moment (of == member)
  stamp_reads moment (line.Feed cpu) mark = no_read_put moment mark
  stamp_reads moment (line.Stats of) mark = refl

  stamp_packets : (moment : ℕ) (of : Line) (mark : Mark) (feeds : List (ℕ × Mark))
      → of_kind OfPacket (stamp_of moment of mark) ++ map packet_of (arrivals_for member feeds)
      ≡ map packet_of (arrivals_for member (if_fed of (moment, mark) ++ feeds))
  stamp_packets moment (line.Tick ms) mark feeds = refl
  stamp_packets moment (line.Read of) mark feeds =
      ap (λ (front : List Stamped). front ++ map packet_of (arrivals_for member feeds))
      (none_read OfPacket moment (of == member) refl)
  stamp_packets moment (line.Feed cpu) mark feeds =
      ap (λ (front : List Stamped). front ++ map packet_of (arrivals_for member feeds)) (each_put moment mark)
      ∙ sym (map-append packet_of (arrival_if member moment mark) (arrivals_for member feeds))
  stamp_packets moment (line.Stats of) mark feeds = refl

  pub taken_ticks : (ticket : ℕ) (waiting : List (List (Option Frame))) (items : List Timed)
      → of_kind OfTick (taken ticket waiting items) ≡ tick_stamps items
  taken_ticks ticket waiting [] = refl
  taken_ticks ticket waiting (item ∷ items) =
      let arrival = arrival_by waiting item.line in
      let rest = taken (ticket_after rules ticket arrival) (waiting_after waiting item.line) items in
      kinds_append OfTick (stamp_of item.moment item.line (mark_of rules room ticket arrival)) rest
      ∙ ap (λ (front : List Stamped). front ++ of_kind OfTick rest)
      (stamp_ticks item.moment item.line (mark_of rules room ticket arrival))
      ∙ ap (λ (back : List Stamped). tick_stamp item.moment item.line ++ back)
      (taken_ticks (ticket_after rules ticket arrival) (waiting_after waiting item.line) items)

  pub taken_reads : (ticket : ℕ) (waiting : List (List (Option Frame))) (items : List Timed)
      → of_kind OfRead (taken ticket waiting items) ≡ read_stamps member items
  taken_reads ticket waiting [] = refl
  taken_reads ticket waiting (item ∷ items) =
      let arrival = arrival_by waiting item.line in
      let rest = taken (ticket_after rules ticket arrival) (waiting_after waiting item.line) items in
      kinds_append OfRead (stamp_of item.moment item.line (mark_of rules room ticket arrival)) rest
      ∙ ap (λ (front : List Stamped). front ++ of_kind OfRead rest)
      (stamp_reads item.moment item.line (mark_of rules room ticket arrival))
      ∙ ap (λ (back : List Stamped). read_stamp member item.moment item.line ++ back)
      (taken_reads (ticket_after rules ticket arrival) (waiting_after waiting item.line) items)

  pub taken_packets : (ticket : ℕ) (waiting : List (List (Option Frame))) (items : List Timed)
      → of_kind OfPacket (taken ticket waiting items)
      ≡ map packet_of (arrivals_for member (marked rules room ticket waiting items))
  taken_packets ticket waiting [] = refl
  taken_packets ticket waiting (item ∷ items) =
      let arrival = arrival_by waiting item.line in
      let mark = mark_of rules room ticket arrival in
      let next = ticket_after rules ticket arrival in
      let rest = taken next (waiting_after waiting item.line) items in
      kinds_append OfPacket (stamp_of item.moment item.line mark) rest
      ∙ ap (λ (back : List Stamped). of_kind OfPacket (stamp_of item.moment item.line mark) ++ back)
      (taken_packets next (waiting_after waiting item.line) items)
      ∙ stamp_packets item.moment item.line mark (marked rules room next (waiting_after waiting item.line) items)

  -- ---- only feeds are marked

  fed_alone : (ticket : ℕ) (waiting : List (List (Option Frame))) (moment : ℕ) (of : Line) (items left : List Timed)
      → ((ticket : ℕ) (waiting : List (List (Option Frame)))
      → marked rules room ticket waiting items ≡ marked rules room ticket waiting left)
      → marked rules room ticket waiting (record { moment = moment; line = of } ∷ items)
      ≡ marked rules room ticket waiting (cond (is_feed_line of) (record { moment = moment; line = of } ∷ left) left)
  fed_alone ticket waiting moment (line.Feed cpu) items left h =
      let arrival = arrival_by waiting (line.Feed cpu) in
      ap (λ (rest : List (ℕ × Mark)). (moment, mark_of rules room ticket arrival) ∷ rest)
      (h (ticket_after rules ticket arrival) (waiting_after waiting (line.Feed cpu)))
  fed_alone ticket waiting moment (line.Tick ms) items left h = h ticket waiting
  fed_alone ticket waiting moment (line.Read of) items left h = h ticket waiting
  fed_alone ticket waiting moment (line.Stats of) items left h = h ticket waiting

  pub feeds_marked : (ticket : ℕ) (waiting : List (List (Option Frame))) (items : List Timed)
      → marked rules room ticket waiting items ≡ marked rules room ticket waiting (filter is_feed items)
  feeds_marked ticket waiting [] = refl
  feeds_marked ticket waiting (item ∷ items) =
      fed_alone ticket waiting item.moment item.line items (filter is_feed items)
      (λ ticket waiting. feeds_marked ticket waiting items)

  -- ---- the frames come in order

  one_comes : (since moment end need : ℕ) (rest : List Arrival) (test : Bool) → since ≤ moment → ComeIn moment rest end
      → ComeIn since (cond test (record { at = moment; need = need } ∷ []) [] ++ rest) end
  one_comes since moment end need rest true l h = (l, h)
  one_comes since moment end need rest false l h = comes_sooner since moment rest end l h

  mark_comes : (since moment end : ℕ) (mark : Mark) (rest : List Arrival) → since ≤ moment → ComeIn moment rest end
      → ComeIn since (arrival_if member moment mark ++ rest) end
  mark_comes since moment end Nothing rest l h = comes_sooner since moment rest end l h
  mark_comes since moment end Refused rest l h = comes_sooner since moment rest end l h
  mark_comes since moment end (Given home need) rest l h = one_comes since moment end need rest (home == member) l h

  line_comes : (since moment end : ℕ) (of : Line) (mark : Mark) (feeds : List (ℕ × Mark)) → since ≤ moment
      → ComeIn moment (arrivals_for member feeds) end
      → ComeIn since (arrivals_for member (if_fed of (moment, mark) ++ feeds)) end
  line_comes since moment end (line.Feed cpu) mark feeds l h =
      mark_comes since moment end mark (arrivals_for member feeds) l h
  line_comes since moment end (line.Tick ms) mark feeds l h =
      comes_sooner since moment (arrivals_for member feeds) end l h
  line_comes since moment end (line.Read of) mark feeds l h =
      comes_sooner since moment (arrivals_for member feeds) end l h
  line_comes since moment end (line.Stats of) mark feeds l h =
      comes_sooner since moment (arrivals_for member feeds) end l h

  pub feeds_come : (since end ticket : ℕ) (waiting : List (List (Option Frame))) (items : List Timed) → RiseFrom since items
      → All (λ item. item.moment ≤ end) items → since ≤ end
      → ComeIn since (arrivals_for member (marked rules room ticket waiting items)) end
  feeds_come since end ticket waiting [] h all l = l
  feeds_come since end ticket waiting (item ∷ items) h all l =
      let arrival = arrival_by waiting item.line in
      let next = ticket_after rules ticket arrival in
      line_comes since item.moment end item.line (mark_of rules room ticket arrival)
      (marked rules room next (waiting_after waiting item.line) items) h.0
      (feeds_come item.moment end next (waiting_after waiting item.line) items h.1
      (All-tail (λ item. item.moment ≤ end) item items all) (All-head (λ item. item.moment ≤ end) item items all))
