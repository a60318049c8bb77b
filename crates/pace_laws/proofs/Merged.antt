-- What a timeline gives a member is the schedule of ring_sizes over the member's frames.
use Rattle.std.proofs.Common.{◌≡◌, ℕ, ◌≤◌, Bool, true, false, cond, List, [], ◌∷◌, ◌++◌}
use Rattle.std.proofs.Common.{refl, sym, ap, ◌∙◌, subst, arith, Option}
use Rattle.std.specs.Prelude.{All, map}
use Rattle.std.specs.List.{filter}
use Rattle.std.proofs.lemmas.List.Elements.{All-append, All-cons, All-head, All-nil, All-tail, filter-append}
use Rattle.deal_rules.specs.Marks.{arrivals_for, marked}
use Rattle.deal_rules.specs.declared.marks.Mark.{Mark}
use Rattle.fanout_group.specs.Rules.{Rules}
use Rattle.frame_view.specs.declared.frames.Frame.{Frame}
use Rattle.reader_pace.specs.Orders.{RiseFrom, is_feed, is_feed_line}
use Rattle.reader_pace.specs.Timelines.{Timed, end_of, feeds_of, in_order, latest}
use Rattle.reader_pace.proofs.Feeds.{all_pass, append_none, feeds_alone, filter_in_order, none_passes}
use Rattle.reader_pace.proofs.Timelines.{feeds_all, in_order_all, in_order_rises}
use Rattle.ring_sizes.specs.declared.paces.Arrival.{Arrival}
use Rattle.setup_text.specs.declared.lines.Line.{Line}
use Rattle.setup_text.specs.declared.lines.Line.TheVariants as line
use Rattle.pace_laws.proofs.BeatKinds.{ComeIn}
use Rattle.pace_laws.proofs.Beats.{packet_of}
use Rattle.pace_laws.proofs.Deals.{IsUncounted, IsUncountedItem}
use Rattle.pace_laws.proofs.Members.{read_stamp, read_stamps, tick_stamp, tick_stamps}
use Rattle.pace_laws.proofs.Orders.{Kind, OfPacket, OfRead, OfTick, Rises, Stamped, of_kind, one_order}
use Rattle.pace_laws.proofs.Rankings.{IsRanked, KeysRise, in_order_same, keys_rise, rank_in, ranked_more}
use Rattle.pace_laws.proofs.Taken.{feeds_come, feeds_marked, taken, taken_packets, taken_reads, taken_rises, taken_ticks}

abbrev pub is_tick_line : Line → Bool
is_tick_line (line.Tick ms) = true
is_tick_line of = false

abbrev pub is_read_line : Line → Bool
is_read_line (line.Read member) = true
is_read_line of = false

abbrev is_tick : Timed → Bool
is_tick item = is_tick_line item.line

abbrev is_read : Timed → Bool
is_read item = is_read_line item.line

tick_alone : (moment : ℕ) (of : Line) (items left : List Timed) → tick_stamps items ≡ tick_stamps left
    → tick_stamp moment of ++ tick_stamps items
    ≡ tick_stamps (cond (is_tick_line of) (record { moment = moment; line = of } ∷ left) left)
tick_alone moment (line.Tick ms) items left e = ap (λ (rest : List Stamped). tick_stamp moment (line.Tick ms) ++ rest) e
tick_alone moment (line.Feed cpu) items left e = e
tick_alone moment (line.Read of) items left e = e
tick_alone moment (line.Stats of) items left e = e

ticks_alone : (items : List Timed) → tick_stamps items ≡ tick_stamps (filter is_tick items)
ticks_alone [] = refl
ticks_alone (item ∷ items) = tick_alone item.moment item.line items (filter is_tick items) (ticks_alone items)

read_alone : (member moment : ℕ) (of : Line) (items left : List Timed) → read_stamps member items ≡ read_stamps member left
    → read_stamp member moment of ++ read_stamps member items
    ≡ read_stamps member (cond (is_read_line of) (record { moment = moment; line = of } ∷ left) left)
read_alone member moment (line.Read of) items left e =
    ap (λ (rest : List Stamped). read_stamp member moment (line.Read of) ++ rest) e
read_alone member moment (line.Feed cpu) items left e = e
read_alone member moment (line.Tick ms) items left e = e
read_alone member moment (line.Stats of) items left e = e

reads_alone : (member : ℕ) (items : List Timed) → read_stamps member items ≡ read_stamps member (filter is_read items)
reads_alone member [] = refl
reads_alone member (item ∷ items) =
    read_alone member item.moment item.line items (filter is_read items) (reads_alone member items)

-- the latest moment is the greatest
by_latest : (items : List Timed) → All (λ item. item.moment ≤ latest items) items
by_latest [] = All-nil (λ item. item.moment ≤ 0)
by_latest (item ∷ items) =
    All-cons (λ one. one.moment ≤ latest (item ∷ items)) item items (omega arith)
    (later items (by_latest items))
  where
    later : (left : List Timed) → All (λ one. one.moment ≤ latest items) left
        → All (λ one. one.moment ≤ latest (item ∷ items)) left
    later [] h = All-nil (λ one. one.moment ≤ latest (item ∷ items))
    later (one ∷ left) h =
        let here : one.moment ≤ latest items = All-head (λ one. one.moment ≤ latest items) one left h in
        All-cons (λ one. one.moment ≤ latest (item ∷ items)) one left (omega (arith, here))
        (later left (All-tail (λ one. one.moment ≤ latest items) one left h))

-- ---- a timeline of ticks, feeds and reads

module _ (ticks : List Timed) (times : List (List ℕ)) (reads : List Timed)
    (tick_lines : All (λ item. is_tick_line item.line ≡ true) ticks)
    (read_lines : All (λ item. is_read_line item.line ≡ true) reads) where
  abbrev pub items : List Timed
  items = in_order (ticks ++ (feeds_of times ++ reads))

  -- what holds of each tick, feed and read, by its line
  each_tick : (P : Line → Type 0) → ((ms : ℕ) → P (line.Tick ms)) → All (λ item. P item.line) ticks
  each_tick P h = holds ticks tick_lines where
    one : (of : Line) → is_tick_line of ≡ true → P of
    one (line.Tick ms) e = h ms
    one (line.Feed cpu) e = cc
    one (line.Read of) e = cc
    one (line.Stats of) e = cc

    holds : (left : List Timed) → All (λ item. is_tick_line item.line ≡ true) left → All (λ item. P item.line) left
    holds [] all = All-nil (λ item. P item.line)
    holds (item ∷ left) all =
        All-cons (λ item. P item.line) item left
        (one item.line (All-head (λ item. is_tick_line item.line ≡ true) item left all))
        (holds left (All-tail (λ item. is_tick_line item.line ≡ true) item left all))

  each_read : (P : Line → Type 0) → ((member : ℕ) → P (line.Read member)) → All (λ item. P item.line) reads
  each_read P h = holds reads read_lines where
    one : (of : Line) → is_read_line of ≡ true → P of
    one (line.Read member) e = h member
    one (line.Feed cpu) e = cc
    one (line.Tick ms) e = cc
    one (line.Stats of) e = cc

    holds : (left : List Timed) → All (λ item. is_read_line item.line ≡ true) left → All (λ item. P item.line) left
    holds [] all = All-nil (λ item. P item.line)
    holds (item ∷ left) all =
        All-cons (λ item. P item.line) item left
        (one item.line (All-head (λ item. is_read_line item.line ≡ true) item left all))
        (holds left (All-tail (λ item. is_read_line item.line ≡ true) item left all))

  each_feed : (P : Line → Type 0) → ((cpu : ℕ) → P (line.Feed cpu)) → All (λ item. P item.line) (feeds_of times)
  each_feed P h = feeds_all (λ item. P item.line) (λ moment cpu. h cpu) _ 0 times

  pub items_keys : KeysRise 0 items
  items_keys =
      keys_rise 0 ticks (feeds_of times ++ reads) (each_tick (λ of. rank_in of ≡ 0) (λ ms. refl))
      (ranked_more 0 (feeds_of times ++ reads)
      (All-append (IsRanked 1) (feeds_of times) reads (each_feed (λ of. 1 ≤ rank_in of) (λ cpu. omega arith))
      (each_read (λ of. 1 ≤ rank_in of) (λ member. omega arith))))
      (keys_rise 1 (feeds_of times) reads (each_feed (λ of. rank_in of ≡ 1) (λ cpu. refl))
      (ranked_more 1 reads (each_read (λ of. 2 ≤ rank_in of) (λ member. omega arith)))
      (reads_keys (keys_rise 2 reads [] (each_read (λ of. rank_in of ≡ 2) (λ member. refl)) (All-nil (IsRanked 2)) tt)))
    where
      reads_keys : KeysRise 0 (in_order (reads ++ [])) → KeysRise 0 (in_order reads)
      reads_keys h = subst (λ (reads : List Timed). KeysRise 0 (in_order reads)) (append_none reads) h

  pub items_ticks : RiseFrom 0 ticks → filter is_tick items ≡ ticks
  items_ticks r =
      filter_in_order is_tick (ticks ++ (feeds_of times ++ reads))
      ∙ ap in_order (filter-append is_tick ticks (feeds_of times ++ reads)
      ∙ ap (λ back. filter is_tick ticks ++ back) (filter-append is_tick (feeds_of times) reads
      ∙ ap (λ front. front ++ filter is_tick reads)
      (none_passes is_tick (feeds_of times) (each_feed (λ of. is_tick_line of ≡ false) (λ cpu. refl)))
      ∙ none_passes is_tick reads (each_read (λ of. is_tick_line of ≡ false) (λ member. refl)))
      ∙ append_none (filter is_tick ticks)
      ∙ all_pass is_tick ticks tick_lines)
      ∙ in_order_same ticks 0 r

  pub items_reads : RiseFrom 0 reads → filter is_read items ≡ reads
  items_reads r =
      filter_in_order is_read (ticks ++ (feeds_of times ++ reads))
      ∙ ap in_order (filter-append is_read ticks (feeds_of times ++ reads)
      ∙ ap (λ front. front ++ filter is_read (feeds_of times ++ reads))
      (none_passes is_read ticks (each_tick (λ of. is_read_line of ≡ false) (λ ms. refl)))
      ∙ filter-append is_read (feeds_of times) reads
      ∙ ap (λ front. front ++ filter is_read reads)
      (none_passes is_read (feeds_of times) (each_feed (λ of. is_read_line of ≡ false) (λ cpu. refl)))
      ∙ all_pass is_read reads read_lines)
      ∙ in_order_same reads 0 r

  pub items_feeds : filter is_feed items ≡ in_order (feeds_of times)
  items_feeds =
      feeds_alone times ticks reads (each_tick (λ of. is_feed_line of ≡ false) (λ ms. refl))
      (each_read (λ of. is_feed_line of ≡ false) (λ member. refl))

  pub items_uncounted : All IsUncountedItem items
  items_uncounted =
      in_order_all IsUncountedItem (ticks ++ (feeds_of times ++ reads))
      (All-append IsUncountedItem ticks (feeds_of times ++ reads) (each_tick IsUncounted (λ ms. tt))
      (All-append IsUncountedItem (feeds_of times) reads (each_feed IsUncounted (λ cpu. tt))
      (each_read IsUncounted (λ member. tt))))

-- ---- the schedule

abbrev pub given_arrivals : Rules → ℕ → List (List (Option Frame)) → List (List ℕ) → ℕ → List Arrival
given_arrivals rules room arriving times member =
    arrivals_for member (marked rules room 0 arriving (in_order (feeds_of times)))

pub frames_come : (rules : Rules) (room member : ℕ) (arriving : List (List (Option Frame))) (times : List (List ℕ))
    → ComeIn 0 (given_arrivals rules room arriving times member) (end_of times)
frames_come rules room member arriving times =
    feeds_come rules room member 0 (end_of times) 0 arriving (in_order (feeds_of times)) (in_order_rises (feeds_of times))
    (in_order_all (λ item. item.moment ≤ end_of times) (feeds_of times) (by_latest (feeds_of times))) (omega arith)

-- what is given is in order what has these ticks, reads and packets
pub merged : (rules : Rules) (room member : ℕ) (arriving : List (List (Option Frame))) (times : List (List ℕ))
    (ticks reads : List Timed) (tick_lines : All (λ item. is_tick_line item.line ≡ true) ticks)
    (read_lines : All (λ item. is_read_line item.line ≡ true) reads) (scheduled : List Stamped)
    → RiseFrom 0 ticks → RiseFrom 0 reads → Rises 0 scheduled → of_kind OfTick scheduled ≡ tick_stamps ticks
    → of_kind OfRead scheduled ≡ read_stamps member reads
    → of_kind OfPacket scheduled ≡ map packet_of (given_arrivals rules room arriving times member)
    → taken rules room member 0 arriving (items ticks times reads tick_lines read_lines) ≡ scheduled
merged rules room member arriving times ticks reads tick_lines read_lines scheduled tick_rise read_rise rise ticks_are reads_are
    packets_are =
    one_order (taken rules room member 0 arriving made) scheduled 0
    (taken_rises rules room member 0 0 arriving made (items_keys ticks times reads tick_lines read_lines)) rise kinds
  where
    made : List Timed
    made = items ticks times reads tick_lines read_lines

    kinds : (kind : Kind) → of_kind kind (taken rules room member 0 arriving made) ≡ of_kind kind scheduled
    kinds OfTick =
        taken_ticks rules room member 0 arriving made ∙ ticks_alone made
        ∙ ap tick_stamps (items_ticks ticks times reads tick_lines read_lines tick_rise) ∙ sym ticks_are
    kinds OfRead =
        taken_reads rules room member 0 arriving made ∙ reads_alone member made
        ∙ ap (read_stamps member) (items_reads ticks times reads tick_lines read_lines read_rise) ∙ sym reads_are
    kinds OfPacket =
        taken_packets rules room member 0 arriving made
        ∙ ap (λ (feeds : List (ℕ × Mark)). map packet_of (arrivals_for member feeds))
        (feeds_marked rules room member 0 arriving made
        ∙ ap (marked rules room 0 arriving) (items_feeds ticks times reads tick_lines read_lines))
        ∙ sym packets_are
