-- The feeds of the marks are those of the times.
use Rattle.std.proofs.Common.{◌≡◌, ℕ, ◌+◌, ◌<◌, max, List, [], ◌∷◌, ◌++◌, length, map, replicate, get_or}
use Rattle.std.proofs.Common.{Option, Some, refl, sym, ap, ap₂, ◌∙◌, subst, arith}
use Rattle.std.specs.Option.{unwrap_or}
use Rattle.std.proofs.lemmas.Grind.{common_steps}
use Rattle.std.proofs.lemmas.List.{get_or-replicate, length-replicate}
use Rattle.deal_rules.specs.Marks.{arrivals_for, marked}
use Rattle.fanout_group.specs.Plans.{Shape}
use Rattle.fanout_group.specs.Rules.{Rules}
use Rattle.frame_view.specs.declared.frames.Frame.{Frame}
use Rattle.frame_deals.specs.Deals.{AreMarkLists, IsDeal}
use Rattle.frame_deals.specs.inside.Merges.{IsDealtFrom, dealt_all, feeds_left, first_of}
use Rattle.frame_deals.specs.declared.deals.Dealt.{Dealt}
use Rattle.frame_deals.specs.declared.mark_queue.MarkedFrame.{MarkedFrame}
use Rattle.frame_deals.proofs.DealtMarks.{AreMarked, all_as_many, all_given}
use Rattle.frame_deals.proofs.NextFrames.{times_left}
use Rattle.reader_pace.specs.Timelines.{Timed, feed_at, feeds_from, feeds_of, first_time, in_order, latest, rising}
use Rattle.reader_pace.specs.Timelines.{sooner}
use Rattle.ring_sizes.specs.declared.paces.Arrival.{Arrival}

-- the marks are those of the arrivals
only_marks : (rules : Rules) (room : ℕ) (times : List (List ℕ)) (arriving : List (List (Option Frame)))
    (all : List (List MarkedFrame)) → AreMarkLists rules room times arriving all → AreMarked rules room arriving all
only_marks rules room [] [] [] h = tt
only_marks rules room (t ∷ times) (arrivals ∷ arriving) (marks ∷ all) h =
    (h.0.marks_are, only_marks rules room times arriving all h.1)
only_marks rules room [] [] (marks ∷ all) h = absurd h
only_marks rules room [] (arrivals ∷ arriving) all h = absurd h
only_marks rules room (t ∷ times) [] all h = absurd h
only_marks rules room (t ∷ times) (arrivals ∷ arriving) [] h = absurd h

-- the times of each CPU's marks rise, and are its frames' times otherwise
abbrev AreTimed : List (List ℕ) → List (List MarkedFrame) → Type 0
AreTimed [] [] = Unit {0}
AreTimed (t ∷ times) (marks ∷ all) = (map (λ (m : MarkedFrame). m.time) marks ≡ rising 0 t) × AreTimed times all
AreTimed times all = ⊥

only_times : (rules : Rules) (room : ℕ) (times : List (List ℕ)) (arriving : List (List (Option Frame)))
    (all : List (List MarkedFrame)) → AreMarkLists rules room times arriving all → AreTimed times all
only_times rules room [] [] [] h = tt
only_times rules room (t ∷ times) (arrivals ∷ arriving) (marks ∷ all) h =
    (h.0.times_are, only_times rules room times arriving all h.1)
only_times rules room [] [] (marks ∷ all) h = absurd h
only_times rules room [] (arrivals ∷ arriving) all h = absurd h
only_times rules room (t ∷ times) [] all h = absurd h
only_times rules room (t ∷ times) (arrivals ∷ arriving) [] h = absurd h

feeds_timed : (first cpu : ℕ) (marks : List MarkedFrame)
    → map (λ (m : MarkedFrame). feed_at first cpu m.time) marks
    ≡ map (feed_at first cpu) (map (λ (m : MarkedFrame). m.time) marks)
feeds_timed first cpu [] = refl
feeds_timed first cpu (mark ∷ marks) = ap (λ rest. feed_at first cpu mark.time ∷ rest) (feeds_timed first cpu marks)

-- the feeds are the same
same_feeds : (first cpu : ℕ) (times : List (List ℕ)) (all : List (List MarkedFrame)) → AreTimed times all
    → feeds_left first cpu all ≡ feeds_from first cpu times
same_feeds first cpu [] [] h = refl
same_feeds first cpu (t ∷ times) (marks ∷ all) h =
    ap₂ (λ (xs ys : List Timed). xs ++ ys)
    (feeds_timed first cpu marks ∙ ap (map (feed_at first cpu)) h.0) (same_feeds first (cpu + 1) times all h.1)
same_feeds first cpu [] (marks ∷ all) h = absurd h
same_feeds first cpu (t ∷ times) [] h = absurd h

max_none : (time : ℕ) → max 0 time ≡ time
max_none time = grind (arith, common_steps)

-- the first time of one CPU before others
abbrev first_before : List ℕ → Option ℕ → Option ℕ
first_before [] other = other
first_before (time ∷ times) other = Some (sooner time other)

first_more : (t : List ℕ) (times : List (List ℕ)) → first_time (t ∷ times) ≡ first_before t (first_time times)
first_more [] times = refl
first_more (time ∷ t) times = refl

first_rising : (t : List ℕ) (other : Option ℕ) → first_before (rising 0 t) other ≡ first_before t other
first_rising [] other = refl
first_rising (time ∷ t) other = ap (λ (n : ℕ). Some (sooner n other)) (max_none time)

same_first : (times : List (List ℕ)) (all : List (List MarkedFrame)) → AreTimed times all
    → first_time (times_left all) ≡ first_time times
same_first [] [] h = refl
same_first (t ∷ times) (marks ∷ all) h =
    ap (λ (q : List ℕ). first_time (q ∷ times_left all)) h.0
    ∙ first_more (rising 0 t) (times_left all)
    ∙ first_rising t (first_time (times_left all))
    ∙ ap (first_before t) (same_first times all h.1)
    ∙ sym (first_more t times)
same_first [] (marks ∷ all) h = absurd h
same_first (t ∷ times) [] h = absurd h

all_feeds : (times : List (List ℕ)) (all : List (List MarkedFrame)) → AreTimed times all
    → feeds_left (first_of all) 0 all ≡ feeds_of times
all_feeds times all h =
    ap (λ (first : Option ℕ). feeds_left (unwrap_or first 0) 0 all) (same_first times all h)
    ∙ same_feeds (unwrap_or (first_time times) 0) 0 times all h

none_given : (count member : ℕ) → member < count → get_or {A = List Arrival} (replicate count []) member [] ≡ []
none_given count member l = get_or-replicate count member [] [] l

-- what is dealt from the marks is what the members are given
pub is_deal : (shape : Shape) (all : List (List MarkedFrame)) (dealt : Dealt) → IsDealtFrom shape all dealt
    → IsDeal shape all dealt
is_deal shape all dealt h = record {
  count = ap length h.members ∙ many;
  members = λ rules room times arriving member s m l.
      let feeds : List Timed = in_order (feeds_left (first_of all) 0 all) in
      ap (λ (members : List (List Arrival)). get_or members member []) h.members
      ∙ all_given shape rules room 0 arriving all feeds (replicate shape.members []) member s
      (only_marks rules room times arriving all m)
      (subst (λ (n : ℕ). member < n) (sym (length-replicate shape.members [])) l)
      ∙ ap (λ (xs : List Arrival). xs ++ arrivals_for member (marked rules room 0 arriving feeds))
      (none_given shape.members member l)
      ∙ ap (λ (items : List Timed). arrivals_for member (marked rules room 0 arriving (in_order items)))
      (all_feeds times all (only_times rules room times arriving all m));
  end = λ rules room times arriving m.
      h.end ∙ ap latest (all_feeds times all (only_times rules room times arriving all m));
}
  where
    many : length (dealt_all shape (first_of all) 0 all (replicate shape.members [])) ≡ shape.members
    many =
        all_as_many shape 0 all (in_order (feeds_left (first_of all) 0 all)) (replicate shape.members [])
        ∙ length-replicate shape.members []
