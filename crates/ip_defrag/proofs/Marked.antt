-- The marks of a datagram's units: what one says, and what is marked for one more frame.
use Rattle.std.proofs.Common.{◌≡◌, ℕ, zero, suc, ◌+◌, ◌-◌, ◌*◌, ◌/◌, ◌<◌, ◌≤◌, min, true, false, List, [], ◌∷◌}
use Rattle.std.proofs.Common.{◌++◌, length, take, drop, replicate, get_or, find, nat_lt, cond, None, Some, arith, refl, ap, sym}
use Rattle.std.proofs.Common.{subst, ◌∙◌, inl, inr, length-append, length-drop}
use Rattle.std.proofs.lemmas.Bool.{cases_lt, or_parts, ltb-true, ltb-false}
use Rattle.std.proofs.lemmas.Bool.Decides.{nat_tests}
use Rattle.std.proofs.Math.ListN.{drop_of_length-le}
use Rattle.std.proofs.Math.Seq.{take-length}
use Rattle.std.proofs.lemmas.List.{append-nil, get_or_append_left, get_or-append_right, get_or-drop, get_or-replicate}
use Rattle.std.proofs.lemmas.List.{get_or-take, length-replicate, length-take, length-take-le, take_more}
use Rattle.std.proofs.lemmas.Option.{same_Some, none-some}
use Rattle.frame_view.specs.declared.frames.Frame.{Frame}
use Rattle.ip_defrag.specs.Datagrams.{covers, is_covered}
use Rattle.ip_defrag.specs.Extents.{reach_of}
use Rattle.ip_defrag.specs.Fragments.{from_of, to_of}
use Rattle.ip_defrag.specs.Held.{AreHeld}
use Rattle.ip_defrag.specs.Marks.{AreMarked, AreMarks, holder, marked, own_marks, units_to}
use Rattle.ip_defrag.specs.declared.marks.UnitOwners.{UnitOwners}
use Rattle.ip_defrag.proofs.Cases.{by_cases}
use Rattle.ip_defrag.proofs.Kept.{reach_push}
use Rattle.ip_defrag.proofs.Spliced.{get_or-spliced, length-spliced}
use Rattle.ip_defrag.proofs.Filled.{held_take, last_alone}

-- a unit and its first place
pub unit_of_from : (frame : Frame) → 8 * (from_of frame / 8) ≡ from_of frame
unfolding from_of
unit_of_from frame = omega arith

-- none has a place past the end of all
past_reach : (frames : List Frame) (place : ℕ) → reach_of frames ≤ place → is_covered frames place ≡ false
past_reach [] place past = refl
past_reach (frame ∷ frames) place past =
    let here : covers frame place ≡ false = grind (arith, nat_tests) in
    rw here (past_reach frames place (omega (arith, past)))

-- who has a place
none_holds : (before : ℕ) (frames : List Frame) (place : ℕ) → is_covered frames place ≡ false → holder before frames place ≡ 0
none_holds before [] place none = refl
none_holds before (frame ∷ frames) place none =
    let parts = or_parts (covers frame place) (is_covered frames place) none in
    rw parts.0 (none_holds (before + 1) frames place parts.1)

not_held : (before : ℕ) (frames : List Frame) (place : ℕ) → holder before frames place ≡ 0 → is_covered frames place ≡ false
not_held before [] place none = refl
not_held before (frame ∷ frames) place none =
    by_cases (covers frame place) (λ is. let some : before + 1 ≡ 0 = simp is at none in absurd (omega arith))
    (λ is. simp is (not_held (before + 1) frames place (simp is at none)))

pub record Holds (before : ℕ) (frames : List Frame) (place mark : ℕ) : Type 0 where
  pub after : before < mark
  pub within : mark - 1 - before < length frames
  pub covers_it : (d : Frame) → covers (get_or frames (mark - 1 - before) d) place ≡ true

holds : (before : ℕ) (frames : List Frame) (place mark : ℕ) → holder before frames place ≡ mark → 0 < mark
    → Holds before frames place mark
holds before [] place mark is some = absurd (omega (arith, is, some))
holds before (frame ∷ frames) place mark is some =
    by_cases (covers frame place)
    (λ here.
    let mine : before + 1 ≡ mark = simp here at is in
    let first : mark - 1 - before ≡ 0 = omega arith in
    record { after = omega arith; within = omega (arith, first); covers_it = λ d. rw first here })
    (λ here.
    let h = holds (before + 1) frames place mark (simp here at is) some in
    let after = h.after in
    let within = h.within in
    let next : mark - 1 - before ≡ suc (mark - 1 - (before + 1)) = omega (arith, after) in
    record { after = omega (arith, after); within = omega (arith, next, within); covers_it = λ d. rw next (h.covers_it d) })

-- one more frame
holder_other : (before : ℕ) (frames : List Frame) (new : Frame) (place : ℕ) → covers new place ≡ false
    → holder before (frames ++ new ∷ []) place ≡ holder before frames place
holder_other before [] new place there = rw there refl
holder_other before (frame ∷ frames) new place there =
    ap (cond (covers frame place) (before + 1)) (holder_other (before + 1) frames new place there)

holder_new : (before : ℕ) (frames : List Frame) (new : Frame) (place : ℕ) → is_covered frames place ≡ false
    → covers new place ≡ true → holder before (frames ++ new ∷ []) place ≡ before + length frames + 1
holder_new before [] new place none here = rw here (omega arith)
holder_new before (frame ∷ frames) new place none here =
    let parts = or_parts (covers frame place) (is_covered frames place) none in
    rw parts.0 (holder_new (before + 1) frames new place parts.1 here ∙ omega arith)

-- marks of units that nobody has
pub wider : (marks : List ℕ) (frames : List Frame) (more : ℕ) → AreMarks marks frames
    → AreMarks (marks ++ replicate more 0) frames
wider marks frames more are =
    let all = length-append marks (replicate more 0) in
    let count = length-replicate {A = ℕ} more 0 in
    let reach = are.all in
    record {
      each = λ unit within. elim (cases_lt unit (length marks)) [
        | inl before ↦ get_or_append_left marks (replicate more 0) 0 unit before ∙ are.each unit before
        | inr after ↦
            get_or-append_right marks (replicate more 0) (length marks) unit 0 refl after
            ∙ get_or-replicate more (unit - length marks) 0 0 (omega (arith, within, all, count, after))
            ∙ sym (none_holds 0 frames (8 * unit) (past_reach frames (8 * unit) (omega (arith, after, reach))))
      ];
      all = omega (arith, all, reach);
    }

pub marks_none : AreMarks [] []
marks_none = record { each = λ unit within. absurd (omega (arith, within)); all = omega arith }

-- a number at each unit in which one more frame has places
pub length-marked : (marks : List ℕ) (first last number : ℕ) → first ≤ last → last ≤ length marks
    → length (marked first last number marks) ≡ length marks
length-marked marks first last number order within =
    let count = length-replicate {A = ℕ} (last - first) number in
    length-spliced marks (replicate (last - first) number) first last order within count

pub marks_push : (marks : List ℕ) (frames : List Frame) (new : Frame) (first last : ℕ) → AreMarks marks frames
    → AreHeld (frames ++ new ∷ [])
    → 8 * first ≡ from_of new → from_of new < to_of new → to_of new ≤ 8 * last → 8 * last < to_of new + 8 → last ≤ length marks
    → AreMarks (marked first last (length frames + 1) marks) (frames ++ new ∷ [])
marks_push marks frames new first last are held begins some ends tight within =
    let order : first ≤ last = omega (arith, begins, some, ends) in
    let fits = length-replicate {A = ℕ} (last - first) (length frames + 1) in
    let same = length-marked marks first last (length frames + 1) order within in
    let reach = reach_push frames new in
    let before = are.all in
    record {
      each = λ unit h. get_or-spliced marks (replicate (last - first) (length frames + 1)) first last order within fits
          (λ k. holder 0 (frames ++ new ∷ []) (8 * k))
          (λ k low.
          let there : covers new (8 * k) ≡ false = grind (arith, nat_tests) in
          are.each k (omega (arith, order, within)) ∙ sym (holder_other 0 frames new (8 * k) there))
          (λ k low high.
          let here : covers new (8 * k) ≡ true = grind (arith, nat_tests) in
          let whole : 0 + length frames + 1 ≡ length frames + 1 = omega arith in
          get_or-replicate (last - first) (k - first) (length frames + 1) 0 (omega (arith, low, high))
          ∙ sym (holder_new 0 frames new (8 * k) (last_alone frames new (8 * k) held here) here ∙ whole))
          (λ k low high.
          let there : covers new (8 * k) ≡ false = grind (arith, nat_tests) in
          are.each k high ∙ sym (holder_other 0 frames new (8 * k) there))
          unit (omega (arith, h, same));
      all = omega (arith, reach, before, same, ends, within);
    }

-- what is found among some marks
record IsFound (marks : List ℕ) (mark : ℕ) : Type 0 where
  pub unit : ℕ
  pub within : unit < length marks
  pub is : get_or marks unit 0 ≡ mark
  pub some : 0 < mark

found_mark : (marks : List ℕ) (mark : ℕ) → find (λ mark. nat_lt 0 mark) marks ≡ Some mark → IsFound marks mark
found_mark [] mark e = absurd (none-some mark e)
found_mark (first ∷ marks) mark e =
    by_cases (nat_lt 0 first)
    (λ some.
    let same = same_Some _ _ (simp some at e) in
    let more = ltb-true 0 first some in
    record { unit = 0; within = omega arith; is = same; some = omega (arith, same, more) })
    (λ none.
    let f = found_mark marks mark (simp none at e) in
    let within = f.within in
    record { unit = suc f.unit; within = omega (arith, within); is = f.is; some = f.some })

no_mark : (marks : List ℕ) → find (λ mark. nat_lt 0 mark) marks ≡ None → (unit : ℕ) → unit < length marks
    → get_or marks unit 0 ≡ 0
no_mark [] e unit h = absurd (omega arith)
no_mark (first ∷ marks) e zero h = by_cases (nat_lt 0 first) (λ some. absurd (none-some first (sym (simp some at e))))
    (λ none. let less = ltb-false 0 first none in omega (arith, less))
no_mark (first ∷ marks) e (suc unit) h = by_cases (nat_lt 0 first) (λ some. absurd (none-some first (sym (simp some at e))))
    (λ none. no_mark marks (simp none at e) unit (omega arith))

-- the mark of a unit, among those in which a frame has places
own_mark : (marks : List ℕ) (frame : Frame) (unit : ℕ) → from_of frame / 8 ≤ unit → unit < units_to (to_of frame)
    → get_or (own_marks frame marks) (unit - from_of frame / 8) 0 ≡ get_or marks unit 0
own_mark marks frame unit low high =
    let first = from_of frame / 8 in
    let place : first + (unit - first) ≡ unit = omega (arith, low) in
    get_or-take (units_to (to_of frame) - first) (drop first marks) (unit - first) 0 (omega (arith, low, high))
    ∙ get_or-drop first marks (unit - first) 0
    ∙ ap (λ (j : ℕ). get_or marks j 0) place

length-own : (marks : List ℕ) (frame : Frame) (unit : ℕ) → unit < length (own_marks frame marks)
    → (from_of frame / 8 + unit < length marks) × (from_of frame / 8 + unit < units_to (to_of frame))
length-own marks frame unit h =
    let cut = length-take (units_to (to_of frame) - from_of frame / 8) (drop (from_of frame / 8) marks) in
    let rest = length-drop (from_of frame / 8) marks in
    (omega (arith, cut, rest, h), omega (arith, cut, rest, h))

-- if no unit of a frame is marked, none of its places is held at a unit's first place
pub none_met : (marks : List ℕ) (frames : List Frame) (new : Frame) (unit : ℕ) → AreMarks marks frames
    → find (λ mark. nat_lt 0 mark) (own_marks new marks) ≡ None
    → from_of new ≤ 8 * unit → 8 * unit < to_of new → is_covered frames (8 * unit) ≡ false
none_met marks frames new unit are none low high =
    let begins = unit_of_from new in
    elim (cases_lt unit (length marks)) [
      | inl within ↦
          let first : from_of new / 8 ≤ unit = omega (arith, begins, low) in
          let last : unit < units_to (to_of new) = omega (arith, high) in
          let cut = length-take (units_to (to_of new) - from_of new / 8) (drop (from_of new / 8) marks) in
          let rest = length-drop (from_of new / 8) marks in
          let zero = no_mark (own_marks new marks) none (unit - from_of new / 8)
          (omega (arith, cut, rest, first, last, within)) in
          not_held 0 frames (8 * unit) (sym (are.each unit within) ∙ sym (own_mark marks new unit first last) ∙ zero)
      | inr past ↦ let reach = are.all in past_reach frames (8 * unit) (omega (arith, past, reach))
    ]

-- a mark is the number of a frame that has a place of the new one
pub record IsMet (frames : List Frame) (new : Frame) (mark : ℕ) : Type 0 where
  pub some : 0 < mark
  pub within : mark - 1 < length frames
  pub unit : ℕ
  pub low : from_of new ≤ 8 * unit
  pub high : 8 * unit < to_of new
  pub covers_it : (d : Frame) → covers (get_or frames (mark - 1) d) (8 * unit) ≡ true

pub one_met : (marks : List ℕ) (frames : List Frame) (new : Frame) (mark : ℕ) → AreMarks marks frames
    → find (λ mark. nat_lt 0 mark) (own_marks new marks) ≡ Some mark → IsMet frames new mark
one_met marks frames new mark are e =
    let f = found_mark (own_marks new marks) mark e in
    let begins = unit_of_from new in
    let bounds = length-own marks new f.unit f.within in
    let unit = from_of new / 8 + f.unit in
    let back : unit - from_of new / 8 ≡ f.unit = omega arith in
    let is : get_or marks unit 0 ≡ mark =
    sym (own_mark marks new unit (omega arith) bounds.1) ∙ ap (λ (j : ℕ). get_or (own_marks new marks) j 0) back ∙ f.is in
    let h = holds 0 frames (8 * unit) mark (sym (are.each unit bounds.0) ∙ is) f.some in
    let none : mark - 1 - 0 ≡ mark - 1 = omega arith in
    let within = h.within in
    let past = bounds.1 in
    record {
      some = f.some;
      within = omega (arith, within);
      unit = unit;
      low = omega (arith, begins);
      high = omega (arith, past);
      covers_it = λ d. subst (λ (n : ℕ). covers (get_or frames n d) (8 * unit) ≡ true) none (h.covers_it d);
    }

-- what is read of the marks is those of the frame's own units
take_min : (count : ℕ) (xs : List ℕ) → take (min count (length xs)) xs ≡ take count xs
take_min zero xs = let none : min 0 (length xs) ≡ 0 = omega arith in rw none refl
take_min (suc count) [] = let none : min (suc count) 0 ≡ 0 = omega arith in rw none refl
take_min (suc count) (x ∷ xs) =
    let next : min (suc count) (suc (length xs)) ≡ suc (min count (length xs)) = omega arith in
    rw next (ap (λ (rest : List ℕ). x ∷ rest) (take_min count xs))

pub own_read : (marks rest own : List ℕ) (frame : Frame) (from to units count : ℕ) → from ≡ from_of frame → to ≡ to_of frame
    → units ≡ units_to to
    → rest ≡ drop (from / 8) marks → count ≡ min (units - from / 8) (length rest) → own ≡ take count rest
    → own ≡ own_marks frame marks
own_read marks rest own frame from to units count begins ends all behind fewer front =
    front ∙ ap (λ (n : ℕ). take n rest) fewer ∙ take_min (units - from / 8) rest
    ∙ cc (begins, ends, all, behind)

-- the marks after one more frame was marked, if they were made wide enough
lent : (count : ℕ) (new old : List ℕ) → length new ≡ count → length old ≡ count
    → take count (new ++ drop (length new) old) ≡ new
lent count new old whole same =
    let none : drop (length new) old ≡ [] = drop_of_length-le old (omega arith) in
    rw (none, append-nil) (ap (λ (n : ℕ). take n new) (sym whole) ∙ take-length new)

pub marks_after : (marks wide new_marks : List ℕ) (frames : List Frame) (new : Frame) (from to last number len : ℕ)
    → AreMarks marks frames → AreHeld (frames ++ new ∷ [])
    → from_of new < to_of new → from ≡ from_of new → to ≡ to_of new → last ≡ units_to to → number ≡ length frames + 1
    → wide ≡ marks ++ replicate (last - length marks) 0 → length wide ≡ len → new_marks ≡ marked (from / 8) last number wide
    → AreMarks (take len (new_marks ++ drop (length new_marks) wide)) (frames ++ new ∷ [])
marks_after marks wide new_marks frames new from to last number len are held some begins ends all count padded same is =
    let first = unit_of_from new in
    let start : 8 * (from / 8) ≡ from_of new = omega (arith, first, begins) in
    let end : to_of new ≤ 8 * last = omega (arith, ends, all) in
    let tight : 8 * last < to_of new + 8 = omega (arith, ends, all) in
    let long = length-append marks (replicate (last - length marks) 0) in
    let zeros = length-replicate {A = ℕ} (last - length marks) 0 in
    let whole = ap length padded in
    let within : last ≤ length wide = omega (arith, long, zeros, whole) in
    let order : from / 8 ≤ last = omega (arith, start, some, end) in
    let wide_are : AreMarks wide frames =
    subst (λ (ms : List ℕ). AreMarks ms frames) (sym padded) (wider marks frames (last - length marks) are) in
    let after = marks_push wide frames new (from / 8) last wide_are held start some end tight within in
    let as_long : length new_marks ≡ len = ap length is ∙ length-marked wide (from / 8) last number order within ∙ same in
    subst (λ (ms : List ℕ). AreMarks ms (frames ++ new ∷ []))
    (ap (λ (n : ℕ). marked (from / 8) last n wide) (sym count) ∙ sym is ∙ sym (lent len new_marks wide as_long same)) after

-- marks of no frame, of any frames
pub marked_none : (marks : UnitOwners) (frames : List Frame) → marks.units.items ≡ [] → marks.count ≡ 0 → AreMarked marks frames
marked_none marks frames none few = record {
  few = omega (arith, few);
  are = rw (none, few) marks_none;
}

-- the same marks, of one more frame
take_before : (count : ℕ) (frames : List Frame) (new : Frame) → count ≤ length frames
    → take count (frames ++ new ∷ []) ≡ take count frames
take_before zero frames new few = refl
take_before (suc count) [] new few = absurd (omega (arith, few))
take_before (suc count) (frame ∷ frames) new few =
    ap (λ (fs : List Frame). frame ∷ fs) (take_before count frames new (omega (arith, few)))

pub marked_more : (marks : UnitOwners) (frames : List Frame) (new : Frame) → AreMarked marks frames
    → AreMarked marks (frames ++ new ∷ [])
marked_more marks frames new are =
    let few = are.few in
    let all = length-append frames (new ∷ []) in
    record {
      few = omega (arith, few, all);
      are = rw (take_before marks.count frames new few) are.are;
    }

-- the marks after the next frame was marked
pub marked_next : (marks : UnitOwners) (wide new_marks : List ℕ) (frames : List Frame) (new : Frame) (from to last len : ℕ)
    → AreMarked marks frames → AreHeld frames
    → marks.count < length frames → new ≡ get_or frames marks.count new → from_of new < to_of new → from ≡ from_of new
    → to ≡ to_of new → last ≡ units_to to
    → wide ≡ marks.units.items ++ replicate (last - length marks.units.items) 0 → length wide ≡ len
    → new_marks ≡ marked (from / 8) last (marks.count + 1) wide
    → AreMarks (take len (new_marks ++ drop (length new_marks) wide)) (take (marks.count + 1) frames)
marked_next marks wide new_marks frames new from to last len are held below is some begins ends all padded same made =
    let before = take marks.count frames in
    let few = are.few in
    let as_many = length-take-le marks.count frames few in
    let more : take (marks.count + 1) frames ≡ before ++ new ∷ [] =
    take_more frames marks.count new below ∙ ap (λ (f : Frame). before ++ f ∷ []) (sym is) in
    let these : AreHeld (before ++ new ∷ []) = subst AreHeld more (held_take frames (marks.count + 1) held) in
    let number : marks.count + 1 ≡ length before + 1 = omega (arith, as_many) in
    rw more (marks_after marks.units.items wide new_marks before new from to last (marks.count + 1) len are.are these some
    begins ends all number padded same made)
