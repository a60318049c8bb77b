-- A course goes along with a ring of slots, and its statistics are those of the ring.
use Rattle.std.proofs.Common.{◌≡◌, ℕ, ◌+◌, ◌-◌, Bool, true, false, cond, List, [], ◌∷◌, ◌++◌, length, All}
use Rattle.std.proofs.Common.{refl, sym, ap, ◌∙◌, arith}
use Rattle.std.specs.Prelude.{nat_lt, IsTrue}
use Rattle.std.proofs.lemmas.Grind.{common_steps}
use Rattle.std.proofs.lemmas.List.Elements.{All-append, All-cons, All-head, All-nil, All-tail}
use Rattle.std.proofs.lemmas.List.Sums.{sum_by-cons}
use Rattle.ring_events.specs.Happenings.{IsPlain, is_plain}
use Rattle.ring_events.specs.declared.events.Happening.{Happening}
use Rattle.ring_events.specs.declared.events.Happening.TheVariants.{Put, Try, Tick, Read, ReadAll, Count}
use Rattle.ring_model.specs.Fates.{sum_of}
use Rattle.ring_model.specs.KnownReleases.{put_by}
use Rattle.ring_model.specs.Ring.{Size}
use Rattle.ring_model.specs.Rings.{Ring, fresh}
use Rattle.ring_model.specs.declared.notes.Found.TheVariants.{Free, Held}
use Rattle.ring_model.specs.declared.notes.Note.{Note}
use Rattle.ring_model.specs.declared.notes.Note.TheVariants.{Kept, Refused, Dropped, Ticked, Counted, Finished}
use Rattle.ring_model.specs.declared.notes.Offer.{Offer}
use Rattle.ring_model.specs.declared.notes.Stats.{Stats}
use Rattle.ring_sizes.specs.EventLists.{events_of}
use Rattle.ring_sizes.specs.declared.events.Event.{Event}
use Rattle.ring_sizes.proofs.Never.{ring}
use Rattle.slot_layout.specs.SlotFates.{slot_stats_of, slot_stretches_from, slot_totals_of}
use Rattle.slot_layout.specs.SlotReleases.{slot_put_note}
use Rattle.slot_layout.specs.SlotSteps.{SlotState, first_slot_state, slot_after, slot_after_all, slot_state_of}
use Rattle.slot_sizes.specs.SlotCourses.{all_slots_went_on, first_slot_course, slot_course_stats}
use Rattle.slot_sizes.specs.SlotHappenings.{all_slots_happened}
use Rattle.slot_sizes.specs.declared.slot_courses.SlotCourse.{SlotCourse}
use Rattle.slot_sizes.proofs.SlotStates.{one_longer, state_push}

-- ---- a list without tries and statistics

abbrev IsPlainOne : Happening → Type 0
IsPlainOne happening = IsTrue (is_plain happening)

rest_plain : (happening : Happening) (all : List Happening) → IsPlain (happening ∷ all) → IsPlain all
rest_plain happening all h = All-tail IsPlainOne happening all h

no_try : (offer : Offer) (all : List Happening) → IsPlain (Try offer ∷ all) → ⊥
no_try offer all h = let e = All-head IsPlainOne (Try offer) all h in grind (arith, common_steps, e)

no_count : (all : List Happening) → IsPlain (Count ∷ all) → ⊥
no_count all h = let e = All-head IsPlainOne Count all h in grind (arith, common_steps, e)

-- ---- the course of a ring

abbrev course_of : SlotState → ℕ → SlotCourse
course_of s back = record { done = length s.done; released = back; dropped = s.dropped }

put_test : (slots : ℕ) (s : SlotState) (back : ℕ) (offer : Offer) (test : Bool)
    → cond test (record (course_of s back) { dropped = s.dropped + 1 }) (record (course_of s back) { done = length s.done + 1 })
    ≡ course_of (slot_after s (put_by offer (cond test (Held (length s.done + 1 - slots)) Free))) back
put_test slots s back offer true = refl
put_test slots s back offer false =
    ap (λ (n : ℕ). record (course_of s back) { done = n }) (sym (one_longer s.done _))

-- no statistics are taken
abbrev IsUncounted : Note → Type 0
IsUncounted Counted = ⊥
IsUncounted note = Unit {0}

put_plain : (slots : ℕ) (s : SlotState) (offer : Offer) (test : Bool)
    → IsUncounted (put_by offer (cond test (Held (length s.done + 1 - slots)) Free))
put_plain slots s offer true = tt
put_plain slots s offer false = tt

push_plain : (notes : List Note) (note : Note) → All IsUncounted notes → IsUncounted note
    → All IsUncounted (notes ++ note ∷ [])
push_plain notes note h plain =
    All-append IsUncounted notes (note ∷ []) h (All-cons IsUncounted note [] plain (All-nil IsUncounted))

module _ (size : Size) where
  abbrev end : List Happening → List Note → ℕ → Ring
  end all notes back = all_slots_happened all (ring size notes back)

  abbrev put_note : List Note → ℕ → Offer → Note
  put_note notes back offer = slot_put_note size.blocks back (slot_state_of notes) offer

  abbrev Runs : List Happening → List Note → ℕ → Type 0
  Runs all notes back =
      all_slots_went_on size.blocks (events_of all) (course_of (slot_state_of notes) back)
      ≡ course_of (slot_state_of (end all notes back).notes) (end all notes back).released

  read_runs : (all : List Happening) (notes : List Note) (back : ℕ) (more : Bool) → ((to : ℕ) → Runs all notes to)
      → all_slots_went_on size.blocks (events_of all)
      (cond more (record (course_of (slot_state_of notes) back) { released = back + 1 }) (course_of (slot_state_of notes) back))
      ≡ (let last = all_slots_happened all (cond more (ring size notes (back + 1)) (ring size notes back)) in
      course_of (slot_state_of last.notes) last.released)
  read_runs all notes back true rest = rest (back + 1)
  read_runs all notes back false rest = rest back

  runs : (all : List Happening) (notes : List Note) (back : ℕ) → IsPlain all → Runs all notes back
  runs [] notes back plain = refl
  runs (Put offer ∷ all) notes back plain =
      ap (all_slots_went_on size.blocks (events_of all))
      (put_test size.blocks (slot_state_of notes) back offer (nat_lt back (length (slot_state_of notes).done + 1 - size.blocks))
      ∙ ap (λ (s : SlotState). course_of s back) (sym (state_push notes (put_note notes back offer))))
      ∙ runs all (notes ++ put_note notes back offer ∷ []) back (rest_plain (Put offer) all plain)
  runs (Try offer ∷ all) notes back plain = absurd (no_try offer all plain)
  runs (Tick ms ∷ all) notes back plain = runs all notes back (rest_plain (Tick ms) all plain)
  runs (Read ∷ all) notes back plain =
      read_runs all notes back (nat_lt back (length (slot_state_of notes).done))
      (λ to. runs all notes to (rest_plain Read all plain))
  runs (ReadAll ∷ all) notes back plain =
      runs all notes (length (slot_state_of notes).done) (rest_plain ReadAll all plain)
  runs (Count ∷ all) notes back plain = absurd (no_count all plain)

  read_plain : (all : List Happening) (notes : List Note) (back : ℕ) (more : Bool)
      → ((to : ℕ) → All IsUncounted (end all notes to).notes)
      → All IsUncounted (all_slots_happened all (cond more (ring size notes (back + 1)) (ring size notes back))).notes
  read_plain all notes back true rest = rest (back + 1)
  read_plain all notes back false rest = rest back

  all_plain : (all : List Happening) (notes : List Note) (back : ℕ) → IsPlain all → All IsUncounted notes
      → All IsUncounted (end all notes back).notes
  all_plain [] notes back plain h = h
  all_plain (Put offer ∷ all) notes back plain h =
      let note = put_note notes back offer in
      all_plain all (notes ++ note ∷ []) back (rest_plain (Put offer) all plain)
      (push_plain notes note h (put_plain size.blocks (slot_state_of notes) offer
      (nat_lt back (length (slot_state_of notes).done + 1 - size.blocks))))
  all_plain (Try offer ∷ all) notes back plain h = absurd (no_try offer all plain)
  all_plain (Tick ms ∷ all) notes back plain h = all_plain all notes back (rest_plain (Tick ms) all plain) h
  all_plain (Read ∷ all) notes back plain h =
      read_plain all notes back (nat_lt back (length (slot_state_of notes).done))
      (λ to. all_plain all notes to (rest_plain Read all plain) h)
  all_plain (ReadAll ∷ all) notes back plain h =
      all_plain all notes (length (slot_state_of notes).done) (rest_plain ReadAll all plain) h
  all_plain (Count ∷ all) notes back plain h = absurd (no_count all plain)

-- ---- statistics of one stretch

one_stretch : (s : SlotState) (notes : List Note) → All IsUncounted notes
    → slot_stretches_from s notes ≡ slot_stats_of (slot_after_all s notes) ∷ []
one_stretch s [] h = refl
one_stretch s (Kept offer found ∷ notes) h =
    one_stretch (slot_after s (Kept offer found)) notes (All-tail IsUncounted (Kept offer found) notes h)
one_stretch s (Refused cpu index need number ∷ notes) h =
    one_stretch s notes (All-tail IsUncounted (Refused cpu index need number) notes h)
one_stretch s (Dropped cpu index need number ∷ notes) h =
    one_stretch (slot_after s (Dropped cpu index need number)) notes
    (All-tail IsUncounted (Dropped cpu index need number) notes h)
one_stretch s (Ticked ms found ∷ notes) h = one_stretch s notes (All-tail IsUncounted (Ticked ms found) notes h)
one_stretch s (Counted ∷ notes) h = absurd (All-head IsUncounted Counted notes h)
one_stretch s (Finished ∷ notes) h = one_stretch s notes (All-tail IsUncounted Finished notes h)

-- as many are kept as there are filled slots
kept_all : (s : SlotState) (notes : List Note) → All IsUncounted notes → s.kept ≡ length s.done
    → (slot_after_all s notes).kept ≡ length (slot_after_all s notes).done
kept_all s [] h e = e
kept_all s (Kept offer found ∷ notes) h e =
    kept_all (slot_after s (Kept offer found)) notes (All-tail IsUncounted (Kept offer found) notes h)
    (ap (λ (n : ℕ). n + 1) e ∙ sym (one_longer s.done _))
kept_all s (Refused cpu index need number ∷ notes) h e =
    kept_all s notes (All-tail IsUncounted (Refused cpu index need number) notes h) e
kept_all s (Dropped cpu index need number ∷ notes) h e =
    kept_all (slot_after s (Dropped cpu index need number)) notes (All-tail IsUncounted (Dropped cpu index need number) notes h)
    e
kept_all s (Ticked ms found ∷ notes) h e = kept_all s notes (All-tail IsUncounted (Ticked ms found) notes h) e
kept_all s (Counted ∷ notes) h e = absurd (All-head IsUncounted Counted notes h)
kept_all s (Finished ∷ notes) h e = kept_all s notes (All-tail IsUncounted Finished notes h) e

same_stats : (packets drops freezes p d f : ℕ) → packets ≡ p → drops ≡ d → freezes ≡ f
    → let one : Stats = record { packets = packets; drops = drops; freezes = freezes } in
    let other : Stats = record { packets = p; drops = d; freezes = f } in
    one ≡ other
same_stats packets drops freezes p d f a b c = cc (a, b, c)

sum_one : (stats : Stats) → sum_of (stats ∷ []) ≡ stats
sum_one stats =
    same_stats _ _ _ stats.packets stats.drops stats.freezes
    (omega (arith, sum_by-cons (λ (s : Stats). s.packets) stats []))
    (omega (arith, sum_by-cons (λ (s : Stats). s.drops) stats []))
    (omega (arith, sum_by-cons (λ (s : Stats). s.freezes) stats []))

totals_are : (notes : List Note) (back : ℕ) → All IsUncounted notes
    → slot_course_stats (course_of (slot_state_of notes) back) ≡ slot_totals_of notes
totals_are notes back h =
    let s = slot_state_of notes in
    same_stats _ _ _ (s.kept + s.dropped) s.dropped 0
    (ap (λ (n : ℕ). n + s.dropped) (sym (kept_all first_slot_state notes h refl))) refl refl
    ∙ sym (ap sum_of (one_stretch first_slot_state notes h) ∙ sum_one (slot_stats_of s))

pub totals_at : (size : Size) (all : List Happening) (items : List Event) (stats : Stats) → events_of all ≡ items → IsPlain all
    → stats ≡ slot_course_stats (all_slots_went_on size.blocks items first_slot_course)
    → stats ≡ slot_totals_of (all_slots_happened all (fresh size)).notes
totals_at size all items stats same plain is =
    is
    ∙ ap (λ (items : List Event). slot_course_stats (all_slots_went_on size.blocks items first_slot_course)) (sym same)
    ∙ ap slot_course_stats (runs size all [] 0 plain)
    ∙ totals_are (all_slots_happened all (fresh size)).notes (all_slots_happened all (fresh size)).released
    (all_plain size all [] 0 plain (All-nil IsUncounted))
