-- A course goes along with a ring over all that happens, and its statistics are those of the ring.
use Rattle.std.proofs.Common.{◌≡◌, ℕ, ◌+◌, ◌<◌, ◌≤◌, Bool, true, false, cond, List, [], ◌∷◌, ◌++◌, length, All, get_or}
use Rattle.std.proofs.Common.{drop}
use Rattle.std.proofs.Common.{refl, sym, ap, ◌∙◌, arith, drop-cons, add-one}
use Rattle.std.specs.Prelude.{nat_lt, IsTrue}
use Rattle.std.proofs.lemmas.Grind.{common_steps}
use Rattle.std.proofs.lemmas.List.{drop_all}
use Rattle.std.proofs.lemmas.List.Elements.{All-append, All-cons, All-head, All-nil, All-tail}
use Rattle.std.proofs.lemmas.List.Sums.{sum_by-cons}
use Rattle.ring_model.specs.Fates.{stats_of, stretches_from, sum_of, totals_of}
use Rattle.ring_model.specs.KnownReleases.{put_by, put_note, tick_note}
use Rattle.ring_model.specs.Ring.{Size, State, after, after_all, first_state, state_of}
use Rattle.ring_model.specs.Rings.{Ring, fresh}
use Rattle.ring_model.specs.declared.notes.Found.{Found}
use Rattle.ring_model.specs.declared.notes.Found.TheVariants.{NotAsked, Free, Held}
use Rattle.ring_model.specs.declared.notes.Note.{Note}
use Rattle.ring_model.specs.declared.notes.Note.TheVariants.{Kept, Refused, Dropped, Ticked, Counted, Finished}
use Rattle.ring_model.specs.declared.notes.Offer.{Offer}
use Rattle.ring_model.specs.declared.notes.Stats.{Stats}
use Rattle.ring_sizes.specs.Courses.{all_went_on, course_stats, first_course}
use Rattle.ring_sizes.specs.Courses.{went_on}
use Rattle.ring_events.specs.Happenings.{IsPlain, all_happened, is_plain}
use Rattle.ring_events.specs.declared.events.Happening.{Happening}
use Rattle.ring_events.specs.declared.events.Happening.TheVariants.{Put, Try, Tick, Read, ReadAll, Count}
use Rattle.ring_sizes.specs.EventLists.{events_of}
use Rattle.ring_sizes.specs.declared.courses.Course.{Course}
use Rattle.ring_sizes.specs.declared.events.Event.{Event}
use Rattle.ring_sizes.proofs.Never.{after_all-push, ring}
use Rattle.ring_sizes.proofs.CourseSteps.{course_of, put_goes, tick_goes}

-- ---- a list without tries and statistics

abbrev IsPlainOne : Happening → Type 0
IsPlainOne happening = IsTrue (is_plain happening)

rest_plain : (happening : Happening) (all : List Happening) → IsPlain (happening ∷ all) → IsPlain all
rest_plain happening all h = All-tail IsPlainOne happening all h

no_try : (offer : Offer) (all : List Happening) → IsPlain (Try offer ∷ all) → ⊥
no_try offer all h = let e = All-head IsPlainOne (Try offer) all h in grind (arith, common_steps, e)

no_count : (all : List Happening) → IsPlain (Count ∷ all) → ⊥
no_count all h = let e = All-head IsPlainOne Count all h in grind (arith, common_steps, e)

module _ (size : Size) where
  abbrev end : List Happening → List Note → ℕ → Ring
  end all notes back = all_happened all (ring size notes back)

  abbrev Runs : List Happening → List Note → ℕ → Type 0
  Runs all notes back =
      all_went_on size.room size.blocks size.tov (events_of all) (course_of (state_of size notes) back)
      ≡ course_of (state_of size (end all notes back).notes) (end all notes back).released

  noted_runs : (all : List Happening) (notes : List Note) (back : ℕ) (note : Note) (later : Course)
      → later ≡ course_of (after size (state_of size notes) note) back → Runs all (notes ++ note ∷ []) back
      → all_went_on size.room size.blocks size.tov (events_of all) later
      ≡ course_of (state_of size (end all (notes ++ note ∷ []) back).notes) (end all (notes ++ note ∷ []) back).released
  noted_runs all notes back note later e rest =
      ap (all_went_on size.room size.blocks size.tov (events_of all))
      (e ∙ ap (λ (s : State). course_of s back) (sym (after_all-push size (first_state size) notes note)))
      ∙ rest

  read_runs : (all : List Happening) (notes : List Note) (back : ℕ) (more : Bool) → ((to : ℕ) → Runs all notes to)
      → all_went_on size.room size.blocks size.tov (events_of all)
      (cond more (record (course_of (state_of size notes) back) { released = back + 1 }) (course_of (state_of size notes) back))
      ≡ (let last = all_happened all (cond more (ring size notes (back + 1)) (ring size notes back)) in
      course_of (state_of size last.notes) last.released)
  read_runs all notes back true rest = rest (back + 1)
  read_runs all notes back false rest = rest back

  pub runs : (all : List Happening) (notes : List Note) (back : ℕ) → IsPlain all → Runs all notes back
  runs [] notes back plain = refl
  runs (Put offer ∷ all) notes back plain =
      noted_runs all notes back (put_note size back (state_of size notes) offer) _ (put_goes size
      (state_of size notes) back offer)
      (runs all (notes ++ put_note size back (state_of size notes) offer ∷ []) back (rest_plain (Put offer) all plain))
  runs (Try offer ∷ all) notes back plain = absurd (no_try offer all plain)
  runs (Tick ms ∷ all) notes back plain =
      noted_runs all notes back (tick_note size back (state_of size notes) ms) _ (tick_goes size (state_of size notes) back ms)
      (runs all (notes ++ tick_note size back (state_of size notes) ms ∷ []) back (rest_plain (Tick ms) all plain))
  runs (Read ∷ all) notes back plain =
      read_runs all notes back (nat_lt back (length (state_of size notes).done))
      (λ to. runs all notes to (rest_plain Read all plain))
  runs (ReadAll ∷ all) notes back plain =
      runs all notes (length (state_of size notes).done) (rest_plain ReadAll all plain)
  runs (Count ∷ all) notes back plain = absurd (no_count all plain)

  -- ---- no statistics are taken on the way

  abbrev pub IsUncounted : Note → Type 0
  IsUncounted Counted = ⊥
  IsUncounted note = Unit {0}

  one_stretch : (s : State) (notes : List Note) → All IsUncounted notes
      → stretches_from size s notes ≡ stats_of (after_all size s notes) ∷ []
  one_stretch s [] h = refl
  one_stretch s (Kept offer found ∷ notes) h = one_stretch (after size s (Kept offer found)) notes (All-tail IsUncounted
      (Kept offer found) notes h)
  one_stretch s (Refused cpu index need number ∷ notes) h = one_stretch s notes (All-tail IsUncounted (Refused cpu index need
      number) notes h)
  one_stretch s (Dropped cpu index need number ∷ notes) h =
      one_stretch (after size s (Dropped cpu index need number)) notes (All-tail IsUncounted
      (Dropped cpu index need number) notes
      h)
  one_stretch s (Ticked ms found ∷ notes) h = one_stretch (after size s (Ticked ms found)) notes (All-tail IsUncounted
      (Ticked ms
      found) notes h)
  one_stretch s (Counted ∷ notes) h = absurd (All-head IsUncounted Counted notes h)
  one_stretch s (Finished ∷ notes) h = one_stretch (after size s Finished) notes (All-tail IsUncounted Finished notes h)

  pub put_plain : (offer : Offer) (found : Found) → IsUncounted (put_by offer found)
  put_plain offer NotAsked = tt
  put_plain offer Free = tt
  put_plain offer (Held number) = tt

  pub push_plain : (notes : List Note) (note : Note) → All IsUncounted notes → IsUncounted note
      → All IsUncounted (notes ++ note ∷ [])
  push_plain notes note h plain = All-append IsUncounted notes (note ∷ []) h (All-cons IsUncounted note [] plain
      (All-nil IsUncounted))

  read_plain : (all : List Happening) (notes : List Note) (back : ℕ) (more : Bool)
      → ((to : ℕ) → All IsUncounted (end all notes to).notes)
      → All IsUncounted (all_happened all (cond more (ring size notes (back + 1)) (ring size notes back))).notes
  read_plain all notes back true rest = rest (back + 1)
  read_plain all notes back false rest = rest back

  all_plain : (all : List Happening) (notes : List Note) (back : ℕ) → IsPlain all → All IsUncounted notes
      → All IsUncounted (end all notes back).notes
  all_plain [] notes back plain h = h
  all_plain (Put offer ∷ all) notes back plain h =
      let note = put_note size back (state_of size notes) offer in
      all_plain all (notes ++ note ∷ []) back (rest_plain (Put offer) all plain)
      (push_plain notes note h (put_plain offer _))
  all_plain (Try offer ∷ all) notes back plain h = absurd (no_try offer all plain)
  all_plain (Tick ms ∷ all) notes back plain h =
      let note = tick_note size back (state_of size notes) ms in
      all_plain all (notes ++ note ∷ []) back (rest_plain (Tick ms) all plain) (push_plain notes note h tt)
  all_plain (Read ∷ all) notes back plain h =
      read_plain all notes back (nat_lt back (length (state_of size notes).done))
      (λ to. all_plain all notes to (rest_plain Read all plain) h)
  all_plain (ReadAll ∷ all) notes back plain h =
      all_plain all notes (length (state_of size notes).done) (rest_plain ReadAll all plain) h
  all_plain (Count ∷ all) notes back plain h = absurd (no_count all plain)

  same_stats : (packets drops freezes p d f : ℕ) → packets ≡ p → drops ≡ d → freezes ≡ f
      → let one : Stats = record { packets = packets; drops = drops; freezes = freezes } in
      let other : Stats = record { packets = p; drops = d; freezes = f } in
      one ≡ other
  same_stats packets drops freezes p d f a b c = cc (a, b, c)

  sum_one : (stats : Stats) → sum_of (stats ∷ []) ≡ stats
  sum_one stats =
      same_stats _ _ _ stats.packets stats.drops stats.freezes
      (omega (arith, sum_by-cons (λ (s : Stats). s.packets) stats []))
      (omega (arith, sum_by-cons (λ (s : Stats). s.drops) stats []))
      (omega (arith, sum_by-cons (λ (s : Stats). s.freezes) stats []))

  pub totals_are : (notes : List Note) → All IsUncounted notes → stats_of (state_of size notes) ≡ totals_of size notes
  totals_are notes h = sym (ap sum_of (one_stretch (first_state size) notes h) ∙ sum_one (stats_of (state_of size notes)))

pub totals_at : (room blocks tov : ℕ) (all : List Happening) (items : List Event) (course : Course) → events_of all ≡ items
    → IsPlain all → course ≡ all_went_on room blocks tov items (first_course tov)
    → let size : Size = record { room = room; blocks = blocks; tov = tov } in
    course_stats course ≡ totals_of size (all_happened all (fresh size)).notes
totals_at room blocks tov all items course same plain last =
    let size : Size = record { room = room; blocks = blocks; tov = tov } in
    ap course_stats (last ∙ ap (λ (items : List Event). all_went_on room blocks tov items (first_course tov)) (sym same) ∙ runs
    size all [] 0 plain)
    ∙ totals_are size (all_happened all (fresh size)).notes (all_plain size all [] 0 plain (All-nil (IsUncounted size)))

-- ---- along the events

pub course_next : (room blocks tov : ℕ) (all : List Event) (index : ℕ) (default : Event) (course last : Course)
    → index < length all → all_went_on room blocks tov (drop index all) course ≡ last
    → all_went_on room blocks tov (drop (index + 1) all) (went_on room blocks tov (get_or all index default) course) ≡ last
course_next room blocks tov all index default course last inside goes =
    let head : drop index all ≡ get_or all index default ∷ drop (index + 1) all =
    rw add-one (drop-cons all index default inside) in
    ap (λ (rest : List Event). all_went_on room blocks tov rest course) (sym head) ∙ goes

pub course_ends : (room blocks tov : ℕ) (all : List Event) (index : ℕ) (course last : Course) → length all ≤ index
    → all_went_on room blocks tov (drop index all) course ≡ last → course ≡ last
course_ends room blocks tov all index course last behind goes =
    ap (λ (rest : List Event). all_went_on room blocks tov rest course) (sym (drop_all index all behind)) ∙ goes
