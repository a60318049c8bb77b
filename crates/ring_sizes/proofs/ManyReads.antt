-- As many reads as blocks read all.
use Rattle.std.proofs.Common.{◌≡◌, ℕ, zero, suc, ◌+◌, ◌≤◌, Bool, true, false, cond, List, [], ◌∷◌, length}
use Rattle.std.proofs.Common.{refl, sym, ap, subst, arith}
use Rattle.std.specs.Prelude.{nat_lt}
use Rattle.std.proofs.lemmas.Grind.{common_steps}
use Rattle.std.proofs.Common.{◌++◌}
use Rattle.ring_model.specs.KnownReleases.{put_note, tick_note, try_note}
use Rattle.ring_model.specs.Ring.{Size, state_of}
use Rattle.ring_model.specs.Rings.{Ring, fresh}
use Rattle.ring_model.specs.declared.notes.Note.{Note}
use Rattle.ring_model.specs.declared.notes.Note.TheVariants.{Counted}
use Rattle.ring_sizes.specs.Courses.{all_went_on, at_due, first_course, has_space, is_free, opened, went_on}
use Rattle.ring_events.specs.Happenings.{IsPlain, all_happened, happened}
use Rattle.ring_events.specs.declared.events.Happening.{Happening}
use Rattle.ring_events.specs.declared.events.Happening.TheVariants.{Put, Try, Tick, Read, ReadAll, Count}
use Rattle.ring_sizes.specs.EventLists.{events_of}
use Rattle.ring_sizes.specs.Reads.{read_times}
use Rattle.ring_sizes.specs.declared.courses.CourseBlock.{CourseBlock}
use Rattle.ring_sizes.specs.declared.courses.CourseBlock.TheVariants.{Frozen, Empty, Filled}
use Rattle.ring_sizes.specs.declared.courses.Course.{Course}
use Rattle.ring_sizes.specs.declared.events.Event.{Event}
use Rattle.ring_sizes.specs.declared.events.Event.TheVariants as events
use Rattle.ring_sizes.proofs.Never.{ring}
use Rattle.ring_sizes.proofs.CourseSteps.{course_of}
use Rattle.ring_sizes.proofs.Runs.{runs}

-- no more blocks are out than the ring has, and none that isn't retired is released
record Bound (blocks : ℕ) (course : Course) : Type 0 where
  most : course.done + opened course.block ≤ course.released + blocks
  behind : course.released ≤ course.done

opened_few : (block : CourseBlock) → opened block ≤ 1
opened_few Frozen = omega arith
opened_few Empty = omega arith
opened_few Filled = omega arith

space_open : (room need used : ℕ) (block : CourseBlock) → has_space room need used block ≡ true → opened block ≡ 1
space_open room need used Frozen e = absurd (grind (arith, common_steps, e))
space_open room need used Empty e = refl
space_open room need used Filled e = refl

fed_bound : (room blocks tov need : ℕ) (course : Course) (space free : Bool)
    → has_space room need course.used course.block ≡ space
    → is_free blocks course ≡ free → Bound blocks course
    → Bound blocks (cond space (record course { used = course.used + need; block = Filled; kept = course.kept + 1 })
    (cond free (record course {
      done = course.done + opened course.block;
      used = need;
      block = Filled;
      deadline = course.clock + tov;
      kept = course.kept + 1;
    }) (record course {
      done = course.done + opened course.block;
      used = 0;
      block = Frozen;
      dropped = course.dropped + 1;
      freezes = course.freezes + opened course.block;
    })))
fed_bound room blocks tov need course true free s f h =
    record { most = omega (arith, h.most, space_open room need course.used course.block s); behind = h.behind }
fed_bound room blocks tov need course false true s f h =
    record { most = grind (arith, common_steps); behind = omega (arith, h.behind) }
fed_bound room blocks tov need course false false s f h =
    record { most = omega (arith, h.most); behind = omega (arith, h.behind) }

free_bound : (blocks : ℕ) (course : Course) (free : Bool) → is_free blocks course ≡ free → Bound blocks course
    → Bound blocks (cond free (record course { done = course.done + opened course.block; used = 0; block = Empty })
    (record course {
      done = course.done + opened course.block;
      used = 0;
      block = Frozen;
      freezes = course.freezes + opened course.block;
    }))
free_bound blocks course true f h = record { most = grind (arith, common_steps); behind = omega (arith, h.behind) }
free_bound blocks course false f h = record { most = omega (arith, h.most); behind = omega (arith, h.behind) }

due_bound : (blocks : ℕ) (block : CourseBlock) (course : Course) → Bound blocks course
    → Bound blocks (at_due blocks block course)
due_bound blocks Frozen course h = free_bound blocks course (is_free blocks course) refl h
due_bound blocks Empty course h = h
due_bound blocks Filled course h = free_bound blocks course (is_free blocks course) refl h

time_bound : (blocks tov ms : ℕ) (course : Course) (early : Bool) → Bound blocks course
    → Bound blocks (cond early (record course { clock = ms })
    (record (at_due blocks course.block course) { clock = ms; deadline = ms + tov }))
time_bound blocks tov ms course true h = record { most = h.most; behind = h.behind }
time_bound blocks tov ms course false h =
    let due = due_bound blocks course.block course h in record { most = due.most; behind = due.behind }

read_bound : (blocks : ℕ) (course : Course) (more : Bool) → nat_lt course.released course.done ≡ more → Bound blocks course
    → Bound blocks (cond more (record course { released = course.released + 1 }) course)
read_bound blocks course true e h = record { most = omega (arith, h.most); behind = grind (arith, common_steps) }
read_bound blocks course false e h = h

bound_next : (room blocks tov : ℕ) (event : Event) (course : Course) → 1 ≤ blocks → Bound blocks course
    → Bound blocks (went_on room blocks tov event course)
bound_next room blocks tov (events.Packet need) course some h =
    fed_bound room blocks tov need course (has_space room need course.used course.block) (is_free blocks course) refl refl h
bound_next room blocks tov (events.Tick ms) course some h = time_bound blocks tov ms course (nat_lt ms course.deadline) h
bound_next room blocks tov events.Read course some h = read_bound blocks course (nat_lt course.released course.done) refl h
bound_next room blocks tov events.ReadAll course some h =
    record { most = omega (arith, opened_few course.block, some); behind = omega arith }

all_bound : (room blocks tov : ℕ) (all : List Event) (course : Course) → 1 ≤ blocks → Bound blocks course
    → Bound blocks (all_went_on room blocks tov all course)
all_bound room blocks tov [] course some h = h
all_bound room blocks tov (event ∷ all) course some h =
    all_bound room blocks tov all (went_on room blocks tov event course) some (bound_next room blocks tov event course some h)

-- ---- a reader that reads on

module _ (size : Size) (notes : List Note) where
  abbrev out : ℕ
  out = length (state_of size notes).done

  reads_by : (times back : ℕ) (more : Bool) → nat_lt back out ≡ more → back ≤ out → out ≤ back + suc times
      → ((to : ℕ) → to ≤ out → out ≤ to + times → read_times times (ring size notes to) ≡ ring size notes out)
      → read_times times (cond more (ring size notes (back + 1)) (ring size notes back)) ≡ ring size notes out
  reads_by times back true e behind enough rest = rest (back + 1) (grind (arith, common_steps)) (omega (arith, enough))
  reads_by times back false e behind enough rest = rest back behind (grind (arith, common_steps))

  reads_all : (times back : ℕ) → back ≤ out → out ≤ back + times → read_times times (ring size notes back) ≡ ring size notes out
  reads_all zero back behind enough =
      let same : back ≡ out = omega (arith, behind, enough) in ap (ring size notes) same
  reads_all (suc times) back behind enough =
      reads_by times back (nat_lt back out) refl behind enough (reads_all times)

kept_read : (all : List Happening) (size : Size) (notes : List Note) (back : ℕ) (more : Bool)
    → ((to : ℕ) → (all_happened all (ring size notes to)).size ≡ size)
    → (all_happened all (cond more (ring size notes (back + 1)) (ring size notes back))).size ≡ size
kept_read all size notes back true rest = rest (back + 1)
kept_read all size notes back false rest = rest back

kept_size : (all : List Happening) (size : Size) (notes : List Note) (back : ℕ)
    → (all_happened all (ring size notes back)).size ≡ size
kept_size [] size notes back = refl
kept_size (Put offer ∷ all) size notes back = kept_size all size (notes ++ put_note size back (state_of size notes) offer ∷ [])
    back
kept_size (Tick ms ∷ all) size notes back = kept_size all size (notes ++ tick_note size back (state_of size notes) ms ∷ []) back
kept_size (Try offer ∷ all) size notes back = kept_size all size (notes ++ try_note size back (state_of size notes) offer ∷ [])
    back
kept_size (Count ∷ all) size notes back = kept_size all size (notes ++ Counted ∷ []) back
kept_size (Read ∷ all) size notes back =
    kept_read all size notes back (nat_lt back (length (state_of size notes).done)) (λ to. kept_size all size notes to)
kept_size (ReadAll ∷ all) size notes back = kept_size all size notes (length (state_of size notes).done)

at_end : (size : Size) (times : ℕ) (last : Ring) → last.size ≡ size → last.released ≤ length (state_of size last.notes).done
    → length (state_of size last.notes).done ≤ last.released + times → read_times times last ≡ happened ReadAll last
at_end size times last same behind enough =
    let e : ring size last.notes last.released ≡ last = ap (λ (s : Size). ring s last.notes last.released) (sym same) in
    subst (λ (r : Ring). read_times times r ≡ happened ReadAll r) e
    (reads_all size last.notes times last.released behind enough)

pub read_all : (size : Size) (all : List Happening) (times : ℕ) → IsPlain all → 1 ≤ size.blocks → size.blocks ≤ times
    → read_times times (all_happened all (fresh size)) ≡ happened ReadAll (all_happened all (fresh size))
read_all size all times plain some enough =
    let last = all_happened all (fresh size) in
    let bound : Bound size.blocks (course_of (state_of size last.notes) last.released) =
    subst (Bound size.blocks) (runs size all [] 0 plain)
    (all_bound size.room size.blocks size.tov (events_of all) (first_course size.tov) some
    (record { most = omega (arith, some); behind = omega arith })) in
    at_end size times last (kept_size all size [] 0) bound.behind (omega (arith, bound.most, enough))
