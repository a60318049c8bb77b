-- A ring counts no freeze exactly where it never found a block held.
use Rattle.std.proofs.Common.{◌≡◌, ◌↔◌, ℕ, ◌+◌, ◌-◌, ◌<◌, ◌≤◌, Bool, true, false, cond, List, [], ◌∷◌}
use Rattle.std.proofs.Common.{◌⊎◌, inl, inr, refl, sym, ap, subst, ◌∙◌, arith}
use Rattle.std.specs.Prelude.{max, nat_lt, nat_le}
use Rattle.std.proofs.lemmas.Grind.{common_steps}
use Rattle.ring_model.specs.Fates.{totals_of}
use Rattle.ring_model.specs.Ring.{Size}
use Rattle.ring_model.specs.Rings.{fresh}
use Rattle.ring_model.specs.declared.notes.Stats.{Stats}
use Rattle.ring_sizes.specs.Courses.{all_went_on, at_due, fed, is_free, opened, went_on}
use Rattle.ring_events.specs.Happenings.{IsPlain, NeverFreezes, all_happened}
use Rattle.ring_events.specs.declared.events.Happening.{Happening}
use Rattle.ring_sizes.specs.EventLists.{events_of}
use Rattle.ring_sizes.specs.Passes.{first_pass, offered, passed, passed_all, with_next}
use Rattle.ring_sizes.specs.declared.courses.CourseBlock.{CourseBlock}
use Rattle.ring_sizes.specs.declared.courses.CourseBlock.TheVariants.{Frozen, Empty, Filled}
use Rattle.ring_sizes.specs.declared.courses.Course.{Course}
use Rattle.ring_sizes.specs.declared.events.Event.{Event}
use Rattle.ring_sizes.specs.declared.events.Event.TheVariants.{Packet, Tick, Read, ReadAll}
use Rattle.ring_sizes.specs.declared.sizes.Pass.{Pass}
use Rattle.ring_sizes.proofs.Never.{all_grow, never_iff}
use Rattle.ring_sizes.proofs.Runs.{totals_at}

-- the course of a ring that never froze
abbrev pub course_by : Pass → ℕ → Course
course_by pass kept = record {
  done = pass.done;
  used = pass.used;
  block = cond pass.empty Empty Filled;
  clock = pass.clock;
  deadline = pass.deadline;
  released = pass.released;
  kept = kept;
  dropped = 0;
  freezes = 0;
}

-- the ring is still the same, or it needs more blocks and froze
abbrev pub StepIs : ℕ → Pass → Course → Type 0
StepIs blocks later course =
    ((later.least ≤ blocks) × (kept : ℕ) × (course ≡ course_by later kept))
    ⊎ ((blocks < later.least) × (0 < course.freezes))

enough : (blocks done released least : ℕ) → nat_le (done + 1 + 1) (released + blocks) ≡ true → least ≤ blocks
    → max least (done + 1 + 1 - released) ≤ blocks
enough blocks done released least e few = grind (arith, common_steps)

short : (blocks done released least : ℕ) → nat_le (done + 1 + 1) (released + blocks) ≡ false
    → blocks < max least (done + 1 + 1 - released)
short blocks done released least e = grind (arith, common_steps)

module _ (room blocks tov : ℕ) where
  next_by : (free : Bool) (done used clock deadline released least kept need : ℕ) (empty : Bool)
      → nat_le (done + 1 + 1) (released + blocks) ≡ free → least ≤ blocks
      → let pass : Pass = record {
        done = done;
        used = used;
        empty = empty;
        clock = clock;
        deadline = deadline;
        released = released;
        least = least;
      } in
      let course : Course = record (course_by pass kept) { done = done + 1 } in
      StepIs blocks (record (with_next pass) { used = need; empty = false; deadline = clock + tov })
      (cond free (record course { used = need; block = Filled; deadline = clock + tov; kept = kept + 1 })
      (record course { used = 0; block = Frozen; dropped = 0 + 1; freezes = 0 + 1 }))
  next_by true done used clock deadline released least kept need empty e few =
      inl (enough blocks done released least e few, kept + 1, refl)
  next_by false done used clock deadline released least kept need empty e few =
      inr (short blocks done released least e, omega arith)

  fed_by : (fits : Bool) (done used clock deadline released least kept need : ℕ) (empty : Bool) → least ≤ blocks
      → let pass : Pass = record {
        done = done;
        used = used;
        empty = empty;
        clock = clock;
        deadline = deadline;
        released = released;
        least = least;
      } in
      let course : Course = record (course_by pass kept) { done = done + 1 } in
      StepIs blocks (cond fits (record pass { used = used + need; empty = false })
      (record (with_next pass) { used = need; empty = false; deadline = clock + tov }))
      (cond fits (record (course_by pass kept) { used = used + need; block = Filled; kept = kept + 1 })
      (cond (nat_le (done + 1 + 1) (released + blocks))
      (record course { used = need; block = Filled; deadline = clock + tov; kept = kept + 1 })
      (record course { used = 0; block = Frozen; dropped = 0 + 1; freezes = 0 + 1 })))
  fed_by true done used clock deadline released least kept need empty few = inl (few, kept + 1, refl)
  fed_by false done used clock deadline released least kept need empty few =
      next_by (nat_le (done + 1 + 1) (released + blocks)) done used clock deadline released least kept need empty refl few

  fed_is : (done used clock deadline released least kept need : ℕ) (empty : Bool) → least ≤ blocks
      → let pass : Pass = record {
        done = done;
        used = used;
        empty = empty;
        clock = clock;
        deadline = deadline;
        released = released;
        least = least;
      } in
      StepIs blocks (offered room tov need pass) (fed room blocks tov need (course_by pass kept))
  fed_is done used clock deadline released least kept need true few =
      fed_by (nat_le (used + need) room) done used clock deadline released least kept need true few
  fed_is done used clock deadline released least kept need false few =
      fed_by (nat_le (used + need) room) done used clock deadline released least kept need false few

  out_by : (free : Bool) (done used clock deadline released least kept ms : ℕ)
      → nat_le (done + 1 + 1) (released + blocks) ≡ free → least ≤ blocks
      → let pass : Pass = record {
        done = done;
        used = used;
        empty = false;
        clock = clock;
        deadline = deadline;
        released = released;
        least = least;
      } in
      let course : Course = record (course_by pass kept) { done = done + 1 } in
      StepIs blocks (record (with_next pass) { used = 0; empty = true; clock = ms; deadline = ms + tov })
      (record (cond free (record course { used = 0; block = Empty }) (record course {
        used = 0;
        block = Frozen;
        freezes = 0 + 1;
      }))
      { clock = ms; deadline = ms + tov })
  out_by true done used clock deadline released least kept ms e few =
      inl (enough blocks done released least e few, kept, refl)
  out_by false done used clock deadline released least kept ms e few =
      inr (short blocks done released least e, omega arith)

  time_by : (early empty : Bool) (done used clock deadline released least kept ms : ℕ) → least ≤ blocks
      → let pass : Pass = record {
        done = done;
        used = used;
        empty = empty;
        clock = clock;
        deadline = deadline;
        released = released;
        least = least;
      } in
      StepIs blocks (cond early (record pass { clock = ms })
      (cond empty (record pass { clock = ms; deadline = ms + tov })
      (record (with_next pass) { used = 0; empty = true; clock = ms; deadline = ms + tov })))
      (cond early (record (course_by pass kept) { clock = ms })
      (record (at_due blocks (cond empty Empty Filled) (course_by pass kept)) { clock = ms; deadline = ms + tov }))
  time_by true empty done used clock deadline released least kept ms few = inl (few, kept, refl)
  time_by false true done used clock deadline released least kept ms few = inl (few, kept, refl)
  time_by false false done used clock deadline released least kept ms few =
      out_by (nat_le (done + 1 + 1) (released + blocks)) done used clock deadline released least kept ms refl few

  read_by : (more : Bool) (pass : Pass) (kept : ℕ) → pass.least ≤ blocks
      → StepIs blocks (cond more (record pass { released = pass.released + 1 }) pass)
      (cond more (record (course_by pass kept) { released = pass.released + 1 }) (course_by pass kept))
  read_by true pass kept few = inl (few, kept, refl)
  read_by false pass kept few = inl (few, kept, refl)

  pub step_is : (event : Event) (pass : Pass) (kept : ℕ) → pass.least ≤ blocks
      → StepIs blocks (passed room tov event pass) (went_on room blocks tov event (course_by pass kept))
  step_is (Packet need) pass kept few =
      fed_is pass.done pass.used pass.clock pass.deadline pass.released pass.least kept need pass.empty few
  step_is (Tick ms) pass kept few =
      time_by (nat_lt ms pass.deadline) pass.empty pass.done pass.used pass.clock pass.deadline pass.released pass.least kept ms
      few
  step_is Read pass kept few = read_by (nat_lt pass.released pass.done) pass kept few
  step_is ReadAll pass kept few = inl (few, kept, refl)

  -- ---- a freeze stays counted

  fed_more : (need : ℕ) (course : Course) (space free : Bool)
      → course.freezes ≤ (cond space (record course { used = course.used + need; block = Filled; kept = course.kept + 1 })
      (cond free (record course {
        done = course.done + opened course.block;
        used = need;
        block = Filled;
        deadline = course.clock + tov;
        kept = course.kept + 1;
      }) (record course {
        done = course.done + opened course.block;
        used = 0;
        block = Frozen;
        dropped = course.dropped + 1;
        freezes = course.freezes + opened course.block;
      }))).freezes
  fed_more need course true free = omega arith
  fed_more need course false true = omega arith
  fed_more need course false false = omega arith

  free_more : (course : Course) (free : Bool)
      → course.freezes ≤ (cond free (record course { done = course.done + opened course.block; used = 0; block = Empty })
      (record course {
        done = course.done + opened course.block;
        used = 0;
        block = Frozen;
        freezes = course.freezes + opened course.block;
      })).freezes
  free_more course true = omega arith
  free_more course false = omega arith

  due_more : (block : CourseBlock) (course : Course) → course.freezes ≤ (at_due blocks block course).freezes
  due_more Frozen course = free_more course (is_free blocks course)
  due_more Empty course = omega arith
  due_more Filled course = free_more course (is_free blocks course)

  time_more : (ms : ℕ) (course : Course) (early : Bool)
      → course.freezes ≤ (cond early (record course { clock = ms })
      (record (at_due blocks course.block course) { clock = ms; deadline = ms + tov })).freezes
  time_more ms course true = omega arith
  time_more ms course false = due_more course.block course

  read_more : (course : Course) (more : Bool)
      → course.freezes ≤ (cond more (record course { released = course.released + 1 }) course).freezes
  read_more course true = omega arith
  read_more course false = omega arith

  step_more : (event : Event) (course : Course) → course.freezes ≤ (went_on room blocks tov event course).freezes
  step_more (Packet need) course = fed_more need course _ (is_free blocks course)
  step_more (Tick ms) course = time_more ms course (nat_lt ms course.deadline)
  step_more Read course = read_more course (nat_lt course.released course.done)
  step_more ReadAll course = omega arith

  all_more : (all : List Event) (course : Course) → course.freezes ≤ (all_went_on room blocks tov all course).freezes
  all_more [] course = omega arith
  all_more (event ∷ all) course = omega (arith, step_more event course, all_more all (went_on room blocks tov event course))

  -- ---- over all events

  abbrev Same : List Event → Pass → Course → Type 0
  Same all pass course =
      ((passed_all room tov all pass).least ≤ blocks) ↔ ((all_went_on room blocks tov all course).freezes ≡ 0)

  same_on : (all : List Event) (later : Pass) (course : Course)
      → ((kept : ℕ) → later.least ≤ blocks → Same all later (course_by later kept))
      → StepIs blocks later course → Same all later course
  same_on all later course rest (inl h) =
      subst (λ (course : Course). Same all later course) (sym h.2) (rest h.1 h.0)
  same_on all later course rest (inr h) = (
    λ few. absurd (omega (arith, few, h.0, all_grow room tov all later)),
    λ none. absurd (omega (arith, none, h.1, all_more all course)),
  )

  same_all : (all : List Event) (pass : Pass) (kept : ℕ) → pass.least ≤ blocks → Same all pass (course_by pass kept)
  same_all [] pass kept few = (λ h. refl, λ h. few)
  same_all (event ∷ all) pass kept few =
      same_on all (passed room tov event pass) (went_on room blocks tov event (course_by pass kept))
      (same_all all (passed room tov event pass)) (step_is event pass kept few)

pub no_freeze_iff : (size : Size) (all : List Happening) → IsPlain all → 1 ≤ size.blocks
    → NeverFreezes size all ↔ ((totals_of size (all_happened all (fresh size)).notes).freezes ≡ 0)
no_freeze_iff size all plain some =
    let first = never_iff size all some in
    let second = same_all size.room size.blocks size.tov (events_of all) (first_pass size.tov) 0 some in
    let totals = ap (λ (s : Stats). s.freezes)
    (totals_at size.room size.blocks size.tov all (events_of all) _ refl plain refl) in
    (λ never. sym totals ∙ second.0 (first.0 never), λ none. first.1 (second.1 (totals ∙ none)))
