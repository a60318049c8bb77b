-- Ticks of an empty block, or where there is none and the next one is still the reader's.
use Rattle.std.proofs.Common.{◌≡◌, ℕ, ◌+◌, ◌≤◌, Bool, true, false, cond, refl, sym, ap, subst, ◌∙◌, arith}
use Rattle.std.specs.Prelude.{nat_lt, not}
use Rattle.std.proofs.lemmas.Grind.{common_steps}
use Rattle.ring_sizes.specs.Courses.{at_due, is_free, is_idle, opened, over_time, went_on}
use Rattle.ring_sizes.specs.declared.courses.Course.{Course}
use Rattle.ring_sizes.specs.declared.courses.CourseBlock.{CourseBlock}
use Rattle.ring_sizes.specs.declared.courses.CourseBlock.TheVariants.{Frozen, Empty, Filled}
use Rattle.ring_sizes.specs.declared.events.Event.TheVariants.{Tick}
use Rattle.ring_sizes.proofs.Gaps.{not_early}

module _ (blocks : ℕ) where
  abbrev pub IsIdle : Course → Type 0
  IsIdle course = is_idle blocks course.block course ≡ true

  abbrev settled : CourseBlock → ℕ → ℕ
  settled Frozen used = 0
  settled block used = used

  settles : (block : CourseBlock) (used : ℕ) → settled block (settled block used) ≡ settled block used
  settles Frozen used = refl
  settles Empty used = refl
  settles Filled used = refl

  -- a frozen ring whose next block isn't free
  held_by : (free : Bool) (course : Course) → not free ≡ true → course.block ≡ Frozen
      → cond free (record course { done = course.done + opened course.block; used = 0; block = Empty }) (record course {
        done = course.done + opened course.block;
        used = 0;
        block = Frozen;
        freezes = course.freezes + opened course.block;
      })
      ≡ record course { used = 0 }
  held_by true course e is = absurd (grind (arith, common_steps, e))
  held_by false course e is =
      let none : opened course.block ≡ 0 = ap opened is in
      let a : course.done + opened course.block ≡ course.done = omega (arith, none) in
      let b : course.freezes + opened course.block ≡ course.freezes = omega (arith, none) in
      ap (λ (n : ℕ). record course {
        done = n;
        used = 0;
        block = Frozen;
        freezes = course.freezes + opened course.block;
      }) a
      ∙ ap (λ (n : ℕ). record course { used = 0; block = Frozen; freezes = n }) b
      ∙ ap (λ (block : CourseBlock). record course { used = 0; block = block }) (sym is)

  due_by : (block : CourseBlock) (course : Course) → course.block ≡ block → is_idle blocks block course ≡ true
      → at_due blocks block course ≡ record course { used = settled block course.used }
  due_by Frozen course is e = held_by (is_free blocks course) course e is
  due_by Empty course is e = refl
  due_by Filled course is e = absurd (grind (arith, common_steps, e))

  same_block : (block : CourseBlock) (course after : Course) → is_free blocks after ≡ is_free blocks course
      → is_idle blocks block course ≡ true → is_idle blocks block after ≡ true
  same_block Frozen course after free e = ap not free ∙ e
  same_block Empty course after free e = refl
  same_block Filled course after free e = e

  module _ (tov : ℕ) where
    -- what a tick makes of it
    abbrev ticked : ℕ → Bool → Course → Course
    ticked ms early course =
        cond early (record course { clock = ms })
        (record course { used = settled course.block course.used; clock = ms; deadline = ms + tov })

    tick_is : (ms : ℕ) (course : Course) → IsIdle course
        → over_time blocks tov ms course ≡ ticked ms (nat_lt ms course.deadline) course
    tick_is ms course e =
        ap (λ (due : Course). cond (nat_lt ms course.deadline) (record course { clock = ms })
        (record due { clock = ms; deadline = ms + tov })) (due_by course.block course refl e)

    same_done : (ms : ℕ) (early : Bool) (course : Course) → (ticked ms early course).done ≡ course.done
    same_done ms true course = refl
    same_done ms false course = refl

    same_idle : (ms : ℕ) (early : Bool) (course : Course) → IsIdle course → IsIdle (ticked ms early course)
    same_idle ms true course e = same_block course.block course (record course { clock = ms }) refl e
    same_idle ms false course e =
        same_block course.block course
        (record course { used = settled course.block course.used; clock = ms; deadline = ms + tov }) refl e

    pub still : (room ms : ℕ) (course : Course) → IsIdle course → (went_on room blocks tov (Tick ms) course).done ≡ course.done
    still room ms course e =
        ap (λ (course : Course). course.done) (tick_is ms course e) ∙ same_done ms (nat_lt ms course.deadline) course

    pub stays : (room ms : ℕ) (course : Course) → IsIdle course → IsIdle (went_on room blocks tov (Tick ms) course)
    stays room ms course e =
        subst IsIdle (sym (tick_is ms course e)) (same_idle ms (nat_lt ms course.deadline) course e)

    late : (ms : ℕ) (course : Course) → IsIdle course → course.deadline ≤ ms
        → over_time blocks tov ms course
        ≡ record course { used = settled course.block course.used; clock = ms; deadline = ms + tov }
    late ms course e h =
        tick_is ms course e
        ∙ ap (λ (early : Bool). ticked ms early course) (not_early ms course.deadline (nat_lt ms course.deadline) refl h)

    last_by : (ms later : ℕ) (course : Course) (early : Bool) → nat_lt ms course.deadline ≡ early → IsIdle course
        → ms + tov ≤ later → over_time blocks tov later (ticked ms early course) ≡ over_time blocks tov later course
    last_by ms later course true e is h =
        tick_is later (record course { clock = ms }) (same_idle ms true course is) ∙ sym (tick_is later course is)
    last_by ms later course false e is h =
        late later (ticked ms false course) (same_idle ms false course is) h
        ∙ ap (λ (n : ℕ). record course { used = n; clock = later; deadline = later + tov }) (settles course.block course.used)
        ∙ sym (late later course is (grind (arith, common_steps, e, h)))

    pub last : (room ms later : ℕ) (course : Course) → IsIdle course → ms + tov ≤ later
        → went_on room blocks tov (Tick later) (went_on room blocks tov (Tick ms) course)
        ≡ went_on room blocks tov (Tick later) course
    last room ms later course e h =
        ap (over_time blocks tov later) (tick_is ms course e) ∙ last_by ms later course (nat_lt ms course.deadline) refl e h
