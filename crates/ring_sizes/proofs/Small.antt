-- The numbers of a course stay small.
use Rattle.std.proofs.Common.{◌≡◌, ℕ, ◌+◌, ◌<◌, ◌≤◌, ◌^◌, Bool, true, false, cond, arith, refl}
use Rattle.std.specs.Prelude.{nat_lt}
use Rattle.std.proofs.lemmas.Grind.{common_steps}
use Rattle.ring_sizes.specs.Courses.{IsSmall, at_due, has_space, is_free, opened, went_on}
use Rattle.ring_sizes.specs.declared.courses.CourseBlock.{CourseBlock}
use Rattle.ring_sizes.specs.declared.courses.CourseBlock.TheVariants.{Frozen, Empty, Filled}
use Rattle.ring_sizes.specs.declared.courses.Course.{Course}
use Rattle.ring_sizes.specs.declared.events.Event.{Event}
use Rattle.ring_sizes.specs.declared.events.Event.TheVariants.{Packet, Tick, Read, ReadAll}

-- the same without what the program itself shows
record Few (bound : ℕ) (course : Course) : Type 0 where
  done : course.done < bound
  behind : course.released ≤ course.done
  packets : course.kept + course.dropped < bound
  freezes : course.freezes < bound

opened_few : (block : CourseBlock) → opened block ≤ 1
opened_few Frozen = omega arith
opened_few Empty = omega arith
opened_few Filled = omega arith

fed_few : (bound tov need : ℕ) (course : Course) (space free : Bool) → IsSmall bound course
    → Few (bound + 1) (cond space (record course { used = course.used + need; block = Filled; kept = course.kept + 1 })
    (cond free (record course {
      done = course.done + opened course.block;
      used = need;
      block = Filled;
      deadline = course.clock + tov;
      kept = course.kept + 1;
    }) (record course {
      done = course.done + opened course.block;
      used = 0;
      block = Frozen;
      dropped = course.dropped + 1;
      freezes = course.freezes + opened course.block;
    })))
fed_few bound tov need course true free h =
    record {
      done = omega (arith, h.done);
      behind = h.behind;
      packets = omega (arith, h.packets);
      freezes = omega (
        arith,
        h.freezes,
      );
    }
fed_few bound tov need course false true h =
    let few = opened_few course.block in
    record {
      done = omega (arith, h.done, few);
      behind = omega (arith, h.behind);
      packets = omega (arith, h.packets);
      freezes =
          omega (arith, h.freezes);
    }
fed_few bound tov need course false false h =
    let few = opened_few course.block in
    record {
      done = omega (arith, h.done, few);
      behind = omega (arith, h.behind);
      packets = omega (arith, h.packets);
      freezes =
          omega (arith, h.freezes, few);
    }

free_few : (bound : ℕ) (course : Course) (free : Bool) → IsSmall bound course
    → Few (bound + 1) (cond free (record course { done = course.done + opened course.block; used = 0; block = Empty })
    (record course {
      done = course.done + opened course.block;
      used = 0;
      block = Frozen;
      freezes = course.freezes + opened course.block;
    }))
free_few bound course true h =
    let few = opened_few course.block in
    record {
      done = omega (arith, h.done, few);
      behind = omega (arith, h.behind);
      packets = omega (arith, h.packets);
      freezes =
          omega (arith, h.freezes);
    }
free_few bound course false h =
    let few = opened_few course.block in
    record {
      done = omega (arith, h.done, few);
      behind = omega (arith, h.behind);
      packets = omega (arith, h.packets);
      freezes =
          omega (arith, h.freezes, few);
    }

due_few : (bound blocks : ℕ) (block : CourseBlock) (course : Course) → IsSmall bound course
    → Few (bound + 1) (at_due blocks block course)
due_few bound blocks Frozen course h = free_few bound course (is_free blocks course) h
due_few bound blocks Empty course h =
    record {
      done = omega (arith, h.done);
      behind = h.behind;
      packets = omega (arith, h.packets);
      freezes = omega (
        arith,
        h.freezes,
      );
    }
due_few bound blocks Filled course h = free_few bound course (is_free blocks course) h

time_few : (bound blocks tov ms : ℕ) (course : Course) (early : Bool) → IsSmall bound course
    → Few (bound + 1) (cond early (record course { clock = ms })
    (record (at_due blocks course.block course) { clock = ms; deadline = ms + tov }))
time_few bound blocks tov ms course true h =
    record {
      done = omega (arith, h.done);
      behind = h.behind;
      packets = omega (arith, h.packets);
      freezes = omega (
        arith,
        h.freezes,
      );
    }
time_few bound blocks tov ms course false h =
    let few = due_few bound blocks course.block course h in
    record { done = few.done; behind = few.behind; packets = few.packets; freezes = few.freezes }

read_few : (bound : ℕ) (course : Course) (more : Bool) → nat_lt course.released course.done ≡ more → IsSmall bound course
    → Few (bound + 1) (cond more (record course { released = course.released + 1 }) course)
read_few bound course true e h =
    record {
      done = omega (arith, h.done);
      behind = grind (arith, common_steps);
      packets = omega (arith, h.packets);
      freezes =
          omega (arith, h.freezes);
    }
read_few bound course false e h =
    record {
      done = omega (arith, h.done);
      behind = h.behind;
      packets = omega (arith, h.packets);
      freezes = omega (
        arith,
        h.freezes,
      );
    }

few_next : (bound room blocks tov : ℕ) (event : Event) (course : Course) → IsSmall bound course
    → Few (bound + 1) (went_on room blocks tov event course)
few_next bound room blocks tov (Packet need) course h =
    fed_few bound tov need course (has_space room need course.used course.block) (is_free blocks course) h
few_next bound room blocks tov (Tick ms) course h = time_few bound blocks tov ms course (nat_lt ms course.deadline) h
few_next bound room blocks tov Read course h = read_few bound course (nat_lt course.released course.done) refl h
few_next bound room blocks tov ReadAll course h =
    record {
      done = omega (arith, h.done);
      behind = omega arith;
      packets = omega (arith, h.packets);
      freezes = omega (
        arith,
        h.freezes,
      );
    }

pub stays_small : (bound room blocks tov : ℕ) (event : Event) (course : Course) → IsSmall bound course
    → (went_on room blocks tov event course).used < 2 ^ 32 → IsSmall (bound + 1) (went_on room blocks tov event course)
stays_small bound room blocks tov event course h used =
    let few = few_next bound room blocks tov event course h in
    record { done = few.done; behind = few.behind; packets = few.packets; freezes = few.freezes; used = used }
