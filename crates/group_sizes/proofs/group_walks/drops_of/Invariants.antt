use Rattle.std.proofs.Common.{◌≡◌, ◌*◌, ◌≤◌, ◌^◌, take}
use Rattle.std.specs.Prelude.{sum_by}
use Rattle.ring_sizes.specs.declared.courses.Course.{Course}
use Rattle.group_sizes.proofs.group_walks.drops_of.Given as goal

abbrev pub invariant-loop-course : goal.invariant-loop-course
invariant-loop-course l = record {
  sum : l.drops ≡ sum_by (λ (course : Course). course.dropped) (take l.course-index l.courses);
  few : l.drops ≤ l.course-index * 2 ^ 61;
}
