use Rattle.std.proofs.Common.{◌≡◌, ℕ, ◌-◌}
use Rattle.ring_sizes.specs.Courses.{all_went_on}
use Rattle.ring_sizes.specs.Schedules.{beats, ticks_by}
use Rattle.group_sizes.proofs.Mapped.{mapped}
use Rattle.group_sizes.proofs.member_rests.rest.Given as goal

abbrev pub invariant-loop-course : goal.invariant-loop-course
invariant-loop-course l = (room : ℕ) → l.courses
    ≡ mapped (all_went_on room l.blocks l.pace.tov (beats l.stalls l.pace (l.last - ticks_by l.pace l.since)
    (ticks_by l.pace l.since) l.since l.at)) l.course-index l.initial.courses
