use Rattle.std.proofs.Common.{refl}
use Rattle.replay_laws.proofs.Courses.{dealt_courses}
use Rattle.replay_laws.proofs.laws.each_member_is_given_a_course.Goals as goal

pub returns : goal.returns
returns c = λ rules size arriving lines rises many time large whole.
    dealt_courses rules size.room whole large size arriving lines refl many time rises
