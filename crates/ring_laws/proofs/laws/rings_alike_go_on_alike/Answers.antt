use Rattle.std.proofs.Common.{refl}
use Rattle.ring_model.specs.Fates.{stats_of}
use Rattle.ring_laws.proofs.LikeRings.{go_on_alike}
use Rattle.ring_laws.proofs.LikeStats.{begins_offset, stats_like}
use Rattle.ring_laws.proofs.laws.rings_alike_go_on_alike.Goals as goal

pub returns : goal.returns
returns c = record {
  rings = λ gap happenings others one other snaps h k. go_on_alike gap snaps one.size happenings others one other refl h k;
  stats = λ gap size notes others one other snaps h k.
      stats_like gap snaps size notes others one other (stats_of one) (stats_of other) h
      (begins_offset gap snaps size one other) k;
}
