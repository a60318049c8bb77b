use Rattle.std.proofs.Common.{◌+◌, ◌-◌, ◌*◌, ◌/◌}
use Rattle.ring_sizes.proofs.extremes.+extremes_shared+fn-extremes_shared-behind+fn-extremes_shared-in_front.Given as goal

abbrev pub decreases-behind : goal.decreases-behind
decreases-behind g l = 2 * (l.threads - l.threads / 2) + 1

abbrev pub decreases-in_front : goal.decreases-in_front
decreases-in_front g l = 2 * (l.threads / 2) + 1

abbrev pub decreases-extremes_shared : goal.decreases-extremes_shared
decreases-extremes_shared g l = 2 * l.threads
