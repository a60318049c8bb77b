-- The CPUs so far were read.
use Rattle.std.proofs.Common.{◌-◌, ◌≤◌, length}
use Rattle.tap_outside.specs.Seen.{OnlyReads}
use Rattle.tap_sizes.specs.RingParts.{parts_for}
use Rattle.tap_sizes.proofs.CpuLists.{AreFirstRead}
use Rattle.tap_sizes.proofs.cpu_reads.read_cpus.Given as goal

abbrev pub invariant-loop-cpu : goal.invariant-loop-cpu
invariant-loop-cpu g l =
    OnlyReads (g.S.Store.seen l.initial.store) (g.S.Store.seen l.store)
    × (l.cpu ≤ length l.job.setup.cpus)
    × AreFirstRead (g.S.Store.seen l.initial.store) (g.S.Store.seen l.store) l.job
    (parts_for l.job l.reader).room l.reader.more l.cpu l.files l.deals.items

abbrev pub decreases-loop-cpu : goal.decreases-loop-cpu
decreases-loop-cpu g l = length l.job.setup.cpus - l.cpu
