-- The further files so far were read.
use Rattle.std.proofs.Common.{◌≡◌, take}
use Rattle.tap_outside.specs.Seen.{OnlyReads}
use Rattle.tap_sizes.proofs.CpuChains.{AreFurtherRead}
use Rattle.tap_sizes.proofs.cpu_reads.read_cpu.Given as goal

abbrev pub invariant-loop-file : goal.invariant-loop-file
invariant-loop-file g l =
    OnlyReads (g.S.Store.seen l.initial.store) (g.S.Store.seen l.store)
    × (l.deal.cpu ≡ l.cpu) × (l.deal.shape ≡ l.job.setup.plan)
    × AreFurtherRead (g.S.Store.seen l.initial.store) (g.S.Store.seen l.store) l.job l.parts.room l.cpu
    (take l.file-index l.more) l.initial.files l.files l.initial.deal l.deal
