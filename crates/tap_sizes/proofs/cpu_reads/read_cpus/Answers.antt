use Rattle.std.proofs.Common.{◌≡◌, ◌<◌, ◌≤◌, ◌+◌, ◌++◌, ◌∷◌, [], arith, length, rules}
use Rattle.tap_outside.proofs.Kept.{OnlyReads-none, OnlyReads-then}
use Rattle.tap_sizes.proofs.CpuLists.{none_read, one_cpu_more}
use Rattle.tap_sizes.proofs.cpu_reads.read_cpus.Goals as goal

pub loop-cpu-init : goal.loop-cpu-init
loop-cpu-init g c =
    rw (c.new-files.ensures, c.in_ok-deals.ensures.items)
    (OnlyReads-none _, omega arith, none_read _ c.args.job.now _ c.args.reader.now.more)

pub loop-cpu-preserved : goal.loop-cpu-preserved
loop-cpu-preserved g c =
    let inv = c.loop-cpu.invariant in
    let less : c.loop-cpu.cpu < length c.args.job.now.setup.cpus = search rules in
    let within : c.loop-cpu.cpu + 1 ≤ length c.args.job.now.setup.cpus = search rules in
    let dealt : c.push.new.self.items ≡ c.loop-cpu.deals.items ++ c.in_ok-deal.deal ∷ [] = search rules in (
      OnlyReads-then _ _ _ inv.0 c.in_ok-deal.ensures.store,
      within,
      one_cpu_more (g.S.Store.seen c.args.store.now) (g.S.Store.seen c.loop-cpu.store)
          (g.S.Store.seen c.read_cpu.new.store) c.args.job.now _ c.args.reader.now.more c.loop-cpu.cpu
          c.loop-cpu.files c.read_cpu.new.files c.loop-cpu.deals.items c.push.new.self.items
          c.in_ok-deal.deal less dealt inv.2 c.in_ok-deal.ensures.read,
    )
