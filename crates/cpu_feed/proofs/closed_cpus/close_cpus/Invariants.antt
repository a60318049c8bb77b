use Rattle.std.proofs.Common.{◌≡◌, ◌++◌, List}
use Rattle.std.specs.Prelude.{map, option_map, IsSome}
use Rattle.std.specs.List.{AllByRecursion}
use Rattle.cpu_feed.specs.CpuFeeds.{Feeding}
use Rattle.tap_outside.specs.Seen.{SourceSeen}
use Rattle.cpu_feed.specs.ClosedCpus.{AllClose}
use Rattle.cpu_feed.proofs.closed_cpus.close_cpus.Given as goal

abbrev pub invariant-loop-cpu : goal.invariant-loop-cpu
invariant-loop-cpu g l = record {
  ended : AllByRecursion (λ cpu. IsSome cpu.ended) l.cpu-iterator.rest.items;
  closed : (done : List Feeding) × (l.fn.cpus.items ≡ done ++ l.cpu-iterator.rest.items)
      × AllClose done (map (option_map {T = g.row.S.Denot} {U = SourceSeen} g.S.Source.seen) l.sources.items) l.logs;
}
