use Rattle.std.proofs.Common.{◌≡◌, [], length, rules, subst, List}
use Rattle.std.specs.Prelude.{IsSome, option_map}
use Rattle.std.specs.List.{AllByRecursion}
use Rattle.cpu_feed.specs.CpuFeeds.{Feeding}
use Rattle.tap_outside.specs.Seen.{SourceSeen}
use Rattle.cpu_feed.proofs.ClosedOnes.{close_all, close_more, close_none, ended_rest, no_cpus}
use Rattle.cpu_feed.proofs.closed_cpus.close_cpus.Goals as goal

pub loop-cpu-init : goal.loop-cpu-init
loop-cpu-init g c =
    let same : c.args.cpus.items ≡ c.into_iter-cpu-iterator.result.rest.items = search rules in
    record {
      ended = subst (λ (cpus : List Feeding). AllByRecursion (λ (cpu : Feeding). IsSome cpu.ended) cpus) same c.requires;
      closed = (
        [],
        same,
        close_none (option_map {T = g.row.S.Denot} {U = SourceSeen} g.S.Source.seen) _ _
            c.in_ok-sources.ensures.items c.new-logs.ensures,
      );
    }

pub loop-cpu-preserved : goal.loop-cpu-preserved
loop-cpu-preserved g c =
    let next = c.in-Some.ensures.steps.0 in
    let closed = c.loop-cpu.invariant.closed in
    record {
      ended = ended_rest _ _ c.in-Some.cpu next c.loop-cpu.invariant.ended;
      closed = close_more (option_map {T = g.row.S.Denot} {U = SourceSeen} g.S.Source.seen)
          c.args.cpus.items closed.0 _ _ c.in-Some.cpu c.loop-cpu.sources.items _ c.in_ok-source.source c.loop-cpu.logs _
          c.in_ok-source.log next closed.1 closed.2
          c.in_ok-source.ensures c.in_ok-push.ensures.items c.in_ok-push-2.ensures.ok;
    }

pub returns : goal.returns
returns g c =
    let closed = c.loop-cpu.invariant.closed in
    let empty = c.in-None.ensures.steps.0 in
    let count : length c.loop-cpu.cpu-iterator.rest.items ≡ 0 = search rules in
    let none : c.loop-cpu.cpu-iterator.rest.items ≡ [] = no_cpus _ count in
    close_all (option_map {T = g.row.S.Denot} {U = SourceSeen} g.S.Source.seen)
    c.args.cpus.items closed.0 _ c.loop-cpu.sources.items c.loop-cpu.logs none closed.1 closed.2
