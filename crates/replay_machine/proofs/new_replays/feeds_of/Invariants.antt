use Rattle.std.proofs.Common.{◌≡◌, ◌+◌, ◌≤◌, ◌++◌, length}
use Rattle.std.specs.Prelude.{map, option_map}
use Rattle.tap_outside.specs.Seen.{SourceSeen}
use Rattle.replay_machine.specs.inside.RunEffects.{starting_from}
use Rattle.replay_machine.proofs.new_replays.feeds_of.Given as goal

abbrev pub invariant-loop-source : goal.invariant-loop-source
invariant-loop-source g l = record {
  made : l.cpus.items ++ starting_from l.plan (length l.cpus.items)
      (map (option_map {T = g.row.S.Denot} {U = SourceSeen} g.S.Source.seen) l.source-iterator.rest.items)
      ≡ starting_from l.plan 0
      (map (option_map {T = g.row.S.Denot} {U = SourceSeen} g.S.Source.seen) l.fn.sources.items);
  few : length l.cpus.items + length l.source-iterator.rest.items ≤ 8;
}
