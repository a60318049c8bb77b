use Rattle.std.proofs.Common.{take, map}
use Rattle.std.specs.Prelude.{option_map}
use Rattle.tap_outside.specs.Seen.{OnlyReads}
use Rattle.tap_running.specs.Counts.{IsCounted}
use Rattle.tap_engine.specs.inside.Sources.{AreFetched, Fetches, missing_in}
use Rattle.tap_engine.proofs.sources.fetch_captures.Given as goal

abbrev pub invariant-loop-cpu : goal.invariant-loop-cpu
invariant-loop-cpu g l =
    let old = g.S.Store.seen l.fn.store in
    let new = g.S.Store.seen l.store in
    let sources = map (option_map g.S.Input.Source.seen) l.sources.items in
    OnlyReads old new × AreFetched old.held (take l.cpu-index l.cpus) sources
    × IsCounted old new (missing_in sources)
    × Fetches old.sources new.sources (take l.cpu-index l.cpus) sources
