use Rattle.std.proofs.Common.{◌≡◌, ℕ, ◌+◌, map}
use Rattle.std.specs.Prelude.{option_map}
use Rattle.tap_outside.specs.Seen.{OnlyReads}
use Rattle.tap_running.specs.Counts.{IsCounted}
use Rattle.tap_engine.specs.Given.{given_entries}
use Rattle.tap_engine.specs.inside.Sources.{entries_of, faulty_in, with_closed}
use Rattle.tap_engine.proofs.sources.close_captures.Given as goal

abbrev pub invariant-loop-source : goal.invariant-loop-source
invariant-loop-source g l =
    let old = g.S.Store.seen l.fn.store in
    let new = g.S.Store.seen l.store in
    let left = map (option_map g.S.Input.Source.seen) l.source-iterator.rest.items in
    let all = map (option_map g.S.Input.Source.seen) l.fn.sources.items in
    OnlyReads old new
    × (with_closed new.sources (given_entries (entries_of left))
    ≡ with_closed old.sources (given_entries (entries_of all)))
    × (n : ℕ) × (faulty_in all ≡ n + faulty_in left) × IsCounted old new n
