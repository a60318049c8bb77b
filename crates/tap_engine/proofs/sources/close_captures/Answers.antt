use Rattle.std.proofs.Common.{◌≡◌, ap, map, rules}
use Rattle.std.specs.Prelude.{option_map}
use Rattle.tap_engine.specs.Given.{given_entries}
use Rattle.tap_engine.specs.inside.Sources.{entries_of, with_closed}
use Rattle.tap_engine.proofs.Counted.{closes_none, closes_one}
use Rattle.tap_running.proofs.Stores.{reads_then}
use Rattle.tap_engine.proofs.Given.{closes_given}
use Rattle.tap_engine.proofs.sources.close_captures.Goals as goal

pub loop-source-init : goal.loop-source-init
loop-source-init g c =
    let same : c.into_iter-source-iterator.result.rest.items ≡ c.args.sources.items =
    search rules in
    let counts = closes_none (option_map g.S.Input.Source.seen) _ _ _ same in (
      counts.0,
      ap (λ sources. with_closed (g.S.Store.seen c.args.store.now).sources
          (given_entries (entries_of (map (option_map g.S.Input.Source.seen) sources)))) same,
      counts.1,
      counts.2,
      counts.3,
    )

pub loop-source-preserved : goal.loop-source-preserved
loop-source-preserved g c =
    let inv = c.loop-source.invariant in
    let counts = closes_one (option_map g.S.Input.Source.seen)
    c.args.sources.items c.loop-source.source-iterator.rest.items c.next.new.self.rest.items
    c.in-Some.source inv.2 _ _ _ inv.3 c.in-Some.ensures.steps.0 inv.4
    c.close_capture.ensures.faults in
    let given = closes_given (option_map g.S.Input.Source.seen)
    c.loop-source.source-iterator.rest.items c.next.new.self.rest.items c.in-Some.source _ _ _
    c.in-Some.ensures.steps.0 inv.1 c.close_capture.ensures.given in (
      reads_then _ _ _ inv.0 c.close_capture.ensures.store,
      given,
      counts.0,
      counts.1,
      counts.2,
    )
