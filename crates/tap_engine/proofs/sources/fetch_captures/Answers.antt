use Rattle.std.proofs.Common.{◌≡◌, ◌<◌, [], length, subst, get_or, ap, ◌∙◌, rules}
use Rattle.std.specs.Prelude.{option_map}
use Rattle.tap_engine.proofs.Counted.{goes_on}
use Rattle.tap_running.proofs.Stores.{held_same, reads_then}
use Rattle.tap_engine.proofs.Given.{fetch_starts, fetches_one}
use Rattle.tap_engine.proofs.sources.fetch_captures.Goals as goal

pub loop-cpu-init : goal.loop-cpu-init
loop-cpu-init g c =
    let none : c.in_ok-sources.sources.items ≡ [] = search rules in
    fetch_starts (option_map g.S.Input.Source.seen) (g.S.Store.seen c.args.store.now).held
    c.args.cpus.now c.in_ok-sources.sources.items (g.S.Store.seen c.args.store.now) none

pub loop-cpu-preserved : goal.loop-cpu-preserved
loop-cpu-preserved g c =
    let inv = c.loop-cpu.invariant in
    let is = c.cpu-item.is ∙ ap (λ cpus. get_or cpus c.loop-cpu.cpu-index c.cpu-item.result)
    c.as_slice-cpu-items.ensures in
    let less = subst (λ cpus. c.loop-cpu.cpu-index < length cpus) c.as_slice-cpu-items.ensures
    c.loop-cpu-test.true in
    let next = goes_on (option_map g.S.Input.Source.seen) _ _ c.args.cpus.now c.loop-cpu.cpu-index
    c.cpu-item.result
    c.loop-cpu.sources.items c.push.new.self.items c.in_ok-source.source _ _ _
    (held_same _ _ inv.0) is less
    c.in_ok-push.ensures.items inv.1 c.in_ok-source.ensures.fetched inv.2
    c.in_ok-source.ensures.faults in
    let given = fetches_one (option_map g.S.Input.Source.seen) _ c.args.cpus.now
    c.loop-cpu.cpu-index c.cpu-item.result c.loop-cpu.sources.items
    c.push.new.self.items c.in_ok-source.source _ _ _ is less c.in_ok-push.ensures.items inv.1 inv.3
    c.in_ok-source.ensures.given in
    (reads_then _ _ _ inv.0 c.fetch_capture.ensures.store, next.0, next.1, given)
