use Rattle.std.proofs.Common.{rules}
use Rattle.std.specs.Prelude.{option_map}
use Rattle.tap_outside.specs.Seen.{SourceSeen}
use Rattle.replay_machine.proofs.OneMore.{as_many, next_feeding}
use Rattle.replay_machine.proofs.new_replays.feeds_of.Goals as goal

pub loop-source-preserved : goal.loop-source-preserved
loop-source-preserved g c =
    let next = c.in-Some.ensures.steps.0 in
    let pushed = c.in_ok-push.ensures.items in
    record {
      made = next_feeding (option_map {T = g.row.S.Denot} {U = SourceSeen} g.S.Source.seen) c.args.plan
          c.loop-source.cpus.items c.push.new.self.items _ c.loop-source.source-iterator.rest.items c.next.new.self.rest.items
          c.in-Some.source c.new.result
          next pushed (search rules) c.loop-source.invariant.made;
      few = as_many 8 c.loop-source.cpus.items c.push.new.self.items c.loop-source.source-iterator.rest.items
          c.next.new.self.rest.items
          c.in-Some.source c.new.result next pushed c.loop-source.invariant.few;
    }
