use Rattle.std.proofs.Common.{◌≡◌, ◌+◌, drop}
use Rattle.ring_sizes.specs.Passes.{IsWithin, first_pass, passed_all}
use Rattle.ring_sizes.proofs.sizes.least.Given as goal

abbrev pub invariant-loop-event : goal.invariant-loop-event
invariant-loop-event l = record {
  within : IsWithin (l.event-index + 1) l.pass;
  goes : passed_all l.room l.tov (drop l.event-index l.events) l.pass ≡ passed_all l.room l.tov l.events (first_pass l.tov);
}
