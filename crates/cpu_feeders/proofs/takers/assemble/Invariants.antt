use Rattle.std.proofs.Common.{◌≡◌, ◌++◌}
use Rattle.std.specs.Prelude.{map}
use Rattle.cpu_feeders.proofs.takers.assemble.Given as goal

abbrev pub invariant-loop-closed : goal.invariant-loop-closed
invariant-loop-closed g l = record {
  cpus : l.workers.cpus ≡ l.fn.cpus.logs;
  sources : l.workers.sources.items ≡ l.fn.cpus.sources.items;
  notes : l.workers.notes.items ++ map (λ closed. closed.notes) l.closed-iterator.rest.items
      ≡ map (λ closed. closed.notes) l.fn.members.items;
  takers : l.workers.takers.items ++ map (λ closed. closed.taker) l.closed-iterator.rest.items
      ≡ map (λ closed. closed.taker) l.fn.members.items;
  rings : l.workers.rings.items ++ map (λ closed. closed.ring) l.closed-iterator.rest.items
      ≡ map (λ closed. closed.ring) l.fn.members.items;
  seats : l.seats.items ++ map (λ closed. closed.seat) l.closed-iterator.rest.items ≡ l.fn.seats.items
      ++ map (λ closed. closed.seat) l.fn.members.items;
}
