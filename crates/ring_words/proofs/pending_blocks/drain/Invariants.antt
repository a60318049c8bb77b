use Rattle.std.proofs.Common.{◌≡◌, ◌+◌, ◌-◌, ◌≤◌, ◌++◌, length, take, vec_capacity}
use Rattle.std.specs.List.{AllByRecursion}
use Rattle.ring_words.specs.Pendings.{AreReadyAfter, entries_of}
use Rattle.ring_words.specs.TableEnds.{IsSeated}
use Rattle.ring_words.proofs.pending_blocks.drain.Given as goal

-- the blocks so far are those that were taken since, and there is room for what is left
abbrev pub invariant-loop-at : goal.invariant-loop-at
invariant-loop-at g l = record {
  table : IsSeated l.table.table_id l.seat.table_id l.places;
  known : l.seat.me.0 ≡ record l.initial.seat.me.0 { taken = l.seat.me.0.taken; visits = l.seat.me.0.visits };
  taken : l.seat.me.0.taken ≡ l.initial.seat.me.0.taken ++ entries_of g.B.Content.bytes l.blocks.items;
  count : length l.seat.me.0.taken ≡ l.at;
  passed : l.from + length l.blocks.items ≡ l.at;
  front : l.seat.me.0.taken ≡ take l.at l.initial.seat.me.0.retired;
  kinds : AllByRecursion (λ one. g.B.Content.kind one.0 ≡ l.initial.seat.me.0.kind) l.blocks.items;
  ready : AreReadyAfter g.B.Content.ready l.from l.blocks.items;
  room : length l.blocks.items + (l.to - l.at) ≤ vec_capacity l.blocks;
}
