use Rattle.std.proofs.Common.{◌≡◌, ◌+◌, ◌-◌, [], ◌++◌, replicate}
use Rattle.ticket_dealer.specs.Hands.{unmade}
use Rattle.ticket_dealer.specs.Seats.{dealer_of, fresh_seat}
use Rattle.ticket_dealer.proofs.new_dealers.make_feeders.Given as goal

abbrev pub invariant-loop : goal.invariant-loop
invariant-loop l = record {
  table : l.first.table_id ≡ l.initial.first.table_id;
  first : l.first.me ≡ (unmade l.shared.key (l.count - l.counter + 1) (l.count - l.counter + 10), []);
  seats : l.seats.items ≡ l.initial.seats.items ++ replicate l.counter
      (fresh_seat (dealer_of l.shared.table_id l.shared.key) 1);
}
