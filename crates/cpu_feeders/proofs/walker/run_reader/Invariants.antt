use Rattle.cpu_feeders.specs.Walks.{HasWalked}
use Rattle.ticket_dealer.specs.Seats.{IsFreshOf}
use Rattle.cpu_feeders.proofs.walker.run_reader.Given as goal

abbrev pub invariant-loop : goal.invariant-loop
invariant-loop g l = record {
  walked : HasWalked g.T.Taker.base g.T.Taker.taken (g.T.Taker.base l.initial.walker.taker) l.initial.walker l.walker;
  seat : IsFreshOf l.shared.dealer.now l.walker.seat;
}
