use Rattle.cpu_feeders.proofs.FreshThreads.{seats_many, seats_of_feeders, seats_of_others}
use Rattle.cpu_feeders.proofs.run_threads.deal.Goals as goal

pub returns : goal.returns
returns c =
    let others = seats_of_others c.in_ok-dealer.dealer c.args.cpus c.in_ok-dealer.ensures.feeders c.in_ok-dealer.seats.items
    c.in_ok-spare.spare.items
    c.in_ok-dealer.ensures.seats c.in_ok-spare.ensures.tail in
    record {
      feeders_are = c.in_ok-dealer.ensures.feeders;
      count = seats_many c.in_ok-dealer.dealer c.args.cpus c.in_ok-dealer.ensures.feeders c.in_ok-dealer.seats.items
          c.split_off.new.self.items
          c.in_ok-dealer.ensures.seats c.in_ok-spare.ensures.items;
      seats_are = seats_of_feeders c.in_ok-dealer.dealer c.args.cpus c.in_ok-dealer.ensures.feeders c.in_ok-dealer.seats.items
          c.split_off.new.self.items
          c.in_ok-dealer.ensures.seats c.in_ok-spare.ensures.items;
      spare_count = others.1;
      spare_are = others.0;
    }
