use Rattle.cpu_feeders.proofs.FreshThreads.{seats_of_others}
use Rattle.block_pool.proofs.pool.deal_one.Goals as goal

pub returns-clause-others : goal.returns-clause-others
returns-clause-others c =
    (seats_of_others c.in_ok-dealer.dealer 1 c.in_ok-dealer.ensures.feeders c.in_ok-dealer.seats.items
    c.in_ok-others.others.items
    c.in_ok-dealer.ensures.seats c.in_ok-others.ensures.tail).0

pub returns-clause-count : goal.returns-clause-count
returns-clause-count c =
    (seats_of_others c.in_ok-dealer.dealer 1 c.in_ok-dealer.ensures.feeders c.in_ok-dealer.seats.items
    c.in_ok-others.others.items
    c.in_ok-dealer.ensures.seats c.in_ok-others.ensures.tail).1
