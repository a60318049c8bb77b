-- What a seat of the table knows at the start and after each step.
use Rattle.std.specs.Prelude.{ℕ, ◌+◌, ◌-◌, [], ◌∷◌, ◌++◌}
use Rattle.ticket_dealer.specs.declared.knowledge.Hand.{Hand}

-- the first seat while it still makes others: it owes their calls of `done`, and represents them
abbrev pub unmade : ℕ → ℕ → ℕ → Hand
unmade feeders owes shares = record {
  feeders = feeders;
  shares = shares;
  owes = owes;
  ended = 0;
  drawn = [];
  live = feeders;
}

-- the first seat, from which the others are made: a dealer has a seat for each feeder and nine more
abbrev pub opening : ℕ → Hand
opening feeders = unmade feeders feeders (feeders + 9)

-- a seat that represents one of the dealer's, and has drawn nothing
abbrev pub fresh : ℕ → ℕ → ℕ → Hand
fresh feeders owes live = record {
  feeders = feeders;
  shares = 1;
  owes = owes;
  ended = 0;
  drawn = [];
  live = live;
}

-- a feeder's seat is made from the first one
abbrev pub without_feeder : Hand → Hand
without_feeder v = record v { shares = v.shares - 1; owes = v.owes - 1 }

abbrev pub feeder_of : Hand → Hand
feeder_of v = fresh v.feeders 1 v.live

-- a seat that belongs to no feeder is made from the first one
abbrev pub without_other : Hand → Hand
without_other v = record v { shares = v.shares - 1 }

abbrev pub other_of : Hand → Hand
other_of v = fresh v.feeders 0 v.live

-- it has drawn the ticket
abbrev pub drew : Hand → ℕ → Hand
drew v ticket = record v { drawn = v.drawn ++ ticket ∷ [] }

-- it has called `done`
abbrev pub ended : Hand → Hand
ended v = record v { owes = v.owes - 1; ended = v.ended + 1 }

-- it has found this number of live feeders
abbrev pub saw : Hand → ℕ → Hand
saw v found = record v { live = found }

-- it represents the seats of both, the other's first
abbrev pub joined : Hand → Hand → Hand
joined v w = record v {
  shares = v.shares + w.shares;
  owes = v.owes + w.owes;
  ended = v.ended + w.ended;
  drawn = w.drawn ++ v.drawn;
}

-- it represents no seat any more
abbrev pub spent : Hand
spent = record { feeders = 0; shares = 0; owes = 0; ended = 0; drawn = []; live = 0 }
