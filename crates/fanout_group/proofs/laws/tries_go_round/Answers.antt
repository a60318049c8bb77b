-- The three laws.
use Rattle.fanout_group.proofs.RoundLaws.{begun_goes_round, route_goes_round, route_refused_before_last}
use Rattle.fanout_group.proofs.laws.tries_go_round.Goals as goal

pub returns-clause-member : goal.returns-clause-member
returns-clause-member c = route_goes_round

pub returns-clause-refused : goal.returns-clause-refused
returns-clause-refused c = route_refused_before_last

pub returns-clause-begun : goal.returns-clause-begun
returns-clause-begun c = begun_goes_round
