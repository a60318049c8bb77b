use Rattle.ring_sizes.proofs.SameOrder.{same_events}
use Rattle.ring_sizes.proofs.laws.events_stay_in_order_where_no_tick_passes_any.Goals as goal

pub returns : goal.returns
returns c stalls pace phase end arrivals small few frames steps =
    same_events stalls pace phase end arrivals small few frames steps
