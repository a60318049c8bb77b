use Rattle.std.proofs.Common.{◌≡◌, [], replicate}
use Rattle.std.specs.List.{AllByRecursion}
use Rattle.frame_deals.specs.Dealings.{IsRising}
use Rattle.frame_deals.specs.inside.Merges.{dealt_all, dealt_of, end_from, feeds_left, first_of, frames_left}
use Rattle.frame_deals.proofs.deals.merge_all.Given as goal
use Rattle.reader_pace.specs.Timelines.{latest}

abbrev pub invariant-dealing : goal.invariant-dealing
invariant-dealing l = record {
  rise : AllByRecursion IsRising l.merge.queues.items;
  dealt : dealt_of l.plan l.merge
      ≡ dealt_all l.plan (first_of l.fn.queues.items) 0 l.fn.queues.items (replicate l.plan.members []);
  end : end_from l.merge ≡ latest (feeds_left (first_of l.fn.queues.items) 0 l.fn.queues.items);
}

abbrev pub decreases-dealing : goal.decreases-dealing
decreases-dealing l = frames_left l.merge
