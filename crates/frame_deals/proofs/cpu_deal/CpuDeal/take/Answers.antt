use Rattle.std.proofs.Common.{arith, rules}
use Rattle.frame_deals.proofs.KeptTimes.{count_small, rises_more}
use Rattle.frame_deals.proofs.cpu_deal.CpuDeal.take.Goals as goal

pub invariant_of-self-2 : goal.invariant_of-self-2
invariant_of-self-2 c =
    let same = c.self.invariant in
    let one = count_small c.mark-mark.result in
    let few = same.1 in (
      search rules,
      omega (arith, few, one, c.arrived.ensures),
      rises_more c.self.inside.latest c.time_of.result c.max-time.result c.self.inside.marks c.push.new.self
          c.mark-mark.result c.max-time.ensures c.in_ok-push.ensures.ok same.2,
    )
