use Rattle.std.proofs.Common.{◌∙◌, sym, subst}
use Rattle.cpu_feeders.specs.Walks.{Walks}
use Rattle.cpu_feeders.proofs.Numbered.{freed_more}
use Rattle.reader_walk.specs.Takers.{Base}
use Rattle.ticket_dealer.specs.Seats.{IsFreshOf, SeatValue}
use Rattle.cpu_feeders.proofs.walker.run_reader.Goals as goal

pub loop-preserved-then-take_next : goal.loop-preserved-then-take_next
loop-preserved-then-take_next g c =
    let before = c.loop.invariant.walked in
    let after = c.take_next.ensures.walked in
    record {
      walked = record {
        walks = subst (λ (base : Base). Walks g.T.Taker.base g.T.Taker.taken base c.take_next.new.walker)
            before.walks.base_is after.walks;
        member = after.member ∙ before.member;
        ring = after.ring ∙ before.ring;
        freed = freed_more c.args.walker.now.end c.loop.walker.end c.take_next.new.walker.end before.freed after.freed;
      };
      seat = subst (λ (seat : SeatValue). IsFreshOf c.args.shared.now.dealer.now seat)
          (sym (c.take_next.ensures.seat ∙ c.live-live.ensures.seen)) c.loop.invariant.seat;
    }
