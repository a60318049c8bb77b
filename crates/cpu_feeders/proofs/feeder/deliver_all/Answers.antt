use Rattle.cpu_feeders.proofs.FirstFrames.{first_goes}
use Rattle.cpu_feeders.proofs.feeder.deliver_all.Goals as goal

pub feed_all-requires-clause-goes : goal.feed_all-requires-clause-goes
feed_all-requires-clause-goes g c =
    let fresh = c.requires.fresh in
    let feeder = c.args.feeder.now in
    first_goes c.args.shared.now.job.now c.args.shared.now.members.now c.args.shared.now.dealer.now feeder.feed
    feeder.member_seats.items feeder.seat
    fresh.fed fresh.path fresh.count fresh.each fresh.seat
