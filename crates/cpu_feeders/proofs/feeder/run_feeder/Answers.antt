use Rattle.std.proofs.Common.{◌∙◌, ap, sym}
use Rattle.ticket_dealer.specs.Seats.{SeatValue}
use Rattle.cpu_feeders.specs.Feeds.{FeedsOut}
use Rattle.cpu_feeders.proofs.FirstFrames.{out_still}
use Rattle.cpu_feeders.proofs.Results.{of_no_error}
use Rattle.cpu_feeders.proofs.feeder.run_feeder.Goals as goal

pub returns-clause-fed : goal.returns-clause-fed
returns-clause-fed g c = λ free.
    let job = c.args.shared.now.job.now in
    let locks = c.args.shared.now.members.now in
    let after = c.deliver_all.new.feeder in
    out_still job locks c.args.feeder.now after c.done.new.seat c.is_err-feeder.result
    (ap (λ (seat : SeatValue). seat.drawn) c.done.ensures.ended)
    (of_no_error (FeedsOut job locks c.args.feeder.now after) c.deliver_all.result (sym c.is_err-feeder.ensures.value ∙ free)
    c.deliver_all.ensures.fed)
