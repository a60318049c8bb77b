use Rattle.std.proofs.Common.{ap, ◌∙◌, ◌+◌, ℕ, length, sym}
use Rattle.ticket_dealer.specs.Tickets.{times}
use Rattle.ticket_dealer.proofs.Lists.{seats_count, seats_times}
use Rattle.ticket_dealer.proofs.Asks.{closes, closes_sum}
use Rattle.ticket_dealer.proofs.dealer.Dealer.close.Goals as goal

pub returns : goal.returns
returns c =
    let seat = c.gather-seat.result in
    let drawn = sym c.gather-seat.ensures.drawn in
    let word = c.word-drawn.result in
    let final = c.close_with-closed.ensures.values.2 in
    let feeders = sym (ap (λ d. d.feeders) c.self.view_is) in
    let shares = c.gather-seat.ensures.shares ∙ c.requires.all ∙ ap (λ (z : ℕ). z + 9) feeders in record {
      dealt = record {
        once = λ ticket. seats_times ticket c.args.seats.items ∙ ap (times ticket) drawn
            ∙ closes _ _ _ seat.id seat.me.0 word shares final c.word-drawn.ensures ticket;
        sum = seats_count c.args.seats.items ∙ ap length drawn
            ∙ closes_sum _ _ _ seat.id seat.me.0 word shares final c.word-drawn.ensures;
        rising = c.gather-seat.ensures.rising;
      };
    }
