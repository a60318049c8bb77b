use Rattle.std.proofs.Common.{◌≡◌, ℕ, [], false, List, Option, rules, length, refl, sym, ap, ◌∙◌, subst, arith}
use Rattle.std.specs.Prelude.{map, option_map}
use Rattle.std.specs.List.{AllByRecursion}
use Rattle.tap_outside.specs.Seen.{SourceSeen}
use Rattle.ticket_dealer.specs.Seats.{SeatValue}
use Rattle.history.proofs.Lists.{all_but}
use Rattle.cpu_feeders.specs.Feeds.{IsFreshSeat}
use Rattle.cpu_feeders.specs.inside.FreshWorkers.{first_feed, first_feeds}
use Rattle.cpu_feeders.specs.declared.feeder.Feeder.{Feeder}
use Rattle.cpu_feeders.proofs.FedFeeders.{feed_in, next_feed, member_seats_in}
use Rattle.cpu_feeders.proofs.OneMore.{all_more, as_many, both_shorter, both_shorter_at_end, empty, made_all, next_item}
use Rattle.cpu_feeders.proofs.OneMore.{some_left}
use Rattle.cpu_feeders.proofs.fresh_workers.feeders_of.Goals as goal

pub loop-source-init : goal.loop-source-init
loop-source-init g c =
    let seen = option_map {T = g.row.S.Denot} {U = SourceSeen} g.S.Source.seen in
    let users : c.from-users.result.items ≡ c.args.users.items = search rules in
    let none : c.in_ok-feeders.feeders.items ≡ [] = c.in_ok-feeders.ensures.items in
    let rest : c.into_iter-source-iterator.result.rest.items ≡ c.args.sources.items =
    c.into_iter-source-iterator.ensures.into_iter_gives.0 in
    let made = ap length none in
    let long = ap length rest in
    record {
      count = omega (arith, made, long);
      users = ap length users ∙ c.requires.users ∙ sym long;
      left = c.requires.seats ∙ sym long;
      feeds = rw (none, rest) refl;
      member_seats = rw (none, users) refl;
      full = rw none tt;
      seats = λ dealer own. (own, rw none tt);
    }

pub loop-source-preserved : goal.loop-source-preserved
loop-source-preserved g c =
    let inv = c.loop-source.invariant in
    let made = c.loop-source.feeders.items in
    let now = c.push.new.self.items in
    let rest = c.loop-source.source-iterator.rest.items in
    let after = c.next.new.self.rest.items in
    let next = c.in-Some.ensures.steps.0 in
    let feeder = c.in_ok-fresh_feeder.field-0 in
    let users = c.fresh_feeder.new.users.items in
    let seats = c.fresh_feeder.new.seats.items in
    let pushed = c.in_ok-push.ensures.items in
    let fresh = c.in_ok-fresh_feeder.ensures in
    let seen = option_map {T = g.row.S.Denot} {U = SourceSeen} g.S.Source.seen in
    let counted : c.len-number.result ≡ length c.loop-source.feeders.items =
    c.len-number.ensures ∙ c.loop-source.feeders.ok.0 in
    record {
      count = as_many _ made now rest after c.in-Some.source feeder next pushed inv.count;
      users = both_shorter c.loop-source.users.items users rest after feeder.member_seats.items c.in-Some.source
          fresh.member_seats next inv.users;
      left = both_shorter_at_end c.loop-source.seats.items seats rest after feeder.seat c.in-Some.source fresh.seat
          next inv.left;
      feeds = next_feed seen c.args.plan made now rest after _ c.in-Some.source
          feeder next pushed (fresh.feed ∙ ap (λ (n : ℕ). first_feed c.args.plan n (seen c.in-Some.source)) counted) inv.feeds;
      member_seats = next_item member_seats_in made now c.loop-source.users.items users _ feeder feeder.member_seats.items
          fresh.member_seats pushed refl inv.member_seats;
      full = all_more (λ (f : Feeder g.row.S.Denot). f.full ≡ false) made now feeder pushed inv.full fresh.full;
      seats = λ dealer own.
          let both = inv.seats dealer own in
          let parts = all_but (IsFreshSeat dealer) seats feeder.seat
          (subst (λ (ss : List SeatValue). AllByRecursion (IsFreshSeat dealer) ss) fresh.seat both.0) in (
            parts.0,
            all_more (λ (f : Feeder g.row.S.Denot). IsFreshSeat dealer f.seat) made now feeder pushed both.1 parts.1,
          );
    }

pub fresh_feeder-requires-clause-users : goal.fresh_feeder-requires-clause-users
fresh_feeder-requires-clause-users g c =
    some_left c.loop-source.users.items c.loop-source.source-iterator.rest.items c.next.new.self.rest.items c.in-Some.source
    c.in-Some.ensures.steps.0
    c.loop-source.invariant.users

pub fresh_feeder-requires-clause-seats : goal.fresh_feeder-requires-clause-seats
fresh_feeder-requires-clause-seats g c =
    some_left c.loop-source.seats.items c.loop-source.source-iterator.rest.items c.next.new.self.rest.items c.in-Some.source
    c.in-Some.ensures.steps.0
    c.loop-source.invariant.left

pub returns-clause-feeds : goal.returns-clause-feeds
returns-clause-feeds g c =
    let seen = option_map {T = g.row.S.Denot} {U = SourceSeen} g.S.Source.seen in
    let rest = c.loop-source.source-iterator.rest in
    let none = empty rest.items (sym rest.ok.0 ∙ c.in-None.ensures.steps.0) in
    made_all feed_in c.loop-source.feeders.items
    (first_feeds c.args.plan (length c.loop-source.feeders.items) (map seen rest.items)) _
    (ap (λ (some : List (Option g.row.S.Denot)). first_feeds c.args.plan (length c.loop-source.feeders.items)
    (map seen some)) none)
    c.loop-source.invariant.feeds

pub returns-clause-member_seats : goal.returns-clause-member_seats
returns-clause-member_seats g c =
    let rest = c.loop-source.source-iterator.rest in
    let count : length rest.items ≡ 0 = sym rest.ok.0 ∙ c.in-None.ensures.steps.0 in
    let users = c.loop-source.invariant.users in
    made_all member_seats_in c.loop-source.feeders.items c.loop-source.users.items _
    (empty c.loop-source.users.items (omega (arith, users, count)))
    c.loop-source.invariant.member_seats

pub returns-clause-full : goal.returns-clause-full
returns-clause-full g c = c.loop-source.invariant.full

pub returns-clause-seats : goal.returns-clause-seats
returns-clause-seats g c = λ dealer own. (c.loop-source.invariant.seats dealer own).1
