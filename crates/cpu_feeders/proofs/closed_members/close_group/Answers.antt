use Rattle.std.proofs.Common.{◌≡◌, ◌++◌, ◌∷◌, [], List, length, rules, sym, ap, ◌∙◌, subst, arith, append-nil, append_assoc}
use Rattle.cpu_feeders.specs.inside.Closings.{AllAtEnd, AllClosedWith}
use Rattle.cpu_feeders.specs.declared.closed_members.Closed.{Closed}
use Rattle.cpu_feeders.proofs.AllClosed.{at_end_long, at_end_next, closed_next, none_closed}
use Rattle.cpu_feeders.proofs.OneMore.{empty}
use Rattle.cpu_feeders.proofs.closed_members.close_group.Goals as goal

pub loop-walker-init : goal.loop-walker-init
loop-walker-init g c =
    let locks : c.from-members.result.items ≡ c.args.members.items = search rules in
    let rows : c.from-member_seats.result.items ≡ c.args.member_seats.items = search rules in
    let walkers : c.into_iter-walker-iterator.result.rest.items ≡ c.args.walkers.items = search rules in
    let none : c.in_ok-all.all.items ≡ [] = c.in_ok-all.ensures.items in
    let ends : AllAtEnd g.T.Taker.base g.T.Taker.taken c.from-members.result.items c.from-member_seats.result.items
    c.into_iter-walker-iterator.result.rest.items =
    rw (locks, rows, walkers) c.requires in
    let long = at_end_long g.T.Taker.base g.T.Taker.taken _ _ _ ends in
    record {
      members_left = long.0;
      member_seats_left = long.1;
      at_end = ends;
      closed = λ more over. rw (none, ← locks, ← rows, ← walkers) over;
    }

pub loop-walker-preserved : goal.loop-walker-preserved
loop-walker-preserved g c =
    let inv = c.loop-walker.invariant in
    let lock = c.first_of-member.ensures in
    let row = c.first_of-list.ensures in
    let walker = c.in-Some.ensures.steps.0 in
    let lock_long = ap length lock in
    let row_long = ap length row in
    let walker_long = ap length walker in
    let members = inv.members_left in
    let member_seats = inv.member_seats_left in
    let one = c.in_ok-close_one.ensures in
    let all = g.T.Taker.base in
    record {
      members_left = omega (arith, lock_long, walker_long, members);
      member_seats_left = omega (arith, row_long, walker_long, member_seats);
      at_end = (at_end_next g.T.Taker.base g.T.Taker.taken _ _ _ _ _ _ c.first_of-member.result c.first_of-list.result
          c.in-Some.walker
          lock row walker inv.at_end).1;
      closed = λ more over.
          let pushed : c.push.new.self.items ++ more ≡ c.loop-walker.all.items ++ (c.in_ok-close_one.field-0 ∷ more) =
          ap (λ (some : List (Closed g.row.T.Denot)). some ++ more) c.in_ok-push.ensures.items
          ∙ append_assoc c.loop-walker.all.items (c.in_ok-close_one.field-0 ∷ []) more in
          rw pushed (inv.closed (c.in_ok-close_one.field-0 ∷ more)
          (closed_next g.T.Taker.base g.T.Taker.taken _ _ _ _ _ _ c.first_of-member.result c.first_of-list.result
          c.in-Some.walker
          c.in_ok-close_one.field-0 more lock row walker (rw (← c.into_vec.ensures) one) over));
    }

pub returns : goal.returns
returns g c =
    let inv = c.loop-walker.invariant in
    let count : length c.loop-walker.walker-iterator.rest.items ≡ 0 =
    sym c.loop-walker.walker-iterator.rest.ok.0 ∙ c.in-None.ensures.steps.0 in
    let members = inv.members_left in
    let member_seats = inv.member_seats_left in
    let no_walker = empty c.loop-walker.walker-iterator.rest.items count in
    let no_lock = empty c.loop-walker.members.items (omega (arith, members, count)) in
    let no_row = empty c.loop-walker.member_seats.items (omega (arith, member_seats, count)) in
    subst (λ (some : List (Closed g.row.T.Denot)). AllClosedWith g.T.Taker.base g.T.Taker.taken c.args.members.items
    c.args.member_seats.items c.args.walkers.items some)
    (append-nil c.loop-walker.all.items)
    (inv.closed [] (none_closed g.T.Taker.base g.T.Taker.taken _ _ _ no_lock no_row no_walker))
