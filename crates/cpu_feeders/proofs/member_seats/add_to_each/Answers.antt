use Rattle.std.proofs.Common.{◌≡◌, [], refl, sym, rules}
use Rattle.cpu_feeders.proofs.MemberSeatLists.{next_member_seat, next_within, with_none}
use Rattle.cpu_feeders.proofs.member_seats.add_to_each.Goals as goal

pub loop-member_seat-init : goal.loop-member_seat-init
loop-member_seat-init c =
    let same : c.args.member_seats.items ≡ c.into_iter-member_seat-iterator.result.rest.items = search rules in
    record { added = ([], same, refl, sym (with_none c.args.lists.now.items)) }

pub index_mut-requires : goal.index_mut-requires
index_mut-requires c =
    let added = c.loop-member_seat.invariant.added in
    let within = next_within c.args.member_seats.items added.0 _ _ c.in-Some.member_seat c.args.lists.now.items
    c.loop-member_seat.lists.items c.loop-member_seat.at added.1 c.in-Some.ensures.steps.0 added.2 added.3
    c.requires.count in
    search (rules, within)

pub loop-member_seat-preserved : goal.loop-member_seat-preserved
loop-member_seat-preserved c =
    let added = c.loop-member_seat.invariant.added in
    record {
      added = next_member_seat c.args.member_seats.items added.0 _ _ c.in-Some.member_seat c.args.lists.now.items
          c.loop-member_seat.lists.items _ _ c.loop-member_seat.at
          added.1 c.in-Some.ensures.steps.0 added.2 added.3 c.requires.count c.index_mut.ensures.value c.in_ok-push.ensures.ok;
    }
