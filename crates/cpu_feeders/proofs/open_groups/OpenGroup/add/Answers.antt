use Rattle.std.proofs.Common.{◌+◌, length, sym, ap, ◌∙◌, rules}
use Rattle.turn_lock.proofs.SeatLists.{fresh_long}
use Rattle.cpu_feeders.specs.inside.Openings.{IsOpened}
use Rattle.cpu_feeders.proofs.OneMore.{grown_users, zip_more}
use Rattle.cpu_feeders.proofs.MemberSeatLists.{users_long}
use Rattle.cpu_feeders.proofs.open_groups.OpenGroup.add.Goals as goal

pub add_to_each-requires : goal.add_to_each-requires
add_to_each-requires c = record {
  count = ap length c.in_ok-member.ensures.member_seats ∙ fresh_long c.in_ok-member.member 0 (c.args.cpus + 1)
      ∙ sym (users_long c.args.self.now.members.items 0 (c.args.cpus + 1)) ∙ ap length (sym c.requires.users);
}

pub returns-clause-users : goal.returns-clause-users
returns-clause-users c =
    let users = grown_users c.args.self.now.members.items c.push.new.self.items c.in_ok-member.member (c.args.cpus + 1)
    c.args.self.now.users.items
    c.add_to_each.new.lists.items c.in_ok-member.member_seats.items c.requires.users c.in_ok-member.ensures.member_seats in
    search (rules, users, c.in_ok-push.ensures.items)

pub returns-clause-opened : goal.returns-clause-opened
returns-clause-opened c =
    let opened : IsOpened c.args.shape.now c.args.cpus c.in_ok-member.member c.in_ok-member.end = record {
      base = c.in_ok-member.ensures.base;
      seats = c.in_ok-member.ensures.count;
      first = c.in_ok-member.ensures.first;
      fresh = c.in_ok-member.ensures.walker;
    } in
    let more = zip_more (IsOpened c.args.shape.now c.args.cpus) _ _ _ _ c.in_ok-member.member c.in_ok-member.end
    c.in_ok-push.ensures.items
    c.in_ok-push-2.ensures.items c.requires.opened opened in
    search (rules, more)
