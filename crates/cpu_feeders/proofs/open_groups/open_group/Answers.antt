use Rattle.std.proofs.Common.{◌+◌, List, length, sym, ap, ◌∙◌}
use Rattle.member_turns.specs.Seats.{Lock}
use Rattle.cpu_feeders.specs.inside.MemberSeats.{fresh_users}
use Rattle.cpu_feeders.proofs.MemberSeatLists.{no_member_seats}
use Rattle.cpu_feeders.proofs.open_groups.open_group.Goals as goal

pub loop-member-init : goal.loop-member-init
loop-member-init c =
    let members = c.in_ok-with_capacity.ensures.items in
    let ends = c.in_ok-with_capacity-2.ensures.items in
    record {
      count = ap length members;
      users = c.in_ok-empty_lists.ensures ∙ sym (no_member_seats 0 (c.args.cpus + 1))
          ∙ ap (λ (locks : List Lock). fresh_users locks 0 (c.args.cpus + 1)) (sym members);
      opened = rw (members, ends) tt;
    }
