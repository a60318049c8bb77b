use Rattle.std.proofs.Common.{◌≡◌, ◌+◌, length}
use Rattle.std.specs.List.{AllZip}
use Rattle.cpu_feeders.specs.inside.Openings.{IsOpened}
use Rattle.cpu_feeders.specs.inside.MemberSeats.{fresh_users}
use Rattle.cpu_feeders.proofs.open_groups.open_group.Given as goal

abbrev pub invariant-loop-member : goal.invariant-loop-member
invariant-loop-member l = record {
  count : length l.group.members.items ≡ l._member;
  users : l.group.users.items ≡ fresh_users l.group.members.items 0 (l.cpus + 1);
  opened : AllZip (IsOpened l.shape l.cpus) l.group.members.items l.group.ends.items;
}
