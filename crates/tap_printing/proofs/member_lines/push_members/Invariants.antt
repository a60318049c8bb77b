-- The lines so far, with those that are left, are all; the packets so far are summed.
use Rattle.std.proofs.Common.{◌≡◌, ◌++◌, ◌*◌, ◌^◌, ◌≤◌, ◌-◌, drop, take}
use Rattle.std.specs.Prelude.{option_copied}
use Rattle.ring_model.specs.Ring.{AtEachSize}
use Rattle.tap_printing.specs.Lines.{drops_in, kept_in, member_lines}
use Rattle.tap_printing.specs.Statistics.{totals_by}
use Rattle.tap_printing.proofs.member_lines.push_members.Given as goal

abbrev pub invariant-loop-member : goal.invariant-loop-member
invariant-loop-member l = record {
  lines : AtEachSize l.tov (λ size.
      l.text.items ++ member_lines l.kind size (option_copied l.forwards) l.member (drop l.member l.members)
      ≡ l.initial.text.items ++ member_lines l.kind size (option_copied l.forwards) 0 l.members);
  kept : AtEachSize l.tov (λ size. l.passed.kept ≡ kept_in (totals_by l.kind size) (take l.member l.members));
  drops : AtEachSize l.tov (λ size. l.passed.drops ≡ drops_in (totals_by l.kind size) (take l.member l.members));
  small_kept : l.passed.kept ≤ (2 ^ 64 - 1) * l.member;
  small_drops : l.passed.drops ≤ (2 ^ 64 - 1) * l.member;
}
