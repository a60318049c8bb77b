use Rattle.std.proofs.Common.{◌≡◌, None, [], ap, arith, get_or, subst}
use Rattle.std.specs.List.{AllByRecursion}
use Rattle.std.proofs.lemmas.List.{get_or-map, length-map}
use Rattle.std.proofs.lemmas.List.Elements.{All-from_recursion}
use Rattle.replay_laws.proofs.PrintedFreezes.{none_refused}
use Rattle.replay_laws.proofs.SlotDrops.{none_held}
use Rattle.replay_laws.proofs.laws.a_member_over_slots_without_a_drop_found_none_held.Goals as goal
use Rattle.ring_laws.specs.Freezes.{IsNoRefusal}
use Rattle.ring_model.specs.Unreleased.{held_number}
use Rattle.ring_model.specs.declared.notes.Note.{Note}
use Rattle.ring_model.specs.declared.notes.Stats.{Stats}
use Rattle.run_reports.specs.Jobs.{rules_of}
use Rattle.run_reports.specs.declared.reports.MemberReport.{MemberReport}
use Rattle.slot_layout.specs.SlotRings.{room_of_slots}
use Rattle.slot_layout.specs.SlotShapes.{slot_size_of}
use Rattle.slot_layout.specs.SlotSteps.{first_slot_state}

pub returns : goal.returns
returns c = λ job bytes ends report is rolls k d within zero.
    let member = get_or report.members k d in
    let notes = λ (member : MemberReport). member.notes in
    let size = slot_size_of job.setup.shape in
    let many = length-map report.members notes in
    let none = none_refused (rules_of job) (room_of_slots job.setup.shape.frame_size) _ _ is.group rolls k
    (omega (arith, within, many)) in
    let same = get_or-map notes report.members k d [] within in
    let totals = ap (λ (s : Stats). s.drops) (c.a_slot_ring_counts_as_a_ring_of_blocks.ensures.totals size member.notes) in
    let drops = c.statistics_count_each_packet.ensures.drops size member.notes in
    All-from_recursion (λ (note : Note). held_number note ≡ None) member.notes
    (none_held job.setup.shape.frame_nr first_slot_state member.notes (is.members k d within).run.run
    (subst (AllByRecursion IsNoRefusal) same none) (omega (arith, zero, totals, drops)))
