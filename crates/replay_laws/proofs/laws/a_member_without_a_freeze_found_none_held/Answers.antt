use Rattle.std.proofs.Common.{[], get_or, subst, arith}
use Rattle.std.specs.List.{AllByRecursion}
use Rattle.std.proofs.lemmas.List.{get_or-map, length-map}
use Rattle.std.proofs.lemmas.List.Elements.{All-from_recursion}
use Rattle.ring_laws.specs.Freezes.{IsNoRefusal}
use Rattle.run_reports.specs.Jobs.{rules_of}
use Rattle.run_reports.specs.declared.reports.MemberReport.{MemberReport}
use Rattle.tp_layout.specs.Requests.{room_of, size_of}
use Rattle.replay_laws.proofs.PrintedFreezes.{none_refused}
use Rattle.replay_laws.proofs.laws.a_member_without_a_freeze_found_none_held.Goals as goal

pub returns : goal.returns
returns c = λ job bytes ends report is rolls k d within zero.
    let member = get_or report.members k d in
    let notes = λ (member : MemberReport). member.notes in
    let many = length-map report.members notes in
    let none = none_refused (rules_of job) (room_of job.setup.shape) _ _ is.group rolls k (omega (arith, within, many)) in
    let same = get_or-map notes report.members k d [] within in
    c.a_ring_that_counted_no_freeze_found_none_held.ensures (size_of job.setup.shape) member.notes
    (is.members k d within).run.run
    (All-from_recursion IsNoRefusal member.notes (subst (AllByRecursion IsNoRefusal) same none)) zero
