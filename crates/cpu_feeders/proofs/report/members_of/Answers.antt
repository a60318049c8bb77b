use Rattle.std.proofs.Common.{length, ap, sym, ◌∙◌, arith}
use Rattle.cpu_feeders.proofs.OneMore.{empty}
use Rattle.cpu_feeders.proofs.MemberReports.{last_report, next_report}
use Rattle.cpu_feeders.proofs.report.members_of.Goals as goal

pub loop-notes-preserved : goal.loop-notes-preserved
loop-notes-preserved c =
    let inv = c.loop-notes.invariant in
    let notes = c.in-Some.ensures.steps.0 in
    let ring = c.first_of-ring.ensures in
    let read = c.first_of-read.ensures in
    let notes_long = ap length notes in
    let ring_long = ap length ring in
    let read_long = ap length read in
    let rings = inv.rings in
    let outputs = inv.outputs in
    record {
      rings = omega (arith, rings, notes_long, ring_long);
      outputs = omega (arith, outputs, notes_long, read_long);
      reported = next_report _ _ _ _ _ _ _ _ _ _ _ _ notes ring read c.in_ok-push.ensures.ok inv.reported;
    }

pub returns : goal.returns
returns c =
    let inv = c.loop-notes.invariant in
    last_report _ _ _ _ _ (empty _ (sym c.loop-notes.notes-iterator.rest.ok.0 ∙ c.in-None.ensures.steps.0)) inv.reported
