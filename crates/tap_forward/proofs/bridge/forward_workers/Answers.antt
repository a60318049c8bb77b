use Rattle.std.proofs.Common.{List, ℕ, sym, ap, ◌∙◌}
use Rattle.std.proofs.lemmas.Slice.Zip.{AllZip-long}
use Rattle.std.specs.Prelude.{map}
use Rattle.cpu_feeders.proofs.ReadOut.{rings_many}
use Rattle.cpu_feeders.specs.Reports.{AreOutputsOf, member_reports}
use Rattle.reader_walk.specs.declared.outputs.Outputs.{Outputs}
use Rattle.run_reports.specs.declared.reports.MemberReport.{MemberReport}
use Rattle.run_reports.specs.declared.reports.RunReport.{RunReport}
use Rattle.tx_ring.specs.Rings.{room_of}
use Rattle.tap_forward.specs.Bridges.{sent_for, skipped_for}
use Rattle.tap_forward.proofs.Bridged.{all_sent, all_skipped, have_ended, one_room, outputs_left}
use Rattle.tap_forward.proofs.bridge.forward_workers.Goals as goal

pub report_run-requires-clause-rings : goal.report_run-requires-clause-rings
report_run-requires-clause-rings g c =
    rings_many c.args.job.now.setup.shape c.in_ok-workers.workers.notes.items c.in_ok-workers.workers.rings.items
    c.in_ok-workers.ensures.ran.run.rings_are

pub report_run-requires-clause-outputs : goal.report_run-requires-clause-outputs
report_run-requires-clause-outputs g c =
    let setup = c.args.job.now.setup in
    let workers = c.in_ok-workers.workers in
    let ended = have_ended setup.shape c.tx_shape-tx.result setup.dump c.members.result workers.notes.items
    c.in_ok-forwarders.forwarders.items
    workers.takers.items c.in_ok-forwarders.ensures c.in_ok-workers.ensures.ran.takers in
    AllZip-long (AreOutputsOf setup.shape setup.dump) _ _
    (outputs_left setup.shape _ setup.dump workers.notes.items workers.takers.items _ c.in_ok-ended.ensures.outputs ended)

pub returns : goal.returns
returns g c =
    let job = c.args.job.now in
    let setup = job.setup in
    let workers = c.in_ok-workers.workers in
    let run = c.in_ok-workers.ensures.ran in
    let ended = have_ended setup.shape c.tx_shape-tx.result setup.dump c.members.result workers.notes.items
    c.in_ok-forwarders.forwarders.items
    workers.takers.items c.in_ok-forwarders.ensures run.takers in
    let outputs = outputs_left setup.shape _ setup.dump workers.notes.items workers.takers.items _ c.in_ok-ended.ensures.outputs
    ended in
    let reported = c.in_ok-report.ensures.ran job c.args.ticks.now run.bytes run.ends run.run outputs in
    let many = rings_many setup.shape workers.notes.items workers.rings.items run.run.rings_are in
    let room = one_room setup.request setup.shape c.tx_shape-tx.result c.tx_shape-tx.ensures.shape c.requires.shape in
    let members = ap (λ (os : List Outputs). member_reports workers.notes.items workers.rings.items os)
    (sym c.in_ok-ended.ensures.outputs)
    ∙ ap (λ (report : RunReport). report.members) (sym c.in_ok-report.ensures.report) in
    record {
      ran = record { bytes = run.bytes; ends = run.ends; gave = run.gave; run = reported.0; captured = reported.1 };
      sent = c.in_ok-ended.ensures.sent ∙ all_sent setup.shape _ setup.dump workers.notes.items workers.rings.items
          workers.takers.items many ended
          ∙ ap (λ (ms : List MemberReport). map (sent_for (room_of c.tx_shape-tx.result)) ms) members
          ∙ ap (λ (room : ℕ). map (sent_for room) c.in_ok-report.report.members) room;
      skipped = c.in_ok-ended.ensures.skipped ∙ all_skipped setup.shape _ setup.dump workers.notes.items workers.rings.items
          workers.takers.items many ended
          ∙ ap (λ (ms : List MemberReport). map (skipped_for (room_of c.tx_shape-tx.result)) ms) members
          ∙ ap (λ (room : ℕ). map (skipped_for room) c.in_ok-report.report.members) room;
    }
