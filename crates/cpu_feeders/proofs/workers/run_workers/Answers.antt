use Rattle.std.proofs.Common.{List, subst, sym}
use Rattle.std.proofs.lemmas.Slice.Zip.{AllZip-long}
use Rattle.std.specs.List.{AllZip}
use Rattle.reader_walk.specs.declared.outputs.Outputs.{Outputs}
use Rattle.cpu_feeders.specs.Reports.{AreOutputsOf}
use Rattle.cpu_feeders.proofs.ReadOut.{have_read_out, rings_many}
use Rattle.cpu_feeders.proofs.workers.run_workers.Goals as goal

pub outputs_of_all-requires : goal.outputs_of_all-requires
outputs_of_all-requires g c =
    let setup = c.args.job.now.setup in
    let workers = c.in_ok-workers.workers in
    record {
      held = (have_read_out setup.shape setup.dump c.members.result workers.notes.items _ workers.takers.items
          c.in_ok-readers.ensures c.in_ok-workers.ensures.ran.takers).0;
    }

pub report_run-requires-clause-rings : goal.report_run-requires-clause-rings
report_run-requires-clause-rings g c =
    rings_many c.args.job.now.setup.shape c.in_ok-workers.workers.notes.items c.in_ok-workers.workers.rings.items
    c.in_ok-workers.ensures.ran.run.rings_are

pub report_run-requires-clause-outputs : goal.report_run-requires-clause-outputs
report_run-requires-clause-outputs g c =
    let setup = c.args.job.now.setup in
    let workers = c.in_ok-workers.workers in
    let read = (have_read_out setup.shape setup.dump c.members.result workers.notes.items _ workers.takers.items
    c.in_ok-readers.ensures
    c.in_ok-workers.ensures.ran.takers).1 in
    AllZip-long (AreOutputsOf setup.shape setup.dump) _ _
    (subst (λ (outputs : List Outputs). AllZip (AreOutputsOf setup.shape setup.dump) workers.notes.items outputs)
    (sym c.in_ok-outputs.ensures) read)

pub returns : goal.returns
returns g c =
    let job = c.args.job.now in
    let setup = job.setup in
    let workers = c.in_ok-workers.workers in
    let run = c.in_ok-workers.ensures.ran in
    let read = (have_read_out setup.shape setup.dump c.members.result workers.notes.items _ workers.takers.items
    c.in_ok-readers.ensures run.takers).1 in
    let outputs = subst (λ (outputs : List Outputs). AllZip (AreOutputsOf setup.shape setup.dump) workers.notes.items outputs)
    (sym c.in_ok-outputs.ensures) read in
    let reported = c.in_ok-report.ensures.ran job c.args.ticks.now run.bytes run.ends run.run outputs in
    record { ran = record { bytes = run.bytes; ends = run.ends; gave = run.gave; run = reported.0; captured = reported.1 } }
