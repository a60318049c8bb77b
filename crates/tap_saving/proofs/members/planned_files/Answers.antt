use Rattle.std.proofs.Common.{arith, sym}
use Rattle.std.specs.Prelude.{option_copied}
use Rattle.tap_saving.proofs.Plans.{all_planned, more_planned, sent_short}
use Rattle.tap_saving.proofs.members.planned_files.Goals as goal

pub push_files-requires-clause-sent : goal.push_files-requires-clause-sent
push_files-requires-clause-sent c =
    sent_short (option_copied c.args.forwards) c.loop-member.member
    (option_copied c.sent_by-sent.result) c.sent_by-sent.ensures c.requires.sent

pub loop-member-preserved : goal.loop-member-preserved
loop-member-preserved c = record {
  within = omega arith;
  files = more_planned c.args.setup.now (option_copied c.args.forwards) c.args.reports.now
      c.loop-member.member c.index-reports-member.result (option_copied c.sent_by-sent.result)
      c.loop-member.files.items _ _ (sym c.index-reports-member.is) c.loop-member-test.true
      c.sent_by-sent.ensures c.in_ok-push_files.ensures c.loop-member.invariant.files;
}

pub returns : goal.returns
returns c = all_planned c.args.setup.now (option_copied c.args.forwards) c.args.reports.now
    c.loop-member.member _ _ c.loop-member-test.false c.loop-member.invariant.files
