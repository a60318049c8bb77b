use Rattle.std.proofs.Common.{inr, subst}
use Rattle.std.specs.Prelude.{Result}
use Rattle.frame_view.specs.declared.memory.Memory.{Memory}
use Rattle.tap_running.proofs.Results.{if_ok, of_ok, on_err}
use Rattle.tap_sizes.specs.Endings.{IsSizeSearched}
use Rattle.tap_sizes.specs.declared.size_findings.SizeFinding.{SizeFinding}
use Rattle.tap_sizes.proofs.Answered.{tells}
use Rattle.tap_sizes.proofs.calls.attempt.Goals as goal

pub returns-clause-told : goal.returns-clause-told
returns-clause-told g c =
    if_ok _ _ c.conclude.result
    (λ outcome concluded command old new searched.
    tells command outcome old new _ _ c.in_ok-finding.finding
    (subst (λ (r : Result SizeFinding Memory). IsSizeSearched command old new r)
    c.in_ok-finding.was searched) concluded)
    c.conclude.ensures.concluded

pub returns-clause-cut : goal.returns-clause-cut
returns-clause-cut g c =
    on_err _ _ c.conclude.result
    (λ front command old new searched. inr (record {
      reads = searched.reads;
      finding = c.in_ok-finding.finding;
      found = of_ok _ c.args.found c.in_ok-finding.finding c.in_ok-finding.was searched.found;
      printed = front;
    }))
    c.conclude.ensures.printed
