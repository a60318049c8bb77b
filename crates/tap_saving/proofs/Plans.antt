-- The files of members are planned one member after another.
use Rattle.std.proofs.Common.{◌≡◌, ◌+◌, ◌<◌, ◌≤◌, ℕ, List, ◌∷◌, ◌++◌, length, drop, get_or, sym, ap}
use Rattle.std.proofs.Common.{◌∙◌, subst, add-one, append_assoc, drop-cons}
use Rattle.std.proofs.Math.ListN.{drop_of_length-le}
use Rattle.std.proofs.lemmas.List.{append-nil}
use Rattle.std.proofs.lemmas.Option.{get_or_from_slice_get, slice_get_within}
use Rattle.std.specs.Prelude.{All, IfSome, Option, None, Some, slice_get}
use Rattle.frame_view.specs.declared.frames.Packet.{Packet}
use Rattle.run_reports.specs.declared.reports.Forwards.{Forwards}
use Rattle.run_reports.specs.declared.reports.MemberReport.{MemberReport}
use Rattle.setup_text.specs.declared.setups.Setup.{Setup}
use Rattle.tap_saving.specs.Files.{CanBeOutput, File, files_at, files_from, sent_by}

-- one member more
pub more_planned : (setup : Setup) (forwards : Option Forwards) (reports : List MemberReport)
    (at : ℕ) (report : MemberReport) (sent : Option (List Packet)) (before after all : List File)
    → get_or reports at report ≡ report → at < length reports → sent ≡ sent_by forwards at
    → after ≡ before ++ files_at setup at report sent
    → before ++ files_from setup forwards at (drop at reports) ≡ all
    → after ++ files_from setup forwards (at + 1) (drop (at + 1) reports) ≡ all
more_planned setup forwards reports at report sent before after all is less sent_is more planned =
    ap (λ (fs : List File). fs ++ rest) more
    ∙ append_assoc before (files_at setup at report sent) rest
    ∙ ap (λ (fs : List File). before ++ fs) (sym step)
    ∙ planned
  where
    rest : List File
    rest = files_from setup forwards (at + 1) (drop (at + 1) reports)

    step : files_from setup forwards at (drop at reports) ≡ files_at setup at report sent ++ rest
    step =
        ap (λ (rs : List MemberReport). files_from setup forwards at rs)
        (rw add-one (drop-cons reports at report less)
        ∙ ap (λ (r : MemberReport). r ∷ drop (at + 1) reports) is)
        ∙ ap (λ (s : Option (List Packet)). files_at setup at report s ++ rest) (sym sent_is)

-- and then no more
pub all_planned : (setup : Setup) (forwards : Option Forwards) (reports : List MemberReport)
    (at : ℕ) (files all : List File) → length reports ≤ at
    → files ++ files_from setup forwards at (drop at reports) ≡ all → files ≡ all
all_planned setup forwards reports at files all done planned =
    sym (append-nil files)
    ∙ ap (λ (rs : List MemberReport). files ++ files_from setup forwards at rs)
    (sym (drop_of_length-le reports done))
    ∙ planned

-- ---- what a member sent can be output

short_at : (sent : List (List Packet)) (at : ℕ) (found : Option (List Packet))
    → slice_get sent at ≡ found → All CanBeOutput sent → IfSome found CanBeOutput
short_at sent at None is all = tt
short_at sent at (Some packets) is all =
    subst CanBeOutput (get_or_from_slice_get sent at packets packets is)
    (all at packets (slice_get_within sent at packets is))

pub sent_short : (forwards : Option Forwards) (at : ℕ) (sent : Option (List Packet))
    → sent ≡ sent_by forwards at → IfSome forwards (λ forwards. All CanBeOutput forwards.sent)
    → IfSome sent CanBeOutput
sent_short None at sent is all =
    subst (λ (s : Option (List Packet)). IfSome s CanBeOutput) (sym is) tt
sent_short (Some forwards) at sent is all = short_at forwards.sent at sent (sym is) all
