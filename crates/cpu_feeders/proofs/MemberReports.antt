-- The reports of members, one after another.
use Rattle.std.proofs.Common.{◌≡◌, Bool, List, [], ◌∷◌, ◌++◌, length, refl, sym, ap, ◌∙◌, subst}
use Rattle.std.proofs.Common.{arith, append-nil, append_assoc}
use Rattle.std.specs.List.{AllZip}
use Rattle.capture_reports.specs.Reported.{AreReported}
use Rattle.cpu_feeders.specs.Reports.{AreOutputsOf, member_report, member_reports}
use Rattle.reader_walk.specs.declared.outputs.Outputs.{Outputs}
use Rattle.ring_model.specs.declared.notes.Note.{Note}
use Rattle.ring_words.specs.Pendings.{Pends}
use Rattle.run_reports.specs.declared.reports.MemberReport.{MemberReport}
use Rattle.tp_layout.specs.BlockWrites.{ShapedBytes}
use Rattle.tp_layout.specs.declared.requests.RingRequest.{RingRequest}

pub next_report : (made now wanted : List MemberReport) (all later : List (List Note)) (rings other : List (Pends ShapedBytes))
    (outputs more : List Outputs)
    (notes : List Note) (ring : Pends ShapedBytes) (read : Outputs) → all ≡ notes ∷ later → rings ≡ ring ∷ other
    → outputs ≡ read ∷ more
    → now ≡ made ++ member_report notes ring read ∷ [] → made ++ member_reports all rings outputs ≡ wanted
    → now ++ member_reports later other more ≡ wanted
next_report made now wanted all later rings other outputs more notes ring read all_is rings_is outputs_is now_is h =
    ap (λ (ms : List MemberReport). ms ++ member_reports later other more) now_is
    ∙ append_assoc made (member_report notes ring read ∷ []) (member_reports later other more)
    ∙ ap (λ (ns : List (List Note)). made ++ member_reports ns (ring ∷ other) (read ∷ more)) (sym all_is)
    ∙ ap (λ (rs : List (Pends ShapedBytes)). made ++ member_reports all rs (read ∷ more)) (sym rings_is)
    ∙ ap (λ (os : List Outputs). made ++ member_reports all rings os) (sym outputs_is) ∙ h

pub last_report : (made wanted : List MemberReport) (all : List (List Note)) (rings : List (Pends ShapedBytes))
    (outputs : List Outputs) → all ≡ []
    → made ++ member_reports all rings outputs ≡ wanted → made ≡ wanted
last_report made wanted all rings outputs none h =
    sym (append-nil made) ∙ ap (λ (ns : List (List Note)). made ++ member_reports ns rings outputs) (sym none) ∙ h

reported : (shape : RingRequest) (dump : Bool) (notes : List (List Note)) (rings : List (Pends ShapedBytes))
    (outputs : List Outputs)
    → length rings ≡ length notes → AllZip (AreOutputsOf shape dump) notes outputs
    → AreReported shape dump notes rings (member_reports notes rings outputs)
reported shape dump [] [] outputs many are = tt
reported shape dump [] (ring ∷ rings) outputs many are = absurd (omega (arith, many))
reported shape dump (n ∷ notes) [] outputs many are = absurd (omega (arith, many))
reported shape dump (n ∷ notes) (ring ∷ rings) [] many are = absurd are
reported shape dump (n ∷ notes) (ring ∷ rings) (read ∷ outputs) many are = (
  record { notes_are = refl; ring_is = refl; walked = are.0.walked; dump = are.0.dump_is; blocks = are.0.blocks },
  reported shape dump notes rings outputs (omega (arith, many)) are.1,
)

pub all_reported : (shape : RingRequest) (dump : Bool) (notes : List (List Note)) (rings : List (Pends ShapedBytes))
    (outputs : List Outputs)
    → length rings ≡ length notes → (members : List MemberReport) → members ≡ member_reports notes rings outputs
    → AllZip (AreOutputsOf shape dump) notes outputs → AreReported shape dump notes rings members
all_reported shape dump notes rings outputs many members members_are are =
    subst (λ (ms : List MemberReport). AreReported shape dump notes rings ms) (sym members_are)
    (reported shape dump notes rings outputs many are)
