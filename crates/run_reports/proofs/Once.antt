-- The arrivals that pass are the entries of the log that pass.
use Rattle.std.proofs.Common.{◌≡◌, ℕ, Bool, not, ◌&&◌, ◌||◌, eqb, List, [], ◌∷◌, get_or, refl, sym, ap, ◌∙◌}
use Rattle.std.specs.Prelude.{if◌then◌else◌}
use Rattle.frame_view.specs.declared.frames.Frame.{Frame}
use Rattle.fanout_group.specs.Joined.{Logged, nothing_logged}
use Rattle.fanout_group.specs.Logs.{IsLawfulFrom}
use Rattle.fanout_group.specs.Once.{EachAppearsOnce, IsGroupReport, passes as entry_passes}
use Rattle.fanout_group.specs.Routes.{present_after}
use Rattle.fanout_group.specs.Rules.{Rules}
use Rattle.fanout_group.specs.declared.logs.ArrivalLog.{ArrivalLog}
use Rattle.ring_model.specs.declared.notes.Note.{Note}
use Rattle.run_reports.specs.Once.{EachArrivalAppearsOnce, passes}

same_passes : (rules : Rules) (present index : ℕ) (frames : List Frame) (log : List ArrivalLog)
    → IsLawfulFrom rules present frames log
    → passes rules index frames ≡ entry_passes index log
same_passes rules present index [] [] h = refl
same_passes rules present index [] (entry ∷ log) h = absurd h
same_passes rules present index (frame ∷ frames) [] h = absurd h
same_passes rules present index (frame ∷ frames) (entry ∷ log) h =
    let is = h.0 in
    let here : (eqb frame.index index && not (eqb (rules.verdict frame) 0))
    ≡ (eqb entry.index index && not (eqb entry.verdict 0)) =
    ap (λ i. eqb i index && not (eqb (rules.verdict frame) 0)) (sym is.index)
    ∙ ap (λ v. eqb entry.index index && not (eqb v 0)) (sym is.verdict) in
    ap (λ b. b || passes rules index frames) here
    ∙ ap (λ b. (eqb entry.index index && not (eqb entry.verdict 0)) || b)
    (same_passes rules (present_after rules.mode present entry.tries) index frames log h.1)

pub each_arrival : (rules : Rules) (room : ℕ) (cpus : List Logged) (members : List (List Note))
    → IsGroupReport rules room cpus members
    → EachAppearsOnce cpus members → EachArrivalAppearsOnce rules cpus members
each_arrival rules room cpus members group once cpu index =
    let logged = get_or cpus cpu nothing_logged in
    once cpu index ∙ ap (λ (b : Bool). if b then 1 else 0)
    (sym (same_passes rules 0 index logged.arrivals logged.log (group.lawful cpu)))
