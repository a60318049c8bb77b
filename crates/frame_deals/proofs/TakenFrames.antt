-- One frame after another is taken.
use Rattle.std.proofs.Common.{◌≡◌, ℕ, ◌≤◌, List, ◌∷◌, sym, ap, ◌∙◌, subst, arith}
use Rattle.std.specs.Prelude.{All}
use Rattle.std.proofs.lemmas.List.Elements.{All-head, All-tail}
use Rattle.fanout_group.specs.Judgements.{AgreesAt, JudgeRules, rules_by}
use Rattle.fanout_group.specs.RulesOfJudging.{judge_rules_of}
use Rattle.fanout_group.specs.declared.judgements.ArrivalRules.{ArrivalRules}
use Rattle.fanout_group.specs.Plans.{Shape}
use Rattle.frame_view.specs.declared.frames.Frame.{Frame}
use Rattle.frame_deals.specs.Dealings.{Dealing, IsReadable, after_frame, after_frames}

-- some frames were taken since the CPU was so, and these are left
pub record AreTaken (rules : ArrivalRules) (old : Dealing) (all : List Frame) (now : Dealing) (left : List Frame) : Type 0 where
  pub readable : All (IsReadable old.cpu) left
  pub cpu : now.cpu ≡ old.cpu
  pub shape : now.shape ≡ old.shape
  pub arrivals : old.arrivals ≤ now.arrivals
  pub taken :
      (judge : JudgeRules) → AgreesAt old.cpu judge (judge_rules_of rules)
      → after_frames (rules_by old.shape judge) rules.room left now
      ≡ after_frames (rules_by old.shape judge) rules.room all old

pub frame_readable : (rules : ArrivalRules) (old : Dealing) (all : List Frame) (now : Dealing) (frame : Frame)
    (left rest : List Frame) → AreTaken rules old all now left → left ≡ frame ∷ rest → IsReadable now.cpu frame
frame_readable rules old all now frame left rest h e =
    subst (λ (cpu : ℕ). IsReadable cpu frame) (sym h.cpu)
    (All-head (IsReadable old.cpu) frame rest (subst (All (IsReadable old.cpu)) e h.readable))

-- one frame more
pub one_taken : (rules : ArrivalRules) (old : Dealing) (all : List Frame) (now next : Dealing) (frame : Frame)
    (left rest : List Frame) → AreTaken rules old all now left → left ≡ frame ∷ rest
    → next.cpu ≡ now.cpu → next.shape ≡ now.shape → now.arrivals ≤ next.arrivals
    → ((judge : JudgeRules) → AgreesAt now.cpu judge (judge_rules_of rules)
    → next ≡ after_frame (rules_by now.shape judge) rules.room frame now)
    → AreTaken rules old all next rest
one_taken rules old all now next frame left rest h e cpu shape more one = record {
  readable = All-tail (IsReadable old.cpu) frame rest (subst (All (IsReadable old.cpu)) e h.readable);
  cpu = cpu ∙ h.cpu;
  shape = shape ∙ h.shape;
  arrivals = omega (arith, more, h.arrivals);
  taken = λ judge agrees.
      let room : ℕ = rules.room in
      let there = subst (λ (n : ℕ). AgreesAt n judge (judge_rules_of rules)) (sym h.cpu) agrees in
      let stepped : next ≡ after_frame (rules_by old.shape judge) room frame now =
      subst (λ (s : Shape). next ≡ after_frame (rules_by s judge) room frame now) h.shape (one judge there) in
      ap (after_frames (rules_by old.shape judge) room rest) stepped
      ∙ ap (λ (frames : List Frame). after_frames (rules_by old.shape judge) room frames now) (sym e)
      ∙ h.taken judge agrees;
}
