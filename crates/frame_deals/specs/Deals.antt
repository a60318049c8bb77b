-- What each member is given, by the times of all frames and what arrives with them.
use Rattle.std.specs.Prelude.{◌≡◌, ℕ, ◌+◌, ◌<◌, List, [], ◌∷◌, length, map, slice_index_or, ⊤}
use Rattle.std.specs.Prelude.{Option}
use Rattle.deal_rules.specs.Files.{frames_in}
use Rattle.deal_rules.specs.Marks.{arrivals_for, mark_of, marked}
use Rattle.fanout_group.specs.Plans.{Shape}
use Rattle.fanout_group.specs.Rules.{Rules}
use Rattle.frame_view.specs.declared.frames.Frame.{Frame}
use Rattle.frame_deals.specs.Dealings.{Dealing, after_frames, first_dealing}
use Rattle.frame_deals.specs.declared.deals.Dealt.{Dealt}
use Rattle.frame_deals.specs.declared.mark_queue.MarkedFrame.{MarkedFrame}
use Rattle.reader_pace.specs.Timelines.{end_of, feeds_of, in_order, rising}

-- the marks of a CPU whose frames have these times, and of which this arrives with each
pub record IsMarkList (rules : Rules) (room : ℕ) (times : List ℕ)
    (arrivals : List (Option Frame)) (marks : List MarkedFrame) : Type 0 where
  pub times_are : map (λ mark. mark.time) marks ≡ rising 0 times
  pub marks_are : map (λ mark. mark.mark) marks ≡ map (mark_of rules room 0) arrivals

-- the same of each CPU
abbrev pub AreMarkLists : Rules → ℕ → List (List ℕ) → List (List (Option Frame))
    → List (List MarkedFrame) → Type 0
AreMarkLists rules room [] [] [] = ⊤
AreMarkLists rules room (times ∷ all_times) (arrivals ∷ arriving) (marks ∷ all) =
    IsMarkList rules room times arrivals marks × AreMarkLists rules room all_times arriving all
AreMarkLists rules room all_times arriving all = ⊥

-- the files of each CPU were read, for CPUs with the numbers from this one up
abbrev pub AllRead : Rules → ℕ → Shape → ℕ → List (List (List ℕ)) → List Dealing → Type 0
AllRead rules room shape cpu [] [] = ⊤
AllRead rules room shape cpu (files ∷ all) (dealing ∷ dealings) =
    (dealing ≡ after_frames rules room (frames_in cpu files) (first_dealing cpu shape))
    × AllRead rules room shape (cpu + 1) all dealings
AllRead rules room shape cpu all dealings = ⊥

-- the rules of a group of this shape
pub record HasShape (shape : Shape) (rules : Rules) : Type 0 where
  pub members : rules.members ≡ shape.members
  pub mode : rules.mode ≡ shape.mode

-- what the members are given, and when the last frame comes
pub record IsDeal (shape : Shape) (all : List (List MarkedFrame)) (dealt : Dealt) : Type 0 where
  pub count : length dealt.members.items ≡ shape.members
  pub members :
      (rules : Rules) (room : ℕ) (times : List (List ℕ)) (arriving : List (List (Option Frame)))
      (member : ℕ)
      → HasShape shape rules
      → AreMarkLists rules room times arriving all
      → member < shape.members
      → slice_index_or dealt.members.items member []
      ≡ arrivals_for member (marked rules room 0 arriving (in_order (feeds_of times)))
  pub end :
      (rules : Rules) (room : ℕ) (times : List (List ℕ)) (arriving : List (List (Option Frame)))
      → AreMarkLists rules room times arriving all
      → dealt.end ≡ end_of times
