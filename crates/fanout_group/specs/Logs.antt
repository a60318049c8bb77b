-- When the log of a CPU is lawful: it has the CPU's arrivals, each with what the group's rules say
-- about it.
use Rattle.std.specs.Prelude.{◌≡◌, ℕ, List, [], ◌∷◌, ◌==◌, MatchBool}
use Rattle.frame_view.specs.declared.frames.Frame.{Frame}
use Rattle.fanout_group.specs.Rules.{Rules, HasTicket, home_of, rolls_over}
use Rattle.fanout_group.specs.Routes.{IsRoute, present_after}
use Rattle.fanout_group.specs.declared.logs.ArrivalLog.{ArrivalLog}

-- the entry of an arrival, given the CPU's present member
pub record IsEntry (rules : Rules) (present : ℕ) (frame : Frame) (entry : ArrivalLog) : Type 0 where
  pub index : entry.index ≡ frame.index
  pub hash : entry.hash ≡ rules.hash frame
  pub verdict : entry.verdict ≡ rules.verdict frame
  pub ticket : HasTicket rules.mode entry.ticket
  -- a verdict of 0 refuses the arrival
  pub tries : MatchBool (entry.verdict == 0) (entry.tries ≡ [])
      (IsRoute (rolls_over rules) rules.members (home_of rules present entry.ticket frame)
      entry.tries)

-- entry for entry, the log is of these arrivals
abbrev pub IsLawfulFrom : Rules → ℕ → List Frame → List ArrivalLog → Type 0
IsLawfulFrom rules present [] [] = Unit {0}
IsLawfulFrom rules present [] (entry ∷ log) = ⊥
IsLawfulFrom rules present (frame ∷ frames) [] = ⊥
IsLawfulFrom rules present (frame ∷ frames) (entry ∷ log) =
    IsEntry rules present frame entry
    × IsLawfulFrom rules (present_after rules.mode present entry.tries) frames log

-- a CPU's present member is 0 at first
abbrev pub IsLawful : Rules → List Frame → List ArrivalLog → Type 0
IsLawful rules arrivals log = IsLawfulFrom rules 0 arrivals log
