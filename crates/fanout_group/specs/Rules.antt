-- What decides who gets a frame.
use Rattle.std.specs.Prelude.{◌≡◌, ℕ, ◌%◌, Bool, true, false, ◌||◌, List, Option, None, unwrap_or}
use Rattle.std.specs.Prelude.{IsSome}
use Rattle.frame_view.specs.declared.frames.Frame.{Frame}
use Rattle.fanout_group.specs.declared.modes.Mode.{Mode}
use Rattle.fanout_group.specs.declared.modes.Mode.TheVariants.{Hash, Lb, Cpu, Rollover, Qm}

-- the rules of a group. Members and CPUs count from 0.
pub record Rules : Type 0 where
  pub members : ℕ
  pub mode : Mode
  -- PACKET_FANOUT_FLAG_ROLLOVER: other members are tried if the home has no room
  pub backup : Bool
  -- the receive queue of a CPU
  pub queue : ℕ → ℕ
  -- the station's own address
  pub own : Option (List ℕ)
  -- the flow hash of an arrival
  pub hash : Frame → ℕ
  -- how many bytes of an arrival the filter keeps; 0 refuses it
  pub verdict : Frame → ℕ

-- the member that an arrival is for first, given the CPU's present member
abbrev pub home_by : Mode → ℕ → ℕ → ℕ → ℕ → ℕ → ℕ → ℕ
home_by Hash members hash ticket cpu queue present = hash % members
home_by Lb members hash ticket cpu queue present = ticket % members
home_by Cpu members hash ticket cpu queue present = cpu % members
home_by Qm members hash ticket cpu queue present = queue % members
home_by Rollover members hash ticket cpu queue present = present

abbrev pub home_of : Rules → ℕ → Option ℕ → Frame → ℕ
home_of rules present ticket frame =
    home_by rules.mode rules.members (rules.hash frame) (unwrap_or ticket 0) frame.cpu
    (rules.queue frame.cpu) present

-- in this mode other members are always tried
abbrev pub is_rollover : Mode → Bool
is_rollover Rollover = true
is_rollover mode = false

abbrev pub rolls_over : Rules → Bool
rolls_over rules = is_rollover rules.mode || rules.backup

-- an arrival takes a ticket exactly in mode Lb
abbrev pub HasTicket : Mode → Option ℕ → Type 0
HasTicket Lb ticket = IsSome ticket
HasTicket mode ticket = ticket ≡ None
