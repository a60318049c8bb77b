-- Which groups are valid.
use Rattle.std.specs.Prelude.{◌≡◌, ℕ, ◌<◌, ◌≤◌, Bool, true, false, ◌&&◌, ◌||◌, not, bit_and, nat_lt}
use Rattle.std.specs.Prelude.{◌==◌, if◌then◌else◌, Option, None, Some}
use Rattle.fanout_group.specs.Rules.{is_rollover}
use Rattle.fanout_group.specs.declared.modes.Mode.{Mode}
use Rattle.fanout_group.specs.declared.modes.Mode.TheVariants.{Hash}
use Rattle.fanout_group.specs.declared.plan_error.PlanError.{PlanError}
use Rattle.fanout_group.specs.declared.plan_error.PlanError.TheVariants.{NoMember, TooMany}
use Rattle.fanout_group.specs.declared.plan_error.PlanError.TheVariants.{BackupOfRollover, NoKey}

-- the shape of a group: the number of its members, its mode, and its flags as linux/if_packet.h
-- numbers them
pub record Shape : Type 0 where
  pub members : ℕ
  pub mode : Mode
  pub flags : ℕ

-- flags are PACKET_FANOUT_FLAG_ROLLOVER (0x1000) and PACKET_FANOUT_FLAG_DEFRAG (0x8000), and no
-- other bit
abbrev pub AreFlags : ℕ → Type 0
AreFlags flags = bit_and flags 0x9000 ≡ flags

-- other members are tried if the home has no room
abbrev pub has_backup : ℕ → Bool
has_backup flags = not (bit_and flags 0x1000 == 0)

-- fragments are reassembled before a member is chosen
abbrev pub has_defrag : ℕ → Bool
has_defrag flags = not (bit_and flags 0x8000 == 0)

-- in this mode the flow hash decides
abbrev pub is_hash : Mode → Bool
is_hash Hash = true
is_hash mode = false

-- why a group of n members, in this mode, with these flags and with or without a key of the flow
-- hash is refused: the first that applies
abbrev pub fault_of : ℕ → Mode → ℕ → Bool → Option PlanError
fault_of members mode flags has_key =
    if members == 0 then Some NoMember
    else if nat_lt 8 members then Some TooMany
    else if is_rollover mode && has_backup flags then Some BackupOfRollover
    else if is_hash mode && not has_key then Some NoKey
    else None

-- a shape without such a fault: with a key, or in a mode other than Hash, its group is valid
pub record IsPlan (shape : Shape) : Type 0 where
  pub some : 0 < shape.members
  pub few : shape.members ≤ 8
  pub flags : AreFlags shape.flags
  -- in mode Rollover other members are tried anyway, and the flag isn't set
  pub backup : (is_rollover shape.mode && has_backup shape.flags) ≡ false

-- other members are tried: always in mode Rollover, and with the flag
abbrev pub rolls_over : Shape → Bool
rolls_over shape = is_rollover shape.mode || has_backup shape.flags
