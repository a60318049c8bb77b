-- What a setup says, over the bytes of its text.
use Rattle.std.specs.Prelude.{ℕ, ◌+◌, Bool, List, [], ◌∷◌, codes, length, nat_lt, ◌&&◌, true, false}
use Rattle.std.specs.Prelude.{is_some, if◌then◌else◌, Option, None, Some, option_map, Result, Ok}
use Rattle.std.specs.Prelude.{Err}
use Rattle.std.specs.Option.{is_none, option_or, unwrap_or}
use Rattle.fanout_group.specs.Plans.{Shape, fault_of}
use Rattle.fanout_group.specs.declared.plan_error.PlanError.{PlanError}
use Rattle.fanout_group.specs.declared.modes.Mode.{Mode}
use Rattle.fanout_group.specs.declared.modes.Mode.TheVariants as mode
use Rattle.text_lines.specs.Lines.{lines_of}
use Rattle.text_lines.specs.Readings.{read_lines}
use Rattle.tp_layout.specs.Requests.{receive_fault, slot_fault, transmit_fault}
use Rattle.tp_layout.specs.declared.error.RequestError.{RequestError}
use Rattle.tp_layout.specs.declared.requests.RingRequest.{RingRequest}
use Rattle.setup_text.specs.Drafts.{line_after, nothing_said}
use Rattle.setup_text.specs.declared.commands.Command.{Command}
use Rattle.setup_text.specs.declared.commands.Command.TheVariants as command
use Rattle.setup_text.specs.declared.cpu_setups.CpuSetup.{CpuSetup}
use Rattle.setup_text.specs.declared.drafts.Draft.{Draft}
use Rattle.setup_text.specs.declared.made_frames.MadeFrames.{MadeFrames}
use Rattle.setup_text.specs.declared.setup_error.Needed.{Needed}
use Rattle.setup_text.specs.declared.setup_error.Needed.TheVariants as needed
use Rattle.setup_text.specs.declared.setup_error.SetupError.{SetupError}
use Rattle.setup_text.specs.declared.setup_error.SetupKind.{SetupKind}
use Rattle.setup_text.specs.declared.setup_error.SetupKind.TheVariants.{Missing, Request, Group}
use Rattle.setup_text.specs.declared.setup_error.SetupKind.TheVariants.{TooLarge}
use Rattle.setup_text.specs.declared.setups.Setup.{Setup}

-- ---- what the lines say together

abbrev pub has_no_cpu : List CpuSetup → Bool
has_no_cpu [] = true
has_no_cpu (cpu ∷ cpus) = false

-- whether the command makes the frames that it replays
abbrev pub makes_frames : Command → Bool
makes_frames command.Make = true
makes_frames given = false

-- the first line that is missing for the command
unfoldable pub missing : Command → Draft → Option Needed
missing given draft =
    if is_none draft.block_size then Some needed.BlockSize
    else if is_none draft.block_nr then Some needed.BlockNr
    else if is_none draft.frame_size then Some needed.FrameSize
    else if is_none draft.frame_nr then Some needed.FrameNr
    else if has_no_cpu draft.cpus then Some needed.Cpu
    else if makes_frames given && is_none draft.made then Some needed.Make
    else None

-- the ring that is asked for
abbrev pub request_of : Draft → RingRequest
request_of draft = record {
  block_size = unwrap_or draft.block_size 0;
  block_nr = unwrap_or draft.block_nr 0;
  frame_size = unwrap_or draft.frame_size 0;
  frame_nr = unwrap_or draft.frame_nr 0;
  tov = unwrap_or draft.tov 0;
  sizeof_priv = unwrap_or draft.sizeof_priv 0;
  features = unwrap_or draft.features 0;
}

-- why the ring is invalid, for the command: one of the commands sends, and one has rings of
-- TPACKET_V2
abbrev pub request_fault : Command → RingRequest → Option RequestError
request_fault command.Send request = transmit_fault request
request_fault command.Replay2 request = slot_fault request
request_fault given request = receive_fault request

-- the flags as linux/if_packet.h numbers them
abbrev pub flags_of : Draft → ℕ
flags_of draft = (if draft.rollover then 0x1000 else 0) + (if draft.defrag then 0x8000 else 0)

-- the group: one member, chosen by an arrival's CPU, if nothing else is given
abbrev pub members_of : Draft → ℕ
members_of draft = unwrap_or draft.members 1

abbrev pub mode_of : Draft → Mode
mode_of draft = unwrap_or draft.mode mode.Cpu

abbrev pub group_fault : Draft → Option PlanError
group_fault draft = fault_of (members_of draft) (mode_of draft) (flags_of draft) (is_some draft.key)

abbrev pub group_of : Draft → Shape
group_of draft = record { members = members_of draft; mode = mode_of draft; flags = flags_of draft }

-- the number that frames are made from, and how many there are
abbrev pub seed_in : Option MadeFrames → ℕ
seed_in None = 0
seed_in (Some made) = made.seed

abbrev pub count_in : Option MadeFrames → ℕ
count_in None = 0
count_in (Some made) = made.count

abbrev pub seed_of : Draft → ℕ
seed_of draft = seed_in draft.made

abbrev pub count_of : Draft → ℕ
count_of draft = count_in draft.made

-- the first fault of all lines together, if no single one has one: what is missing, then the ring,
-- then the group
abbrev pub fault_after : Command → Draft → Option SetupKind
fault_after command draft =
    option_or (option_map Missing (missing command draft))
    (option_or (option_map Request (request_fault command (request_of draft)))
    (option_map Group (group_fault draft)))

-- the setup of lines that have no fault
abbrev pub setup_from : Draft → Setup
setup_from draft = record {
  request = request_of draft;
  shape = request_of draft;
  plan = group_of draft;
  key = draft.key;
  mac = draft.mac;
  cpus = draft.cpus;
  filter = draft.filter;
  ticks = draft.ticks;
  prefix = unwrap_or draft.out (codes "out");
  dump = draft.dump;
  skip_bad = draft.skip_bad;
  seed = seed_of draft;
  count = count_of draft;
  workers = unwrap_or draft.workers 0;
}

abbrev pub answer : {A : Type 0} → Option SetupKind → A → Result A SetupKind
answer None value = Ok value
answer (Some fault) value = Err fault

-- what lines without a fault in any of them say together
unfoldable pub setup_after : Command → Draft → Result Setup SetupKind
setup_after command draft = answer (fault_after command draft) (setup_from draft)

-- ---- the whole text

-- a fault of a line; line 0 means no single line
abbrev pub at_line : {A : Type 0} → Result A (ℕ × SetupKind) → Result A SetupError
at_line (Ok value) = Ok value
at_line (Err fault) = Err (record { line = fault.0; kind = fault.1 })

abbrev pub at_end : {A : Type 0} → Result A SetupKind → Result A SetupError
at_end (Ok value) = Ok value
at_end (Err fault) = Err (record { line = 0; kind = fault })

-- what the lines of a text say, or the first fault of a line
unfoldable pub draft_of : List ℕ → Result Draft SetupError
draft_of text = at_line (read_lines line_after 1 nothing_said (lines_of text))

abbrev pub completed : Command → Result Draft SetupError → Result Setup SetupError
completed command (Ok draft) = at_end (setup_after command draft)
completed command (Err error) = Err error

-- the setup of a text, for a command, or the text's first fault
unfoldable pub setup_of : List ℕ → Command → Result Setup SetupError
setup_of text command =
    if nat_lt 1048576 (length text) then Err (record { line = 0; kind = TooLarge })
    else completed command (draft_of text)
