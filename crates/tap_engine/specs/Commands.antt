-- What the words of a command say.
use Rattle.std.specs.Prelude.{ℕ, Bool, false, true, ◌&&◌, not, List, [], ◌∷◌, length, codes}
use Rattle.std.specs.Prelude.{bytes_eq, ◌==◌, if◌then◌else◌, Option, None, Some, option_map}
use Rattle.setup_text.specs.declared.commands.Command.{Command}
use Rattle.setup_text.specs.declared.commands.Command.TheVariants.{Capture, Check, Forward, Make}
use Rattle.setup_text.specs.declared.commands.Command.TheVariants.{Replay, Replay2, Send}
use Rattle.run_reports.specs.declared.ring_kind.RingKind.{RingKind}
use Rattle.run_reports.specs.declared.ring_kind.RingKind.TheVariants.{Blocks, Slots}

-- a command with the names of its texts; if it has no schedule that name is empty
pub record Named : Type 0 where
  pub command : Command
  pub setup : List ℕ
  pub schedule : List ℕ

abbrev pub named_by : Command → List ℕ → List ℕ → Named
named_by command setup schedule = record { command = command; setup = setup; schedule = schedule }

abbrev pub is_name : List ℕ → Bool
is_name word = not (length word == 0)

-- the commands that need only a setup
unfoldable pub lone_command : List ℕ → Option Command
lone_command word =
    if bytes_eq word (codes "check") then Some Check
    else if bytes_eq word (codes "capture") then Some Capture
    else if bytes_eq word (codes "send") then Some Send
    else if bytes_eq word (codes "make") then Some Make
    else if bytes_eq word (codes "forward") then Some Forward
    else None

-- the commands that need a setup and a schedule
unfoldable pub scheduled_command : List ℕ → Option Command
scheduled_command word =
    if bytes_eq word (codes "replay") then Some Replay
    else if bytes_eq word (codes "replay2") then Some Replay2
    else None

-- exactly the words `check CONF`, `capture CONF`, `send CONF`, `make CONF`, `forward CONF`, `replay
-- CONF SCHED` and `replay2 CONF SCHED`, if no name is empty
abbrev pub command_of : List (List ℕ) → Option Named
command_of (word ∷ setup ∷ []) =
    if is_name setup
    then option_map (λ command. named_by command setup []) (lone_command word) else None
command_of (word ∷ setup ∷ schedule ∷ []) =
    if is_name setup && is_name schedule
    then option_map (λ command. named_by command setup schedule) (scheduled_command word) else None
command_of words = None

-- whether a command has a schedule
abbrev pub has_schedule : Command → Bool
has_schedule Replay = true
has_schedule Replay2 = true
has_schedule command = false

-- whether a command runs on threads
abbrev pub is_threaded : Command → Bool
is_threaded Capture = true
is_threaded Forward = true
is_threaded command = false

-- whether the members of a command's run send what they read
abbrev pub sends : Command → Bool
sends Forward = true
sends command = false

-- what the rings of a command's run are made of
abbrev pub rings_of : Command → RingKind
rings_of Replay2 = Slots
rings_of command = Blocks

-- the command that is carried out on one thread: each of these except `capture` and `forward`
abbrev pub plain_of : Option Named → Option Named
plain_of None = None
plain_of (Some named) = if is_threaded named.command then None else Some named

abbrev pub plain_command : List (List ℕ) → Option Named
plain_command words = plain_of (command_of words)
