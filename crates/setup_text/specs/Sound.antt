-- What holds of every text that is accepted.
use Rattle.std.specs.Prelude.{◌≡◌, ℕ, ◌<◌, ◌≤◌, List, [], ◌∷◌, length, is_some, All, Option, None}
use Rattle.std.specs.Prelude.{Some}
use Rattle.fanout_group.specs.Plans.{fault_of}
use Rattle.setup_text.specs.TickOrder.{AreAscending}
use Rattle.setup_text.specs.declared.lines.Line.{Line}
use Rattle.setup_text.specs.declared.lines.Line.TheVariants as line
use Rattle.tp_layout.specs.Requests.{receive_fault}
use Rattle.setup_text.specs.declared.cpu_setups.CpuSetup.{CpuSetup}
use Rattle.setup_text.specs.declared.setups.Setup.{Setup}

-- a CPU has a name of 1 to 255 bytes and a queue of 16 bits
pub record IsCpu (cpu : CpuSetup) : Type 0 where
  pub named : 0 < length cpu.file
  pub name : length cpu.file ≤ 255
  pub queue : cpu.queue ≤ 65535

-- a name, if there is one, has 1 to 255 bytes
abbrev pub IsName : Option (List ℕ) → Type 0
IsName None = Unit {0}
IsName (Some name) = (0 < length name) × (length name ≤ 255)

-- a setup has 1 to 8 CPUs, a valid ring with a time-out of at most a minute, a valid group, names
-- of 1 to 255 bytes, at most 20,000 made frames, and at most 8 workers
pub record IsSetup (setup : Setup) : Type 0 where
  pub some : 0 < length setup.cpus
  pub few : length setup.cpus ≤ 8
  pub cpus : All IsCpu setup.cpus
  pub shape : setup.shape ≡ setup.request
  pub ring : receive_fault setup.request ≡ None
  pub tov : setup.request.tov ≤ 60000
  pub group :
      fault_of setup.plan.members setup.plan.mode setup.plan.flags (is_some setup.key) ≡ None
  pub filter : IsName setup.filter
  pub ticks : IsName setup.ticks
  pub prefixed : 0 < length setup.prefix
  pub prefix : length setup.prefix ≤ 255
  pub count : setup.count ≤ 20000
  pub workers : setup.workers ≤ 8

-- the moments don't fall, are in milliseconds, and each is a number of 32 bits
abbrev pub AreRising : ℕ → List ℕ → Type 0
AreRising before [] = Unit {0}
AreRising before (moment ∷ moments) =
    (before ≤ moment) × (moment ≤ 4294967295) × AreRising moment moments

pub record AreMoments (moments : List ℕ) : Type 0 where
  pub rising : AreRising 0 moments
  pub few : length moments ≤ 1048576

-- a line names an existing CPU or member
abbrev pub NamesOne : ℕ → ℕ → Line → Type 0
NamesOne cpus members (line.Feed cpu) = cpu < cpus
NamesOne cpus members (line.Read member) = member < members
NamesOne cpus members (line.Tick ms) = Unit {0}
NamesOne cpus members (line.Stats member) = member < members

pub record IsScheduleFor (cpus members : ℕ) (lines : List Line) : Type 0 where
  pub named : All (NamesOne cpus members) lines
  pub ascending : AreAscending 0 lines
  pub few : length lines ≤ 1048576
