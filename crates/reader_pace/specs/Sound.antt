-- What holds of every reader's text that is accepted.
use Rattle.std.specs.Prelude.{◌≡◌, ℕ, ◌*◌, ◌<◌, ◌≤◌, Bool, true, false, length, All}
use Rattle.reader_pace.specs.declared.paces.Beginnings.{Beginnings}
use Rattle.reader_pace.specs.declared.paces.Beginnings.TheVariants as beginnings
use Rattle.reader_pace.specs.declared.paces.MoreFile.{MoreFile}
use Rattle.reader_pace.specs.declared.paces.Pace.{Pace}
use Rattle.reader_pace.specs.declared.paces.Pace.TheVariants as pace
use Rattle.reader_pace.specs.declared.paces.Phases.{Phases}
use Rattle.reader_pace.specs.declared.paces.Phases.TheVariants as phases
use Rattle.reader_pace.specs.declared.paces.Stall.{Stall}
use Rattle.reader_pace.specs.declared.readers.PacedReader.{PacedReader}

-- a reader sleeps for at least a millisecond, and takes at least one block a second
abbrev pub IsPace : Pace → Type 0
IsPace (pace.Pause period) = 0 < period
IsPace (pace.Poll delay) = Unit {0}
IsPace (pace.Blocks count) = 0 < count

-- a stall lasts at least a millisecond
abbrev pub IsStall : Stall → Type 0
IsStall stall = 0 < stall.length

-- one phase is below the time-out; where the ring has slots it is 0
abbrev pub ArePhases : ℕ → Bool → Phases → Type 0
ArePhases tov true said = said ≡ phases.One 0
ArePhases tov false phases.All = Unit {0}
ArePhases tov false (phases.One phase) = phase < tov

-- one beginning is below the reader's period; for a reader that wakes after each block it is 0
abbrev pub AreBeginnings : Pace → Beginnings → Type 0
AreBeginnings (pace.Poll delay) said = said ≡ beginnings.One 0
AreBeginnings (pace.Pause period) beginnings.All = Unit {0}
AreBeginnings (pace.Pause period) (beginnings.One from) = from < period
AreBeginnings (pace.Blocks count) beginnings.All = Unit {0}
AreBeginnings (pace.Blocks count) (beginnings.One from) = from * count < 1000

-- a further file is one of an existing CPU, with a name of 1 to 255 bytes
pub record IsMoreFile (cpus : ℕ) (more : MoreFile) : Type 0 where
  pub cpu : more.cpu < cpus
  pub named : 0 < length more.file
  pub name : length more.file ≤ 255

pub record IsReader (cpus tov : ℕ) (reader : PacedReader) : Type 0 where
  pub pace : IsPace reader.pace
  pub stalls : All IsStall reader.stalls
  pub phases : ArePhases tov reader.slots reader.phases
  pub beginnings : AreBeginnings reader.pace reader.beginnings
  pub more : All (IsMoreFile cpus) reader.more
