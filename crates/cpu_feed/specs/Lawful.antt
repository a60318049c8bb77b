-- When the log of a CPU whose source is read a piece at a time is lawful: over the frames that were
-- fed, of all frames of its source.
use Rattle.std.specs.Prelude.{List, take}
use Rattle.fanout_group.specs.Paths.{IsPath}
use Rattle.fanout_group.specs.Rules.{Rules}
use Rattle.frame_view.specs.declared.frames.Frame.{Frame}
use Rattle.cpu_feed.specs.CpuFeeds.{Feeding}

-- the log is lawful over the frames that were fed
abbrev pub IsLawful : Rules → List Frame → Feeding → Type 0
IsLawful rules all cpu = IsPath rules (take cpu.fed all) cpu.path
