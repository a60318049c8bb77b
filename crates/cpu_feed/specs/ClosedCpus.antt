-- What is left of the CPUs of a run once each is closed.
use Rattle.std.specs.Prelude.{ℕ, List, [], ◌∷◌, map, ⊤, Option}
use Rattle.capture_file.specs.declared.cpu_end.CpuEnd.{CpuEnd}
use Rattle.cpu_feed.specs.CpuFeeds.{Closes, Feeding}
use Rattle.fanout_group.specs.declared.runs.CpuLog.{CpuLog}
use Rattle.tap_outside.specs.Seen.{SourceSeen}

-- each CPU is closed
abbrev pub AllClose : List Feeding → List (Option SourceSeen) → List CpuLog → Type 0
AllClose [] [] [] = ⊤
AllClose (cpu ∷ cpus) (now ∷ nows) (log ∷ logs) = Closes cpu now log × AllClose cpus nows logs
AllClose cpus nows logs = ⊥

-- their sources as they were handed in
abbrev pub firsts_of : List Feeding → List (Option SourceSeen)
firsts_of cpus = map (λ cpu. cpu.first) cpus

-- the bytes that these gave
abbrev pub bytes_of : List Feeding → List (List ℕ)
bytes_of cpus = map (λ cpu. cpu.bytes) cpus

-- how they ended
abbrev pub ends_of : List CpuLog → List CpuEnd
ends_of logs = map (λ log. log.end) logs
