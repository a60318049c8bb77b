-- What the log of a CPU says about its capture.
use Rattle.std.specs.Prelude.{◌≡◌, ℕ, ◌+◌, List, [], ◌∷◌, length, ⊤}
use Rattle.capture_file.specs.Capture.{frames_of}
use Rattle.capture_file.specs.declared.cpu_end.CpuEnd.{CpuEnd}
use Rattle.fanout_group.specs.declared.runs.CpuLog.{CpuLog}

-- the log of a CPU whose source gave these bytes and ended so: the number of their frames, and
-- their own number
pub record IsLogOf (cpu : ℕ) (bytes : List ℕ) (end : CpuEnd) (log : CpuLog) : Type 0 where
  pub frames : log.frames ≡ length (frames_of cpu bytes)
  pub given : log.given ≡ length bytes
  pub end_is : log.end ≡ end

-- the logs of CPUs with the numbers from this one up: exactly one for each source
abbrev pub AreLogsFrom : ℕ → List (List ℕ) → List CpuEnd → List CpuLog → Type 0
AreLogsFrom cpu [] [] [] = ⊤
AreLogsFrom cpu (bytes ∷ all) (end ∷ ends) (log ∷ logs) =
    IsLogOf cpu bytes end log × AreLogsFrom (cpu + 1) all ends logs
AreLogsFrom cpu all ends logs = ⊥
