-- The frames of CPUs whose captures go on in further files. For each CPU there is a list of files,
-- each as the bytes that its source gave.
use Rattle.std.specs.Prelude.{ℕ, ◌+◌, List, [], ◌∷◌, ◌++◌, map, Option}
use Rattle.capture_file.specs.Capture.{frames_of}
use Rattle.deal_rules.specs.Times.{times_of}
use Rattle.fanout_group.specs.Arrivals.{arrivals_at}
use Rattle.fanout_group.specs.Plans.{has_defrag}
use Rattle.frame_view.specs.declared.frames.Frame.{Frame}
use Rattle.setup_text.specs.declared.jobs.Job.{Job}

-- the frames of a CPU's files, of one file after another; each file numbers its own from 0 up
abbrev pub frames_in : ℕ → List (List ℕ) → List Frame
frames_in cpu [] = []
frames_in cpu (bytes ∷ files) = frames_of cpu bytes ++ frames_in cpu files

-- frames with the numbers from this one up
abbrev pub numbered : ℕ → List Frame → List Frame
numbered index [] = []
numbered index (frame ∷ frames) = record frame { index = index } ∷ numbered (index + 1) frames

-- the frames of a CPU's files, numbered from 0 up over all of them
abbrev pub frames_by : ℕ → List (List ℕ) → List Frame
frames_by cpu files = numbered 0 (frames_in cpu files)

-- the frames of each CPU, for CPUs with the numbers from this one up
abbrev pub captures_by : ℕ → List (List (List ℕ)) → List (List Frame)
captures_by cpu [] = []
captures_by cpu (files ∷ all) = frames_by cpu files ∷ captures_by (cpu + 1) all

-- what arrives with each frame of each CPU: one reassembly for all files of a CPU
abbrev pub arriving_by : Job → List (List (List ℕ)) → List (List (Option Frame))
arriving_by job all = map (arrivals_at (has_defrag job.setup.plan.flags)) (captures_by 0 all)

-- the times of the frames of each CPU
abbrev pub times_by : List (List (List ℕ)) → List (List ℕ)
times_by all = map times_of (captures_by 0 all)
