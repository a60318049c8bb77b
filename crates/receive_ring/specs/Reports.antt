-- What a replay report guarantees: it is one of a group, and each ring's notes are a whole run.
use Rattle.std.specs.Prelude.{◌≡◌, ℕ, ◌≤◌, List, [], ◌∷◌, length, map, slice_index_or, Option, All}
use Rattle.frame_view.specs.declared.frames.Frame.{Frame}
use Rattle.ring_model.specs.Ring.{Size}
use Rattle.ring_model.specs.Rings.{Ring}
use Rattle.ring_model.specs.Unreleased.{IsUnreleased}
use Rattle.ring_model.specs.declared.notes.Note.{Note}
use Rattle.fanout_group.specs.Arrivals.{somes}
use Rattle.fanout_group.specs.Joined.{Logged}
use Rattle.fanout_group.specs.Once.{AreOf, IsGroupReport}
use Rattle.fanout_group.specs.Rules.{Rules}
use Rattle.receive_ring.specs.Replay.{Cpu, Replay}
use Rattle.run_reports.specs.RingRules.{RingRules}

-- what arrives at each CPU has its number and rising indexes
abbrev pub AreArrivals : List (List (Option Frame)) → Type 0
AreArrivals arriving = (cpu : ℕ) → AreOf cpu 0 (somes (slice_index_or arriving cpu []))

-- the arrivals and the log of each CPU
abbrev pub logged_of : List (List (Option Frame)) → List Cpu → List Logged
logged_of (waiting ∷ arriving) (cpu ∷ cpus) =
    record { arrivals = somes waiting; log = cpu.log } ∷ logged_of arriving cpus
logged_of arriving cpus = []

-- the notes of each member
abbrev pub notes_of : List Ring → List (List Note)
notes_of members = map (λ ring. ring.notes) members

-- How many blocks were released when each note was made: the counts never fall, from `low` on up to
-- `last`, and if a note says that a block was still the reader's, that block's number is above the
-- count.
abbrev pub AreReleases : ℕ → ℕ → List ℕ → List Note → Type 0
AreReleases low last [] [] = low ≤ last
AreReleases low last (count ∷ counts) (note ∷ notes) =
    (low ≤ count) × IsUnreleased count note × AreReleases count last counts notes
AreReleases low last counts notes = ⊥

-- a ring of this size whose notes go from its opening to its close
pub record IsRingReport (size : Size) (IsWhole : List Note → Type 0) (ring : Ring) : Type 0 where
  pub size_is : ring.size ≡ size
  pub run : IsWhole ring.notes
  -- so a drop found its block or slot unreleased
  pub releases : List ℕ
  pub unreleased : AreReleases 0 ring.released releases ring.notes

-- a ring under these rules does
abbrev pub IsRingOf : RingRules → Ring → Type 0
IsRingOf rings ring = IsRingReport rings.steps.size rings.IsWhole ring

-- the report is one of a group of such rings, whose offers are cut for this room
pub record IsReplayReport (rules : Rules) (room : ℕ) (IsRing : Ring → Type 0)
    (arriving : List (List (Option Frame))) (replay : Replay) : Type 0 where
  -- no CPU is left out
  pub cpus : length replay.cpus ≡ length arriving
  pub group : IsGroupReport rules room (logged_of arriving replay.cpus)
      (notes_of replay.members)
  pub rings : All IsRing replay.members
