-- What a member that was closed leaves.
use Rattle.std.specs.Prelude.{◌≡◌, ◌≤◌, List, [], ◌∷◌, length, map, ⊤}
use Rattle.block_ring.specs.CallNotes.{held_count, held_numbers}
use Rattle.block_ring.specs.Texts.{AreTexts}
use Rattle.member_turns.specs.Closings.{AreClosedNotes}
use Rattle.member_turns.specs.Seats.{Lock, Seat}
use Rattle.ring_model.specs.Ring.{IsWholeRun, state_of}
use Rattle.ring_model.specs.declared.notes.Note.{Note}
use Rattle.ring_words.specs.Pendings.{Pends}
use Rattle.setup_text.specs.declared.jobs.Job.{Job}
use Rattle.tp_layout.specs.Requests.{size_of}
use Rattle.tp_layout.specs.BlockWrites.{ShapedBytes}
use Rattle.tp_layout.specs.declared.requests.RingRequest.{RingRequest}

-- its lock, the notes of its ring, and what the ring held when it was finished
pub record MemberLeft : Type 0 where
  pub lock : Lock
  pub notes : List Note
  pub ring : Pends ShapedBytes

-- A ring that was finished, of a member with these notes: one block was retired for each block of
-- the notes, in order, and its content begins with that block's text and its status is that
-- block's; and its looks found the reader's blocks of these notes: the numbers are those that the
-- Refused, Dropped and held Ticked notes report, in their order.
pub record IsRingOf (shape : RingRequest) (notes : List Note) (ring : Pends ShapedBytes)
    : Type 0 where
  pub texts : AreTexts shape 1 ring.retired (state_of (size_of shape) notes).done
  pub holds : held_count notes ≤ ring.holds
  pub found : ring.found ≡ held_numbers notes

-- and the same of each member
abbrev pub AreRingsOf : RingRequest → List (List Note) → List (Pends ShapedBytes) → Type 0
AreRingsOf shape [] [] = ⊤
AreRingsOf shape [] (ring ∷ rings) = ⊥
AreRingsOf shape (notes ∷ all) [] = ⊥
AreRingsOf shape (notes ∷ all) (ring ∷ rings) =
    IsRingOf shape notes ring × AreRingsOf shape all rings

-- a member was closed with these seats, which are all it has
pub record IsClosedOver (shape : RingRequest) (member_seats : List Seat) (member : MemberLeft)
    : Type 0 where
  pub notes : AreClosedNotes member.lock member_seats member.notes
  pub run : IsWholeRun (size_of shape) member.notes
  pub ring : IsRingOf shape member.notes member.ring

-- the ring of a member of a job has the job's shape, and a seat for each CPU
pub record IsLockOf (job : Job) (lock : Lock) : Type 0 where
  pub cpus : lock.base.cpus ≡ length job.setup.cpus
  pub shape : lock.base.shape ≡ job.setup.shape

-- the locks of members
abbrev pub locks_of : List MemberLeft → List Lock
locks_of members = map (λ member. member.lock) members

-- the notes of members
abbrev pub notes_of_members : List MemberLeft → List (List Note)
notes_of_members members = map (λ member. member.notes) members

-- the rings of members
abbrev pub rings_of : List MemberLeft → List (Pends ShapedBytes)
rings_of members = map (λ member. member.ring) members
