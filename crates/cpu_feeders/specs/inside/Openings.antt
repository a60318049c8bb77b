-- A group before its threads start.
use Rattle.std.specs.Prelude.{◌≡◌, ℕ, ◌+◌, List, [], length}
use Rattle.std.specs.List.{AllZip}
use Rattle.cpu_feeders.specs.inside.MemberSeats.{fresh_users}
use Rattle.member_turns.specs.Entries.{table_numbers}
use Rattle.member_turns.specs.Seats.{Lock, Seat}
use Rattle.ring_words.specs.TableEnds.{Walking, fresh_walker}
use Rattle.setup_text.specs.declared.jobs.Job.{Job}
use Rattle.tp_layout.specs.Requests.{numbers_of}
use Rattle.tp_layout.specs.declared.requests.RingRequest.{RingRequest}

-- a member that was opened for `cpus` CPUs, and the reader's end of its ring: a ring of this shape
-- without notes, of which no block was taken
pub record IsOpened (shape : RingRequest) (cpus : ℕ) (lock : Lock) (end : Walking) : Type 0 where
  pub base : lock.base ≡ record { shape = shape; cpus = cpus; table = table_numbers end.id }
  pub seats : lock.seats ≡ cpus + 1
  pub first : lock.first ≡ []
  pub fresh : end ≡ fresh_walker end.id shape.block_nr (numbers_of shape)

-- the members of a job's group, each opened; the readers' ends of their rings; and the seats of
-- each user: of each CPU from 0 up, and then of the timer
pub record IsGroupOf (job : Job) (locks : List Lock) (ends : List Walking)
    (users : List (List Seat)) : Type 0 where
  pub count : length locks ≡ job.setup.plan.members
  pub opened : AllZip (IsOpened job.setup.shape (length job.setup.cpus)) locks ends
  pub users_are : users ≡ fresh_users locks 0 (length job.setup.cpus + 1)
