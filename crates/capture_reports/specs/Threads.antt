-- What the threads of a run leave, as lists.
use Rattle.std.specs.Prelude.{◌≡◌, ℕ, ◌<◌, List, [], ◌++◌, length, map, slice_index_or}
use Rattle.std.specs.List.{AllByRecursion}
use Rattle.fanout_group.specs.Joined.{AreNotesOf, Logged, attempts_at, nothing_logged, tickets_of}
use Rattle.fanout_group.specs.Logs.{IsLawful}
use Rattle.fanout_group.specs.Once.{AreOf}
use Rattle.fanout_group.specs.Rules.{Rules}
use Rattle.fanout_group.specs.declared.modes.Mode.TheVariants.{Lb}
use Rattle.member_turns.specs.Entries.{may_add}
use Rattle.ring_model.specs.declared.notes.Note.{Note}
use Rattle.ticket_dealer.specs.Seats.{AreDealt, SeatValue}
use Rattle.turn_lock.specs.Histories.{own}
use Rattle.capture_reports.specs.Seats.{IsSeatRun}

-- the arrivals and the log of a CPU
abbrev pub logged_at : List Logged → ℕ → Logged
logged_at cpus cpu = slice_index_or cpus cpu nothing_logged

-- the notes of a member
abbrev pub notes_at : List (List Note) → ℕ → List Note
notes_at members member = slice_index_or members member []

-- the seat has drawn nothing
abbrev pub DrewNone : SeatValue → Type 0
DrewNone seat = seat.drawn ≡ []

-- the tickets of the logs are those that the feeders' seats drew, and no other seat of the dealer
-- drew one
pub record HaveTickets (cpus : List Logged) (seats : List SeatValue) (number : ℕ) : Type 0 where
  pub dealt : AreDealt seats number
  pub feeders : List SeatValue
  pub others : List SeatValue
  pub seats_are : seats ≡ feeders ++ others
  pub drawn :
      map (λ logged. tickets_of logged.log) cpus ≡ map (λ (seat : SeatValue). seat.drawn) feeders
  pub none : AllByRecursion DrewNone others

-- The logs of the CPUs are lawful, each member's notes are those of its seats, a CPU's own notes
-- there are those of its log's attempts, and in mode Lb the logs have the dealer's tickets.
pub record AreThreads (rules : Rules) (room : ℕ) (cpus : List Logged) (seats : List SeatValue)
    (number : ℕ) (members : List (List Note)) : Type 0 where
  pub some : 0 < rules.members
  pub count : length members ≡ rules.members
  pub frames : (cpu : ℕ) → AreOf cpu 0 (logged_at cpus cpu).arrivals
  pub lawful : (cpu : ℕ) → IsLawful rules (logged_at cpus cpu).arrivals (logged_at cpus cpu).log
  pub runs : (member : ℕ) → member < length members
      → IsSeatRun (length cpus) (notes_at members member)
  pub added : (cpu member : ℕ) → cpu < length cpus → member < length members →
      AreNotesOf room rules.own
      (attempts_at member (logged_at cpus cpu).arrivals (logged_at cpus cpu).log)
      (own (may_add (length cpus)) cpu (notes_at members member))
  pub tickets : rules.mode ≡ Lb → HaveTickets cpus seats number
