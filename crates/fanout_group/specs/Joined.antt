-- When logs and notes agree: each try has its note at its member, and each note its try.
use Rattle.std.specs.Prelude.{◌≡◌, ℕ, ◌<◌, List, [], ◌∷◌, ◌++◌, length, count_by}
use Rattle.std.specs.Prelude.{filter_map, sum_by, nat_lt, ◌==◌, if◌then◌else◌, slice_index_or}
use Rattle.std.specs.Prelude.{Option}
use Rattle.frame_view.specs.declared.frames.Frame.{Frame}
use Rattle.ring_model.specs.Sizes.{need_of, snap_of}
use Rattle.ring_model.specs.Offers.{offer_of}
use Rattle.ring_model.specs.Fates.{frame_notes}
use Rattle.ring_model.specs.declared.notes.Note.{Note}
use Rattle.ring_model.specs.declared.notes.Note.TheVariants as notes
-- `Rises` is that of the dealer's tickets, since those of the logs are the dealer's
pub use Rattle.ticket_dealer.specs.Tickets.{Rises}
use Rattle.fanout_group.specs.Rules.{Rules}
use Rattle.fanout_group.specs.declared.modes.Mode.TheVariants.{Lb}
use Rattle.fanout_group.specs.declared.logs.ArrivalLog.{ArrivalLog}
use Rattle.fanout_group.specs.declared.logs.Fate.{Fate}
use Rattle.fanout_group.specs.declared.logs.Fate.TheVariants.{Kept, Refused, Dropped}
use Rattle.fanout_group.specs.declared.logs.Try.{Try}

-- one try, with the arrival that made it and the hash and verdict that its entry has
pub record Attempt : Type 0 where
  pub frame : Frame
  pub hash : ℕ
  pub verdict : ℕ
  pub fate : Fate

-- the tries of an entry at a member
abbrev pub attempts_in : ℕ → Frame → ArrivalLog → List Try → List Attempt
attempts_in member frame entry [] = []
attempts_in member frame entry (t ∷ tries) =
    (if t.member == member
    then record { frame = frame; hash = entry.hash; verdict = entry.verdict; fate = t.fate } ∷ []
    else [])
    ++ attempts_in member frame entry tries

-- the tries of a log at a member, in order
abbrev pub attempts_at : ℕ → List Frame → List ArrivalLog → List Attempt
attempts_at member (frame ∷ frames) (entry ∷ log) =
    attempts_in member frame entry entry.tries ++ attempts_at member frames log
attempts_at member frames log = []

-- the note of a try: it has the offer if the packet was kept, otherwise the packet's frame and need
abbrev pub IsNoteOf : ℕ → Option (List ℕ) → Attempt → Note → Type 0
IsNoteOf room own attempt (notes.Kept offer found) =
    (attempt.fate ≡ Kept) × (offer ≡ offer_of room own attempt.hash attempt.verdict attempt.frame)
IsNoteOf room own attempt (notes.Refused cpu index need number) =
    (attempt.fate ≡ Refused) × (cpu ≡ attempt.frame.cpu) × (index ≡ attempt.frame.index)
    × (need ≡ need_of (snap_of room (length attempt.frame.bytes) attempt.verdict))
IsNoteOf room own attempt (notes.Dropped cpu index need number) =
    (attempt.fate ≡ Dropped) × (cpu ≡ attempt.frame.cpu) × (index ≡ attempt.frame.index)
    × (need ≡ need_of (snap_of room (length attempt.frame.bytes) attempt.verdict))
IsNoteOf room own attempt note = ⊥

-- one for one and in order
abbrev pub AreNotesOf : ℕ → Option (List ℕ) → List Attempt → List Note → Type 0
AreNotesOf room own [] [] = Unit {0}
AreNotesOf room own [] (note ∷ rest) = ⊥
AreNotesOf room own (attempt ∷ attempts) [] = ⊥
AreNotesOf room own (attempt ∷ attempts) (note ∷ rest) =
    IsNoteOf room own attempt note × AreNotesOf room own attempts rest

-- the arrivals of a CPU and its log
pub record Logged : Type 0 where
  pub arrivals : List Frame
  pub log : List ArrivalLog

abbrev pub nothing_logged : Logged
nothing_logged = record { arrivals = []; log = [] }

-- the tickets of a log, in order
abbrev pub tickets_of : List ArrivalLog → List ℕ
tickets_of log = filter_map (λ entry. entry.ticket) log

-- Logs and notes are joined. A CPU that doesn't exist has no arrival, so no note is about it.
pub record AreJoined (rules : Rules) (room : ℕ) (cpus : List Logged) (members : List (List Note))
    : Type 0 where
  pub each : (cpu member : ℕ) → member < length members →
      let logged = slice_index_or cpus cpu nothing_logged in
      AreNotesOf room rules.own (attempts_at member logged.arrivals logged.log)
      (frame_notes cpu (slice_index_or members member []))
  -- in mode Lb the tickets are the numbers below that of all arrivals, each once, and they rise in
  -- each log
  pub rising :
      (cpu : ℕ)
      → rules.mode ≡ Lb
      → Rises 0 (tickets_of (slice_index_or cpus cpu nothing_logged).log)
  pub once : (ticket : ℕ) → rules.mode ≡ Lb →
      sum_by (λ logged. count_by (λ drawn. drawn == ticket) (tickets_of logged.log)) cpus
      ≡ (if nat_lt ticket (sum_by (λ logged. length logged.log) cpus) then 1 else 0)
