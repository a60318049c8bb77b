-- The logs and notes that threads leave are joined.
use Rattle.std.proofs.Common.{◌≡◌, ◌<◌, ◌≤◌, ◌⊎◌, inl, inr, ℕ, Bool, true, false, List, [], length, refl, sym, subst}
use Rattle.std.proofs.lemmas.Bool.{ltb-true, ltb-false}
use Rattle.std.specs.Prelude.{nat_lt}
use Rattle.std.proofs.Math.ListN.{get_or-eq_default}
use Rattle.capture_reports.specs.Threads.{AreThreads, logged_at, notes_at}
use Rattle.capture_reports.proofs.OwnNotes.{none_beyond, own_frames}
use Rattle.capture_reports.proofs.TicketCounts.{tickets_once, tickets_rise}
use Rattle.fanout_group.specs.Joined.{AreNotesOf, Logged, attempts_at, nothing_logged}
use Rattle.fanout_group.specs.Once.{IsGroupReport}
use Rattle.fanout_group.specs.Rules.{Rules}
use Rattle.ring_model.specs.Fates.{frame_notes}
use Rattle.ring_model.specs.declared.notes.Note.{Note}
use Rattle.ticket_dealer.specs.Seats.{SeatValue}

-- a CPU is one of the ring's or comes after the last one
there_or_past : (cpu cpus : ℕ) (b : Bool) → nat_lt cpu cpus ≡ b → (cpu < cpus) ⊎ (cpus ≤ cpu)
there_or_past cpu cpus true is = inl (ltb-true cpu cpus is)
there_or_past cpu cpus false is = inr (ltb-false cpu cpus is)

module _ (rules : Rules) (room : ℕ) (cpus : List Logged) (seats : List SeatValue) (number : ℕ) (members : List (List Note))
    (left : AreThreads rules room cpus seats number members) where
  each_note : (cpu member : ℕ) → member < length members → ((cpu < length cpus) ⊎ (length cpus ≤ cpu))
      → AreNotesOf room rules.own (attempts_at member (logged_at cpus cpu).arrivals (logged_at cpus cpu).log)
      (frame_notes cpu (notes_at members member))
  each_note cpu member within (inl there) =
      subst (AreNotesOf room rules.own (attempts_at member (logged_at cpus cpu).arrivals (logged_at cpus cpu).log))
      (own_frames (length cpus) cpu (notes_at members member) there) (left.added cpu member there within)
  each_note cpu member within (inr past) =
      let nothing : logged_at cpus cpu ≡ nothing_logged = get_or-eq_default cpus nothing_logged past in
      subst (λ (logged : Logged). AreNotesOf room rules.own (attempts_at member logged.arrivals logged.log)
      (frame_notes cpu (notes_at members member))) (sym nothing)
      (subst (AreNotesOf room rules.own [])
      (sym (none_beyond (length cpus) cpu (notes_at members member) past (left.runs member within))) tt)

  pub reports : IsGroupReport rules room cpus members
  reports = record {
    some = left.some;
    count = left.count;
    frames = left.frames;
    lawful = left.lawful;
    joined = record {
      each = λ cpu member within. each_note cpu member within (there_or_past cpu (length cpus) (nat_lt cpu (length cpus)) refl);
      rising = λ cpu lb. tickets_rise cpus seats number cpu (left.tickets lb);
      once = λ ticket lb. tickets_once rules cpus seats number ticket lb left.lawful (left.tickets lb);
    };
  }
