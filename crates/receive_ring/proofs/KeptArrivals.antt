-- An arrival preserves what holds of a replay.
use Rattle.std.proofs.Common.{◌≡◌, ℕ, ◌+◌, ◌<◌, eqb, ltb, List, [], ◌∷◌, ◌++◌, length, get_or, refl, sym, ap, subst, ◌∙◌, arith}
use Rattle.std.proofs.Common.{append_assoc}
use Rattle.std.specs.Prelude.{Some, slice_set}
use Rattle.std.proofs.lemmas.List.{get_or-set_same, length-set, set-set}
use Rattle.frame_view.specs.declared.frames.Frame.{Frame}
use Rattle.ring_model.specs.Fates.{frame_notes}
use Rattle.ring_model.specs.Offers.{offer_of}
use Rattle.ring_model.specs.Rings.{Ring}
use Rattle.fanout_group.specs.Arrivals.{somes}
use Rattle.fanout_group.specs.Joined.{AreNotesOf, Rises, attempts_in, tickets_of}
use Rattle.fanout_group.specs.Logs.{IsEntry}
use Rattle.fanout_group.specs.Routes.{present_after}
use Rattle.fanout_group.specs.Rules.{Rules, HasTicket, home_of, rolls_over}
use Rattle.fanout_group.specs.declared.logs.ArrivalLog.{ArrivalLog}
use Rattle.fanout_group.specs.declared.modes.Mode.{Mode}
use Rattle.fanout_group.specs.declared.modes.Mode.TheVariants.{Hash, Lb, Cpu as ByCpu, Rollover, Qm}
use Rattle.fanout_group.proofs.Members.{one_if}
use Rattle.fanout_group.proofs.RouteBounds.{home_is_member, present_is_member}
use Rattle.receive_ring.specs.Replay.{Cpu, Replay, Tried, arrived, cpu_at, next_ticket, no_cpu, no_ring, ticket_of, tries_of}
use Rattle.run_reports.specs.RingSteps.{RingSteps}
use Rattle.receive_ring.proofs.KeptOpen.{KeepOpen}
use Rattle.receive_ring.proofs.LogTickets.{once_more, one_more, rises_from, tickets_more, total_more}
use Rattle.receive_ring.proofs.ReplayStates.{Waiting, Goes, Joins, Logs, Tickets, silent_joins}
use Rattle.receive_ring.proofs.Places.{set_everywhere}
use Rattle.receive_ring.proofs.AddedNotes.{Adds, Arrival, Spread, notes-append, frame_notes-append}
use Rattle.receive_ring.proofs.Tries.{Made, tries_made}

has_ticket : (mode : Mode) (ticket : ℕ) → HasTicket mode (ticket_of mode ticket)
has_ticket Hash ticket = refl
has_ticket Lb ticket = refl
has_ticket ByCpu ticket = refl
has_ticket Rollover ticket = refl
has_ticket Qm ticket = refl

-- the log of the CPU at which the frame arrives
log_more : (rules : Rules) (number : ℕ) (arrivals : List Frame) (old : Cpu) (frame : Frame) (waiting : Waiting)
    (entry : ArrivalLog)
    → 0 < rules.members → Logs rules number arrivals (record old { waiting = Some frame ∷ waiting })
    → IsEntry rules old.present frame entry
    → Logs rules number arrivals
    (record { waiting = waiting; present = present_after rules.mode old.present entry.tries; log = old.log ++ entry ∷ [] })
log_more rules number arrivals old frame waiting entry some h is = record {
  present = present_is_member rules old.present frame entry some h.present is;
  least = frame.index + 1;
  of = h.of.2;
  lawful = λ more rest. rw append_assoc (h.lawful (entry ∷ more) (is, rest));
}

-- its notes at a member
joins_more : (P : ℕ → Ring → Type 0) (room : ℕ) (rules : Rules) (number member : ℕ) (arrivals : List Frame) (old : Cpu)
    (frame : Frame) (waiting : Waiting)
    (entry : ArrivalLog) (present : ℕ) (a b : Ring)
    → frame.cpu ≡ number → Joins room rules.own number member arrivals (record old { waiting = Some frame ∷ waiting }) a.notes
    → Adds P (record { room = room; own = rules.own; frame = frame; entry = entry }) member entry.tries a b
    → Joins room rules.own number member arrivals
    (record { waiting = waiting; present = present; log = old.log ++ entry ∷ [] }) b.notes
joins_more P room rules number member arrivals old frame waiting entry present a b of h adds = record {
  joined = λ log more k.
      let here : AreNotesOf room rules.own (attempts_in member frame entry entry.tries) (frame_notes number adds.notes) =
      subst (λ (c : ℕ). AreNotesOf room rules.own (attempts_in member frame entry entry.tries) (frame_notes c adds.notes))
      of adds.joined in
      let both = notes-append room rules.own _ _ _ _ here k in
      rw (append_assoc, adds.new_is, append_assoc)
      (h.joined (entry ∷ log) (adds.notes ++ more) (rw (frame_notes-append number adds.notes more) both));
}

-- the CPU after an arrival with this entry
abbrev logged : Rules → Cpu → Waiting → ArrivalLog → Cpu
logged rules old waiting entry = record {
  waiting = waiting;
  present = present_after rules.mode old.present entry.tries;
  log = old.log ++ entry ∷ [];
}

module _ (P : ℕ → Ring → Type 0) (rules : Rules) (steps : RingSteps) (arriving : List Waiting) (clock cpu : ℕ) (frame : Frame)
    (waiting : Waiting) (replay : Replay)
    (some : 0 < rules.members) (inside : cpu < length replay.cpus)
    (next_frame : (cpu_at replay cpu).waiting ≡ Some frame ∷ waiting)
    (h : Goes P rules steps arriving clock replay) where
  -- as if the frame had been judged
  logs_at : Logs rules cpu (somes (get_or arriving cpu [])) (record (cpu_at replay cpu) { waiting = Some frame ∷ waiting })
  logs_at =
      subst (λ (ws : Waiting). Logs rules cpu (somes (get_or arriving cpu [])) (record (cpu_at replay cpu) { waiting = ws }))
      next_frame (h.logs cpu)

  joins_at : (member : ℕ) → member < length replay.members
      → Joins steps.size.room rules.own cpu member (somes (get_or arriving cpu []))
      (record (cpu_at replay cpu) { waiting = Some frame ∷ waiting })
      (get_or replay.members member no_ring).notes
  joins_at member below =
      subst (λ (ws : Waiting). Joins steps.size.room rules.own cpu member (somes (get_or arriving cpu []))
      (record (cpu_at replay cpu) { waiting = ws })
      (get_or replay.members member no_ring).notes) next_frame (h.joins cpu member below)

  module _ (entry : ArrivalLog) (rings : List Ring) (next : ℕ) (is : IsEntry rules (cpu_at replay cpu).present frame entry)
      (spread : Spread P (record { room = steps.size.room; own = rules.own; frame = frame; entry = entry }) entry.tries
      replay.members rings)
      (drawn : rules.mode ≡ Lb → (entry.ticket ≡ Some replay.ticket) × (next ≡ replay.ticket + 1)) where
    joined_at : (number member : ℕ) → member < length replay.members
        → Joins steps.size.room rules.own number member (somes (get_or arriving number []))
        (get_or (slice_set replay.cpus cpu (logged rules (cpu_at replay cpu) waiting entry)) number no_cpu)
        (get_or rings member no_ring).notes
    joined_at number member below =
        let new = logged rules (cpu_at replay cpu) waiting entry in
        let adds = spread.each member below in
        let a = get_or replay.members member no_ring in
        let b = get_or rings member no_ring in
        set_everywhere (λ k c. Joins steps.size.room rules.own k member (somes (get_or arriving k [])) c b.notes) replay.cpus
        cpu new no_cpu inside
        (joins_more P steps.size.room rules cpu member _ (cpu_at replay cpu) frame waiting entry new.present a b logs_at.of.0
        (joins_at member below) adds)
        (λ k other. silent_joins steps.size.room rules.own k member _ (cpu_at replay k) a.notes b.notes adds.notes adds.new_is
        (adds.others k (λ e. other (e ∙ logs_at.of.0))) (h.joins k member below))
        number

    tickets_at : rules.mode ≡ Lb
        → Tickets (record {
          cpus = slice_set replay.cpus cpu (logged rules (cpu_at replay cpu) waiting entry);
          members = rings;
          ticket = next;
        })
    tickets_at lb =
        let new = logged rules (cpu_at replay cpu) waiting entry in
        let t = h.tickets lb in
        let ticket = (drawn lb).0 in
        let next_is = (drawn lb).1 in
        record {
          rising = set_everywhere (λ k (c : Cpu). (more : List ℕ) → Rises next more → Rises 0 (tickets_of c.log ++ more))
              replay.cpus cpu new no_cpu inside
              (λ more rises. rw (tickets_more (cpu_at replay cpu).log entry replay.ticket ticket, append_assoc)
              (t.rising cpu (replay.ticket ∷ more) (omega arith, rw next_is at rises)))
              (λ k other more rises. t.rising k more (rises_from replay.ticket next more (omega arith) rises));
          once = λ at. once_more replay.cpus cpu replay.ticket new entry inside refl ticket at
              ∙ ap (λ n. n + one_if (eqb replay.ticket at)) (t.once at)
              ∙ one_more at replay.ticket ∙ ap (λ n. one_if (ltb at n)) (sym next_is);
          total = next_is ∙ ap (λ n. n + 1) t.total
              ∙ sym (total_more replay.cpus cpu replay.ticket new entry inside refl ticket);
        }

    goes_on : Goes P rules steps arriving clock
        (record {
          cpus = slice_set replay.cpus cpu (logged rules (cpu_at replay cpu) waiting entry);
          members = rings;
          ticket = next;
        })
    goes_on =
        let new = logged rules (cpu_at replay cpu) waiting entry in
        record {
          cpus = length-set replay.cpus cpu new ∙ h.cpus;
          members = spread.count ∙ h.members;
          opens = λ member below. let there : member < length replay.members = omega (arith, spread.count) in
              (spread.each member there).opens clock (h.opens member there);
          logs = set_everywhere (λ k c. Logs rules k (somes (get_or arriving k [])) c) replay.cpus cpu new no_cpu inside
              (log_more rules cpu _ (cpu_at replay cpu) frame waiting entry some logs_at is) (λ k other. h.logs k);
          joins = λ number member below. joined_at number member (omega (arith, spread.count));
          tickets = tickets_at;
        }

-- an arrival of a CPU in this state
abbrev tried_with : Rules → RingSteps → Frame → Cpu → Replay → Tried
tried_with rules steps frame of replay =
    tries_of rules steps (home_of rules of.present (ticket_of rules.mode replay.ticket) frame)
    (offer_of steps.size.room rules.own (rules.hash frame) (rules.verdict frame) frame) (rules.verdict frame) replay.members

abbrev entry_with : Rules → RingSteps → Frame → Cpu → Replay → ArrivalLog
entry_with rules steps frame of replay = record {
  index = frame.index;
  ticket = ticket_of rules.mode replay.ticket;
  hash = rules.hash frame;
  verdict = rules.verdict frame;
  tries = (tried_with rules steps frame of replay).tries;
}

abbrev pub arrived_with : Rules → RingSteps → ℕ → Frame → Cpu → Waiting → Replay → Replay
arrived_with rules steps cpu frame of waiting replay = record {
  cpus = slice_set replay.cpus cpu (logged rules of waiting (entry_with rules steps frame of replay));
  members = (tried_with rules steps frame of replay).members;
  ticket = next_ticket rules.mode replay.ticket;
}

-- the CPU's frame is taken and then logged: one step
pub arrived_is : (rules : Rules) (steps : RingSteps) (cpu : ℕ) (frame : Frame) (waiting : Waiting) (replay : Replay)
    → cpu < length replay.cpus
    → arrived rules steps cpu frame
    (record replay { cpus = slice_set replay.cpus cpu (record (cpu_at replay cpu) { waiting = waiting }) })
    ≡ arrived_with rules steps cpu frame (cpu_at replay cpu) waiting replay
arrived_is rules steps cpu frame waiting replay inside =
    let taken : Cpu = record (cpu_at replay cpu) { waiting = waiting } in
    let between : Replay = record replay { cpus = slice_set replay.cpus cpu taken } in
    ap (λ (of : Cpu). arrived_with rules steps cpu frame of of.waiting between)
    (get_or-set_same replay.cpus cpu taken no_cpu inside)
    ∙ ap (λ (cs : List Cpu). record (arrived_with rules steps cpu frame (cpu_at replay cpu) waiting replay) { cpus = cs })
    (set-set replay.cpus cpu taken _)

drawn_is : (mode : Mode) (ticket : ℕ) → mode ≡ Lb
    → (ticket_of mode ticket ≡ Some ticket) × (next_ticket mode ticket ≡ ticket + 1)
drawn_is mode ticket e = (ap (λ (m : Mode). ticket_of m ticket) e, ap (λ (m : Mode). next_ticket m ticket) e)

pub arrived_goes : (P : ℕ → Ring → Type 0) (rules : Rules) (steps : RingSteps) (keep : KeepOpen steps P)
    (arriving : List Waiting) (clock cpu : ℕ) (frame : Frame) (waiting : Waiting)
    (replay : Replay) → 0 < rules.members → cpu < length replay.cpus → (cpu_at replay cpu).waiting ≡ Some frame ∷ waiting
    → Goes P rules steps arriving clock replay
    → Goes P rules steps arriving clock (arrived_with rules steps cpu frame (cpu_at replay cpu) waiting replay)
arrived_goes P rules steps keep arriving clock cpu frame waiting replay some inside e h =
    let old = cpu_at replay cpu in
    let entry = entry_with rules steps frame old replay in
    let tried = tried_with rules steps frame old replay in
    let ticket = ticket_of rules.mode replay.ticket in
    let home = home_of rules old.present ticket frame in
    let present = (h.logs cpu).present in
    let a : Arrival = record { room = steps.size.room; own = rules.own; frame = frame; entry = entry } in
    let made : Made P a (rolls_over rules) (eqb entry.verdict 0) rules.members home replay.members tried =
    tries_made P steps keep a rules home replay.members
    (home_is_member rules old.present ticket frame some present) h.members in
    let is : IsEntry rules old.present frame entry =
    record { index = refl; hash = refl; verdict = refl; ticket = has_ticket rules.mode replay.ticket; tries = made.tries } in
    goes_on P rules steps arriving clock cpu frame waiting replay some inside e h entry tried.members
    (next_ticket rules.mode replay.ticket) is
    made.spread (drawn_is rules.mode replay.ticket)
