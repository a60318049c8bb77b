use Rattle.std.proofs.Common.{◌≡◌, [], ◌∷◌, ◌++◌, List, length, ap, sym, ◌∙◌, subst}
use Rattle.member_turns.specs.Closings.{AreClosedNotes}
use Rattle.member_turns.specs.Seats.{Lock, Seat}
use Rattle.member_turns.proofs.Closed.{closed_notes}
use Rattle.member_turns.proofs.closed_members.close_member.Goals as goal
use Rattle.ring_model.specs.declared.notes.Note.{Note}
use Rattle.ring_model.specs.declared.notes.Note.TheVariants.{Finished}

pub returns-clause-notes : goal.returns-clause-notes
returns-clause-notes c =
    let lock = c.member.inside.lock in
    let seats = c.in_ok-seats.seats.items in
    let history = c.close-ring.result.producer.value.notes in
    let all : length seats ≡ lock.seats =
    ap length c.in_ok-seats.ensures ∙ c.requires.all ∙ ap (λ (l : Lock). l.seats) (sym c.member.view_is) in
    subst (λ (notes : List Note). AreClosedNotes c.args.member c.args.member_seats.items notes)
    (sym c.finish-feeder.ensures.notes)
    (subst (λ p. AreClosedNotes c.args.member c.args.member_seats.items (p.notes ++ Finished ∷ [])) (sym c.into_inner.ensures)
    (subst (λ (ss : List Seat). AreClosedNotes c.args.member ss (history ++ Finished ∷ [])) c.in_ok-seats.ensures
    (subst (λ (l : Lock). AreClosedNotes l seats (history ++ Finished ∷ [])) c.member.view_is
    (closed_notes lock seats history c.member.invariant all c.close-ring.ensures.history))))
