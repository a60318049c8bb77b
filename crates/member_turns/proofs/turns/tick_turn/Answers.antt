use Rattle.std.proofs.Common.{◌≡◌, [], ◌∷◌, ◌++◌, Err, OnOk, OnErr, ap, sym, ◌∙◌, subst, append-nil, arith}
use Rattle.std.proofs.lemmas.Result.{IfOk-at_ok, IfErr-at_err}
use Rattle.block_ring.specs.TickErrors.{IsBackwardsFrom}
use Rattle.block_ring.specs.declared.error.TickError.TheVariants.{Backwards}
use Rattle.ring_model.specs.Ring.{state_of}
use Rattle.ring_model.specs.declared.notes.Note.TheVariants.{Ticked}
use Rattle.tp_layout.specs.Requests.{size_of}
use Rattle.turn_lock.specs.Histories.{GoesOn}
use Rattle.member_turns.specs.Entries.{may_note}
use Rattle.member_turns.specs.Seats.{Lock, Seat}
use Rattle.member_turns.specs.TurnEffects.{IsTickTurn, Turned}
use Rattle.member_turns.proofs.OneTurn.{adds_in, clock_known, entered_at, of_both, tick_may, turn_done}
use Rattle.member_turns.proofs.turns.tick_turn.Goals.{in-Ok, in-Err-Memory}
use Rattle.member_turns.proofs.turns.tick_turn.Goals as goal

pub leave-requires-clause-turn : goal.leave-requires-clause-turn
leave-requires-clause-turn g c =
    let base = c.member.inside.lock.base in
    let seat = c.member_seat.inside.seat in
    let before = c.enter-ring.result.producer.value.notes in
    let number = ap (λ (s : Seat). s.number) c.member_seat.view_is ∙ c.requires.ready.number_is
    ∙ ap (λ (l : Lock). l.base.cpus) (sym c.member.view_is) in
    let leaves = adds_in base seat c.enter-ring.new.seat before c.tick-ticked.new.self.notes in
    of_both c.tick-ticked.result _ _ c.tick-ticked.ensures.ticked c.tick-ticked.ensures.err
    (λ _ found. leaves (Ticked c.args.ms found.0 ∷ []) c.enter-ring.ensures.seat
    (found.1.adds.notes ∙ ap (λ p. p.notes ++ Ticked c.args.ms found.0 ∷ []) c.deref_mut.ensures.value)
    (tick_may base seat.number c.args.ms found.0 number))
    (λ _ stays. leaves [] c.enter-ring.ensures.seat
    (ap (λ r. r.notes) stays ∙ ap (λ p. p.notes) c.deref_mut.ensures.value ∙ sym (append-nil before)) tt)

pub unreachable-requires : goal.unreachable-requires
unreachable-requires g c =
    let lock = c.args.member.now in
    let seat = c.args.member_seat.now in
    let before = c.enter-ring.result.producer.value.notes in
    let at = entered_at c.member.inside.lock lock c.member_seat.inside.seat seat c.enter-ring.new.seat before c.member.view_is
    c.member_seat.view_is
    c.enter-ring.ensures.goes_on c.enter-ring.ensures.seat in
    let size = size_of c.deref_mut.result.now.shape in
    let now = c.deref_mut.result.now.notes in
    let clock = clock_known lock seat size now c.requires.ready
    (subst (λ p. GoesOn (may_note lock.base) seat.number seat.last p.notes) (sym c.deref_mut.ensures.value) at.goes) in
    let is : c.in-Err-Backwards.field-0 ≡ Backwards c.in-Err-Backwards.field-0-0 =
    rw c.in-Err-Backwards.is at c.in-Err-Backwards.field-0-is in
    let told : c.in-Err-Backwards.field-0-0 ≡ (state_of size now).clock =
    subst (IsBackwardsFrom (state_of size now).clock) is c.in-Err-Backwards.ensures-1.clock in
    let less = c.tick-ticked.ensures.backwards.0 (c.in-Err-Backwards.is ∙ ap Err (is ∙ ap Backwards told)) in
    let later = c.requires.later in
    omega (arith, less, clock, later)

pub returns-clause-ticked : goal.returns-clause-ticked
returns-clause-ticked g c =
    let lock = c.args.member.now in
    let seat = c.args.member_seat.now in
    let before = c.enter-ring.result.producer.value.notes in
    let at = entered_at c.member.inside.lock lock c.member_seat.inside.seat seat c.enter-ring.new.seat before c.member.view_is
    c.member_seat.view_is
    c.enter-ring.ensures.goes_on c.enter-ring.ensures.seat in
    elim c.match-ticked.branch [
      | in-Ok w ↦
          let found = IfOk-at_ok _ w.in-Ok.is c.tick-ticked.ensures.ticked in
          subst (λ r. OnOk r (IsTickTurn lock seat c.leave.new.seat c.args.ms)) (sym w.result-is) (record {
            found = found.0;
            turned = turn_done lock seat c.enter-ring.new.seat c.leave.new.seat lock.base.cpus before
                c.tick-ticked.new.self.notes
                (Ticked c.args.ms found.0 ∷ []) c.requires.ready at
                (found.1.adds.notes ∙ ap (λ p. p.notes ++ Ticked c.args.ms found.0 ∷ []) c.deref_mut.ensures.value)
                (tick_may lock.base seat.number c.args.ms found.0 c.requires.ready.number_is) c.leave.ensures.seat;
          })
      | in-Err-Memory w ↦ subst (λ r. OnOk r (IsTickTurn lock seat c.leave.new.seat c.args.ms)) (sym w.result-is) tt
    ]

pub returns-clause-err : goal.returns-clause-err
returns-clause-err g c =
    let lock = c.args.member.now in
    let seat = c.args.member_seat.now in
    let before = c.enter-ring.result.producer.value.notes in
    let at = entered_at c.member.inside.lock lock c.member_seat.inside.seat seat c.enter-ring.new.seat before c.member.view_is
    c.member_seat.view_is
    c.enter-ring.ensures.goes_on c.enter-ring.ensures.seat in
    elim c.match-ticked.branch [
      | in-Ok w ↦ subst (λ r. OnErr r (Turned lock seat c.leave.new.seat [])) (sym w.result-is) tt
      | in-Err-Memory w ↦
          let stays = IfErr-at_err _ w.in-Err-Memory.is c.tick-ticked.ensures.err in
          subst (λ r. OnErr r (Turned lock seat c.leave.new.seat [])) (sym w.result-is)
          (turn_done lock seat c.enter-ring.new.seat c.leave.new.seat lock.base.cpus before c.tick-ticked.new.self.notes []
          c.requires.ready at
          (ap (λ r. r.notes) stays ∙ ap (λ p. p.notes) c.deref_mut.ensures.value ∙ sym (append-nil before)) tt
          c.leave.ensures.seat)
    ]
