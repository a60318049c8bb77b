use Rattle.std.proofs.Common.{◌<◌, [], ◌∷◌, ◌++◌, ap, sym, ◌∙◌, subst, append-nil}
use Rattle.std.proofs.lemmas.Result.{IfOk-weaker, IfErr-weaker}
use Rattle.ring_model.specs.KnownReleases.{put_by}
use Rattle.member_turns.specs.Seats.{Lock, Seat}
use Rattle.member_turns.specs.TurnEffects.{IsPutTurn, Turned}
use Rattle.member_turns.proofs.OneTurn.{adds_in, entered_at, of_both, put_may, turn_done}
use Rattle.member_turns.proofs.turns.put_turn.Goals as goal

pub leave-requires-clause-turn : goal.leave-requires-clause-turn
leave-requires-clause-turn g c =
    let base = c.member.inside.lock.base in
    let seat = c.member_seat.inside.seat in
    let before = c.enter-ring.result.producer.value.notes in
    let number = ap (λ (s : Seat). s.number) c.member_seat.view_is ∙ c.requires.ready.number_is in
    let few = subst (λ (l : Lock). c.args.offer.frame.cpu < l.base.cpus) (sym c.member.view_is) c.requires.cpu in
    let leaves = adds_in base seat c.enter-ring.new.seat before c.put-put.new.self.notes in
    of_both c.put-put.result _ _ c.put-put.ensures.put c.put-put.ensures.unput
    (λ put found. leaves (put_by c.args.offer found.0 ∷ []) c.enter-ring.ensures.seat
    (found.1.adds.notes ∙ ap (λ p. p.notes ++ put_by c.args.offer found.0 ∷ []) c.deref_mut.ensures.value)
    (put_may base seat.number c.args.offer found.0 number few))
    (λ unput stays. leaves [] c.enter-ring.ensures.seat
    (ap (λ r. r.notes) stays.1 ∙ ap (λ p. p.notes) c.deref_mut.ensures.value ∙ sym (append-nil before)) tt)

pub returns-clause-put : goal.returns-clause-put
returns-clause-put g c =
    let lock = c.args.member.now in
    let seat = c.args.member_seat.now in
    let before = c.enter-ring.result.producer.value.notes in
    let at = entered_at c.member.inside.lock lock c.member_seat.inside.seat seat c.enter-ring.new.seat before c.member.view_is
    c.member_seat.view_is
    c.enter-ring.ensures.goes_on c.enter-ring.ensures.seat in
    IfOk-weaker c.put-put.result _ (IsPutTurn lock seat c.leave.new.seat c.args.offer) (λ put found. record {
      found = found.0;
      told = found.1.told;
      turned = turn_done lock seat c.enter-ring.new.seat c.leave.new.seat c.args.offer.frame.cpu before c.put-put.new.self.notes
          (put_by c.args.offer found.0 ∷ []) c.requires.ready at
          (found.1.adds.notes ∙ ap (λ p. p.notes ++ put_by c.args.offer found.0 ∷ []) c.deref_mut.ensures.value)
          (put_may lock.base seat.number c.args.offer found.0 c.requires.ready.number_is c.requires.cpu) c.leave.ensures.seat;
    }) c.put-put.ensures.put

pub returns-clause-err : goal.returns-clause-err
returns-clause-err g c =
    let lock = c.args.member.now in
    let seat = c.args.member_seat.now in
    let before = c.enter-ring.result.producer.value.notes in
    let at = entered_at c.member.inside.lock lock c.member_seat.inside.seat seat c.enter-ring.new.seat before c.member.view_is
    c.member_seat.view_is
    c.enter-ring.ensures.goes_on c.enter-ring.ensures.seat in
    IfErr-weaker c.put-put.result _ (λ _. Turned lock seat c.leave.new.seat []) (λ unput stays.
    turn_done lock seat c.enter-ring.new.seat c.leave.new.seat c.args.offer.frame.cpu before c.put-put.new.self.notes []
    c.requires.ready at
    (ap (λ r. r.notes) stays.1 ∙ ap (λ p. p.notes) c.deref_mut.ensures.value ∙ sym (append-nil before)) tt c.leave.ensures.seat)
    c.put-put.ensures.unput
