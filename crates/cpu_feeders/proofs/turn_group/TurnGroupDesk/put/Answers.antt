use Rattle.std.proofs.Common.{[], ◌∷◌, get_or, refl, subst, sym}
use Rattle.std.proofs.lemmas.Result.{IfErr-weaker, IfOk-weaker}
use Rattle.member_turns.proofs.OneTurn.{of_both}
use Rattle.member_turns.specs.Seats.{IsReady, Lock, Seat}
use Rattle.ring_model.specs.KnownReleases.{put_by}
use Rattle.cpu_feeders.proofs.TurnTries.{none_tried, put_tried, turn_takes}
use Rattle.cpu_feeders.proofs.turn_group.TurnGroupDesk.put.Goals as goal

pub returns-clause-made : goal.returns-clause-made
returns-clause-made g c =
    let group = c.args.self.now in
    IfOk-weaker c.put_turn.result _ _ (λ answer turn. record {
      same = record { members = refl; dealer = refl; member_seats = refl; seat = refl };
      seat_is = refl;
      tried = put_tried group.members.now group.member_seats.now.items c.args.member c.index-members-at.result
          c.index_mut-member_seat.result.now c.put_turn.new.member_seat c.requires.takes.within c.requires.takes.seated
          c.index-members-at.is c.index_mut-member_seat.ensures.value c.args.offer answer turn;
    }) c.put_turn.ensures.put

pub returns-clause-err : goal.returns-clause-err
returns-clause-err g c =
    let group = c.args.self.now in
    IfErr-weaker c.put_turn.result _ _ (λ _ turned. record {
      same = record { members = refl; dealer = refl; member_seats = refl; seat = refl };
      seat_is = refl;
      tried = none_tried group.members.now group.member_seats.now.items c.args.member c.index-members-at.result
          c.index_mut-member_seat.result.now c.put_turn.new.member_seat c.requires.takes.within c.requires.takes.seated
          c.index-members-at.is c.index_mut-member_seat.ensures.value c.args.offer turned;
    }) c.put_turn.ensures.err

pub returns-clause-same : goal.returns-clause-same
returns-clause-same g c =
    let group = c.args.self.now in
    let takes = turn_takes group.members.now group.member_seats.now.items c.args.member c.index-members-at.result
    c.index_mut-member_seat.result.now c.put_turn.new.member_seat c.requires.takes.within c.requires.takes.seated
    c.index-members-at.is c.index_mut-member_seat.ensures.value in
    let ready = subst (λ (seat : Seat). IsReady c.index-members-at.result c.args.offer.frame.cpu seat)
    (sym c.index_mut-member_seat.ensures.value)
    (subst (λ (lock : Lock). IsReady lock c.args.offer.frame.cpu
    (get_or group.member_seats.now.items c.args.member c.index_mut-member_seat.result.now))
    (sym c.index-members-at.is) (c.requires.takes.ready c.index-members-at.result c.index_mut-member_seat.result.now)) in
    of_both c.put_turn.result _ _ c.put_turn.ensures.put c.put_turn.ensures.err
    (λ answer turn. takes (put_by c.args.offer turn.found ∷ []) turn.turned c.args.offer.frame.cpu ready)
    (λ _ turned. takes [] turned c.args.offer.frame.cpu ready)
