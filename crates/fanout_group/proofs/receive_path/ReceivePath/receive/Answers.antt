use Rattle.std.proofs.Common.{◌≡◌, ◌+◌, ◌∙◌, ◌++◌, ◌∷◌, [], ap, arith, refl, subst, sym}
use Rattle.std.specs.Prelude.{OnErr, Option, Result, Ok, Err}
use Rattle.ring_model.specs.declared.notes.Offer.{Offer}
use Rattle.fanout_group.specs.Deliveries.{AreTriesOf}
use Rattle.fanout_group.specs.Judgements.{offer_by}
use Rattle.fanout_group.specs.RulesOfJudging.{judge_rules_of}
use Rattle.fanout_group.specs.Paths.{Path}
use Rattle.fanout_group.specs.Routes.{IsBegun, IsRoute, present_after}
use Rattle.fanout_group.proofs.Receptions.{gives_up, none_begun, offers_nothing, present_after-none, receives, stays_lawful}
use Rattle.fanout_group.proofs.Receptions.{tries_from_home}
use Rattle.fanout_group.proofs.receive_path.ReceivePath.receive.Goals.{else-judgement-eq0+in_ok-tries, then-judgement-eq0}
use Rattle.fanout_group.proofs.receive_path.ReceivePath.receive.Goals as goal

-- what always holds also holds after an error
after_err : {A E : Type 0} (result : Result A E) (P : Type 0) → P → OnErr result P
after_err (Ok value) P p = tt
after_err (Err error) P p = p

pub returns-clause-received : goal.returns-clause-received
returns-clause-received g c =
    let now : Path = c.args.self.now in
    let rules_now = c.args.rules.now in
    let judged = c.judgement-judgement in
    let mode_is = c.mode.ensures ∙ ap (λ (path : Path). path.shape.mode) c.self.view_is in
    let made_offer = offer_by (judge_rules_of rules_now) rules_now.room c.args.arrival in
    let its = c.if-judgement-eq0 in
    let tried : AreTriesOf IsRoute g.G.Desk.made now.shape c.draw-ticket.result rules_now.queue now.present made_offer its.tries
    c.draw-ticket.new.group its.group =
    elim c.if-judgement-eq0.branch [
      | then-judgement-eq0 w ↦
          subst (λ (o : Option Offer). AreTriesOf IsRoute g.G.Desk.made now.shape c.draw-ticket.result rules_now.queue
          now.present o its.tries c.draw-ticket.new.group its.group)
          (sym (offers_nothing rules_now c.args.arrival judged.result.hash judged.result.verdict judged.ensures.hash
          judged.ensures.verdict w.if-judgement-eq0.true))
          (w.tries-is ∙ w.new-tries.ensures, w.group-is)
      | else-judgement-eq0+in_ok-tries w ↦
          rw (w.tries-is, w.group-is)
          (subst (λ (path : Path). AreTriesOf IsRoute g.G.Desk.made path.shape c.draw-ticket.result rules_now.queue path.present
          made_offer w.in_ok-tries.tries c.draw-ticket.new.group w.offer_to.new.group) c.self.view_is
          (tries_from_home rules_now c.args.arrival judged.result.hash judged.result.verdict judged.ensures.hash
          judged.ensures.verdict g.G.Desk.made g.G.Group.drew c.draw-ticket.result c.draw-ticket.new.group w.offer_to.new.group
          IsRoute c.self.inside.plan rules_now.queue c.self.inside.present w.home-home.result w.offer-offer.result
          w.in_ok-tries.tries w.if-judgement-eq0.false w.offer-offer.ensures.offer w.home-home.ensures.home
          w.in_ok-tries.ensures.route w.in_ok-tries.ensures.made))
    ] in
    let next : its.self-inside.present ≡ present_after now.shape.mode now.present its.tries =
    elim c.if-judgement-eq0.branch [
      | then-judgement-eq0 w ↦
          rw (w.self-inside-is, w.tries-is, w.new-tries.ensures)
          (ap (λ (path : Path). path.present) c.self.view_is ∙ present_after-none now.shape.mode now.present)
      | else-judgement-eq0+in_ok-tries w ↦
          rw (w.self-inside-is, w.tries-is)
          (w.in_ok-tries.ensures.present
          ∙ ap (λ (path : Path). present_after path.shape.mode path.present w.in_ok-tries.tries) c.self.view_is)
    ] in
    let plan_is : its.self-inside.plan ≡ c.self.inside.plan =
    elim c.if-judgement-eq0.branch [
      | then-judgement-eq0 w ↦ rw w.self-inside-is refl
      | else-judgement-eq0+in_ok-tries w ↦ rw w.self-inside-is refl
    ] in
    let held_is : its.self-inside.reassembly ≡ c.self.inside.reassembly =
    elim c.if-judgement-eq0.branch [
      | then-judgement-eq0 w ↦ rw w.self-inside-is refl
      | else-judgement-eq0+in_ok-tries w ↦ rw w.self-inside-is refl
    ] in
    let log_is : its.self-inside.log ≡ c.reserve.new.self =
    elim c.if-judgement-eq0.branch [
      | then-judgement-eq0 w ↦ rw w.self-inside-is refl
      | else-judgement-eq0+in_ok-tries w ↦ rw w.self-inside-is refl
    ] in
    receives rules_now c.args.arrival judged.result.hash judged.result.verdict judged.ensures.hash judged.ensures.verdict
    g.G.Desk.made g.G.Group.drew c.draw-ticket.result c.draw-ticket.new.group its.group now c.args.group.now _ mode_is
    c.draw-ticket.ensures.ticket c.draw-ticket.ensures.drawn its.tries its.self-inside.present _ tried next
    (rw (plan_is, held_is, c.push_reserved.ensures.items, log_is, c.reserve.ensures.items)
    (ap (λ (path : Path). record path {
      present = its.self-inside.present;
      log = path.log ++ (record {
        index = c.args.arrival.index;
        ticket = c.draw-ticket.result;
        hash = judged.result.hash;
        verdict = judged.result.verdict;
        tries = its.tries;
      }) ∷ [];
    }) c.self.view_is))

pub returns-clause-lawful : goal.returns-clause-lawful
returns-clause-lawful g c = λ judge frames agrees.
    stays_lawful g.G.Desk.made g.G.Group.drew c.args.rules.now c.args.arrival c.args.self.now _ _ _
    (returns-clause-received g c) judge agrees frames

pub returns-clause-room : goal.returns-clause-room
returns-clause-room g c = λ n room.
    let drawn = c.draw-ticket.ensures.room (n + 9) room in
    elim c.if-judgement-eq0.branch [
      | then-judgement-eq0 w ↦ rw w.group-is (g.met.G.Desk.less_room c.draw-ticket.new.group n (n + 9) (omega arith) drawn)
      | else-judgement-eq0+in_ok-tries w ↦ rw w.group-is (w.in_ok-tries.ensures.room n drawn)
    ]

pub returns-in_err-tries-clause-given_up : goal.returns-in_err-tries-clause-given_up
returns-in_err-tries-clause-given_up g c =
    let now : Path = c.args.self.now in
    let rules_now = c.args.rules.now in
    let judged = c.judgement-judgement in
    let mode_is = c.mode.ensures ∙ ap (λ (path : Path). path.shape.mode) c.self.view_is in
    let begun = c.in_err-tries.ensures.begun in
    after_err c.from_residual-in_err-tries.result _
    (gives_up rules_now c.args.arrival judged.result.hash judged.result.verdict judged.ensures.hash judged.ensures.verdict
    g.G.Desk.made g.G.Group.drew c.draw-ticket.result c.draw-ticket.new.group c.offer_to.new.group now c.args.group.now _
    mode_is
    c.draw-ticket.ensures.ticket c.draw-ticket.ensures.drawn begun.0
    (subst (λ (path : Path). AreTriesOf IsBegun g.G.Desk.made path.shape c.draw-ticket.result rules_now.queue path.present
    (offer_by (judge_rules_of rules_now) rules_now.room c.args.arrival) begun.0 c.draw-ticket.new.group c.offer_to.new.group)
    c.self.view_is
    (tries_from_home rules_now c.args.arrival judged.result.hash judged.result.verdict judged.ensures.hash
    judged.ensures.verdict
    g.G.Desk.made g.G.Group.drew c.draw-ticket.result c.draw-ticket.new.group c.offer_to.new.group
    IsBegun c.self.inside.plan rules_now.queue c.self.inside.present c.home-home.result c.offer-offer.result
    begun.0 c.if-judgement-eq0.false c.offer-offer.ensures.offer c.home-home.ensures.home begun.1 begun.2)))

pub returns-in_err-reserve-clause-given_up : goal.returns-in_err-reserve-clause-given_up
returns-in_err-reserve-clause-given_up g c =
    let now : Path = c.args.self.now in
    let rules_now = c.args.rules.now in
    let judged = c.judgement-judgement in
    let mode_is = c.mode.ensures ∙ ap (λ (path : Path). path.shape.mode) c.self.view_is in
    after_err c.from_residual.result _
    (gives_up rules_now c.args.arrival judged.result.hash judged.result.verdict judged.ensures.hash judged.ensures.verdict
    g.G.Desk.made g.G.Group.drew c.draw-ticket.result c.draw-ticket.new.group c.draw-ticket.new.group now c.args.group.now _
    mode_is c.draw-ticket.ensures.ticket c.draw-ticket.ensures.drawn []
    (none_begun g.G.Desk.made g.met.G.Desk.none_made now.shape c.draw-ticket.result rules_now.queue now.present
    (offer_by (judge_rules_of rules_now) rules_now.room c.args.arrival) c.draw-ticket.new.group))
