use Rattle.std.proofs.Common.{rules, ap, ◌∙◌, refl, subst, sym}
use Rattle.turn_lock.specs.Steps.{MayDraw}
use Rattle.turn_lock.proofs.TicketDraws.{draws}
use Rattle.turn_lock.proofs.TicketLooks.{looks}
use Rattle.turn_lock.proofs.turns.poll.Goals as goal

pub load-served-requires : goal.load-served-requires
load-served-requires g c = (
  search rules,
  search rules,
  looks g.V.Kept.stored g.V.Kept.base g.V.Kept.may_add _ _ _ _ _ c.args.seat.now.me c.requires.stage,
)

pub compare_exchange-found-requires : goal.compare_exchange-found-requires
compare_exchange-found-requires g c = let me = c.load-served.ensures.2.0 in (
  search rules,
  search rules,
  draws g.V.Kept.stored g.V.Kept.base g.V.Kept.may_add _ _ _ _ _ _ _ c.load-served.new.seat.me
      (subst (λ m. MayDraw m.0.places) (sym me) c.requires.few)
      (ap (λ m. m.0.stage) me ∙ c.requires.stage) (ap (λ m. m.0.ticket) me) refl,
)
