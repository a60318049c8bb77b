use Rattle.std.proofs.Common.{◌≡◌, ◌<◌, ◌+◌, ℕ}
use Rattle.fanout_group.specs.Desks.{TakesTheSame}
use Rattle.fanout_group.specs.Routes.{behind, refused_from}
use Rattle.fanout_group.specs.inside.TryEffects.{AreListed}
use Rattle.fanout_group.proofs.delivery.try_round.Given as goal

abbrev pub invariant-loop-turn : goal.invariant-loop-turn
invariant-loop-turn g l = record {
  listed : AreListed g.D.Desk.made l.fn.offer (λ more. more ≡ refused_from l.members l.fn.home l.turn)
      l.initial.tries l.tries l.initial.desk l.desk;
  room : (n : ℕ) → g.D.Desk.room l.initial.desk (n + l.turn) → g.D.Desk.room l.desk n;
  member : l.member ≡ behind l.members l.fn.home l.turn;
  below : l.member < l.members;
  offer : l.offer ≡ l.fn.offer;
  same : TakesTheSame (g.D.Desk.takes l.initial.desk) (g.D.Desk.takes l.desk);
}
