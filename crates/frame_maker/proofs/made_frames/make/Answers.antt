-- Each frame of the list is one of those that `All-made` speaks of.
use Rattle.std.proofs.Common.{◌≡◌, sym, subst, arith}
use Rattle.std.specs.List.{All}
use Rattle.std.proofs.lemmas.Grind.{common_steps}
use Rattle.frame_maker.specs.Made.{made, IsMade}
use Rattle.frame_maker.proofs.Each.{All-made}
use Rattle.frame_maker.proofs.Steps.{steps}
use Rattle.frame_maker.proofs.made_frames.make.Goals as goal

pub returns-clause-each : goal.returns-clause-each
unfolding made
returns-clause-each c =
    let all : c.from_vec.result ≡ made c.args.seed c.args.count = grind (arith, common_steps, steps) in
    subst (All IsMade) (sym all) (All-made c.args.seed c.args.count)
