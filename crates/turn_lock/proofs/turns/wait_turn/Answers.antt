use Rattle.std.proofs.Common.{refl}
use Rattle.turn_lock.proofs.turns.wait_turn.Goals as goal

pub loop-init : goal.loop-init
loop-init g c = record { can = tt; ends = tt; table = refl; me = (c.args.seat.now.me.0.ticket, refl) }
