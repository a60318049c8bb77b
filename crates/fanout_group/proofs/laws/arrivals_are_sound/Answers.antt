use Rattle.fanout_group.proofs.SoundArrivals.{arrivals_sound}
use Rattle.fanout_group.proofs.laws.arrivals_are_sound.Goals as goal

pub returns : goal.returns
returns c = arrivals_sound
