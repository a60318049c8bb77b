use Rattle.fanout_group.proofs.SettledOnce.{each_appears_once}
use Rattle.fanout_group.proofs.laws.each_frame_appears_exactly_once.Goals as goal

pub returns : goal.returns
returns c = each_appears_once
