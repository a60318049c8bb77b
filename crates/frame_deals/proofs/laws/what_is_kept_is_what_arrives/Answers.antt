use Rattle.frame_deals.proofs.FileFrames.{arrival_number, mark_list}
use Rattle.frame_deals.proofs.laws.what_is_kept_is_what_arrives.Goals as goal

pub returns-clause-marks : goal.returns-clause-marks
returns-clause-marks c = λ rules room cpu shape frames. mark_list rules room cpu shape frames

pub returns-clause-arrivals : goal.returns-clause-arrivals
returns-clause-arrivals c = λ rules room cpu shape frames. arrival_number rules room cpu shape frames
