use Rattle.tap_engine.proofs.laws.each_frame_of_a_run_appears_exactly_once.Goals as goal

pub returns : goal.returns
returns c old new named h = h.report_is.once
