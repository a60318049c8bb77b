-- The frames so far, with those that are still to be made, are all.
use Rattle.std.proofs.Common.{◌≡◌, ◌-◌, ◌++◌}
use Rattle.frame_maker.specs.Made.{made, made_from}
use Rattle.frame_maker.proofs.made_frames.make.Given as goal

abbrev pub invariant-loop-index : goal.invariant-loop-index
invariant-loop-index l =
    l.frames.items ++ made_from (l.count - l.index) l.index l.generator.state ≡ made l.seed l.count
