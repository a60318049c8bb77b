-- What was dealt, with what is still to be dealt, is all.
use Rattle.std.proofs.Common.{◌≡◌, ◌+◌, length}
use Rattle.std.specs.Prelude.{All}
use Rattle.frame_maker.specs.Made.{IsMade}
use Rattle.made_captures.proofs.Dealt.{IsDealt}
use Rattle.made_captures.proofs.dealt_frames.deal.Given as goal

abbrev pub invariant-loop-frame : goal.invariant-loop-frame
invariant-loop-frame l = record {
  few : l.index + length l.frame-iterator.rest.items ≡ length l.fn.frames;
  made : All IsMade l.frame-iterator.rest.items;
  dealt : IsDealt l.cpus l.index l.lists.items l.frame-iterator.rest.items l.fn.frames;
}
