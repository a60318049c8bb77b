use Rattle.std.proofs.Common.{◌≡◌, ◌++◌, List}
use Rattle.std.specs.List.{AllByRecursion, AllZip}
use Rattle.block_pool.specs.Pieces.{IsPieceOf}
use Rattle.block_pool.specs.declared.pieces.DecodedPiece.{DecodedPiece}
use Rattle.work_queue.specs.Works.{IsLawfulWork}
use Rattle.work_queue.specs.declared.works.Work.{Work}
use Rattle.block_pool.proofs.ended_takers.decode_left.Given as goal

abbrev pub invariant-loop-work : goal.invariant-loop-work
invariant-loop-work g l = record {
  lawful : AllByRecursion IsLawfulWork l.work-iterator.rest.items;
  done : (works : List Work) × (more : List DecodedPiece) × (works ++ l.work-iterator.rest.items ≡ l.fn.works.items)
      × AllZip (IsPieceOf l.decoder.dumps) works more × (l.pieces.items ≡ l.fn.pieces.items ++ more);
}
