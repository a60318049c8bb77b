-- Works that were decoded.
use Rattle.std.specs.Prelude.{◌≡◌, Bool}
use Rattle.block_pool.specs.declared.pieces.DecodedPiece.{DecodedPiece}
use Rattle.tp_layout.specs.Layouts.{Taken, taken_in}
use Rattle.reader_walk.specs.Texts.{text_by}
use Rattle.work_queue.specs.declared.works.Work.{Work}

-- what the text of a work says: its number, its status, its packets
abbrev pub work_taken : Work → Taken
work_taken work = taken_in work.shape work.text

-- what is kept of a work that was decoded, by whether texts are kept
pub record IsPieceOf (dumps : Bool) (work : Work) (piece : DecodedPiece) : Type 0 where
  pub member_is : piece.member ≡ work.member
  pub number_is : piece.number ≡ work.number
  pub packets_are : piece.packets ≡ (work_taken work).packets
  pub text_is : piece.text ≡ text_by dumps work.shape (work_taken work)
