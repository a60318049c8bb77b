-- A worker that has decoded one more work.
use Rattle.std.proofs.Common.{◌≡◌, ℕ, ◌+◌, Bool, true, false, [], ◌∷◌, ◌++◌, sym, ap, ◌∙◌, subst}
use Rattle.std.specs.Prelude.{Result, Ok, Err, IfOk, OnOk}
use Rattle.std.specs.Result.{is_err}
use Rattle.block_pool.specs.Pieces.{IsPieceOf}
use Rattle.block_pool.specs.Workers.{HasDecoded}
use Rattle.block_pool.specs.declared.pieces.DecodedPiece.{DecodedPiece}
use Rattle.block_pool.specs.declared.workers.PoolWorker.{PoolWorker}
use Rattle.cpu_feeders.proofs.OneMore.{zip_more}
use Rattle.work_queue.specs.Passes.{PassValue, QueueValue, has_fetched}
use Rattle.work_queue.specs.declared.works.Work.{Work}

pub decoded_more : (dumps : Bool) (queue : QueueValue) (before after now : PoolWorker) (work : Work) (piece : DecodedPiece)
    → HasDecoded dumps queue before after → after.full ≡ false
    → now.pass ≡ has_fetched after.pass work → now.fetches ≡ after.fetches + 1
    → now.pieces.items ≡ after.pieces.items ++ piece ∷ [] → IsPieceOf dumps work piece
    → HasDecoded dumps queue before now
decoded_more dumps queue before after now work piece is free passed fetched kept of = record {
  own = (ap (λ (p : PassValue). p.queue) passed ∙ is.own.0, ap (λ (p : PassValue). p.of) passed ∙ is.own.1);
  name = ap (λ (p : PassValue). p.name) passed ∙ is.name;
  none_handed = ap (λ (p : PassValue). p.handed) passed ∙ is.none_handed;
  counted = ap (λ (p : PassValue). p.calls) passed ∙ ap (λ (n : ℕ). n + 1) is.counted ∙ sym fetched;
  decoded = λ _. zip_more (IsPieceOf dumps) after.pass.fetched now.pass.fetched after.pieces.items now.pieces.items work piece
      (ap (λ (p : PassValue). p.fetched) passed) kept (is.decoded free) of;
}

-- what holds if an answer is Ok holds if it isn't Err
pub kept_of : {X E : Type 0} (answer : Result X E) (is : Bool) (P : Type 0) → is ≡ is_err answer → is ≡ false
    → OnOk answer P → P
kept_of (Ok x) is P told free holds = holds
kept_of (Err fault) is P told free holds = let never : true ≡ false = sym told ∙ free in absurd cc

pub ok_of : {X E : Type 0} (P : X → Type 0) (answer : Result X E) (x : X) → answer ≡ Ok x → IfOk answer P → P x
ok_of {X} {E} P answer x is holds = subst (λ (r : Result X E). IfOk r P) is holds
