-- A run with a pool: its passes before it starts, and what it leaves after the joins.
use Rattle.std.proofs.Common.{◌≡◌, ℕ, ◌+◌, Bool, false, List, [], ◌∷◌, ◌++◌, length, length-append}
use Rattle.std.proofs.Common.{take, drop, Option, refl, sym, ap, ◌∙◌, subst, arith}
use Rattle.std.specs.Prelude.{map}
use Rattle.std.specs.List.{AllByRecursion, AllZip}
use Rattle.std.proofs.lemmas.List.{length-drop, length-map, length-take-le}
use Rattle.block_pool.specs.Pieces.{IsPieceOf}
use Rattle.cpu_feeders.specs.Reports.{AreOutputsOf}
use Rattle.block_pool.specs.inside.PieceTables.{AreFull, HasPlaceIn, counts_of, empty_table, put_each, read_of}
use Rattle.block_pool.specs.Takers.{HandingValue, HasNumbered, first_takers, handing_base, handing_taken}
use Rattle.block_pool.specs.Workers.{HasDecoded, IsFreshPassOf}
use Rattle.block_pool.specs.declared.pieces.DecodedPiece.{DecodedPiece}
use Rattle.block_pool.specs.declared.workers.PoolWorker.{PoolWorker}
use Rattle.block_pool.proofs.FreshThreads.{all_drop, all_take, fresh_ones, own_ones, passes_long}
use Rattle.block_pool.proofs.Members.{AreMembers, handed_of, passes_of}
use Rattle.block_pool.proofs.Pooled.{all_pieces, worker_passes, workers_own, empty_for, filled}
use Rattle.block_pool.proofs.Pooled.{members_are, outputs_are, pieces_fit, tables_full, takers_many}
use Rattle.block_pool.proofs.Pooled.{takers_own}
use Rattle.history.proofs.Lists.{all_append}
use Rattle.block_pool.proofs.Zips.{zip_long}
use Rattle.cpu_feeders.specs.Runs.{AreTakersOf}
use Rattle.reader_walk.specs.declared.outputs.Outputs.{Outputs}
use Rattle.ring_model.specs.declared.notes.Note.{Note}
use Rattle.tp_layout.specs.declared.requests.RingRequest.{RingRequest}
use Rattle.work_queue.specs.Passes.{IsHistory, IsPassOf, PassValue, QueueValue, fresh_passes}
use Rattle.work_queue.specs.declared.works.Work.{Work}

-- the passes of a new queue, and those of members and of workers among them
module _ (queue : QueueValue) (members workers : ℕ) {passes : List PassValue} (count : queue.passes ≡ members + workers)
    (fresh : passes ≡ fresh_passes queue.id (members + workers) 0 (members + workers)) where
  pub all_long : length passes ≡ members + workers
  all_long = ap (λ (ps : List PassValue). length ps) fresh ∙ passes_long queue.id (members + workers) 0 (members + workers)

  all_fresh : AllByRecursion (IsFreshPassOf queue) passes
  all_fresh = subst (λ (ps : List PassValue). AllByRecursion (IsFreshPassOf queue) ps) (sym fresh)
      (fresh_ones queue (members + workers) 0 (members + workers) count)

  pub front_fresh : {front : List PassValue} → front ≡ take members passes → AllByRecursion (IsFreshPassOf queue) front
  front_fresh is = subst (λ (ps : List PassValue). AllByRecursion (IsFreshPassOf queue) ps) (sym is)
      (all_take (IsFreshPassOf queue) members passes all_fresh)

  pub back_fresh : {back : List PassValue} → back ≡ drop members passes → AllByRecursion (IsFreshPassOf queue) back
  back_fresh is = subst (λ (ps : List PassValue). AllByRecursion (IsFreshPassOf queue) ps) (sym is)
      (all_drop (IsFreshPassOf queue) members passes all_fresh)

  pub front_long : {front : List PassValue} → front ≡ take members passes → length front ≡ members
  front_long is =
      let long = all_long in
      ap (λ (ps : List PassValue). length ps) is ∙ length-take-le members passes (omega (arith, long))

  pub back_long : {back : List PassValue} → back ≡ drop members passes → length back ≡ workers
  back_long is =
      let long = all_long in
      let some = ap (λ (ps : List PassValue). length ps) is ∙ length-drop members passes in
      omega (arith, long, some)

-- as many workers as passes
pub workers_long : (pool_workers : List PoolWorker) {passes : List PassValue} → worker_passes pool_workers ≡ passes
    → length pool_workers ≡ length passes
workers_long pool_workers is =
    sym (length-map pool_workers (λ (d : PoolWorker). d.pass)) ∙ ap (λ (ps : List PassValue). length ps) is

-- an empty table for each taker
tables_of : (takers : List HandingValue)
    → map (λ (taker : HandingValue). empty_table (length taker.pass.handed)) takers ≡ empty_for (handed_of takers)
tables_of [] = refl
tables_of (taker ∷ takers) =
    ap (λ (ss : List (List (Option DecodedPiece))). empty_table (length taker.pass.handed) ∷ ss) (tables_of takers)

module _ (shape : RingRequest) (dumps : Bool) (queue : QueueValue) (members workers : ℕ) (before after : List PoolWorker)
    (takers : List HandingValue) (notes : List (List Note)) {passes front back : List PassValue} {firsts : List HandingValue}
    (count : queue.passes ≡ members + workers)
    (fresh : passes ≡ fresh_passes queue.id (members + workers) 0 (members + workers))
    (front_is : front ≡ take members passes) (back_is : back ≡ drop members passes)
    (firsts_are : firsts ≡ first_takers shape 0 front)
    (before_are : worker_passes before ≡ back) (decoded : AllZip (HasDecoded dumps queue) before after)
    (ran : AreTakersOf handing_base handing_taken shape notes firsts takers)
    {closing : List PassValue} (closing_are : closing ≡ passes_of takers ++ worker_passes after) where
  are : AreTakersOf handing_base handing_taken shape notes (first_takers shape 0 front) takers
  are = subst (λ (ts : List HandingValue). AreTakersOf handing_base handing_taken shape notes ts takers) firsts_are ran

  pub closes_all : length closing ≡ queue.passes
  closes_all =
      let sum = ap (λ (ps : List PassValue). length ps) closing_are ∙ length-append (passes_of takers) (worker_passes after) in
      let first = takers_many shape 0 notes front takers are ∙ front_long queue members workers count fresh front_is in
      let second = length-map after (λ (d : PoolWorker). d.pass) ∙ sym (zip_long (HasDecoded dumps queue) before after decoded)
      ∙ workers_long before before_are ∙ back_long queue members workers count fresh back_is in
      let all = count in
      omega (arith, sum, first, second, all)

  pub closes_own : AllByRecursion (IsPassOf queue) closing
  closes_own = subst (λ (ps : List PassValue). AllByRecursion (IsPassOf queue) ps) (sym closing_are)
      (all_append (IsPassOf queue) (passes_of takers) (worker_passes after)
      (takers_own shape queue 0 notes front takers are
      (own_ones queue front (front_fresh queue members workers count fresh front_is)))
      (workers_own dumps queue before after decoded))

  module _ (numbered : AllByRecursion HasNumbered takers) (full : AllByRecursion (λ (d : PoolWorker). d.full ≡ false) after)
      (left : List Work) (history : IsHistory closing left) (more : List DecodedPiece)
      (rest : AllZip (IsPieceOf dumps) left more)
      {kept : List DecodedPiece} (kept_are : kept ≡ all_pieces after) {tables : List (List (Option DecodedPiece))}
      (tables_are : tables ≡ map (λ (taker : HandingValue). empty_table (length taker.pass.handed)) takers) where
    in_order : AreMembers 0 shape takers
    in_order = members_are shape 0 notes front takers are numbered

    whole : IsHistory (passes_of takers ++ worker_passes after) left
    whole = subst (λ (ps : List PassValue). IsHistory ps left) closing_are history

    all_of : kept ++ more ≡ all_pieces after ++ more
    all_of = ap (λ (ps : List DecodedPiece). ps ++ more) kept_are

    empty : tables ≡ empty_for (handed_of takers)
    empty = tables_are ∙ tables_of takers

    pub fit : AllByRecursion (HasPlaceIn (counts_of tables)) (kept ++ more)
    fit = subst (λ (ps : List DecodedPiece). AllByRecursion (HasPlaceIn (counts_of tables)) ps) (sym all_of)
        (subst (λ (ss : List (List (Option DecodedPiece))). AllByRecursion (HasPlaceIn (counts_of ss))
        (all_pieces after ++ more))
        (sym empty)
        (pieces_fit shape dumps queue takers before after left in_order decoded full whole more rest))

    put_of : put_each tables (kept ++ more) ≡ put_each (empty_for (handed_of takers)) (all_pieces after ++ more)
    put_of = ap (λ (ss : List (List (Option DecodedPiece))). put_each ss (kept ++ more)) empty
        ∙ ap (λ (ps : List DecodedPiece). put_each (empty_for (handed_of takers)) ps) all_of

    pub all_full : AreFull (put_each tables (kept ++ more))
    all_full = subst AreFull (sym put_of) (tables_full shape dumps queue takers before after left in_order decoded full whole
        more rest)

    pub outputs_read : {outputs : List Outputs} → outputs ≡ map read_of (put_each tables (kept ++ more))
        → AllZip (AreOutputsOf shape dumps) notes outputs
    outputs_read is = subst (λ (os : List Outputs). AllZip (AreOutputsOf shape dumps) notes os)
        (sym (is ∙ ap (λ (ss : List (List (Option DecodedPiece))). map read_of ss) put_of))
        (outputs_are shape dumps 0 notes (first_takers shape 0 front) takers
        (put_each (empty_for (handed_of takers)) (all_pieces after ++ more)) are in_order
        (filled shape dumps queue takers before after left in_order decoded full whole more rest))

    pub outputs_long : {outputs : List Outputs} → outputs ≡ map read_of (put_each tables (kept ++ more))
        → length outputs ≡ length notes
    outputs_long {outputs = outputs} is = sym (zip_long (AreOutputsOf shape dumps) notes outputs (outputs_read is))
