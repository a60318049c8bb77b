use Rattle.std.proofs.Common.{◌++◌, ◌∷◌, [], List, rules, sym, ap, ◌∙◌, append-nil, append_assoc}
use Rattle.std.proofs.lemmas.Slice.Zip.{all_zipped_more}
use Rattle.cpu_feeders.proofs.OneMore.{next_all}
use Rattle.work_queue.specs.Works.{IsLawfulWork}
use Rattle.work_queue.specs.declared.works.Work.{Work}
use Rattle.block_pool.specs.Pieces.{IsPieceOf}
use Rattle.block_pool.specs.declared.pieces.DecodedPiece.{DecodedPiece}
use Rattle.block_pool.proofs.ended_takers.decode_left.Goals as goal

pub loop-work-init : goal.loop-work-init
loop-work-init g c = record {
  lawful = search rules;
  done = ([], [], search rules, tt, sym (append-nil c.args.pieces.now.items));
}

pub loop-work-preserved : goal.loop-work-preserved
loop-work-preserved g c =
    let inv = c.loop-work.invariant in
    let work = c.in-Some.work in
    let next = c.in-Some.ensures.steps.0 in
    let kept = c.in_ok-keep.ensures in
    let works : List Work = inv.done.0 in
    let more : List DecodedPiece = inv.done.1 in
    let piece : DecodedPiece = kept.0 in
    record {
      lawful = (next_all IsLawfulWork _ _ work next inv.lawful).1;
      done = (
        works ++ work ∷ [],
        more ++ piece ∷ [],
        append_assoc works (work ∷ []) _ ∙ ap (λ (ws : List Work). works ++ ws) (sym next) ∙ inv.done.2,
        all_zipped_more (IsPieceOf c.args.decoder.now.dumps) works more work piece inv.done.3 kept.1,
        kept.2 ∙ ap (λ (ps : List DecodedPiece). ps ++ piece ∷ []) inv.done.4
            ∙ append_assoc c.args.pieces.now.items more (piece ∷ []),
      );
    }
