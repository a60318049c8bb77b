use Rattle.std.proofs.Common.{◌≡◌, ◌-◌, ◌<◌, [], List, Option, Some, length, get_or, set, sym, ap, ◌∙◌, arith}
use Rattle.std.proofs.lemmas.List.{get_or_read, length-map}
use Rattle.cpu_feeders.proofs.OneMore.{next_all}
use Rattle.block_pool.specs.inside.PieceTables.{HasPlaceIn, counts_of, put_one}
use Rattle.block_pool.specs.declared.pieces.DecodedPiece.{DecodedPiece}
use Rattle.block_pool.proofs.Lists.{next_places, next_put}
use Rattle.block_pool.proofs.tables.put_all.Goals as goal

pub loop-piece-preserved : goal.loop-piece-preserved
loop-piece-preserved c =
    let inv = c.loop-piece.invariant in
    let next = c.in-Some.ensures.steps.0 in
    let tables = c.loop-piece.tables.items in
    let piece = c.in-Some.piece in
    let both = next_all (HasPlaceIn (counts_of tables)) _ _ piece next inv.places in
    let member = both.0.member in
    let long = length-map tables (λ (table : List (Option DecodedPiece)). length table) in
    let below : piece.member < length tables = omega (arith, member, long) in
    let table : get_or tables piece.member [] ≡ c.index_mut.result.now =
    sym (get_or_read tables _ _ below c.index_mut.ensures.value []) in
    let now_is : set tables piece.member c.put.new.self ≡ put_one tables piece =
    ap (λ (s : List (Option DecodedPiece)). set tables piece.member s)
    (c.put.ensures ∙ ap (λ (s : List (Option DecodedPiece)). set s (piece.number - 1) (Some piece)) (sym table)) in
    record {
      places = next_places tables _ piece _ now_is both.1;
      put = next_put tables _ _ _ piece _ next now_is inv.put;
    }
