use Rattle.std.proofs.Common.{◌≡◌, ◌++◌, List, sym, ap, ◌∙◌, subst}
use Rattle.std.specs.List.{AllByRecursion}
use Rattle.block_pool.specs.inside.PieceTables.{AreFull, HasPlaceIn, counts_of, put_each}
use Rattle.block_pool.specs.declared.pieces.DecodedPiece.{DecodedPiece}
use Rattle.block_pool.proofs.ended_takers.put_together.Goals as goal

pub put_all-requires : goal.put_all-requires
put_all-requires g c =
    let rest = c.in_ok-decode_left.ensures in
    record {
      places = subst (λ (ps : List DecodedPiece). AllByRecursion (HasPlaceIn (counts_of c.args.tables.items)) ps) (sym rest.2)
          (c.requires.places rest.0 rest.1);
    }

pub read_all-requires : goal.read_all-requires
read_all-requires g c =
    let rest = c.in_ok-decode_left.ensures in
    let put : c.put_all.new.tables.items ≡ put_each c.args.tables.items (c.args.pieces.items ++ rest.0) =
    c.put_all.ensures ∙ ap (λ (ps : List DecodedPiece). put_each c.args.tables.items ps) rest.2 in
    record { full = subst AreFull (sym put) (c.requires.full rest.0 rest.1) }
