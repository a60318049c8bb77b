-- Pieces are put into the places of their numbers, until each place has the piece of its work.
use Rattle.std.proofs.Common.{◌≡◌, ℕ, zero, suc, ◌+◌, ◌-◌, ◌<◌, Bool, List, [], ◌∷◌, length, get_or, set, Option, None, Some}
use Rattle.std.proofs.Common.{refl, sym, ap, ◌∙◌, subst, arith}
use Rattle.std.specs.Prelude.{map, replicate, ⊤}
use Rattle.std.specs.List.{AllByRecursion, AllZip}
use Rattle.std.proofs.lemmas.List.{length-map}
use mathlib.Core.Logic.{dite}
use native.Mathlib.Decide.{ℕ_discrete}
use Rattle.block_pool.specs.Pieces.{IsPieceOf}
use Rattle.block_pool.specs.inside.PieceTables.{HasPlaceIn, counts_of, empty_table, put_each, put_one}
use Rattle.block_pool.specs.declared.pieces.DecodedPiece.{DecodedPiece}
use Rattle.block_pool.proofs.Members.{IsPlaced}
use Rattle.history.proofs.Lists.{at_below}
use Rattle.block_pool.proofs.Zips.{set_at, set_by, zip_at, zip_long, zip_set}
use Rattle.tp_layout.specs.declared.requests.RingRequest.{RingRequest}
use Rattle.work_queue.specs.declared.works.Work.{Work}

abbrev PieceTables : Type 0
PieceTables = List (List (Option DecodedPiece))

-- a place is empty, or has the piece of its work
abbrev pub IsHeldAs : Bool → Work → Option DecodedPiece → Type 0
IsHeldAs dumps work None = ⊤
IsHeldAs dumps work (Some piece) = IsPieceOf dumps work piece

-- the place of a work has a piece
pub record IsThere (tables : PieceTables) (work : Work) : Type 0 where
  pub piece : DecodedPiece
  pub is : get_or (get_or tables work.member []) (work.number - 1) None ≡ Some piece

empty_held : (dumps : Bool) (works : List Work) → AllZip (IsHeldAs dumps) works (replicate (length works) None)
empty_held dumps [] = tt
empty_held dumps (work ∷ works) = (tt, empty_held dumps works)

-- empty tables
pub all_empty : (dumps : Bool) (all : List (List Work))
    → AllZip (AllZip (IsHeldAs dumps)) all (map (λ (works : List Work). empty_table (length works)) all)
all_empty dumps [] = tt
all_empty dumps (works ∷ all) = (empty_held dumps works, all_empty dumps all)

-- how long each table is
count_at : (tables : PieceTables) (index : ℕ) → get_or (counts_of tables) index 0 ≡ length (get_or tables index [])
count_at [] index = refl
count_at (table ∷ tables) zero = refl
count_at (table ∷ tables) (suc index) = count_at tables index

-- a piece is put into the place of its number
put_is : (tables : PieceTables) (piece : DecodedPiece) (index place : ℕ) → piece.member ≡ index → piece.number ≡ place + 1
    → put_one tables piece ≡ set tables index (set (get_or tables index []) place (Some piece))
put_is tables piece index place member number =
    let at : piece.number - 1 ≡ place = omega (arith, number) in
    ap (λ (k : ℕ). set tables k (set (get_or tables k []) (piece.number - 1) (Some piece))) member
    ∙ ap (λ (n : ℕ). set tables index (set (get_or tables index []) n (Some piece))) at

module _ (dumps : Bool) (all : List (List Work)) (shape : RingRequest) where
  -- one piece, of a work of one of the members
  module _ (work : Work) (is : IsPlaced all 0 shape work) (piece : DecodedPiece) (of : IsPieceOf dumps work piece) where
    member : piece.member ≡ is.index
    member = let a = of.member_is in let b = is.member_is in omega (arith, a, b)

    number : piece.number ≡ is.place + 1
    number = of.number_is ∙ is.number_is

    module _ (tables : PieceTables) (held : AllZip (AllZip (IsHeldAs dumps)) all tables) where
      table_long : length is.works ≡ length (get_or tables is.index [])
      table_long = zip_long (IsHeldAs dumps) is.works (get_or tables is.index [])
          (zip_at (AllZip (IsHeldAs dumps)) all tables is.index is.works [] held is.at)

      index_below : is.index < length tables
      index_below = let below = at_below all is.index is.works is.at in let long =
          zip_long (AllZip (IsHeldAs dumps)) all tables held in omega (arith, below, long)

      place_below : is.place < length (get_or tables is.index [])
      place_below = let below = at_below is.works is.place work is.is_there in let long = table_long in
          omega (arith, below, long)

      fits : HasPlaceIn (counts_of tables) piece
      fits =
          let m = member in
          let n = number in
          let below = index_below in
          let within = place_below in
          let long = length-map tables (λ (table : List (Option DecodedPiece)). length table) in
          let count : get_or (counts_of tables) piece.member 0 ≡ length (get_or tables is.index []) =
          ap (λ (k : ℕ). get_or (counts_of tables) k 0) m ∙ count_at tables is.index in
          record {
            member = omega (arith, m, below, long);
            number = omega (arith, n);
            within = omega (arith, n, within, count);
          }

      put_held : AllZip (AllZip (IsHeldAs dumps)) all (put_one tables piece)
      put_held = subst (λ (s : PieceTables). AllZip (AllZip (IsHeldAs dumps)) all s)
          (sym (put_is tables piece is.index is.place member number))
          (zip_set (AllZip (IsHeldAs dumps)) all tables is.index is.works
          (set (get_or tables is.index []) is.place (Some piece)) held is.at
          (zip_set (IsHeldAs dumps) is.works (get_or tables is.index []) is.place work (Some piece)
          (zip_at (AllZip (IsHeldAs dumps)) all tables is.index is.works [] held is.at) is.is_there of))

      -- the place has it
      put_there : IsThere (put_one tables piece) work
      put_there =
          let m : work.member ≡ is.index = is.member_is ∙ (let e : 0 + is.index ≡ is.index = omega arith in e) in
          let was = is.number_is in
          let n : work.number - 1 ≡ is.place = omega (arith, was) in
          let new : PieceTables = set tables is.index (set (get_or tables is.index []) is.place (Some piece)) in
          record {
            piece = piece;
            is = ap (λ (s : PieceTables). get_or (get_or s work.member []) (work.number - 1) None)
                (put_is tables piece is.index is.place member number)
                ∙ ap (λ (k : ℕ). get_or (get_or new k []) (work.number - 1) None) m
                ∙ ap (λ (k : ℕ). get_or (get_or new is.index []) k None) n
                ∙ ap (λ (table : List (Option DecodedPiece)). get_or table is.place None)
                (set_at tables is.index (set (get_or tables is.index []) is.place (Some piece)) [] index_below)
                ∙ set_at (get_or tables is.index []) is.place (Some piece) None place_below;
          }

      -- places that have a piece keep one
      put_keeps : (other : Work) → IsThere tables other → IsThere (put_one tables piece) other
      put_keeps other there =
          let table : List (Option DecodedPiece) = get_or tables is.index [] in
          let put : List (Option DecodedPiece) = set table is.place (Some piece) in
          let new : PieceTables = set tables is.index put in
          let same_tables = put_is tables piece is.index is.place member number in
          let here : get_or new is.index [] ≡ put = set_at tables is.index put [] index_below in
          subst (λ (s : PieceTables). IsThere s other) (sym same_tables) (dite (ℕ_discrete other.member is.index)
          (λ (m : other.member ≡ is.index).
          let is_put : get_or new other.member [] ≡ put = ap (λ (k : ℕ). get_or new k []) m ∙ here in
          dite (ℕ_discrete (other.number - 1) is.place)
          (λ (n : other.number - 1 ≡ is.place). record {
            piece = piece;
            is = ap (λ (s : List (Option DecodedPiece)). get_or s (other.number - 1) None) is_put
                ∙ ap (λ (k : ℕ). get_or put k None) n ∙ set_at table is.place (Some piece) None place_below;
          })
          (λ (n : ¬ (other.number - 1 ≡ is.place)). record {
            piece = there.piece;
            is = ap (λ (s : List (Option DecodedPiece)). get_or s (other.number - 1) None) is_put
                ∙ set_by table is.place (other.number - 1) (Some piece) None n
                ∙ ap (λ (k : ℕ). get_or (get_or tables k []) (other.number - 1) None) (sym m) ∙ there.is;
          }))
          (λ (m : ¬ (other.member ≡ is.index)). record {
            piece = there.piece;
            is = ap (λ (s : List (Option DecodedPiece)). get_or s (other.number - 1) None)
                (set_by tables is.index other.member put [] m) ∙ there.is;
          }))

  -- all pieces, of works of the members
  pub all_fit : (works : List Work) (pieces : List DecodedPiece) (tables : PieceTables)
      → AllByRecursion (IsPlaced all 0 shape) works
      → AllZip (IsPieceOf dumps) works pieces
      → AllZip (AllZip (IsHeldAs dumps)) all tables → AllByRecursion (HasPlaceIn (counts_of tables)) pieces
  all_fit [] [] tables placed of held = tt
  all_fit [] (piece ∷ pieces) tables placed of held = absurd of
  all_fit (work ∷ works) [] tables placed of held = absurd of
  all_fit (work ∷ works) (piece ∷ pieces) tables placed of held =
      (fits work placed.0 piece of.0 tables held, all_fit works pieces tables placed.1 of.1 held)

  pub all_held : (works : List Work) (pieces : List DecodedPiece) (tables : PieceTables)
      → AllByRecursion (IsPlaced all 0 shape) works
      → AllZip (IsPieceOf dumps) works pieces
      → AllZip (AllZip (IsHeldAs dumps)) all tables → AllZip (AllZip (IsHeldAs dumps)) all (put_each tables pieces)
  all_held [] [] tables placed of held = held
  all_held [] (piece ∷ pieces) tables placed of held = absurd of
  all_held (work ∷ works) [] tables placed of held = absurd of
  all_held (work ∷ works) (piece ∷ pieces) tables placed of held =
      all_held works pieces (put_one tables piece) placed.1 of.1 (put_held work placed.0 piece of.0 tables held)

  all_keep : (works : List Work) (pieces : List DecodedPiece) (tables : PieceTables)
      → AllByRecursion (IsPlaced all 0 shape) works
      → AllZip (IsPieceOf dumps) works pieces
      → AllZip (AllZip (IsHeldAs dumps)) all tables → (other : Work) → IsThere tables other
      → IsThere (put_each tables pieces) other
  all_keep [] [] tables placed of held other there = there
  all_keep [] (piece ∷ pieces) tables placed of held other there = absurd of
  all_keep (work ∷ works) [] tables placed of held other there = absurd of
  all_keep (work ∷ works) (piece ∷ pieces) tables placed of held other there =
      all_keep works pieces (put_one tables piece) placed.1 of.1 (put_held work placed.0 piece of.0 tables held) other
      (put_keeps work placed.0 piece of.0 tables held other there)

  pub all_there : (works : List Work) (pieces : List DecodedPiece) (tables : PieceTables)
      → AllByRecursion (IsPlaced all 0 shape) works
      → AllZip (IsPieceOf dumps) works pieces
      → AllZip (AllZip (IsHeldAs dumps)) all tables → AllByRecursion (IsThere (put_each tables pieces)) works
  all_there [] [] tables placed of held = tt
  all_there [] (piece ∷ pieces) tables placed of held = absurd of
  all_there (work ∷ works) [] tables placed of held = absurd of
  all_there (work ∷ works) (piece ∷ pieces) tables placed of held =
      let now = put_held work placed.0 piece of.0 tables held in (
        all_keep works pieces (put_one tables piece) placed.1 of.1 now work (put_there work placed.0 piece of.0 tables held),
        all_there works pieces (put_one tables piece) placed.1 of.1 now,
      )
