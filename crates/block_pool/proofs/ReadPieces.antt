-- What is read out of tables in which each place has the piece of its work.
use Rattle.std.proofs.Common.{◌≡◌, ℕ, suc, ◌+◌, Bool, true, false, List, [], ◌∷◌, ◌++◌, length, get_or, Option, None, Some}
use Rattle.std.proofs.Common.{refl, sym, ap, ap₂, ◌∙◌, subst}
use Rattle.std.specs.List.{AllZip}
use Rattle.std.proofs.lemmas.List.{length-map}
use mathlib.Core.Option.{some}
use lib.ListN.{get_elem?}
use Rattle.block_pool.specs.Pieces.{IsPieceOf, work_taken}
use Rattle.block_pool.specs.inside.PieceTables.{AreFull, IsFull, packets_at, texts_at}
use Rattle.block_pool.specs.Takers.{AreNumbered, works_taken}
use Rattle.block_pool.specs.declared.pieces.DecodedPiece.{DecodedPiece}
use Rattle.block_pool.proofs.PlacedPieces.{IsHeldAs}
use Rattle.block_pool.proofs.Zips.{zip_long}
use Rattle.frame_view.specs.declared.frames.Packet.{Packet}
use Rattle.reader_walk.specs.Readers.{dump_by, texts_by, texts_of, walked_of}
use Rattle.tp_layout.specs.Layouts.{text_of_taken}
use Rattle.tp_layout.specs.declared.requests.RingRequest.{RingRequest}
use Rattle.work_queue.specs.declared.works.Work.{Work}

-- a place has the piece of its work
pub record IsFilled (dumps : Bool) (work : Work) (slot : Option DecodedPiece) : Type 0 where
  pub piece : DecodedPiece
  pub is : slot ≡ Some piece
  pub of : IsPieceOf dumps work piece

-- some place of the list has a piece
abbrev pub HasAt : List (Option DecodedPiece) → ℕ → Type 0
HasAt table place = (piece : DecodedPiece) × (get_or table place None ≡ Some piece)

filled_one : (dumps : Bool) (work : Work) (slot : Option DecodedPiece) (piece : DecodedPiece) → IsHeldAs dumps work slot
    → slot ≡ Some piece
    → IsFilled dumps work slot
filled_one dumps work slot piece held is = record { piece = piece; is = is; of = subst (IsHeldAs dumps work) is held }

filled_row : (dumps : Bool) (works : List Work) (table : List (Option DecodedPiece)) → AllZip (IsHeldAs dumps) works table
    → ((place : ℕ) (work : Work) → get_elem? works place ≡ some work → HasAt table place) → AllZip (IsFilled dumps) works table
filled_row dumps [] [] held each = tt
filled_row dumps [] (slot ∷ table) held each = absurd held
filled_row dumps (work ∷ works) [] held each = absurd held
filled_row dumps (work ∷ works) (slot ∷ table) held each =
    let here = each 0 work refl in
    (filled_one dumps work slot here.0 held.0 here.1, filled_row dumps works table held.1 (λ place w at. each (suc place) w at))

-- if each place of a work has a piece, it has that work's
pub filled_all : (dumps : Bool) (all : List (List Work)) (tables : List (List (Option DecodedPiece)))
    → AllZip (AllZip (IsHeldAs dumps)) all tables
    → ((index : ℕ) (works : List Work) (place : ℕ) (work : Work) → get_elem? all index ≡ some works
    → get_elem? works place ≡ some work
    → HasAt (get_or tables index []) place) → AllZip (AllZip (IsFilled dumps)) all tables
filled_all dumps [] [] held each = tt
filled_all dumps [] (table ∷ tables) held each = absurd held
filled_all dumps (works ∷ all) [] held each = absurd held
filled_all dumps (works ∷ all) (table ∷ tables) held each = (
  filled_row dumps works table held.0 (λ place work is_there. each 0 works place work refl is_there),
  filled_all dumps all tables held.1 (λ index ws place work at is_there. each (suc index) ws place work at is_there),
)

full_one : (slot : Option DecodedPiece) (piece : DecodedPiece) → slot ≡ Some piece → IsFull (slot ∷ [])
full_one slot piece is = subst (λ (s : Option DecodedPiece). IsFull (s ∷ [])) (sym is) (refl, tt)

full_row : (dumps : Bool) (works : List Work) (table : List (Option DecodedPiece)) → AllZip (IsFilled dumps) works table
    → IsFull table
full_row dumps [] [] filled = tt
full_row dumps [] (slot ∷ table) filled = absurd filled
full_row dumps (work ∷ works) [] filled = absurd filled
full_row dumps (work ∷ works) (slot ∷ table) filled =
    ((full_one slot filled.0.piece filled.0.is).0, full_row dumps works table filled.1)

pub full_all : (dumps : Bool) (all : List (List Work)) (tables : List (List (Option DecodedPiece)))
    → AllZip (AllZip (IsFilled dumps)) all tables → AreFull tables
full_all dumps [] [] filled = tt
full_all dumps [] (table ∷ tables) filled = absurd filled
full_all dumps (works ∷ all) [] filled = absurd filled
full_all dumps (works ∷ all) (table ∷ tables) filled = (full_row dumps works table filled.0, full_all dumps all tables filled.1)

-- ---- what is read of one member

packets_first : (slot : Option DecodedPiece) (table : List (Option DecodedPiece)) (piece : DecodedPiece) → slot ≡ Some piece
    → packets_at (slot ∷ table) ≡ piece.packets ++ packets_at table
packets_first slot table piece is = ap (λ (s : Option DecodedPiece). packets_at (s ∷ table)) is

texts_first : (slot : Option DecodedPiece) (table : List (Option DecodedPiece)) (piece : DecodedPiece) → slot ≡ Some piece
    → texts_at (slot ∷ table) ≡ piece.text ++ texts_at table
texts_first slot table piece is = ap (λ (s : Option DecodedPiece). texts_at (s ∷ table)) is

pub walked_row : (dumps : Bool) (works : List Work) (table : List (Option DecodedPiece)) → AllZip (IsFilled dumps) works table
    → packets_at table ≡ walked_of (works_taken works)
unfolding walked_of
walked_row dumps [] [] filled = refl
walked_row dumps [] (slot ∷ table) filled = absurd filled
walked_row dumps (work ∷ works) [] filled = absurd filled
walked_row dumps (work ∷ works) (slot ∷ table) filled =
    packets_first slot table filled.0.piece filled.0.is
    ∙ ap₂ (λ (a b : List Packet). a ++ b) filled.0.of.packets_are (walked_row dumps works table filled.1)

none_dumped : (works : List Work) (table : List (Option DecodedPiece)) → AllZip (IsFilled false) works table
    → texts_at table ≡ []
none_dumped [] [] filled = refl
none_dumped [] (slot ∷ table) filled = absurd filled
none_dumped (work ∷ works) [] filled = absurd filled
none_dumped (work ∷ works) (slot ∷ table) filled =
    texts_first slot table filled.0.piece filled.0.is
    ∙ ap₂ (λ (a b : List ℕ). a ++ b) filled.0.of.text_is (none_dumped works table filled.1)

all_dumped : (member : ℕ) (shape : RingRequest) (first : ℕ) (works : List Work) (table : List (Option DecodedPiece))
    → AreNumbered member shape first works
    → AllZip (IsFilled true) works table → texts_at table ≡ texts_of shape (works_taken works)
unfolding texts_by
all_dumped member shape first [] [] numbered filled = refl
all_dumped member shape first [] (slot ∷ table) numbered filled = absurd filled
all_dumped member shape first (work ∷ works) [] numbered filled = absurd filled
all_dumped member shape first (work ∷ works) (slot ∷ table) numbered filled =
    texts_first slot table filled.0.piece filled.0.is
    ∙ ap₂ (λ (a b : List ℕ). a ++ b)
    (filled.0.of.text_is ∙ ap (λ (s : RingRequest). text_of_taken s (work_taken work)) numbered.0.shape_is)
    (all_dumped member shape (first + 1) works table numbered.1 filled.1)

pub dumped_row : (dumps : Bool) (member : ℕ) (shape : RingRequest) (works : List Work) (table : List (Option DecodedPiece))
    → AreNumbered member shape 1 works
    → AllZip (IsFilled dumps) works table → texts_at table ≡ dump_by dumps shape (works_taken works)
dumped_row true member shape works table numbered filled = all_dumped member shape 1 works table numbered filled
dumped_row false member shape works table numbered filled = none_dumped works table filled

pub blocks_row : (dumps : Bool) (works : List Work) (table : List (Option DecodedPiece)) → AllZip (IsFilled dumps) works table
    → length table ≡ length (works_taken works)
blocks_row dumps works table filled = sym (zip_long (IsFilled dumps) works table filled) ∙ sym (length-map works work_taken)
