-- Lists that loops of this crate make one item at a time.
use Rattle.std.proofs.Common.{◌≡◌, ℕ, zero, suc, ◌+◌, ◌-◌, List, [], ◌∷◌, ◌++◌, length, length-set, get_or, set, Option, Some}
use Rattle.std.proofs.Common.{append_assoc, append-nil, length-append, refl, sym, ap, ◌∙◌, subst}
use Rattle.std.specs.Prelude.{flat_map}
use Rattle.std.specs.List.{AllByRecursion}
use Rattle.block_pool.specs.inside.PieceTables.{HasPlaceIn, counts_of, packets_at, put_each, put_one, texts_at}
use Rattle.block_pool.specs.Takers.{HandingValue, first_takers, handing_value}
use Rattle.block_pool.specs.declared.pieces.DecodedPiece.{DecodedPiece}
use Rattle.frame_view.specs.declared.frames.Packet.{Packet}
use Rattle.tp_layout.specs.declared.requests.RingRequest.{RingRequest}
use Rattle.work_queue.specs.Passes.{PassValue}

-- one more taker
pub next_taker : (shape : RingRequest) (made now all : List HandingValue) (rest after : List PassValue)
    (pass : PassValue) (member : ℕ)
    → rest ≡ pass ∷ after → member ≡ length made → now ≡ made ++ handing_value member shape pass ∷ []
    → made ++ first_takers shape (length made) rest ≡ all → now ++ first_takers shape (length now) after ≡ all
next_taker shape made now all rest after pass member next is now_is h =
    let long : length now ≡ length made + 1 = ap length now_is ∙ length-append made (handing_value member shape pass ∷ []) in
    ap (λ (ts : List HandingValue). ts ++ first_takers shape (length now) after) now_is
    ∙ append_assoc made (handing_value member shape pass ∷ []) (first_takers shape (length now) after)
    ∙ ap (λ (n : ℕ). made ++ handing_value member shape pass ∷ first_takers shape n after) long
    ∙ ap (λ (n : ℕ). made ++ handing_value n shape pass ∷ first_takers shape (length made + 1) after) is
    ∙ ap (λ (ps : List PassValue). made ++ first_takers shape (length made) ps) (sym next)
    ∙ h

pub last_taker : (shape : RingRequest) (made all : List HandingValue) (rest : List PassValue) → rest ≡ []
    → made ++ first_takers shape (length made) rest ≡ all → made ≡ all
last_taker shape made all rest none h =
    sym (append-nil made) ∙ ap (λ (ps : List PassValue). made ++ first_takers shape (length made) ps) (sym none) ∙ h

-- items of lists, one list after another
pub next_flat : {A B : Type 0} (f : A → List B) (done now all : List B) (rest after : List A) (x : A) → rest ≡ x ∷ after
    → now ≡ done ++ f x
    → done ++ flat_map f rest ≡ all → now ++ flat_map f after ≡ all
next_flat {A = A} {B = B} f done now all rest after x next now_is h =
    ap (λ (ys : List B). ys ++ flat_map f after) now_is ∙ append_assoc done (f x) (flat_map f after)
    ∙ ap (λ (xs : List A). done ++ flat_map f xs) (sym next) ∙ h

pub last_flat : {A B : Type 0} (f : A → List B) (done all : List B) (rest : List A) → rest ≡ []
    → done ++ flat_map f rest ≡ all → done ≡ all
last_flat {A = A} f done all rest none h = sym (append-nil done) ∙ ap (λ (xs : List A). done ++ flat_map f xs) (sym none) ∙ h

-- what holds of the rest holds of all
pub all_of_rest : {A : Type 0} (P : A → Type 0) (rest after : List A) (x : A) → rest ≡ x ∷ after → P x → AllByRecursion P after
    → AllByRecursion P rest
all_of_rest {A = A} P rest after x next here all = subst (λ (xs : List A). AllByRecursion P xs) (sym next) (here, all)

pub none_left : {A : Type 0} (P : A → Type 0) (rest : List A) → rest ≡ [] → AllByRecursion P rest
none_left {A = A} P rest none = subst (λ (xs : List A). AllByRecursion P xs) (sym none) tt

-- ---- the packets and the texts of a table

pub next_packets : (done now all : List Packet) (rest after : List (Option DecodedPiece)) (place : Option DecodedPiece)
    (piece : DecodedPiece)
    → rest ≡ place ∷ after → place ≡ Some piece
    → now ≡ done ++ piece.packets → done ++ packets_at rest ≡ all → now ++ packets_at after ≡ all
next_packets done now all rest after place piece next is now_is h =
    ap (λ (ps : List Packet). ps ++ packets_at after) now_is ∙ append_assoc done piece.packets (packets_at after)
    ∙ ap (λ (p : Option DecodedPiece). done ++ packets_at (p ∷ after)) (sym is)
    ∙ ap (λ (ps : List (Option DecodedPiece)). done ++ packets_at ps) (sym next) ∙ h

pub next_texts : (done now all : List ℕ) (rest after : List (Option DecodedPiece)) (place : Option DecodedPiece)
    (piece : DecodedPiece)
    → rest ≡ place ∷ after → place ≡ Some piece
    → now ≡ done ++ piece.text → done ++ texts_at rest ≡ all → now ++ texts_at after ≡ all
next_texts done now all rest after place piece next is now_is h =
    ap (λ (ts : List ℕ). ts ++ texts_at after) now_is ∙ append_assoc done piece.text (texts_at after)
    ∙ ap (λ (p : Option DecodedPiece). done ++ texts_at (p ∷ after)) (sym is)
    ∙ ap (λ (ps : List (Option DecodedPiece)). done ++ texts_at ps) (sym next) ∙ h

pub last_packets : (done all : List Packet) (rest : List (Option DecodedPiece)) → rest ≡ []
    → done ++ packets_at rest ≡ all → done ≡ all
last_packets done all rest none h =
    sym (append-nil done) ∙ ap (λ (ps : List (Option DecodedPiece)). done ++ packets_at ps) (sym none) ∙ h

pub last_texts : (done all : List ℕ) (rest : List (Option DecodedPiece)) → rest ≡ [] → done ++ texts_at rest ≡ all → done ≡ all
last_texts done all rest none h = sym (append-nil done) ∙ ap (λ (ps : List (Option DecodedPiece)). done ++ texts_at ps)
    (sym none) ∙ h

-- ---- pieces that are put

set_count : (tables : List (List (Option DecodedPiece))) (index : ℕ) (table : List (Option DecodedPiece))
    → length table ≡ length (get_or tables index [])
    → counts_of (set tables index table) ≡ counts_of tables
set_count [] index table same = refl
set_count (s ∷ tables) zero table same = ap (λ (n : ℕ). n ∷ counts_of tables) same
set_count (s ∷ tables) (suc index) table same = ap (λ (ns : List ℕ). length s ∷ ns) (set_count tables index table same)

-- no table gets longer or shorter
pub put_counts : (tables : List (List (Option DecodedPiece))) (piece : DecodedPiece)
    → counts_of (put_one tables piece) ≡ counts_of tables
put_counts tables piece =
    set_count tables piece.member _ (length-set (get_or tables piece.member []) (piece.number - 1) (Some piece))

pub next_put : (tables now : List (List (Option DecodedPiece))) (rest after : List DecodedPiece) (piece : DecodedPiece)
    (all : List (List (Option DecodedPiece))) → rest ≡ piece ∷ after
    → now ≡ put_one tables piece → put_each tables rest ≡ all → put_each now after ≡ all
next_put tables now rest after piece all next now_is h =
    ap (λ (s : List (List (Option DecodedPiece))). put_each s after) now_is
    ∙ ap (λ (ps : List DecodedPiece). put_each tables ps) (sym next) ∙ h

pub next_places : (tables now : List (List (Option DecodedPiece))) (piece : DecodedPiece) (after : List DecodedPiece)
    → now ≡ put_one tables piece
    → AllByRecursion (HasPlaceIn (counts_of tables)) after → AllByRecursion (HasPlaceIn (counts_of now)) after
next_places tables now piece after now_is all =
    subst (λ (counts : List ℕ). AllByRecursion (HasPlaceIn counts) after)
    (sym (ap counts_of now_is ∙ put_counts tables piece)) all
