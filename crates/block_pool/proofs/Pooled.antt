-- The takers and the workers of a run after the joins, and what is put together of their works.
use Rattle.std.proofs.Common.{◌≡◌, ℕ, ◌+◌, ◌-◌, ◌⊎◌, inl, inr, Bool, false, List, [], ◌∷◌, ◌++◌, length, get_or, Option, None}
use Rattle.std.proofs.Common.{refl, ap, ◌∙◌, subst, ⊎_elim, arith}
use Rattle.std.specs.Prelude.{map, flat_map}
use Rattle.std.specs.List.{AllByRecursion, AllZip}
use mathlib.Core.Option.{some}
use lib.ListN.{get_elem?}
use Rattle.block_pool.specs.Pieces.{IsPieceOf}
use Rattle.block_pool.specs.inside.PieceTables.{AreFull, HasPlaceIn, counts_of, empty_table, put_each, read_of}
use Rattle.block_pool.specs.Takers.{AreNumbered, HandingValue, HasNumbered, first_takers, handing_base, handing_taken}
use Rattle.block_pool.specs.Takers.{handing_value}
use Rattle.block_pool.specs.Workers.{HasDecoded}
use Rattle.block_pool.specs.declared.pieces.DecodedPiece.{DecodedPiece}
use Rattle.block_pool.specs.declared.workers.PoolWorker.{PoolWorker}
use Rattle.block_pool.proofs.Members.{AreMembers, IsPlaced, fetched_else, handed_of, numbered_at, passes_of, placed, was_handed}
use Rattle.block_pool.proofs.PlacedPieces.{IsThere, all_empty, all_fit, all_held, all_there}
use Rattle.block_pool.proofs.ReadPieces.{HasAt, IsFilled, blocks_row, dumped_row, filled_all, full_all, walked_row}
use Rattle.block_pool.proofs.Zips.{zip_append}
use Rattle.cpu_feeders.specs.Reports.{AreOutputsOf}
use Rattle.cpu_feeders.specs.Runs.{AreTakersOf}
use Rattle.reader_walk.specs.Readers.{dump_by, walked_of}
use Rattle.reader_walk.specs.Takers.{Base}
use Rattle.tp_layout.specs.Layouts.{Taken}
use Rattle.ring_model.specs.declared.notes.Note.{Note}
use Rattle.tp_layout.specs.declared.requests.RingRequest.{RingRequest}
use Rattle.work_queue.proofs.Counts.{found_of_handed, handed_of_found}
use Rattle.work_queue.specs.Passes.{IsAmong, IsFound, IsHistory, IsPassOf, PassValue, QueueValue, WasFetched}
use Rattle.work_queue.specs.declared.works.Work.{Work}

-- ---- the takers

abbrev further : Base → List ℕ
further b = b.further

-- a taker whose base is that of a first one
same_member : (taker : HandingValue) (member : ℕ) (shape : RingRequest) (pass : PassValue)
    → handing_base taker ≡ handing_base (handing_value member shape pass)
    → taker.member ≡ member
same_member taker member shape pass same = let e = ap further same in cc

same_of : (taker : HandingValue) (member : ℕ) (shape : RingRequest) (pass : PassValue)
    → handing_base taker ≡ handing_base (handing_value member shape pass)
    → taker.pass.of ≡ pass.of
same_of taker member shape pass same = let e = ap further same in cc

same_queue : (taker : HandingValue) (member : ℕ) (shape : RingRequest) (pass : PassValue)
    → handing_base taker ≡ handing_base (handing_value member shape pass)
    → taker.pass.queue ≡ pass.queue
same_queue taker member shape pass same =
    let e = ap further same in
    let a : taker.pass.queue.0 ≡ pass.queue.0 = cc in
    let b : taker.pass.queue.1 ≡ pass.queue.1 = cc in
    λ i. (a i, b i)

module _ (shape : RingRequest) where
  pub members_are : (member : ℕ) (notes : List (List Note)) (passes : List PassValue) (takers : List HandingValue)
      → AreTakersOf handing_base handing_taken shape notes (first_takers shape member passes) takers
      → AllByRecursion HasNumbered takers → AreMembers member shape takers
  members_are member [] [] [] are numbered = tt
  members_are member [] [] (taker ∷ takers) are numbered = absurd are
  members_are member [] (pass ∷ passes) takers are numbered = absurd are
  members_are member (n ∷ notes) [] takers are numbered = absurd are
  members_are member (n ∷ notes) (pass ∷ passes) [] are numbered = absurd are
  members_are member (n ∷ notes) (pass ∷ passes) (taker ∷ takers) are numbered =
      let base = are.0.base_is in
      let m = same_member taker member shape pass base in
      let s : taker.shape ≡ shape = ap (λ (b : Base). b.shape) base in
      let is = numbered.0 in (
        (
          subst (λ (k : ℕ). AreNumbered k shape 1 taker.pass.handed) m
              (subst (λ (r : RingRequest). AreNumbered taker.member r 1 taker.pass.handed) s is.numbered),
          is.none_fetched,
        ),
        members_are (member + 1) notes passes takers are.1 numbered.1,
      )

  pub takers_own : (queue : QueueValue) (member : ℕ) (notes : List (List Note)) (passes : List PassValue)
      (takers : List HandingValue)
      → AreTakersOf handing_base handing_taken shape notes (first_takers shape member passes) takers
      → AllByRecursion (IsPassOf queue) passes
      → AllByRecursion (IsPassOf queue) (passes_of takers)
  takers_own queue member [] [] [] are own = tt
  takers_own queue member [] [] (taker ∷ takers) are own = absurd are
  takers_own queue member [] (pass ∷ passes) takers are own = absurd are
  takers_own queue member (n ∷ notes) [] takers are own = absurd are
  takers_own queue member (n ∷ notes) (pass ∷ passes) [] are own = absurd are
  takers_own queue member (n ∷ notes) (pass ∷ passes) (taker ∷ takers) are own =
      let base = are.0.base_is in (
        (same_queue taker member shape pass base ∙ own.0.0, same_of taker member shape pass base ∙ own.0.1),
        takers_own queue (member + 1) notes passes takers are.1 own.1,
      )

  pub takers_many : (member : ℕ) (notes : List (List Note)) (passes : List PassValue) (takers : List HandingValue)
      → AreTakersOf handing_base handing_taken shape notes (first_takers shape member passes) takers
      → length (passes_of takers) ≡ length passes
  takers_many member [] [] [] are = refl
  takers_many member [] [] (taker ∷ takers) are = absurd are
  takers_many member [] (pass ∷ passes) takers are = absurd are
  takers_many member (n ∷ notes) [] takers are = absurd are
  takers_many member (n ∷ notes) (pass ∷ passes) [] are = absurd are
  takers_many member (n ∷ notes) (pass ∷ passes) (taker ∷ takers) are =
      let rest = takers_many (member + 1) notes passes takers are.1 in omega (arith, rest)

  -- what is read from the members' tables is what their notes retired
  pub outputs_are : (dumps : Bool) (member : ℕ) (notes : List (List Note)) (first takers : List HandingValue)
      (tables : List (List (Option DecodedPiece)))
      → AreTakersOf handing_base handing_taken shape notes first takers → AreMembers member shape takers
      → AllZip (AllZip (IsFilled dumps)) (handed_of takers) tables
      → AllZip (AreOutputsOf shape dumps) notes (map read_of tables)
  outputs_are dumps member [] [] [] [] are members filled = tt
  outputs_are dumps member [] [] [] (table ∷ tables) are members filled = absurd filled
  outputs_are dumps member [] [] (taker ∷ takers) tables are members filled = absurd are
  outputs_are dumps member [] (f ∷ first) takers tables are members filled = absurd are
  outputs_are dumps member (n ∷ notes) [] takers tables are members filled = absurd are
  outputs_are dumps member (n ∷ notes) (f ∷ first) [] tables are members filled = absurd are
  outputs_are dumps member (n ∷ notes) (f ∷ first) (taker ∷ takers) [] are members filled = absurd filled
  outputs_are dumps member (n ∷ notes) (f ∷ first) (taker ∷ takers) (table ∷ tables) are members filled =
      let works = taker.pass.handed in
      let taken = are.0.taken_is in (
        record {
          walked = walked_row dumps works table filled.0 ∙ ap walked_of taken;
          dump_is = dumped_row dumps member shape works table members.0.0 filled.0 ∙ ap (dump_by dumps shape) taken;
          blocks = blocks_row dumps works table filled.0 ∙ ap (λ (t : List Taken). length t) taken;
        },
        outputs_are dumps (member + 1) notes first takers tables are.1 members.1 filled.1,
      )

-- ---- the workers

abbrev pub worker_passes : List PoolWorker → List PassValue
worker_passes pool_workers = map (λ (pool_worker : PoolWorker). pool_worker.pass) pool_workers

abbrev pub all_fetched : List PoolWorker → List Work
all_fetched pool_workers = flat_map (λ (pool_worker : PoolWorker). pool_worker.pass.fetched) pool_workers

abbrev pub all_pieces : List PoolWorker → List DecodedPiece
all_pieces pool_workers = flat_map (λ (pool_worker : PoolWorker). pool_worker.pieces.items) pool_workers

module _ (dumps : Bool) (queue : QueueValue) where
  pub workers_own : (before after : List PoolWorker) → AllZip (HasDecoded dumps queue) before after
      → AllByRecursion (IsPassOf queue) (worker_passes after)
  workers_own [] [] are = tt
  workers_own [] (d ∷ after) are = absurd are
  workers_own (b ∷ before) [] are = absurd are
  workers_own (b ∷ before) (d ∷ after) are = (are.0.own, workers_own before after are.1)

  pub none_handed : (before after : List PoolWorker) → AllZip (HasDecoded dumps queue) before after
      → AllByRecursion (λ (pass : PassValue). pass.handed ≡ []) (worker_passes after)
  none_handed [] [] are = tt
  none_handed [] (d ∷ after) are = absurd are
  none_handed (b ∷ before) [] are = absurd are
  none_handed (b ∷ before) (d ∷ after) are = (are.0.none_handed, none_handed before after are.1)

  pub pieces_of_all : (before after : List PoolWorker) → AllZip (HasDecoded dumps queue) before after
      → AllByRecursion (λ (d : PoolWorker). d.full ≡ false) after
      → AllZip (IsPieceOf dumps) (all_fetched after) (all_pieces after)
  pieces_of_all [] [] are full = tt
  pieces_of_all [] (d ∷ after) are full = absurd are
  pieces_of_all (b ∷ before) [] are full = absurd are
  pieces_of_all (b ∷ before) (d ∷ after) are full =
      zip_append (IsPieceOf dumps) d.pass.fetched (all_fetched after) d.pieces.items (all_pieces after) (are.0.decoded full.0)
      (pieces_of_all before after are.1 full.1)

-- ---- works among others

all_among : (P : Work → Type 0) (works : List Work) → ((work : Work) → IsAmong work works → P work) → AllByRecursion P works
all_among P [] each = tt
all_among P (work ∷ works) each = (each work (inl refl), all_among P works (λ w among. each w (inr among)))

one_among : (P : Work → Type 0) (works : List Work) (work : Work) → AllByRecursion P works → IsAmong work works → P work
one_among P [] work all among = absurd among
one_among P (w ∷ works) work all among = ⊎_elim (λ same. subst P same all.0) (λ rest. one_among P works work all.1 rest) among

among_left : (work : Work) (xs ys : List Work) → IsAmong work xs → IsAmong work (xs ++ ys)
among_left work [] ys among = absurd among
among_left work (x ∷ xs) ys among = ⊎_elim (λ same. inl same) (λ rest. inr (among_left work xs ys rest)) among

among_right : (work : Work) (xs ys : List Work) → IsAmong work ys → IsAmong work (xs ++ ys)
among_right work [] ys among = among
among_right work (x ∷ xs) ys among = inr (among_right work xs ys among)

among_both : (work : Work) (xs ys : List Work) → IsAmong work (xs ++ ys) → IsAmong work xs ⊎ IsAmong work ys
among_both work [] ys among = inr among
among_both work (x ∷ xs) ys among = ⊎_elim
    (λ same. inl (inl same))
    (λ rest. ⊎_elim (λ h. inl (inr h)) (λ h. inr h) (among_both work xs ys rest))
    among

fetched_of_among : (pool_workers : List PoolWorker) (work : Work) → IsAmong work (all_fetched pool_workers)
    → WasFetched work (worker_passes pool_workers)
fetched_of_among [] work among = absurd among
fetched_of_among (d ∷ pool_workers) work among = ⊎_elim
    (λ here. inl here)
    (λ rest. inr (fetched_of_among pool_workers work rest))
    (among_both work d.pass.fetched (all_fetched pool_workers) among)

among_of_fetched : (pool_workers : List PoolWorker) (work : Work) → WasFetched work (worker_passes pool_workers)
    → IsAmong work (all_fetched pool_workers)
among_of_fetched [] work was = absurd was
among_of_fetched (d ∷ pool_workers) work was = ⊎_elim
    (λ here. among_left work d.pass.fetched (all_fetched pool_workers) here)
    (λ rest. among_right work d.pass.fetched (all_fetched pool_workers) (among_of_fetched pool_workers work rest))
    was

fetched_with : (work : Work) (passes others : List PassValue) → WasFetched work others → WasFetched work (passes ++ others)
fetched_with work [] others was = was
fetched_with work (pass ∷ passes) others was = inr (fetched_with work passes others was)

-- ---- what is put together

-- the empty tables of these works
abbrev pub empty_for : List (List Work) → List (List (Option DecodedPiece))
empty_for all = map (λ (ws : List Work). empty_table (length ws)) all

module _ (shape : RingRequest) (dumps : Bool) (queue : QueueValue) (takers : List HandingValue) (before after : List PoolWorker)
    (left : List Work)
    (members : AreMembers 0 shape takers) (decoded : AllZip (HasDecoded dumps queue) before after)
    (full : AllByRecursion (λ (d : PoolWorker). d.full ≡ false) after)
    (h : IsHistory (passes_of takers ++ worker_passes after) left) (more : List DecodedPiece)
    (decoded_left : AllZip (IsPieceOf dumps) left more) where
  of_works : AllZip (IsPieceOf dumps) (all_fetched after ++ left) (all_pieces after ++ more)
  of_works = zip_append (IsPieceOf dumps) (all_fetched after) left (all_pieces after) more
      (pieces_of_all dumps queue before after decoded full) decoded_left

  all_placed : AllByRecursion (IsPlaced (handed_of takers) 0 shape) (all_fetched after ++ left)
  all_placed = all_among (IsPlaced (handed_of takers) 0 shape) (all_fetched after ++ left) (λ work among.
      let found : IsFound work (passes_of takers ++ worker_passes after) left = ⊎_elim
      (λ here. inl (fetched_with work (passes_of takers) (worker_passes after) (fetched_of_among after work here)))
      (λ there. inr there)
      (among_both work (all_fetched after) left among) in
      placed 0 shape takers (worker_passes after) work members (none_handed dumps queue before after decoded)
      (handed_of_found (passes_of takers ++ worker_passes after) left h work found))

  -- each piece has a place
  pub pieces_fit : AllByRecursion (HasPlaceIn (counts_of (empty_for (handed_of takers)))) (all_pieces after ++ more)
  pieces_fit = all_fit dumps (handed_of takers) shape (all_fetched after ++ left) (all_pieces after ++ more)
      (empty_for (handed_of takers)) all_placed of_works (all_empty dumps (handed_of takers))

  has_at : (index : ℕ) (ws : List Work) (place : ℕ) (work : Work) → get_elem? (handed_of takers) index ≡ some ws
      → get_elem? ws place ≡ some work
      → HasAt (get_or (put_each (empty_for (handed_of takers)) (all_pieces after ++ more)) index []) place
  has_at index ws place work at is_there =
      let found = found_of_handed (passes_of takers ++ worker_passes after) left h work
      (was_handed takers (worker_passes after) index place ws work at is_there) in
      let among : IsAmong work (all_fetched after ++ left) = ⊎_elim
      (λ was. among_left work (all_fetched after) left
      (among_of_fetched after work (fetched_else 0 shape takers (worker_passes after) work members was)))
      (λ there. among_right work (all_fetched after) left there)
      found in
      let there = one_among (IsThere (put_each (empty_for (handed_of takers)) (all_pieces after ++ more)))
      (all_fetched after ++ left) work
      (all_there dumps (handed_of takers) shape (all_fetched after ++ left) (all_pieces after ++ more)
      (empty_for (handed_of takers)) all_placed of_works (all_empty dumps (handed_of takers)))
      among in
      let is_of = numbered_at 0 shape takers index place ws work members at is_there in
      let m : index ≡ work.member = let e = is_of.member_is in omega (arith, e) in
      let n : place ≡ work.number - 1 = let e = is_of.number_is in omega (arith, e) in (
        there.piece,
        ap (λ (k : ℕ). get_or (get_or (put_each (empty_for (handed_of takers)) (all_pieces after ++ more)) k []) place None) m
            ∙ ap (λ (k : ℕ). get_or
            (get_or (put_each (empty_for (handed_of takers)) (all_pieces after ++ more)) work.member []) k None) n
            ∙ there.is,
      )

  -- and each place then has the piece of its work
  pub filled : AllZip (AllZip (IsFilled dumps)) (handed_of takers)
      (put_each (empty_for (handed_of takers)) (all_pieces after ++ more))
  filled = filled_all dumps (handed_of takers) (put_each (empty_for (handed_of takers)) (all_pieces after ++ more))
      (all_held dumps (handed_of takers) shape (all_fetched after ++ left) (all_pieces after ++ more)
      (empty_for (handed_of takers)) all_placed of_works (all_empty dumps (handed_of takers)))
      has_at

  pub tables_full : AreFull (put_each (empty_for (handed_of takers)) (all_pieces after ++ more))
  tables_full = full_all dumps (handed_of takers) (put_each (empty_for (handed_of takers)) (all_pieces after ++ more)) filled
