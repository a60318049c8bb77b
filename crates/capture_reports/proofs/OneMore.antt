-- Lists that grow by an element at their end, as loops make them.
use Rattle.std.proofs.Common.{ℕ, zero, suc, ◌<◌, Bool, List, [], ◌∷◌, ◌++◌, length, arith}
use Rattle.std.specs.Prelude.{slice_index_or}
use Rattle.ring_model.specs.declared.notes.Note.{Note}
use Rattle.ring_words.specs.Pendings.{Pends}
use Rattle.run_reports.specs.declared.reports.MemberReport.{MemberReport}
use Rattle.tp_layout.specs.BlockWrites.{ShapedBytes}
use Rattle.tp_layout.specs.declared.requests.RingRequest.{RingRequest}
use Rattle.capture_reports.specs.Closed.{AreRingsOf, IsRingOf}
use Rattle.capture_reports.specs.Reported.{AreReported, IsReported}

-- a fact about each element and its place
pub each_more : {A : Type 0} (P : ℕ → A → Type 0) (xs : List A) (x : A)
    → ((i : ℕ) (none : A) → i < length xs → P i (slice_index_or xs i none))
    → P (length xs) x → (i : ℕ) (none : A) → i < length (xs ++ x ∷ []) → P i (slice_index_or (xs ++ x ∷ []) i none)
each_more P [] x each here zero none within = here
each_more P [] x each here (suc i) none within = absurd (omega (arith, within))
each_more P (y ∷ xs) x each here zero none within = each zero none (omega arith)
each_more P (y ∷ xs) x each here (suc i) none within =
    each_more (λ n. P (suc n)) xs x (λ j other below. each (suc j) other (omega (arith, below))) here i none
    (omega (arith, within))

-- the ring of one more member
pub rings_more : (shape : RingRequest) (all : List (List Note)) (rings : List (Pends ShapedBytes)) (notes : List Note)
    (ring : Pends ShapedBytes)
    → AreRingsOf shape all rings → IsRingOf shape notes ring → AreRingsOf shape (all ++ notes ∷ []) (rings ++ ring ∷ [])
rings_more shape [] [] notes ring are is = (is, tt)
rings_more shape [] (r ∷ rings) notes ring are is = absurd are
rings_more shape (n ∷ all) [] notes ring are is = absurd are
rings_more shape (n ∷ all) (r ∷ rings) notes ring are is = (are.0, rings_more shape all rings notes ring are.1 is)

-- the report of one more member
pub reported_more : (shape : RingRequest) (asked : Bool) (all : List (List Note)) (rings : List (Pends ShapedBytes))
    (members : List MemberReport)
    (notes : List Note) (ring : Pends ShapedBytes) (member : MemberReport) → AreReported shape asked all rings members
    → IsReported shape asked notes ring member
    → AreReported shape asked (all ++ notes ∷ []) (rings ++ ring ∷ []) (members ++ member ∷ [])
reported_more shape asked [] [] [] notes ring member are is = (is, tt)
reported_more shape asked [] [] (m ∷ members) notes ring member are is = absurd are
reported_more shape asked [] (r ∷ rings) members notes ring member are is = absurd are
reported_more shape asked (n ∷ all) [] members notes ring member are is = absurd are
reported_more shape asked (n ∷ all) (r ∷ rings) [] notes ring member are is = absurd are
reported_more shape asked (n ∷ all) (r ∷ rings) (m ∷ members) notes ring member are is =
    (are.0, reported_more shape asked all rings members notes ring member are.1 is)
