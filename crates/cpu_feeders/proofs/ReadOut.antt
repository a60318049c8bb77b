-- What the readers of a run have read.
use Rattle.std.proofs.Common.{◌≡◌, ℕ, zero, suc, Bool, true, false, List, [], ◌∷◌, length, Option}
use Rattle.std.proofs.Common.{None, Some, refl, ap, ◌∙◌, subst, arith}
use Rattle.std.specs.Prelude.{is_some, map, replicate}
use Rattle.std.specs.List.{AllByRecursion, AllZip}
use Rattle.capture_reports.specs.Closed.{AreRingsOf}
use Rattle.reader_walk.specs.Readers.{ReaderValue, base_of, dump_by, new_reader, number_of_flag, outputs_of, walked_of}
use Rattle.reader_walk.specs.Takers.{Base}
use Rattle.ring_model.specs.declared.notes.Note.{Note}
use Rattle.ring_words.specs.Pendings.{Pends}
use Rattle.tp_layout.specs.Layouts.{Taken}
use Rattle.tp_layout.specs.BlockWrites.{ShapedBytes}
use Rattle.tp_layout.specs.declared.requests.RingRequest.{RingRequest}
use Rattle.cpu_feeders.specs.Reports.{AreOutputsOf}
use Rattle.cpu_feeders.specs.Runs.{AreTakersOf, IsFreshTaker, IsTakerOf}

abbrev pub taken_in_reader : ReaderValue → List Taken
taken_in_reader reader = reader.taken

pub fresh_readers : (shape : RingRequest) (dump : Bool) (count : ℕ)
    → AllByRecursion (IsFreshTaker base_of taken_in_reader shape) (replicate count (new_reader shape dump))
fresh_readers shape dump zero = tt
fresh_readers shape dump (suc count) = (record { shape_is = refl; none = refl }, fresh_readers shape dump count)

one_flag : (a b : Bool) → number_of_flag a ≡ number_of_flag b → a ≡ b
one_flag true true same = refl
one_flag true false same = absurd (omega (arith, same))
one_flag false true same = absurd (omega (arith, same))
one_flag false false same = refl

none_held : (held : Option (List ℕ)) → number_of_flag (is_some held) ≡ 0 → held ≡ None
none_held None is = refl
none_held (Some bytes) is = absurd (omega (arith, is))

-- a member's reader after a run: it holds no block, and returns what is read of all blocks
abbrev HasReadOut : RingRequest → Bool → List Note → ReaderValue → Type 0
HasReadOut shape dump notes reader = (reader.held ≡ None) × AreOutputsOf shape dump notes (outputs_of reader)

one_reader : (shape : RingRequest) (dump : Bool) (notes : List Note) (reader : ReaderValue)
    → IsTakerOf base_of taken_in_reader shape notes (new_reader shape dump) reader → HasReadOut shape dump notes reader
one_reader shape dump notes reader is =
    let further : (base_of reader).further ≡ (base_of (new_reader shape dump)).further = ap (λ (b : Base). b.further)
    is.base_is in
    let dumps : number_of_flag reader.dumps ≡ number_of_flag dump = cc in
    let held : number_of_flag (is_some reader.held) ≡ 0 = cc in (
      none_held reader.held held,
      record {
        walked = ap walked_of is.taken_is;
        dump_is = ap (λ (asked : Bool). dump_by asked reader.shape reader.taken) (one_flag reader.dumps dump dumps)
            ∙ ap (λ (b : Base). dump_by dump b.shape reader.taken) is.base_is ∙ ap (dump_by dump shape) is.taken_is;
        blocks = ap (λ (taken : List Taken). length taken) is.taken_is;
      },
    )

all_readers : (shape : RingRequest) (dump : Bool) (count : ℕ) (notes : List (List Note)) (readers : List ReaderValue)
    → AreTakersOf base_of taken_in_reader shape notes (replicate count (new_reader shape dump)) readers
    → AllByRecursion (λ (reader : ReaderValue). reader.held ≡ None) readers
    × AllZip (AreOutputsOf shape dump) notes (map outputs_of readers)
all_readers shape dump zero [] [] are = (tt, tt)
all_readers shape dump zero [] (reader ∷ readers) are = absurd are
all_readers shape dump zero (n ∷ notes) readers are = absurd are
all_readers shape dump (suc count) [] readers are = absurd are
all_readers shape dump (suc count) (n ∷ notes) [] are = absurd are
all_readers shape dump (suc count) (n ∷ notes) (reader ∷ readers) are =
    let one = one_reader shape dump n reader are.0 in
    let rest = all_readers shape dump count notes readers are.1 in
    ((one.0, rest.0), (one.1, rest.1))

-- readers that were new before a run hold no block after it, and return what is read of all blocks
pub have_read_out : (shape : RingRequest) (dump : Bool) (count : ℕ) (notes : List (List Note)) (before after : List ReaderValue)
    → before ≡ replicate count (new_reader shape dump) → AreTakersOf base_of taken_in_reader shape notes before after
    → AllByRecursion (λ (reader : ReaderValue). reader.held ≡ None) after
    × AllZip (AreOutputsOf shape dump) notes (map outputs_of after)
have_read_out shape dump count notes before after fresh are =
    all_readers shape dump count notes after
    (subst (λ (old : List ReaderValue). AreTakersOf base_of taken_in_reader shape notes old after) fresh are)

pub rings_many : (shape : RingRequest) (notes : List (List Note)) (rings : List (Pends ShapedBytes))
    → AreRingsOf shape notes rings
    → length rings ≡ length notes
rings_many shape [] [] are = refl
rings_many shape [] (ring ∷ rings) are = absurd are
rings_many shape (n ∷ notes) [] are = absurd are
rings_many shape (n ∷ notes) (ring ∷ rings) are = ap suc (rings_many shape notes rings are.1)
