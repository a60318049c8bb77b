-- The forwarders of a run after it, and what is reported of them.
use Rattle.std.proofs.Common.{◌≡◌, ℕ, zero, suc, Bool, true, false, List, [], ◌∷◌, length, refl, sym, ap, ◌∙◌, subst, arith}
use Rattle.std.specs.Prelude.{map, replicate, slice_index, drop}
use Rattle.std.specs.List.{AllByRecursion, AllZip}
use Rattle.cpu_feeders.specs.Reports.{AreOutputsOf, member_reports}
use Rattle.cpu_feeders.specs.Runs.{AreTakersOf, IsFreshTaker, IsTakerOf}
use Rattle.frame_view.specs.declared.frames.Packet.{Packet}
use Rattle.tp_layout.proofs.OneShape.{one_shape}
use Rattle.reader_walk.specs.Readers.{dump_by, number_of_flag, walked_of}
use Rattle.reader_walk.specs.Takers.{Base}
use Rattle.reader_walk.specs.declared.outputs.Outputs.{Outputs}
use Rattle.tp_layout.specs.Layouts.{Taken}
use Rattle.ring_model.specs.declared.notes.Note.{Note}
use Rattle.ring_words.specs.Pendings.{Pends}
use Rattle.tp_layout.specs.Requests.{numbers_of}
use Rattle.tp_layout.specs.BlockWrites.{ShapedBytes}
use Rattle.tp_layout.specs.declared.requests.RingRequest.{RingRequest}
use Rattle.tx_ring.specs.Rings.{room_of}
use Rattle.tap_forward.specs.Bridges.{sent_for, skipped_for, tx_request}
use Rattle.tap_forward.specs.Forwarders.{ForwarderValue, base_of, forwarded_of, new_forwarder}
use Rattle.tap_forward.specs.Forwards.{sent_of, skipped_of}

-- the blocks that a forwarder has read
abbrev pub taken_in_forwarder : ForwarderValue → List Taken
taken_in_forwarder forwarder = forwarder.taken

pub fresh_forwarders : (shape tx : RingRequest) (dump : Bool) (count : ℕ)
    → AllByRecursion (IsFreshTaker base_of taken_in_forwarder shape) (replicate count (new_forwarder shape tx dump))
fresh_forwarders shape tx dump zero = tt
fresh_forwarders shape tx dump (suc count) = (record { shape_is = refl; none = refl }, fresh_forwarders shape tx dump count)

one_flag : (a b : Bool) → number_of_flag a ≡ number_of_flag b → a ≡ b
one_flag true true same = refl
one_flag true false same = absurd (omega (arith, same))
one_flag false true same = absurd (omega (arith, same))
one_flag false false same = refl

-- what a forwarder leaves
abbrev pub outputs_in : ForwarderValue → Outputs
outputs_in forwarder = (forwarded_of forwarder).outputs

abbrev pub sent_in : ForwarderValue → List Packet
sent_in forwarder = (forwarded_of forwarder).sent

abbrev pub skipped_in : ForwarderValue → ℕ
skipped_in forwarder = (forwarded_of forwarder).skipped

-- a member's forwarder after a run: it has read all blocks, and sends through a ring of this shape
pub record HasEnded (shape tx : RingRequest) (dump : Bool) (notes : List Note) (forwarder : ForwarderValue) : Type 0 where
  pub outputs : AreOutputsOf shape dump notes (outputs_in forwarder)
  pub tx_is : forwarder.tx ≡ tx

one_forwarder : (shape tx : RingRequest) (dump : Bool) (notes : List Note) (forwarder : ForwarderValue)
    → IsTakerOf base_of taken_in_forwarder shape notes (new_forwarder shape tx dump) forwarder
    → HasEnded shape tx dump notes forwarder
one_forwarder shape tx dump notes forwarder is =
    let further : number_of_flag forwarder.dumps ∷ numbers_of forwarder.tx ≡ number_of_flag dump ∷ numbers_of tx = ap
    (λ (b : Base). b.further) is.base_is in
    let dumps = one_flag forwarder.dumps dump (ap (λ (numbers : List ℕ). slice_index numbers 0) further) in
    record {
      outputs = record {
        walked = ap walked_of is.taken_is;
        dump_is = ap (λ (asked : Bool). dump_by asked forwarder.shape forwarder.taken) dumps
            ∙ ap (λ (b : Base). dump_by dump b.shape forwarder.taken) is.base_is ∙ ap (dump_by dump shape) is.taken_is;
        blocks = ap (λ (taken : List Taken). length taken) is.taken_is;
      };
      tx_is = one_shape forwarder.tx tx (ap (λ (numbers : List ℕ). drop 1 numbers) further);
    }

all_forwarders : (shape tx : RingRequest) (dump : Bool) (count : ℕ) (notes : List (List Note))
    (forwarders : List ForwarderValue)
    → AreTakersOf base_of taken_in_forwarder shape notes (replicate count (new_forwarder shape tx dump)) forwarders
    → AllZip (HasEnded shape tx dump) notes forwarders
all_forwarders shape tx dump zero [] [] are = tt
all_forwarders shape tx dump zero [] (forwarder ∷ forwarders) are = absurd are
all_forwarders shape tx dump zero (n ∷ notes) forwarders are = absurd are
all_forwarders shape tx dump (suc count) [] forwarders are = absurd are
all_forwarders shape tx dump (suc count) (n ∷ notes) [] are = absurd are
all_forwarders shape tx dump (suc count) (n ∷ notes) (forwarder ∷ forwarders) are =
    (one_forwarder shape tx dump n forwarder are.0, all_forwarders shape tx dump count notes forwarders are.1)

-- forwarders that were new before a run
pub have_ended : (shape tx : RingRequest) (dump : Bool) (count : ℕ) (notes : List (List Note))
    (before after : List ForwarderValue)
    → before ≡ replicate count (new_forwarder shape tx dump) → AreTakersOf base_of taken_in_forwarder shape notes before after
    → AllZip (HasEnded shape tx dump) notes after
have_ended shape tx dump count notes before after fresh are =
    all_forwarders shape tx dump count notes after
    (subst (λ (old : List ForwarderValue). AreTakersOf base_of taken_in_forwarder shape notes old after) fresh are)

-- ---- what they leave, and what is reported

all_outputs : (shape tx : RingRequest) (dump : Bool) (notes : List (List Note)) (forwarders : List ForwarderValue)
    → AllZip (HasEnded shape tx dump) notes forwarders → AllZip (AreOutputsOf shape dump) notes (map outputs_in forwarders)
all_outputs shape tx dump [] [] are = tt
all_outputs shape tx dump [] (forwarder ∷ forwarders) are = absurd are
all_outputs shape tx dump (n ∷ notes) [] are = absurd are
all_outputs shape tx dump (n ∷ notes) (forwarder ∷ forwarders) are =
    (are.0.outputs, all_outputs shape tx dump notes forwarders are.1)

pub outputs_left : (shape tx : RingRequest) (dump : Bool) (notes : List (List Note)) (forwarders : List ForwarderValue)
    (outputs : List Outputs)
    → outputs ≡ map outputs_in forwarders → AllZip (HasEnded shape tx dump) notes forwarders
    → AllZip (AreOutputsOf shape dump) notes outputs
outputs_left shape tx dump notes forwarders outputs outputs_are are =
    subst (λ (os : List Outputs). AllZip (AreOutputsOf shape dump) notes os) (sym outputs_are)
    (all_outputs shape tx dump notes forwarders are)

-- what is made of the ring and of the packets that were read is made of the ring and of the packets that are reported
pub all_by : {B : Type 0} (left_by : ForwarderValue → B) (made : RingRequest → List Packet → B)
    → ((forwarder : ForwarderValue) → left_by forwarder ≡ made forwarder.tx (outputs_in forwarder).walked)
    → (shape tx : RingRequest) (dump : Bool) (notes : List (List Note)) (rings : List (Pends ShapedBytes))
    (forwarders : List ForwarderValue)
    → length rings ≡ length notes → AllZip (HasEnded shape tx dump) notes forwarders
    → map left_by forwarders ≡ map (λ member. made tx member.walked) (member_reports notes rings (map outputs_in forwarders))
all_by left_by made is shape tx dump [] rings [] many are = refl
all_by left_by made is shape tx dump [] rings (forwarder ∷ forwarders) many are = absurd are
all_by left_by made is shape tx dump (n ∷ notes) rings [] many are = absurd are
all_by left_by made is shape tx dump (n ∷ notes) [] (forwarder ∷ forwarders) many are = absurd (omega (arith, many))
all_by {B = B} left_by made is shape tx dump (n ∷ notes) (ring ∷ rings) (forwarder ∷ forwarders) many are =
    let rest = all_by left_by made is shape tx dump notes rings forwarders (omega (arith, many)) are.1 in
    ap (λ (b : B). b ∷ map left_by forwarders)
    (is forwarder ∙ ap (λ (t : RingRequest). made t (outputs_in forwarder).walked) are.0.tx_is)
    ∙ ap (λ (bs : List B). made tx (outputs_in forwarder).walked ∷ bs) rest

-- both rings have the same room after the header of a slot
pub one_room : (request shape tx : RingRequest) → tx ≡ tx_request request → shape ≡ request → room_of tx ≡ room_of shape
one_room request shape tx tx_is shape_is = ap room_of tx_is ∙ ap room_of (sym shape_is)

pub all_sent : (shape tx : RingRequest) (dump : Bool) (notes : List (List Note)) (rings : List (Pends ShapedBytes))
    (forwarders : List ForwarderValue)
    → length rings ≡ length notes → AllZip (HasEnded shape tx dump) notes forwarders
    → map sent_in forwarders ≡ map (sent_for (room_of tx)) (member_reports notes rings (map outputs_in forwarders))
all_sent = all_by sent_in (λ tx packets. sent_of (room_of tx) packets) (λ forwarder. refl)

pub all_skipped : (shape tx : RingRequest) (dump : Bool) (notes : List (List Note)) (rings : List (Pends ShapedBytes))
    (forwarders : List ForwarderValue)
    → length rings ≡ length notes → AllZip (HasEnded shape tx dump) notes forwarders
    → map skipped_in forwarders ≡ map (skipped_for (room_of tx)) (member_reports notes rings (map outputs_in forwarders))
all_skipped = all_by skipped_in (λ tx packets. skipped_of (room_of tx) packets) (λ forwarder. refl)
