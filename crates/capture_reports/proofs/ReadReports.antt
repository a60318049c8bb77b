-- What is read of a ring's blocks, and the report that is made of it.
use Rattle.std.proofs.Common.{◌≡◌, ℕ, ◌+◌, ◌≤◌, Bool, true, false, List, [], ◌∷◌, length, refl, sym, ap, ◌∙◌, subst, map}
use Rattle.std.specs.Prelude.{All}
use Rattle.std.proofs.lemmas.List.Elements.{All-cons, All-head, All-nil, All-tail}
use Rattle.block_ring.specs.Texts.{AreTexts}
use Rattle.frame_view.specs.declared.frames.Packet.{Packet}
use Rattle.reader_walk.specs.Readers.{dump_by}
use Rattle.tp_layout.specs.Layouts.{Taken, taken_in}
use Rattle.ring_model.specs.Fates.{kept_of}
use Rattle.ring_model.specs.Offers.{packet_of}
use Rattle.ring_model.specs.Ring.{IsWholeRun, state_of}
use Rattle.ring_model.specs.declared.notes.Note.{Note}
use Rattle.ring_model.specs.declared.notes.Offer.{Offer}
use Rattle.ring_words.specs.Pendings.{Pends}
use Rattle.ring_words.specs.Rings.{Entry}
use Rattle.run_reports.specs.Blocks.{read_of, taken_from}
use Rattle.run_reports.specs.Members.{IsMember, dump_where}
use Rattle.run_reports.specs.Reports.{notes_of}
use Rattle.run_reports.specs.RingRules.{block_rules}
use Rattle.run_reports.proofs.KeptPackets.{as_many, kept_in_blocks, texts_are, walked_are}
use Rattle.run_reports.specs.declared.reports.MemberReport.{MemberReport}
use Rattle.tp_layout.specs.Blocks.{BeginsWith}
use Rattle.tp_layout.specs.Dump.{dump_of, packets_of_offers}
use Rattle.tp_layout.specs.Requests.{fills_hash, size_of}
use Rattle.tp_layout.specs.BlockWrites.{ShapedBytes}
use Rattle.tp_layout.specs.declared.requests.RingRequest.{RingRequest}
use Rattle.capture_reports.specs.Closed.{AreRingsOf, IsRingOf}
use Rattle.capture_reports.specs.Reported.{AreReported, HasRing, IsReported, taken_of_notes}
use Rattle.capture_reports.specs.Timers.{IsTicked}

-- the law of reading
abbrev pub Tells : Type 0
Tells = (shape : RingRequest) (number status : ℕ) (packets : List Packet) (bytes : List ℕ) → shape.block_size ≤ 1048576
    → BeginsWith shape number status packets bytes
    → taken_in shape bytes ≡ record { number = number; status = status; packets = packets }

-- texts of blocks are read as these blocks
pub read_all : (tells : Tells) (shape : RingRequest) (number : ℕ) (retired : List Entry) (done : List (List Offer × ℕ))
    → shape.block_size ≤ 1048576
    → AreTexts shape number retired done → map (λ (entry : Entry). taken_in shape entry.0) retired
    ≡ taken_from shape number done
read_all tells shape number [] [] small texts = refl
read_all tells shape number [] (block ∷ done) small texts = absurd texts
read_all tells shape number (entry ∷ retired) [] small texts = absurd texts
read_all tells shape number (entry ∷ retired) (block ∷ done) small texts =
    ap (λ (one : Taken). one ∷ map (λ (e : Entry). taken_in shape e.0) retired)
    (tells shape number block.1 (packets_of_offers shape block.0) entry.0 small texts.0)
    ∙ ap (λ (more : List Taken). read_of shape number block ∷ more)
    (read_all tells shape (number + 1) retired done small texts.2)

-- ---- one member

dump_is : (shape : RingRequest) (asked : Bool) (notes : List Note)
    → dump_by asked shape (taken_of_notes shape notes) ≡ dump_where (block_rules shape) asked notes
unfolding dump_of
dump_is shape true notes = texts_are shape 1 (state_of (size_of shape) notes).done
dump_is shape false notes = refl

member_is : (shape : RingRequest) (asked : Bool) (notes : List Note) (ring : Pends ShapedBytes) (member : MemberReport)
    → IsWholeRun (size_of shape) notes → IsReported shape asked notes ring member → IsMember (block_rules shape) asked member
member_is shape asked notes ring member run is =
    let done = (state_of (size_of shape) notes).done in
    record {
      run = subst (IsWholeRun (size_of shape)) (sym is.notes_are) run;
      walked = is.walked ∙ walked_are shape 1 done
          ∙ ap (λ (offers : List Offer). map (packet_of (fills_hash shape)) offers) (kept_in_blocks (size_of shape) notes run)
          ∙ ap (λ (ns : List Note). map (packet_of (fills_hash shape)) (kept_of ns)) (sym is.notes_are);
      dump = is.dump ∙ dump_is shape asked notes ∙ ap (dump_where (block_rules shape) asked) (sym is.notes_are);
      blocks = is.blocks ∙ as_many shape 1 done ∙ ap (λ (ns : List Note). length (state_of (size_of shape) ns).done)
          (sym is.notes_are);
    }

ring_is : (shape : RingRequest) (asked : Bool) (notes : List Note) (ring : Pends ShapedBytes) (member : MemberReport)
    → IsRingOf shape notes ring → IsReported shape asked notes ring member → HasRing shape member
ring_is shape asked notes ring member of is =
    (ring, is.ring_is, subst (λ (ns : List Note). IsRingOf shape ns ring) (sym is.notes_are) of)

-- ---- all members

-- a fact about each, which follows from one about its notes
module _ (shape : RingRequest) (asked : Bool) (P : List Note → Type 0) (Q : MemberReport → Type 0)
    (has : (notes : List Note) (ring : Pends ShapedBytes) (member : MemberReport) → P notes
    → IsReported shape asked notes ring member → Q member) where
  pub each_reported : (all : List (List Note)) (rings : List (Pends ShapedBytes)) (members : List MemberReport) → All P all
      → AreReported shape asked all rings members → All Q members
  each_reported [] [] [] each are = All-nil Q
  each_reported [] [] (member ∷ members) each are = absurd are
  each_reported [] (ring ∷ rings) members each are = absurd are
  each_reported (notes ∷ all) [] members each are = absurd are
  each_reported (notes ∷ all) (ring ∷ rings) [] each are = absurd are
  each_reported (notes ∷ all) (ring ∷ rings) (member ∷ members) each are =
      All-cons Q member members (has notes ring member (All-head P notes all each) are.0)
      (each_reported all rings members (All-tail P notes all each) are.1)

pub members_are : (shape : RingRequest) (asked : Bool) (all : List (List Note)) (rings : List (Pends ShapedBytes))
    (members : List MemberReport)
    → All (IsWholeRun (size_of shape)) all → AreReported shape asked all rings members
    → All (IsMember (block_rules shape) asked) members
members_are shape asked = each_reported shape asked (IsWholeRun (size_of shape)) (IsMember (block_rules shape) asked)
    (member_is shape asked)

pub ticked_are : (shape : RingRequest) (asked : Bool) (moments : List ℕ) (all : List (List Note))
    (rings : List (Pends ShapedBytes)) (members : List MemberReport)
    → All (IsTicked moments) all → AreReported shape asked all rings members
    → All (λ (member : MemberReport). IsTicked moments member.notes) members
ticked_are shape asked moments =
    each_reported shape asked (IsTicked moments) (λ (member : MemberReport). IsTicked moments member.notes)
    (λ notes ring member one is. subst (IsTicked moments) (sym is.notes_are) one)

pub rings_are : (shape : RingRequest) (asked : Bool) (all : List (List Note)) (rings : List (Pends ShapedBytes))
    (members : List MemberReport)
    → AreRingsOf shape all rings → AreReported shape asked all rings members → All (HasRing shape) members
rings_are shape asked [] [] [] of are = All-nil (HasRing shape)
rings_are shape asked [] [] (member ∷ members) of are = absurd are
rings_are shape asked [] (ring ∷ rings) members of are = absurd are
rings_are shape asked (notes ∷ all) [] members of are = absurd are
rings_are shape asked (notes ∷ all) (ring ∷ rings) [] of are = absurd are
rings_are shape asked (notes ∷ all) (ring ∷ rings) (member ∷ members) of are =
    All-cons (HasRing shape) member members (ring_is shape asked notes ring member of.0 are.0)
    (rings_are shape asked all rings members of.1 are.1)

pub notes_are : (shape : RingRequest) (asked : Bool) (all : List (List Note)) (rings : List (Pends ShapedBytes))
    (members : List MemberReport)
    → AreReported shape asked all rings members → notes_of members ≡ all
notes_are shape asked [] [] [] are = refl
notes_are shape asked [] [] (member ∷ members) are = absurd are
notes_are shape asked [] (ring ∷ rings) members are = absurd are
notes_are shape asked (notes ∷ all) [] members are = absurd are
notes_are shape asked (notes ∷ all) (ring ∷ rings) [] are = absurd are
notes_are shape asked (notes ∷ all) (ring ∷ rings) (member ∷ members) are =
    ap (λ (here : List Note). here ∷ notes_of members) are.0.notes_are
    ∙ ap (λ (more : List (List Note)). notes ∷ more) (notes_are shape asked all rings members are.1)
