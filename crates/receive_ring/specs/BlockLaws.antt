-- What the notes of a ring of blocks hand over.
use Rattle.std.proofs.Common.{◌≡◌, ℕ, ◌+◌, ◌≤◌, List, [], ◌∷◌, ◌++◌, length, map, sym, ap, ◌∙◌}
use Rattle.std.proofs.Common.{arith}
use Rattle.block_ring.specs.Producers.{Producing}
use Rattle.block_ring.specs.WalkerSteps.{StaysBy, TookBy}
use Rattle.reader_walk.specs.Readers.{texts_of}
use Rattle.receive_ring.specs.BlockRings.{block_reads, seen_blocks}
use Rattle.receive_ring.specs.ReadBack.{IsReadBack}
use Rattle.receive_ring.specs.Rings.{Grows, StaysThere, TookOne}
use Rattle.ring_model.specs.Offers.{packet_of}
use Rattle.ring_model.specs.Ring.{Size, state_of}
use Rattle.ring_model.specs.Rings.{Ring}
use Rattle.ring_model.specs.declared.notes.Note.{Note}
use Rattle.ring_model.specs.declared.notes.Offer.{Offer}
use Rattle.ring_words.specs.PlainRings as plain
use Rattle.ring_words.specs.PlainRings.{PlainState, Took}
use Rattle.run_reports.specs.Blocks.{read_of, taken_from}
use Rattle.run_reports.proofs.GrownBlocks.{few_done, grows_noted}
use Rattle.run_reports.proofs.KeptPackets.{as_many, kept_in_blocks, texts_are, walked_are}
use Rattle.run_reports.specs.RingRules.{IsWholeBy, block_rules}
use Rattle.run_reports.specs.declared.ring_kind.RingKind.TheVariants.{Blocks}
use Rattle.tp_layout.specs.Dump.{dump_of}
use Rattle.tp_layout.specs.Layouts.{Taken, text_of_taken}
use Rattle.tp_layout.specs.Requests.{fills_hash, size_of}
use Rattle.tp_layout.specs.declared.requests.RingRequest.{RingRequest}

pub took_block : (before after : Producing PlainState) (content : List ℕ)
    → TookBy Took before after content → TookOne (seen_blocks before) (seen_blocks after) content
took_block before after content took = record { end = took.end; rest = ap seen_blocks took.rest }

pub stays_blocks : (before after : Producing PlainState) → StaysBy plain.Stays before after
    → StaysThere (seen_blocks before) (seen_blocks after)
stays_blocks before after stays = record { end = stays.end; rest = ap seen_blocks stays.rest }

-- blocks that follow others
taken_after : (shape : RingRequest) (number : ℕ) (done more : List (List Offer × ℕ))
    → taken_from shape number (done ++ more)
    ≡ taken_from shape number done ++ taken_from shape (number + length done) more
taken_after shape number [] more =
    let first : number ≡ number + 0 = omega arith in
    ap (λ n. taken_from shape n more) first
taken_after shape number (block ∷ done) more =
    let later : number + 1 + length done ≡ number + length (block ∷ done) = omega arith in
    ap (λ (taken : List Taken). read_of shape number block ∷ taken)
    (taken_after shape (number + 1) done more
    ∙ ap (λ n. taken_from shape (number + 1) done ++ taken_from shape n more) later)

pub blocks_grow : (shape : RingRequest) (notes : List Note) (note : Note)
    → Grows (block_reads shape notes) (block_reads shape (notes ++ note ∷ []))
blocks_grow shape notes note =
    let grown = grows_noted (size_of shape) notes note in
    let done = (state_of (size_of shape) notes).done in
    record {
      more = taken_from shape (1 + length done) grown.more;
      is = ap (λ (d : List (List Offer × ℕ)). taken_from shape 1 d) grown.is
          ∙ taken_after shape 1 done grown.more;
    }

pub few_blocks : (shape : RingRequest) (notes : List Note)
    → length (block_reads shape notes) ≤ length notes
few_blocks shape notes =
    let done = (state_of (size_of shape) notes).done in
    let count = as_many shape 1 done in
    let few = few_done (size_of shape) notes in
    omega (arith, count, few)

pub all_blocks : (shape : RingRequest) (ring : Ring) → ring.size ≡ size_of shape
    → length (state_of ring.size ring.notes).done ≡ length (block_reads shape ring.notes)
all_blocks shape ring same =
    ap (λ (size : Size). length (state_of size ring.notes).done) same
    ∙ sym (as_many shape 1 (state_of (size_of shape) ring.notes).done)

dump_is : (shape : RingRequest) (notes : List Note)
    → texts_of shape (block_reads shape notes) ≡ dump_of shape notes
unfolding dump_of
dump_is shape notes = texts_are shape 1 (state_of (size_of shape) notes).done

pub blocks_read_back : (shape : RingRequest) (notes : List Note)
    → IsWholeBy Blocks (size_of shape) notes
    → IsReadBack (block_rules shape) (λ of block. text_of_taken of block) shape
    (block_reads shape notes) notes
blocks_read_back shape notes run =
    let done = (state_of (size_of shape) notes).done in
    record {
      packets = walked_are shape 1 done
          ∙ ap (λ (offers : List Offer). map (packet_of (fills_hash shape)) offers)
          (kept_in_blocks (size_of shape) notes run);
      bytes = dump_is shape notes;
      many = as_many shape 1 done;
    }
