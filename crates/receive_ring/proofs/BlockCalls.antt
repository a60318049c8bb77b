-- What the calls of a ring of blocks make of it as a receive ring.
use Rattle.std.proofs.Common.{◌≡◌, ℕ, ◌+◌, ◌≤◌, List, [], ◌∷◌, ◌++◌, drop, map, replicate, zero, suc, Some, refl, sym, ap, ◌∙◌}
use Rattle.std.proofs.Common.{subst, arith}
use Rattle.std.specs.Prelude.{IfOk, OnOk, Result, Ok, Err}
use Rattle.std.specs.List.{AllByRecursion}
use Rattle.std.proofs.Math.Seq.{drop-nil}
use Rattle.block_ring.specs.Machines.{IsFresh, KeepsEnd}
use Rattle.block_ring.specs.Producers.{Adds, Opens, Producing, Puts, Ticks, Tries}
use Rattle.block_ring.specs.Texts.{AreTexts, RepresentsTexts}
use Rattle.frame_view.specs.declared.frames.Packet.{Packet}
use Rattle.receive_ring.proofs.WaitingBlocks.{some_same, waits_for}
use Rattle.receive_ring.specs.BlockRings.{block_reads, seen_blocks, steps_of_blocks}
use Rattle.receive_ring.specs.Rings as receiving
use Rattle.receive_ring.specs.Rings.{Becomes, Closes, Waits, note_of_put, note_of_try, ring_in}
use Rattle.run_reports.specs.RingSteps.{found_in, ticked}
use Rattle.ring_model.specs.Ring.{state_of}
use Rattle.ring_model.specs.Rings.{Ring, noted}
use Rattle.ring_model.specs.KnownReleases.{put_by, try_by}
use Rattle.ring_model.specs.declared.notes.Found.{Found}
use Rattle.ring_model.specs.declared.notes.Note.{Note}
use Rattle.ring_model.specs.declared.notes.Note.TheVariants.{Finished, Ticked}
use Rattle.ring_model.specs.declared.notes.Offer.{Offer}
use Rattle.ring_model.specs.declared.notes.Put.{Put}
use Rattle.ring_model.specs.declared.notes.Tried.{Tried}
use Rattle.ring_words.specs.PlainRings as plain
use Rattle.ring_words.specs.PlainRings.{PlainState, feed_of}
use Rattle.ring_words.specs.Rings as words
use Rattle.ring_words.specs.Rings.{Entry}
use Rattle.run_reports.specs.Blocks.{read_of, taken_from}
use Rattle.tp_layout.specs.Blocks.{BeginsWith}
use Rattle.tp_layout.specs.Dump.{packets_of_offers}
use Rattle.tp_layout.specs.Layouts.{Taken, taken_in}
use Rattle.tp_layout.specs.Requests.{IsShape, numbers_of, size_of}
use Rattle.tp_layout.specs.BlockWrites.{zero_block}
use Rattle.tp_layout.specs.declared.requests.RingRequest.{RingRequest}

-- the law of reading
abbrev pub Tells : Type 0
Tells = (shape : RingRequest) (number status : ℕ) (packets : List Packet) (bytes : List ℕ) → shape.block_size ≤ 1048576
    → BeginsWith shape number status packets bytes
    → taken_in shape bytes ≡ record { number = number; status = status; packets = packets }

-- contents that begin with the texts of blocks are read as these blocks
read_as : (tells : Tells) (shape : RingRequest) (number : ℕ) (all : List Entry) (done : List (List Offer × ℕ))
    → shape.block_size ≤ 1048576
    → AreTexts shape number all done → map (λ entry. taken_in shape entry.0) all ≡ taken_from shape number done
read_as tells shape number [] [] small texts = refl
read_as tells shape number [] (block ∷ done) small texts = absurd texts
read_as tells shape number (entry ∷ all) [] small texts = absurd texts
read_as tells shape number (entry ∷ all) (block ∷ done) small texts =
    ap (λ (one : Taken). one ∷ map (λ entry. taken_in shape entry.0) all)
    (tells shape number block.1 (packets_of_offers shape block.0) entry.0 small texts.0)
    ∙ ap (λ (taken : List Taken). read_of shape number block ∷ taken) (read_as tells shape (number + 1) all done small texts.2)

waits_blocks : (tells : Tells) (shape : RingRequest) (done : List (List Offer × ℕ)) (end : PlainState)
    → shape.block_size ≤ 1048576
    → RepresentsTexts shape done (feed_of end) → Waits (taken_in shape) (taken_from shape 1 done) end
waits_blocks tells shape done end small texts =
    waits_for (taken_in shape) (taken_from shape 1 done) end texts.0 texts.1 (read_as tells shape 1 texts.0 done small texts.2)

abbrev BlocksBecome : Ring → Producing PlainState → Producing PlainState → Type 0
BlocksBecome ring before after = Becomes taken_in block_reads steps_of_blocks ring (seen_blocks before) (seen_blocks after)

-- one more note
pub added : (tells : Tells) (before after : Producing PlainState) (note : Note) → IsShape before.shape
    → Adds feed_of before after note
    → BlocksBecome (noted (ring_in steps_of_blocks (seen_blocks before)) note) before after
added tells before after note sound adds =
    let small : after.shape.block_size ≤ 1048576 =
    subst (λ (s : RingRequest). s.block_size ≤ 1048576) (sym adds.shape) sound.small in
    let released = some_same after.end.released before.end.released adds.end.freed in
    record {
      shape_is = adds.shape;
      ring_is = rw (adds.shape, adds.notes, released) refl;
      kind_is = ap (λ (r : words.Ring). r.kind) adds.end.ring;
      taken_is = some_same after.end.taken before.end.taken adds.end.fetched;
      waits = λ _. waits_blocks tells after.shape (state_of (size_of after.shape) after.notes).done after.end small adds.texts;
    }

pub put_kept : {E : Type 0} (tells : Tells) (before after : Producing PlainState) (offer : Offer) (result : Result Put E)
    → IsShape before.shape
    → IfOk result (λ put. (found : Found) × Puts feed_of before after offer found put)
    → OnOk result
    (BlocksBecome (noted (ring_in steps_of_blocks (seen_blocks before))
    (note_of_put steps_of_blocks (seen_blocks before) offer)) before after)
put_kept tells before after offer (Ok put) sound made =
    subst (λ (found : Found). BlocksBecome
    (noted (ring_in steps_of_blocks (seen_blocks before)) (put_by offer found)) before after)
    (made.1.exact before.end.released refl) (added tells before after (put_by offer made.0) sound made.1.adds)
put_kept tells before after offer (Err error) sound made = tt

pub try_kept : {E : Type 0} (tells : Tells) (before after : Producing PlainState) (offer : Offer) (result : Result Tried E)
    → IsShape before.shape
    → IfOk result (λ tried. (found : Found) × Tries feed_of before after offer found tried)
    → OnOk result
    (BlocksBecome (noted (ring_in steps_of_blocks (seen_blocks before))
    (note_of_try steps_of_blocks (seen_blocks before) offer)) before after)
try_kept tells before after offer (Ok tried) sound made =
    subst (λ (found : Found). BlocksBecome
    (noted (ring_in steps_of_blocks (seen_blocks before)) (try_by offer found)) before after)
    (made.1.exact before.end.released refl) (added tells before after (try_by offer made.0) sound made.1.adds)
try_kept tells before after offer (Err error) sound made = tt

pub ticked_as : (tells : Tells) (before after : Producing PlainState) (ms : ℕ) (found : Found) → IsShape before.shape
    → Ticks feed_of before after ms found
    → BlocksBecome (ticked (steps_of_blocks before.shape) ms (ring_in steps_of_blocks (seen_blocks before))) before after
ticked_as tells before after ms found sound ticks =
    subst (λ (f : Found). BlocksBecome (noted (ring_in steps_of_blocks (seen_blocks before)) (Ticked ms f)) before after)
    (ap (λ (note : Note). found_in note) (ticks.exact before.end.released refl))
    (added tells before after (Ticked ms found) sound ticks.adds)

-- the close retires the open block
pub closed_as : (tells : Tells) (before : Producing PlainState) (end closing : PlainState) (notes : List Note)
    → IsShape before.shape
    → notes ≡ before.notes ++ Finished ∷ []
    → RepresentsTexts before.shape (state_of (size_of before.shape) notes).done (feed_of end)
    → KeepsEnd (feed_of before.end) (feed_of end)
    → closing ≡ record end { contents = [] } → Closes taken_in block_reads (seen_blocks before) closing notes
closed_as tells before end closing notes sound noted_is texts keeps is =
    let waits = waits_blocks tells before.shape (state_of (size_of before.shape) notes).done end sound.small texts in
    record {
      notes_are = noted_is;
      kind_is = ap (λ (r : PlainState). r.kind) is ∙ ap (λ (r : words.Ring). r.kind) keeps.ring;
      taken_is = ap (λ (r : PlainState). r.taken) is ∙ some_same end.taken before.end.taken keeps.fetched;
      released_is = ap (λ (r : PlainState). r.released) is ∙ some_same end.released before.end.released keeps.freed;
      waits = subst (λ (e : PlainState). Waits (taken_in before.shape) (block_reads before.shape notes) e) (sym is)
          (record { front = waits.front; rest = waits.rest });
    }

-- a ring whose blocks are all free
pub fresh_end : (shape : RingRequest) (count : ℕ) (contents : List (List ℕ)) (ring : PlainState)
    → ring ≡ plain.fresh count ring.kind contents
    → ring.kind ≡ numbers_of shape → count ≡ shape.block_nr → IsFresh shape (feed_of ring)
fresh_end shape count contents ring e kind all = record {
  places = ap (λ (r : PlainState). r.places) e ∙ all;
  kind = kind;
  given = ap (λ (r : PlainState). r.given) e;
  retired_none = ap (λ (r : PlainState). r.retired) e;
  passed = ap (λ (r : PlainState). r.taken) e;
  shown = ap (λ (r : PlainState). r.shown) e;
}

-- blocks of zeros are of one kind
pub one_kind : (shape : RingRequest) (n : ℕ)
    → AllByRecursion (λ block. numbers_of block.shape ≡ numbers_of shape) (replicate n (zero_block shape))
one_kind shape zero = tt
one_kind shape (suc n) = (refl, one_kind shape n)

-- a new ring over it
pub opens_with : (shape : RingRequest) (count : ℕ) (contents : List (List ℕ)) (ring : PlainState)
    (producer : Producing PlainState)
    → ring ≡ plain.fresh count ring.kind contents → ring.kind ≡ numbers_of shape → Opens feed_of shape ring producer
    → receiving.Opens taken_in block_reads shape (seen_blocks producer)
opens_with shape count contents ring producer e kind opens =
    let freed : (feed_of producer.end).freed ≡ Some ring.released = ap (λ (f : words.Feed). f.freed) opens.end in
    let fetched : (feed_of producer.end).fetched ≡ Some ring.taken = ap (λ (f : words.Feed). f.fetched) opens.end in
    let taken : producer.end.taken ≡ 0 = some_same producer.end.taken ring.taken fetched ∙ ap (λ (r : PlainState). r.taken) e in
    let shown : producer.end.shown ≡ [] = ap (λ (f : words.Feed). f.shown) opens.end ∙ ap (λ (r : PlainState). r.shown) e in
    record {
      shape_is = opens.shape;
      none_noted = opens.notes;
      kind_is = ap (λ (f : words.Feed). f.ring.kind) opens.end ∙ kind;
      none_taken = taken;
      none_released = some_same producer.end.released ring.released freed ∙ ap (λ (r : PlainState). r.released) e;
      waits = record {
        front = omega (arith, taken);
        rest = ap (λ (entries : List Entry). map (λ entry. taken_in producer.shape entry.0) entries) shown
            ∙ sym (ap (λ (ns : List Note). drop producer.end.taken (block_reads producer.shape ns)) opens.notes
            ∙ drop-nil producer.end.taken);
      };
    }
