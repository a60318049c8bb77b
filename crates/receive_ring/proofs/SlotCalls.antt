-- What the calls of a ring of slots make of it as a receive ring.
use Rattle.std.proofs.Common.{◌≡◌, ℕ, List, [], ◌∷◌, ◌++◌, map, replicate, zero, suc, refl, sym, ap, ◌∙◌, subst, arith}
use Rattle.std.specs.Prelude.{IfOk, OnOk, Result, Ok, Err}
use Rattle.std.specs.List.{AllByRecursion}
use Rattle.std.proofs.Math.Seq.{drop-nil}
use Rattle.frame_view.specs.declared.frames.Packet.{Packet}
use Rattle.receive_ring.proofs.WaitingBlocks.{some_same, waits_for}
use Rattle.receive_ring.specs.Rings.{Becomes, Closes, Opens, Waits, note_of_put, note_of_try, ring_in}
use Rattle.receive_ring.specs.SlotRings.{seen_slots, slot_reads, slots_taken, steps_of_slots}
use Rattle.ring_model.specs.KnownReleases.{put_by, try_by}
use Rattle.ring_model.specs.Rings.{Ring, noted}
use Rattle.ring_model.specs.declared.notes.Found.{Found}
use Rattle.ring_model.specs.declared.notes.Note.{Note}
use Rattle.ring_model.specs.declared.notes.Note.TheVariants.{Finished}
use Rattle.ring_model.specs.declared.notes.Offer.{Offer}
use Rattle.ring_model.specs.declared.notes.Put.{Put}
use Rattle.ring_model.specs.declared.notes.Tried.{Tried}
use Rattle.ring_words.specs.PlainRings as plain
use Rattle.ring_words.specs.PlainRings.{PlainState, feed_of}
use Rattle.ring_words.specs.Rings as words
use Rattle.ring_words.specs.Rings.{Entry}
use Rattle.slot_layout.specs.SlotDump.{slot_packet_of}
use Rattle.slot_layout.specs.SlotLayouts.{slot_taken, slot_taken_in}
use Rattle.slot_layout.specs.SlotShapes.{zero_slot}
use Rattle.slot_layout.specs.SlotTexts.{SlotBegins}
use Rattle.slot_layout.specs.SlotSteps.{slot_state_of}
use Rattle.tp_layout.specs.Layouts.{Taken}
use Rattle.tp_layout.specs.Requests.{numbers_of}
use Rattle.tp_layout.specs.declared.requests.RingRequest.{RingRequest}
use Rattle.v2_ring.specs.SlotContents.{AreSlotTexts, RepresentsSlots}
use Rattle.v2_ring.specs.SlotMachines.{IsFreshSlots}
use Rattle.v2_ring.specs.SlotProducers.{SlotAdds, SlotProducing, SlotPuts, SlotTries}

-- the law of reading
abbrev pub Tells : Type 0
Tells = (shape : RingRequest) (status : ℕ) (packet : Packet) (bytes : List ℕ) → SlotBegins shape status packet bytes
    → slot_taken_in shape bytes ≡ slot_taken status packet

-- contents that begin with the texts of slots are read as these slots
read_as : (tells : Tells) (shape : RingRequest) (all : List Entry) (done : List (Offer × ℕ)) → AreSlotTexts shape all done
    → map (λ entry. slot_taken_in shape entry.0) all ≡ slots_taken done
read_as tells shape [] [] texts = refl
read_as tells shape [] (slot ∷ done) texts = absurd texts
read_as tells shape (entry ∷ all) [] texts = absurd texts
read_as tells shape (entry ∷ all) (slot ∷ done) texts =
    ap (λ (one : Taken). one ∷ map (λ entry. slot_taken_in shape entry.0) all)
    (tells shape slot.1 (slot_packet_of slot.0) entry.0 texts.0)
    ∙ ap (λ (taken : List Taken). slot_taken slot.1 (slot_packet_of slot.0) ∷ taken) (read_as tells shape all done texts.2)

waits_slots : (tells : Tells) (shape : RingRequest) (done : List (Offer × ℕ)) (end : PlainState)
    → RepresentsSlots shape done (feed_of end)
    → Waits (slot_taken_in shape) (slots_taken done) end
waits_slots tells shape done end texts =
    waits_for (slot_taken_in shape) (slots_taken done) end texts.0 texts.1 (read_as tells shape texts.0 done texts.2)

abbrev SlotsBecome : Ring → SlotProducing PlainState → SlotProducing PlainState → Type 0
SlotsBecome ring before after = Becomes slot_taken_in slot_reads steps_of_slots ring (seen_slots before) (seen_slots after)

-- one more note
pub added : (tells : Tells) (before after : SlotProducing PlainState) (note : Note) → SlotAdds feed_of before after note
    → SlotsBecome (noted (ring_in steps_of_slots (seen_slots before)) note) before after
added tells before after note adds =
    let released = some_same after.end.released before.end.released adds.end.freed in
    record {
      shape_is = adds.shape;
      ring_is = rw (adds.shape, adds.notes, released) refl;
      kind_is = ap (λ (r : words.Ring). r.kind) adds.end.ring;
      taken_is = some_same after.end.taken before.end.taken adds.end.fetched;
      waits = λ _. waits_slots tells after.shape (slot_state_of after.notes).done after.end adds.texts;
    }

pub put_kept : {E : Type 0} (tells : Tells) (before after : SlotProducing PlainState) (offer : Offer) (result : Result Put E)
    → IfOk result (λ put. (found : Found) × SlotPuts feed_of before after offer found put)
    → OnOk result
    (SlotsBecome (noted (ring_in steps_of_slots (seen_slots before))
    (note_of_put steps_of_slots (seen_slots before) offer)) before after)
put_kept tells before after offer (Ok put) made =
    subst (λ (found : Found). SlotsBecome
    (noted (ring_in steps_of_slots (seen_slots before)) (put_by offer found)) before after)
    (made.1.looks.exact before.end.released refl) (added tells before after (put_by offer made.0) made.1.adds)
put_kept tells before after offer (Err error) made = tt

pub try_kept : {E : Type 0} (tells : Tells) (before after : SlotProducing PlainState) (offer : Offer) (result : Result Tried E)
    → IfOk result (λ tried. (found : Found) × SlotTries feed_of before after offer found tried)
    → OnOk result
    (SlotsBecome (noted (ring_in steps_of_slots (seen_slots before))
    (note_of_try steps_of_slots (seen_slots before) offer)) before after)
try_kept tells before after offer (Ok tried) made =
    subst (λ (found : Found). SlotsBecome
    (noted (ring_in steps_of_slots (seen_slots before)) (try_by offer found)) before after)
    (made.1.looks.exact before.end.released refl) (added tells before after (try_by offer made.0) made.1.adds)
try_kept tells before after offer (Err error) made = tt

-- the close leaves the slots as they are
pub closed_as : (tells : Tells) (before : SlotProducing PlainState) (end closing : PlainState) (notes : List Note)
    → notes ≡ before.notes ++ Finished ∷ [] → end ≡ before.end
    → RepresentsSlots before.shape (slot_state_of notes).done (feed_of end)
    → closing ≡ record end { contents = [] } → Closes slot_taken_in slot_reads (seen_slots before) closing notes
closed_as tells before end closing notes noted_is same texts is =
    let waits = waits_slots tells before.shape (slot_state_of notes).done end texts in
    record {
      notes_are = noted_is;
      kind_is = ap (λ (r : PlainState). r.kind) is ∙ ap (λ (r : PlainState). r.kind) same;
      taken_is = ap (λ (r : PlainState). r.taken) is ∙ ap (λ (r : PlainState). r.taken) same;
      released_is = ap (λ (r : PlainState). r.released) is ∙ ap (λ (r : PlainState). r.released) same;
      waits = subst (λ (e : PlainState). Waits (slot_taken_in before.shape) (slot_reads before.shape notes) e) (sym is)
          (record { front = waits.front; rest = waits.rest });
    }

-- a ring whose slots are all free
pub fresh_end : (shape : RingRequest) (count : ℕ) (contents : List (List ℕ)) (ring : PlainState)
    → ring ≡ plain.fresh count ring.kind contents
    → ring.kind ≡ numbers_of shape → count ≡ shape.frame_nr → IsFreshSlots shape (feed_of ring)
fresh_end shape count contents ring e kind all = record {
  places = ap (λ (r : PlainState). r.places) e ∙ all;
  kind = kind;
  given = ap (λ (r : PlainState). r.given) e;
  retired_none = ap (λ (r : PlainState). r.retired) e;
  passed = ap (λ (r : PlainState). r.taken) e;
  shown = ap (λ (r : PlainState). r.shown) e;
}

-- slots of zeros are of one kind
pub one_kind : (shape : RingRequest) (n : ℕ)
    → AllByRecursion (λ slot. numbers_of slot.shape ≡ numbers_of shape) (replicate n (zero_slot shape))
one_kind shape zero = tt
one_kind shape (suc n) = (refl, one_kind shape n)

-- a new ring over it
pub opens_with : (shape : RingRequest) (count : ℕ) (contents : List (List ℕ)) (ring : PlainState)
    (producer : SlotProducing PlainState)
    → ring ≡ plain.fresh count ring.kind contents → ring.kind ≡ numbers_of shape
    → producer ≡ record { shape = shape; notes = []; end = ring }
    → Opens slot_taken_in slot_reads shape (seen_slots producer)
opens_with shape count contents ring producer e kind opens =
    let taken : ring.taken ≡ 0 = ap (λ (r : PlainState). r.taken) e in
    let shown : ring.shown ≡ [] = ap (λ (r : PlainState). r.shown) e in
    subst (λ (p : SlotProducing PlainState). Opens slot_taken_in slot_reads shape (seen_slots p)) (sym opens) (record {
      shape_is = refl;
      none_noted = refl;
      kind_is = kind;
      none_taken = taken;
      none_released = ap (λ (r : PlainState). r.released) e;
      waits = record {
        front = omega (arith, taken);
        rest = ap (λ (entries : List Entry). map (λ entry. slot_taken_in shape entry.0) entries) shown
            ∙ sym (drop-nil ring.taken);
      };
    })
