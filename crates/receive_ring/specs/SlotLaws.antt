-- What the notes of a ring of slots hand over.
use Rattle.std.proofs.Common.{◌≡◌, ℕ, ◌≤◌, List, [], ◌∷◌, ◌++◌, length, map, refl, sym, ap, ◌∙◌}
use Rattle.std.proofs.Common.{arith}
use Rattle.std.proofs.lemmas.List.{append-nil, length-map, map-append}
use Rattle.frame_view.specs.declared.frames.Packet.{Packet}
use Rattle.reader_walk.specs.Readers.{texts_by, walked_of}
use Rattle.receive_ring.specs.ReadBack.{IsReadBack}
use Rattle.receive_ring.specs.Rings.{Grows, StaysThere, TookOne}
use Rattle.receive_ring.specs.SlotRings.{seen_slots, slot_reads, slots_taken}
use Rattle.ring_model.specs.Rings.{Ring}
use Rattle.ring_model.specs.declared.notes.Note.{Note}
use Rattle.ring_model.specs.declared.notes.Note.TheVariants.{Kept, Refused, Dropped, Ticked}
use Rattle.ring_model.specs.declared.notes.Note.TheVariants.{Counted, Finished}
use Rattle.ring_model.specs.declared.notes.Offer.{Offer}
use Rattle.ring_words.specs.PlainRings as plain
use Rattle.ring_words.specs.PlainRings.{PlainState, Took}
use Rattle.run_reports.specs.RingRules.{IsWholeBy, slot_rules}
use Rattle.run_reports.specs.declared.ring_kind.RingKind.TheVariants.{Slots}
use Rattle.slot_layout.proofs.Kept.{kept_from, offers_in}
use Rattle.slot_layout.specs.SlotDump.{slot_dump_of, slot_packet_of, slot_texts_of}
use Rattle.slot_layout.specs.SlotLayouts.{slot_taken, text_of_slot}
use Rattle.slot_layout.specs.SlotShapes.{slot_size_of}
use Rattle.slot_layout.proofs.Runs.{slot_counted, slot_state_push}
use Rattle.slot_layout.specs.SlotSteps.{SlotState, first_slot_state, slot_after, slot_state_of}
use Rattle.slot_layout.specs.SlotSteps.{slot_status}
use Rattle.slot_layout.specs.SlotTexts.{slot_text}
use Rattle.tp_layout.specs.declared.requests.RingRequest.{RingRequest}
use Rattle.v2_ring.specs.SlotProducers.{SlotProducing}
use Rattle.v2_ring.specs.SlotWalkerSteps.{SlotStaysBy, SlotTookBy}

pub took_slot : (before after : SlotProducing PlainState) (content : List ℕ)
    → SlotTookBy Took before after content → TookOne (seen_slots before) (seen_slots after) content
took_slot before after content took = record { end = took.end; rest = ap seen_slots took.rest }

pub stays_slots : (before after : SlotProducing PlainState)
    → SlotStaysBy plain.Stays before after → StaysThere (seen_slots before) (seen_slots after)
stays_slots before after stays = record { end = stays.end; rest = ap seen_slots stays.rest }

-- the slots after a note are those before it, and some more or none
same : (done : List (Offer × ℕ)) → Grows (slots_taken done) (slots_taken done)
same done = record { more = []; is = sym (append-nil (slots_taken done)) }

grows : (s : SlotState) (note : Note)
    → Grows (slots_taken s.done) (slots_taken (slot_after s note).done)
grows s (Kept offer found) = record {
  more = slots_taken ((offer, slot_status s offer) ∷ []);
  is = map-append (λ slot. slot_taken slot.1 (slot_packet_of slot.0)) s.done
      ((offer, slot_status s offer) ∷ []);
}
grows s (Refused cpu index need number) = same s.done
grows s (Dropped cpu index need number) = same s.done
grows s (Ticked ms found) = same s.done
grows s Counted = same s.done
grows s Finished = same s.done

pub slots_grow : (shape : RingRequest) (notes : List Note) (note : Note)
    → Grows (slot_reads shape notes) (slot_reads shape (notes ++ note ∷ []))
slots_grow shape notes note = rw (slot_state_push notes note) (grows (slot_state_of notes) note)

as_many : (done : List (Offer × ℕ)) → length (slots_taken done) ≡ length done
as_many done = length-map done (λ slot. slot_taken slot.1 (slot_packet_of slot.0))

pub few_slots : (shape : RingRequest) (notes : List Note)
    → length (slot_reads shape notes) ≤ length notes
few_slots shape notes =
    let count = as_many (slot_state_of notes).done in
    let few = (slot_counted notes).slots in
    omega (arith, count, few)

pub all_slots : (shape : RingRequest) (ring : Ring) → ring.size ≡ slot_size_of shape
    → length (slot_state_of ring.notes).done ≡ length (slot_reads shape ring.notes)
all_slots shape ring size = sym (as_many (slot_state_of ring.notes).done)

packets_taken : (done : List (Offer × ℕ))
    → walked_of (slots_taken done) ≡ map slot_packet_of (offers_in done)
unfolding walked_of
packets_taken [] = refl
packets_taken (slot ∷ done) =
    ap (λ (ps : List Packet). slot_packet_of slot.0 ∷ ps) (packets_taken done)

texts_taken : (shape : RingRequest) (done : List (Offer × ℕ))
    → texts_by text_of_slot shape (slots_taken done) ≡ slot_texts_of done
unfolding texts_by slot_texts_of
texts_taken shape [] = refl
texts_taken shape (slot ∷ done) =
    ap (λ (bytes : List ℕ). slot_text slot.1 (slot_packet_of slot.0) ++ bytes)
    (texts_taken shape done)

dump_taken : (shape : RingRequest) (notes : List Note)
    → texts_by text_of_slot shape (slot_reads shape notes) ≡ slot_dump_of notes
unfolding slot_dump_of
dump_taken shape notes = texts_taken shape (slot_state_of notes).done

pub slots_read_back : (shape : RingRequest) (notes : List Note)
    → IsWholeBy Slots (slot_size_of shape) notes
    → IsReadBack (slot_rules shape) (λ of slot. text_of_slot of slot) shape
    (slot_reads shape notes) notes
slots_read_back shape notes run =
    let done = (slot_state_of notes).done in
    record {
      packets = packets_taken done
          ∙ ap (λ (offers : List Offer). map slot_packet_of offers)
          (kept_from first_slot_state notes);
      bytes = dump_taken shape notes;
      many = as_many done;
    }
