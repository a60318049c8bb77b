-- A receive ring of slots (TPACKET_V2).
use Rattle.std.specs.Prelude.{ℕ, List, map}
use Rattle.receive_ring.specs.Rings.{Receiving}
use Rattle.run_reports.specs.RingSteps.{RingSteps, slot_steps}
use Rattle.ring_model.specs.declared.notes.Note.{Note}
use Rattle.ring_model.specs.declared.notes.Offer.{Offer}
use Rattle.ring_words.specs.PlainRings.{PlainState}
use Rattle.slot_layout.specs.SlotDump.{slot_packet_of}
use Rattle.slot_layout.specs.SlotLayouts.{slot_taken}
use Rattle.slot_layout.specs.SlotShapes.{slot_size_of}
use Rattle.slot_layout.specs.SlotSteps.{slot_state_of}
use Rattle.tp_layout.specs.Layouts.{Taken}
use Rattle.tp_layout.specs.declared.requests.RingRequest.{RingRequest}
use Rattle.v2_ring.specs.SlotProducers.{SlotProducing}

abbrev pub seen_slots : SlotProducing PlainState → Receiving
seen_slots ring = record { shape = ring.shape; notes = ring.notes; end = ring.end }

abbrev pub steps_of_slots : RingRequest → RingSteps
steps_of_slots shape = slot_steps (slot_size_of shape)

-- filled slots, as they are read
abbrev pub slots_taken : List (Offer × ℕ) → List Taken
slots_taken done = map (λ slot. slot_taken slot.1 (slot_packet_of slot.0)) done

-- what a reader reads of the slots that were filled
abbrev pub slot_reads : RingRequest → List Note → List Taken
slot_reads shape notes = slots_taken (slot_state_of notes).done
