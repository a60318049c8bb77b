-- An end represents the text of one more slot.
use Rattle.std.proofs.Common.{◌≡◌, ℕ, zero, suc, ◌+◌, ◌≤◌, ◌^◌, List, [], ◌∷◌, ◌++◌, length, drop, refl, sym, subst, ap, ◌∙◌}
use Rattle.std.proofs.Common.{arith, length-append}
use Rattle.ring_model.specs.declared.notes.Found.TheVariants.{Free}
use Rattle.ring_model.specs.declared.notes.Note.TheVariants.{Kept}
use Rattle.ring_model.specs.declared.notes.Offer.{Offer}
use Rattle.ring_words.specs.Rings.{Entry, Feed}
use Rattle.slot_layout.specs.SlotDump.{slot_packet_of}
use Rattle.slot_layout.specs.SlotTexts.{SlotBegins}
use Rattle.slot_layout.specs.SlotSteps.{SlotState, slot_after, slot_status}
use Rattle.tp_layout.specs.declared.requests.RingRequest.{RingRequest}
use Rattle.v2_ring.specs.SlotContents.{AreSlotTexts, RepresentsSlots}
use Rattle.v2_ring.specs.SlotMachines.{IsSlotAt}
use Rattle.v2_ring.specs.declared.machine.SlotMachine.{SlotMachine}

drop_push : {X : Type 0} (count : ℕ) (all : List X) (x : X) → count ≤ length all
    → drop count (all ++ x ∷ []) ≡ drop count all ++ x ∷ []
drop_push zero all x within = refl
drop_push (suc count) [] x within = absurd (omega arith)
drop_push (suc count) (y ∷ all) x within = drop_push count all x (omega arith)

texts_push : (shape : RingRequest) (entries : List Entry) (done : List (Offer × ℕ)) (entry : Entry) (slot : Offer × ℕ)
    → AreSlotTexts shape entries done → SlotBegins shape slot.1 (slot_packet_of slot.0) entry.0 → entry.1 ≡ slot.1
    → AreSlotTexts shape (entries ++ entry ∷ []) (done ++ slot ∷ [])
texts_push shape [] [] entry slot all text status = (text, status, tt)
texts_push shape [] (b ∷ done) entry slot all text status = elim all [ ]
texts_push shape (e ∷ entries) [] entry slot all text status = elim all [ ]
texts_push shape (e ∷ entries) (b ∷ done) entry slot all text status =
    (all.0, all.1, texts_push shape entries done entry slot all.2 text status)

-- the end's list with the entry after it, given that the end reported retiring it
represents_push : (shape : RingRequest) (done : List (Offer × ℕ)) (before after : Feed) (entry : Entry) (slot : Offer × ℕ)
    → RepresentsSlots shape done before → after.retired ≡ before.retired + 1 → after.passed ≡ before.passed
    → after.shown ≡ before.shown ++ entry ∷ []
    → SlotBegins shape slot.1 (slot_packet_of slot.0) entry.0 → entry.1 ≡ slot.1
    → RepresentsSlots shape (done ++ slot ∷ []) after
represents_push shape done before after entry slot (all, represents, texts) retired passed shown text status =
    let more = length-append all (entry ∷ []) in
    let count = represents.count in
    let front = represents.front in
    let within : before.passed ≤ length all = omega arith in (
      all ++ entry ∷ [],
      record {
        count = omega arith;
        front = omega arith;
        rest = rw (passed, shown) (drop_push before.passed all entry within ∙ ap (λ es. es ++ entry ∷ []) represents.rest);
      },
      texts_push shape all done entry slot texts text status,
    )

-- the machine has filled a slot
pub filled_at : {E : Type 0} (feed : E → Feed) (state : SlotState) (machine : SlotMachine E) (offer : Offer) (after : E)
    (content : List ℕ) (status : ℕ) (room : _)
    → IsSlotAt feed 1 state machine → status ≡ slot_status state offer
    → feed after ≡ record (feed machine.end) {
      retired = (feed machine.end).retired + 1;
      shown = (feed machine.end).shown ++ (content, status) ∷ [];
    }
    → SlotBegins machine.shape status (slot_packet_of offer) content
    → IsSlotAt feed 0 (slot_after state (Kept offer Free))
    (record machine { end = after; kept = machine.kept + 1; room = room })
filled_at feed state machine offer after content status room at status_is retires begins =
    let slot : Offer × ℕ = (offer, slot_status state offer) in
    let text : SlotBegins machine.shape slot.1 (slot_packet_of slot.0) content =
    subst (λ (s : ℕ). SlotBegins machine.shape s (slot_packet_of offer) content) status_is begins in
    let count = length-append state.done (slot ∷ []) in
    let given = ap (λ (f : Feed). f.given) retires in
    let retired = ap (λ (f : Feed). f.retired) retires in
    record {
      checked = at.checked;
      places = ap (λ (f : Feed). f.ring.places) retires ∙ at.places;
      kind = ap (λ (f : Feed). f.ring.kind) retires ∙ at.kind;
      far = subst (λ n. 2 ^ 40 ≤ n) (sym (ap (λ (f : Feed). f.ring.bound) retires)) at.far;
      given = omega (arith, given, at.given, count);
      retired_is = omega (arith, retired, at.retired_is, count);
      texts = represents_push machine.shape state.done (feed machine.end) (feed after) (content, status) slot at.texts
          retired (ap (λ (f : Feed). f.passed) retires) (ap (λ (f : Feed). f.shown) retires) text status_is;
      kept_is = omega (arith, at.kept_is);
      dropped_is = at.dropped_is;
    }
