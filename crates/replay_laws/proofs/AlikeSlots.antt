-- Rings of slots that are alike go on alike.
use Rattle.std.proofs.Common.{◌≡◌, ℕ, ◌+◌, Bool, true, false, cond, List, [], ◌∷◌, ◌++◌, length, refl, sym, ap, subst}
use Rattle.std.proofs.Common.{◌∙◌, arith}
use Rattle.std.proofs.Common.{append_assoc, append-nil, length-append}
use Rattle.std.specs.Prelude.{map, nat_lt}
use Rattle.std.proofs.lemmas.Grind.{common_steps}
use Rattle.std.proofs.lemmas.List.{map-append}
use Rattle.run_reports.specs.RingSteps.{slot_steps}
use Rattle.replay_laws.specs.Alone.{all_happened_by, happened_by}
use Rattle.replay_laws.specs.AlikeSlots.{IsLikeSlotRing, IsLikeSlotState, KeepsTags, SlotsWentOnAlike, renamed_slot}
use Rattle.ring_events.specs.declared.events.Happening.{Happening}
use Rattle.ring_events.specs.declared.events.Happening.TheVariants.{Put, Try, Read, ReadAll, Tick, Count}
use Rattle.ring_laws.specs.Alike.{AreBlocks, AreLikeHappenings, Gap, IsLikeFound, IsLikeHappening, IsLikeNote, KeepsSnaps}
use Rattle.ring_laws.proofs.LikeNotes.{look_like, put_by_like, try_by_like}
use Rattle.ring_laws.proofs.LikeRings.{notes_append, unread_same}
use Rattle.ring_model.specs.Ring.{Size}
use Rattle.ring_model.specs.Rings.{Ring, noted}
use Rattle.ring_model.specs.declared.notes.Found.{Found}
use Rattle.ring_model.specs.declared.notes.Note.{Note}
use Rattle.ring_model.specs.declared.notes.Note.TheVariants.{Kept, Refused, Dropped, Ticked, Counted, Finished}
use Rattle.ring_model.specs.declared.notes.Offer.{Offer}
use Rattle.slot_layout.specs.SlotReleases.{slot_look}
use Rattle.slot_layout.specs.SlotRings.{slot_state}
use Rattle.slot_layout.specs.SlotSteps.{SlotState, next_slot, slot_after, slot_status}
use Rattle.slot_layout.proofs.Runs.{slot_state_push}

-- what a note made of both
record SlotSteps (gap : Gap) (one other later other_later : SlotState) : Type 0 where
  slots : List (Offer × ℕ)
  first : later.done ≡ one.done ++ slots
  second : other_later.done ≡ other.done ++ map (renamed_slot gap) slots
  like : IsLikeSlotState gap later other_later

module _ (gap : Gap) (snaps : KeepsSnaps gap) (tags : KeepsTags gap) where
  -- no slot is filled
  stays : (one other later other_later : SlotState) → IsLikeSlotState gap one other → later.done ≡ one.done
      → other_later.done ≡ other.done → nat_lt 0 other_later.dropped ≡ nat_lt 0 later.dropped
      → SlotSteps gap one other later other_later
  stays one other later other_later h first second losing =
      let long = ap length first in
      let other_long = ap length second in
      record {
        slots = [];
        first = first ∙ sym (append-nil one.done);
        second = second ∙ sym (append-nil other.done);
        like = record { done = omega (arith, h.done, long, other_long); losing = losing };
      }

  status_same : (one other : SlotState) (offer : Offer) → IsLikeSlotState gap one other
      → slot_status other (gap.offer offer) ≡ slot_status one offer
  status_same one other offer h = cc (h.losing, tags offer)

  fills : (one other : SlotState) (offer : Offer) (found second : Found) → IsLikeSlotState gap one other
      → SlotSteps gap one other (slot_after one (Kept offer found)) (slot_after other (Kept (gap.offer offer) second))
  fills one other offer found second h =
      let slot : Offer × ℕ = (offer, slot_status one offer) in
      let other_slot : Offer × ℕ = (gap.offer offer, slot_status other (gap.offer offer)) in
      record {
        slots = slot ∷ [];
        first = refl;
        second = ap (λ (status : ℕ). other.done ++ (gap.offer offer, status) ∷ []) (status_same one other offer h);
        like = record {
          done = omega (arith, h.done, length-append one.done (slot ∷ []), length-append other.done (other_slot ∷ []));
          losing = h.losing;
        };
      }

  some_lost : (n : ℕ) → nat_lt 0 (n + 1) ≡ true
  some_lost n = grind (arith, common_steps)

  after_like : (one other : SlotState) (note second : Note) → IsLikeSlotState gap one other → IsLikeNote gap note second
      → SlotSteps gap one other (slot_after one note) (slot_after other second)
  after_like one other (Kept offer found) (Kept named other_found) h k =
      subst (λ (named : Offer). SlotSteps gap one other (slot_after one (Kept offer found))
      (slot_after other (Kept named other_found)))
      (sym k.0) (fills one other offer found other_found h)
  after_like one other (Refused cpu index need number) (Refused of second other_need other_number) h k =
      stays one other one other h refl refl h.losing
  after_like one other (Dropped cpu index need number) (Dropped of second other_need other_number) h k =
      stays one other _ _ h refl refl (some_lost other.dropped ∙ sym (some_lost one.dropped))
  after_like one other (Ticked ms found) (Ticked second other_found) h k = stays one other one other h refl refl h.losing
  after_like one other Counted Counted h k = stays one other _ _ h refl refl refl
  after_like one other Finished Finished h k = stays one other one other h refl refl h.losing
  after_like one other note second h k = absurd k

  noted_like : (one other : Ring) (note second : Note) → IsLikeSlotRing gap one other → IsLikeNote gap note second
      → SlotsWentOnAlike gap one other (noted one note) (noted other second)
  noted_like one other note second h k =
      let steps = after_like (slot_state one) (slot_state other) note second h.states k in
      let later = slot_state_push one.notes note in
      let other_later = slot_state_push other.notes second in
      record {
        notes = note ∷ [];
        other_notes = second ∷ [];
        notes_are = refl;
        other_notes_are = refl;
        same_notes = (k, tt);
        slots = steps.slots;
        slots_are = ap (λ (s : SlotState). s.done) later ∙ steps.first;
        other_slots_are = ap (λ (s : SlotState). s.done) other_later ∙ steps.second;
        rings = record {
          slots = h.slots;
          states = subst (λ (s : SlotState). IsLikeSlotState gap s (slot_state (noted other second))) (sym later)
              (subst (λ (s : SlotState). IsLikeSlotState gap (slot_after (slot_state one) note) s)
              (sym other_later) steps.like);
          released = h.released;
        };
      }

  found_like : (one other : Ring) → IsLikeSlotRing gap one other
      → IsLikeFound gap (slot_look one.size.blocks one.released (slot_state one))
      (slot_look other.size.blocks other.released (slot_state other))
  found_like one other h =
      subst (λ (slots : ℕ). IsLikeFound gap (slot_look one.size.blocks one.released (slot_state one))
      (slot_look slots other.released (slot_state other))) (sym h.slots)
      (look_like gap snaps one.size one.released other.released (next_slot (slot_state one))
      (next_slot (slot_state other)) h.released
      (omega (arith, h.states.done)))

  released_like : (one other : Ring) (released other_released : ℕ) → IsLikeSlotRing gap one other
      → AreBlocks gap released other_released
      → SlotsWentOnAlike gap one other (record one { released = released }) (record other { released = other_released })
  released_like one other released other_released h back = record {
    notes = [];
    other_notes = [];
    notes_are = sym (append-nil one.notes);
    other_notes_are = sym (append-nil other.notes);
    same_notes = tt;
    slots = [];
    slots_are = sym (append-nil (slot_state one).done);
    other_slots_are = sym (append-nil (slot_state other).done);
    rings = record { slots = h.slots; states = h.states; released = back };
  }

  read_like : (one other : Ring) (later : Bool) → IsLikeSlotRing gap one other
      → SlotsWentOnAlike gap one other (cond later (record one { released = one.released + 1 }) one)
      (cond later (record other { released = other.released + 1 }) other)
  read_like one other true h = released_like one other (one.released + 1) (other.released + 1) h (omega (arith, h.released))
  read_like one other false h = released_like one other one.released other.released h h.released

  happening_like : (size : Size) (happening second : Happening) (one other : Ring) → IsLikeSlotRing gap one other
      → IsLikeHappening gap happening second
      → SlotsWentOnAlike gap one other (happened_by (slot_steps size) happening one)
      (happened_by (slot_steps size) second other)
  happening_like size (Put offer) (Put second) one other h k =
      subst (λ (named : Offer). SlotsWentOnAlike gap one other (happened_by (slot_steps size) (Put offer) one)
      (happened_by (slot_steps size) (Put named) other)) (sym k)
      (noted_like one other _ _ h (put_by_like gap snaps one.size offer _ _ (found_like one other h)))
  happening_like size (Try offer) (Try second) one other h k =
      subst (λ (named : Offer). SlotsWentOnAlike gap one other (happened_by (slot_steps size) (Try offer) one)
      (happened_by (slot_steps size) (Try named) other)) (sym k)
      (noted_like one other _ _ h (try_by_like gap snaps one.size offer _ _ (found_like one other h)))
  happening_like size (Tick ms) (Tick second) one other h k = released_like one other one.released other.released h h.released
  happening_like size Read Read one other h k =
      let same = unread_same gap snaps one.size one.released other.released (length (slot_state one).done)
      (length (slot_state other).done)
      h.released h.states.done in
      subst (λ (later : Bool). SlotsWentOnAlike gap one other (happened_by (slot_steps size) Read one)
      (cond later (record other { released = other.released + 1 }) other))
      (sym same)
      (read_like one other (nat_lt one.released (length (slot_state one).done)) h)
  happening_like size ReadAll ReadAll one other h k =
      released_like one other (length (slot_state one).done) (length (slot_state other).done) h h.states.done
  happening_like size Count Count one other h k = noted_like one other Counted Counted h tt
  happening_like size happening second one other h k = absurd k

  then_like : (one other mid other_mid later other_later : Ring) → SlotsWentOnAlike gap one other mid other_mid
      → SlotsWentOnAlike gap mid other_mid later other_later → SlotsWentOnAlike gap one other later other_later
  then_like one other mid other_mid later other_later h k = record {
    notes = h.notes ++ k.notes;
    other_notes = h.other_notes ++ k.other_notes;
    notes_are = k.notes_are ∙ ap (λ (ns : List Note). ns ++ k.notes) h.notes_are ∙ append_assoc one.notes h.notes k.notes;
    other_notes_are = k.other_notes_are ∙ ap (λ (ns : List Note). ns ++ k.other_notes) h.other_notes_are
        ∙ append_assoc other.notes h.other_notes k.other_notes;
    same_notes = notes_append gap snaps one.size h.notes k.notes h.other_notes k.other_notes h.same_notes k.same_notes;
    slots = h.slots ++ k.slots;
    slots_are = k.slots_are ∙ ap (λ (ss : List (Offer × ℕ)). ss ++ k.slots) h.slots_are
        ∙ append_assoc (slot_state one).done h.slots k.slots;
    other_slots_are = k.other_slots_are
        ∙ ap (λ (ss : List (Offer × ℕ)). ss ++ map (renamed_slot gap) k.slots) h.other_slots_are
        ∙ append_assoc (slot_state other).done (map (renamed_slot gap) h.slots) (map (renamed_slot gap) k.slots)
        ∙ ap (λ (ss : List (Offer × ℕ)). (slot_state other).done ++ ss) (sym (map-append (renamed_slot gap) h.slots k.slots));
    rings = k.rings;
  }

  pub slots_go_on_alike : (size : Size) (happenings others : List Happening) (one other : Ring) → IsLikeSlotRing gap one other
      → AreLikeHappenings gap happenings others
      → SlotsWentOnAlike gap one other (all_happened_by (slot_steps size) happenings one)
      (all_happened_by (slot_steps size) others other)
  slots_go_on_alike size [] [] one other h k = released_like one other one.released other.released h h.released
  slots_go_on_alike size [] (second ∷ others) one other h k = absurd k
  slots_go_on_alike size (happening ∷ happenings) [] one other h k = absurd k
  slots_go_on_alike size (happening ∷ happenings) (second ∷ others) one other h k =
      let first = happening_like size happening second one other h k.0 in
      then_like one other _ _ _ _ first (slots_go_on_alike size happenings others _ _ first.rings k.1)
