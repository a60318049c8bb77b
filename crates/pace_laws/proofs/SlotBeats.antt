-- The events of the schedule of a ring of slots, each at its moment.
use Rattle.std.proofs.Common.{◌≡◌, ℕ, ◌+◌, ◌-◌, ◌*◌, ◌≤◌, false, List, [], ◌∷◌, ◌++◌, max, refl, sym, ap, ◌∙◌, subst, arith}
use Rattle.std.specs.Prelude.{map}
use Rattle.ring_sizes.specs.Schedules.{IsPace, steps_before, steps_from}
use Rattle.ring_sizes.specs.declared.events.Event.TheVariants.{Packet}
use Rattle.ring_sizes.specs.declared.paces.Arrival.{Arrival}
use Rattle.ring_sizes.specs.declared.paces.Timing.{Timing}
use Rattle.ring_sizes.specs.declared.paces.StallTime.{StallTime}
use Rattle.slot_sizes.specs.SlotSchedules.{slot_schedule_from}
use Rattle.pace_laws.proofs.BeatKinds.{ComeIn, all_by, in_join, later_one, steps_are}
use Rattle.pace_laws.proofs.BeatOrder.{in_run}
use Rattle.pace_laws.proofs.Beats.{in_events, joined_events, packet_of, steps_in}
use Rattle.pace_laws.proofs.Orders.{Kind, OfPacket, OfRead, OfTick, Runs, Stamped, all_of, is_same, kinds_append, none_of}
use Rattle.pace_laws.proofs.Orders.{of_kind}
use Rattle.pace_laws.proofs.Orders.{runs_on}
use Rattle.pace_laws.proofs.Spreads.{events_in, spread}

module _ (stalls : List StallTime) (pace : Timing) (slots : ℕ) where
  abbrev in_time : ℕ → ℕ → List Stamped
  in_time since at = steps_in stalls pace slots since at

  abbrev pub slots_stamped : ℕ → ℕ → List Arrival → List Stamped
  slots_stamped end since [] = in_time since (end + 1)
  slots_stamped end since (arrival ∷ arrivals) =
      let at = max since arrival.at in
      in_time since at ++ record { at = at; event = Packet arrival.need } ∷ slots_stamped end at arrivals

  pub slots_events : (end since : ℕ) (arrivals : List Arrival)
      → events_in (slots_stamped end since arrivals) ≡ spread slots (slot_schedule_from stalls pace end since arrivals)
  slots_events end since [] = in_events stalls pace slots since (end + 1)
  slots_events end since (arrival ∷ arrivals) =
      let at = max since arrival.at in
      joined_events stalls pace slots (in_time since at) (slots_stamped end at arrivals)
      (record { at = at; event = Packet arrival.need }) (steps_from stalls pace since at)
      (slot_schedule_from stalls pace end at arrivals) (Packet arrival.need) (in_events stalls pace slots since at) refl refl
      (slots_events end at arrivals)

  time_none : (kind : Kind) (since at : ℕ) → is_same kind OfRead ≡ false → of_kind kind (in_time since at) ≡ []
  time_none kind since at e =
      none_of kind OfRead (in_time since at)
      (steps_are stalls pace slots (steps_before pace since) (steps_before pace at - steps_before pace since)) e

  time_all : (since at : ℕ) → of_kind OfRead (in_time since at) ≡ in_time since at
  time_all since at =
      all_of OfRead (in_time since at)
      (steps_are stalls pace slots (steps_before pace since) (steps_before pace at - steps_before pace since))

  parts_of : (kind : Kind) (end since : ℕ) (arrival : Arrival) (arrivals : List Arrival) → since ≤ arrival.at
      → of_kind kind (slots_stamped end since (arrival ∷ arrivals))
      ≡ of_kind kind (in_time since arrival.at) ++ of_kind kind (packet_of arrival ∷ slots_stamped end arrival.at arrivals)
  parts_of kind end since arrival arrivals l =
      ap (λ (at : ℕ). of_kind kind (in_time since at
      ++ record { at = at; event = Packet arrival.need } ∷ slots_stamped end at arrivals)) (later_one since arrival.at l)
      ∙ kinds_append kind (in_time since arrival.at) (packet_of arrival ∷ slots_stamped end arrival.at arrivals)

  pub slots_ticks : (end since : ℕ) (arrivals : List Arrival) → ComeIn since arrivals end
      → of_kind OfTick (slots_stamped end since arrivals) ≡ []
  slots_ticks end since [] h = time_none OfTick since (end + 1) refl
  slots_ticks end since (arrival ∷ arrivals) h =
      parts_of OfTick end since arrival arrivals h.0
      ∙ ap (λ (front : List Stamped). front ++ of_kind OfTick (slots_stamped end arrival.at arrivals))
      (time_none OfTick since arrival.at refl)
      ∙ slots_ticks end arrival.at arrivals h.1

  pub slots_packets : (end since : ℕ) (arrivals : List Arrival) → ComeIn since arrivals end
      → of_kind OfPacket (slots_stamped end since arrivals) ≡ map packet_of arrivals
  slots_packets end since [] h = time_none OfPacket since (end + 1) refl
  slots_packets end since (arrival ∷ arrivals) h =
      parts_of OfPacket end since arrival arrivals h.0
      ∙ ap (λ (front : List Stamped). front ++ packet_of arrival ∷ of_kind OfPacket (slots_stamped end arrival.at arrivals))
      (time_none OfPacket since arrival.at refl)
      ∙ ap (λ (rest : List Stamped). packet_of arrival ∷ rest) (slots_packets end arrival.at arrivals h.1)

  pub slots_reads : (sound : IsPace pace) (end since : ℕ) (arrivals : List Arrival) → ComeIn since arrivals end
      → of_kind OfRead (slots_stamped end since arrivals) ≡ in_time since (end + 1)
  slots_reads sound end since [] h = time_all since (end + 1)
  slots_reads sound end since (arrival ∷ arrivals) h =
      let at = arrival.at in
      parts_of OfRead end since arrival arrivals h.0
      ∙ ap (λ (front : List Stamped). front ++ of_kind OfRead (slots_stamped end at arrivals)) (time_all since at)
      ∙ ap (λ (back : List Stamped). in_time since at ++ back) (slots_reads sound end at arrivals h.1)
      ∙ in_join stalls pace slots sound since at (end + 1) h.0 (omega (arith, all_by at arrivals end h.1))

  pub slots_run : (sound : IsPace pace) (end since : ℕ) (arrivals : List Arrival) → ComeIn since arrivals end
      → Runs (3 * since + 1) (slots_stamped end since arrivals) (3 * (end + 1))
  slots_run sound end since [] h =
      in_run stalls pace slots sound (3 * since + 1) since (end + 1) (3 * (end + 1)) (omega arith) (omega arith)
      (omega (arith, h))
  slots_run sound end since (arrival ∷ arrivals) h =
      let at = arrival.at in
      let whole : Runs (3 * since + 1) (in_time since at ++ packet_of arrival ∷ slots_stamped end at arrivals) (3 * (end + 1)) =
      runs_on (3 * since + 1) (in_time since at) (3 * at + 1) (packet_of arrival ∷ slots_stamped end at arrivals)
      (3 * (end + 1))
      (in_run stalls pace slots sound (3 * since + 1) since at (3 * at + 1) (omega arith) (omega arith) (omega (arith, h.0)))
      (omega arith, slots_run sound end at arrivals h.1) in
      subst (λ (at : ℕ). Runs (3 * since + 1) (in_time since at
      ++ record { at = at; event = Packet arrival.need } ∷ slots_stamped end at arrivals) (3 * (end + 1)))
      (sym (later_one since at h.0)) whole
