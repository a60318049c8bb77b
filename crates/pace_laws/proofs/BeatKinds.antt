-- The ticks, packets and reads of a schedule.
use Rattle.std.proofs.Common.{◌≡◌, ℕ, zero, suc, ◌+◌, ◌-◌, ◌<◌, ◌≤◌, Bool, true, false, List, [], ◌∷◌, ◌++◌}
use Rattle.std.proofs.Common.{max, replicate, refl, ap, ◌∙◌, arith, append_assoc}
use Rattle.std.specs.Prelude.{map}
use Rattle.ring_sizes.specs.Schedules.{IsPace, is_stalled, step_moment, steps_before, tick_moment, ticks_by}
use Rattle.ring_sizes.specs.declared.events.Event.TheVariants.{Packet, Read}
use Rattle.ring_sizes.specs.declared.paces.Arrival.{Arrival}
use Rattle.ring_sizes.specs.declared.paces.Timing.{Timing}
use Rattle.ring_sizes.specs.declared.paces.StallTime.{StallTime}
use Rattle.ring_sizes.proofs.Counts.{next_tick, steps_rise, tick_comes, ticks_rise}
use Rattle.pace_laws.proofs.Beats.{beats_in, beats_on, each, packet_of, reads_at, stamped_from, step_reads, steps_in}
use Rattle.pace_laws.proofs.Beats.{steps_on, tick_of, ticks_on}
use Rattle.pace_laws.proofs.Orders.{AreOf, Kind, OfPacket, OfRead, OfTick, Stamped, all_of, are_append, kinds_append, none_of}
use Rattle.pace_laws.proofs.Orders.{of_kind}

-- frames in the order of their moments, from one on and to another
abbrev pub ComeIn : ℕ → List Arrival → ℕ → Type 0
ComeIn since [] end = since ≤ end
ComeIn since (arrival ∷ arrivals) end = (since ≤ arrival.at) × ComeIn arrival.at arrivals end

pub all_by : (since : ℕ) (arrivals : List Arrival) (end : ℕ) → ComeIn since arrivals end → since ≤ end
all_by since [] end h = h
all_by since (arrival ∷ arrivals) end h = omega (arith, h.0, all_by arrival.at arrivals end h.1)

pub comes_sooner : (since after : ℕ) (arrivals : List Arrival) (end : ℕ) → since ≤ after → ComeIn after arrivals end
    → ComeIn since arrivals end
comes_sooner since after [] end l h = omega (arith, l, h)
comes_sooner since after (arrival ∷ arrivals) end l h = (omega (arith, l, h.0), h.1)

pub later_one : (since at : ℕ) → since ≤ at → max since at ≡ at
later_one since at h = omega (arith, h)

pub ticks_join : (pace : Timing) (ticks a b : ℕ)
    → ticks_on pace ticks a ++ ticks_on pace (ticks + a) b ≡ ticks_on pace ticks (a + b)
ticks_join pace ticks zero b =
    let at : ticks + 0 ≡ ticks = omega arith in
    let more : b ≡ 0 + b = omega arith in
    ap (λ (ticks : ℕ). ticks_on pace ticks b) at ∙ ap (ticks_on pace ticks) more
ticks_join pace ticks (suc a) b =
    let at : ticks + suc a ≡ ticks + 1 + a = omega arith in
    let more : suc (a + b) ≡ suc a + b = omega arith in
    ap (λ (n : ℕ). tick_of pace (ticks + 1) ∷ (ticks_on pace (ticks + 1) a ++ ticks_on pace n b)) at
    ∙ ap (λ (rest : List Stamped). tick_of pace (ticks + 1) ∷ rest) (ticks_join pace (ticks + 1) a b)
    ∙ ap (ticks_on pace ticks) more

ticks_are : (pace : Timing) (ticks more : ℕ) → AreOf OfTick (ticks_on pace ticks more)
ticks_are pace ticks zero = tt
ticks_are pace ticks (suc more) = (refl, ticks_are pace (ticks + 1) more)

same_are : (at n : ℕ) → AreOf OfRead (replicate n (record { at = at; event = Read }))
same_are at zero = tt
same_are at (suc n) = (refl, same_are at n)

reads_are : (stalled : Bool) (at n : ℕ) → AreOf OfRead (reads_at stalled at n)
reads_are true at n = tt
reads_are false at n = same_are at n

packets_are : (arrivals : List Arrival) → AreOf OfPacket (map packet_of arrivals)
packets_are [] = tt
packets_are (arrival ∷ arrivals) = (refl, packets_are arrivals)

module _ (stalls : List StallTime) (pace : Timing) (blocks : ℕ) where
  abbrev steps : ℕ → ℕ → List Stamped
  steps done more = steps_on stalls pace blocks done more

  pub steps_are : (done more : ℕ) → AreOf OfRead (steps done more)
  steps_are done zero = tt
  steps_are done (suc more) =
      are_append OfRead (step_reads stalls pace blocks (done + 1)) (steps (done + 1) more)
      (reads_are (is_stalled stalls (step_moment pace (done + 1))) (step_moment pace (done + 1)) (each stalls pace blocks))
      (steps_are (done + 1) more)

  pub steps_join : (done a b : ℕ) → steps done a ++ steps (done + a) b ≡ steps done (a + b)
  steps_join done zero b =
      let at : done + 0 ≡ done = omega arith in
      let more : b ≡ 0 + b = omega arith in
      ap (λ (done : ℕ). steps done b) at ∙ ap (steps done) more
  steps_join done (suc a) b =
      let at : done + suc a ≡ done + 1 + a = omega arith in
      let more : suc (a + b) ≡ suc a + b = omega arith in
      let one = step_reads stalls pace blocks (done + 1) in
      append_assoc one (steps (done + 1) a) (steps (done + suc a) b)
      ∙ ap (λ (n : ℕ). one ++ (steps (done + 1) a ++ steps n b)) at
      ∙ ap (λ (rest : List Stamped). one ++ rest) (steps_join (done + 1) a b)
      ∙ ap (steps done) more

  abbrev in_time : ℕ → ℕ → List Stamped
  in_time since at = steps_in stalls pace blocks since at

  pub in_join : (sound : IsPace pace) (since middle at : ℕ) → since ≤ middle → middle ≤ at
      → in_time since middle ++ in_time middle at ≡ in_time since at
  in_join sound since middle at l m =
      let a = steps_rise pace since middle sound l in
      let b = steps_rise pace middle at sound m in
      let from : steps_before pace middle ≡ steps_before pace since + (steps_before pace middle - steps_before pace since) =
      omega (arith, a) in
      let all : steps_before pace middle - steps_before pace since + (steps_before pace at - steps_before pace middle)
      ≡ steps_before pace at - steps_before pace since = omega (arith, a, b) in
      ap (λ (n : ℕ). in_time since middle ++ steps n (steps_before pace at - steps_before pace middle)) from
      ∙ steps_join (steps_before pace since) (steps_before pace middle - steps_before pace since)
      (steps_before pace at - steps_before pace middle)
      ∙ ap (steps (steps_before pace since)) all

  -- ---- beats

  abbrev beating : ℕ → ℕ → ℕ → ℕ → List Stamped
  beating more ticks since at = beats_on stalls pace blocks more ticks since at

  -- the next ticks after so many come between these moments
  abbrev TicksIn : ℕ → ℕ → ℕ → ℕ → Type 0
  TicksIn more ticks since at =
      (n : ℕ) → ticks < n → n ≤ ticks + more → (since ≤ tick_moment pace n) × (tick_moment pace n ≤ at)

  tick_order : (one other : ℕ) → one ≤ other → tick_moment pace one ≤ tick_moment pace other
  tick_order one other h = grind arith

  ticks_after : (more ticks since at : ℕ) → TicksIn (suc more) ticks since at
      → TicksIn more (ticks + 1) (tick_moment pace (ticks + 1)) at
  ticks_after more ticks since at t =
      λ n later few. (tick_order (ticks + 1) n (omega (arith, later)), (t n (omega (arith, later)) (omega (arith, few))).1)

  beat_ticks : (more ticks since at : ℕ) → of_kind OfTick (beating more ticks since at) ≡ ticks_on pace ticks more
  beat_ticks zero ticks since at =
      none_of OfTick OfRead (in_time since at)
      (steps_are (steps_before pace since) (steps_before pace at - steps_before pace since)) refl
  beat_ticks (suc more) ticks since at =
      let next = tick_moment pace (ticks + 1) in
      kinds_append OfTick (in_time since next) (tick_of pace (ticks + 1) ∷ beating more (ticks + 1) next at)
      ∙ ap (λ (front : List Stamped). front ++ tick_of pace (ticks + 1) ∷ of_kind OfTick (beating more (ticks + 1) next at))
      (none_of OfTick OfRead (in_time since next)
      (steps_are (steps_before pace since) (steps_before pace next - steps_before pace since)) refl)
      ∙ ap (λ (rest : List Stamped). tick_of pace (ticks + 1) ∷ rest) (beat_ticks more (ticks + 1) next at)

  beat_packets : (more ticks since at : ℕ) → of_kind OfPacket (beating more ticks since at) ≡ []
  beat_packets zero ticks since at =
      none_of OfPacket OfRead (in_time since at)
      (steps_are (steps_before pace since) (steps_before pace at - steps_before pace since)) refl
  beat_packets (suc more) ticks since at =
      let next = tick_moment pace (ticks + 1) in
      kinds_append OfPacket (in_time since next) (tick_of pace (ticks + 1) ∷ beating more (ticks + 1) next at)
      ∙ ap (λ (front : List Stamped). front ++ of_kind OfPacket (beating more (ticks + 1) next at))
      (none_of OfPacket OfRead (in_time since next)
      (steps_are (steps_before pace since) (steps_before pace next - steps_before pace since)) refl)
      ∙ beat_packets more (ticks + 1) next at

  beat_reads : (sound : IsPace pace) (more ticks since at : ℕ) → since ≤ at → TicksIn more ticks since at
      → of_kind OfRead (beating more ticks since at) ≡ in_time since at
  beat_reads sound zero ticks since at l t =
      all_of OfRead (in_time since at)
      (steps_are (steps_before pace since) (steps_before pace at - steps_before pace since))
  beat_reads sound (suc more) ticks since at l t =
      let next = tick_moment pace (ticks + 1) in
      let here = t (ticks + 1) (omega arith) (omega arith) in
      kinds_append OfRead (in_time since next) (tick_of pace (ticks + 1) ∷ beating more (ticks + 1) next at)
      ∙ ap (λ (front : List Stamped). front ++ of_kind OfRead (beating more (ticks + 1) next at))
      (all_of OfRead (in_time since next)
      (steps_are (steps_before pace since) (steps_before pace next - steps_before pace since)))
      ∙ ap (λ (back : List Stamped). in_time since next ++ back)
      (beat_reads sound more (ticks + 1) next at here.1 (ticks_after more ticks since at t))
      ∙ in_join sound since next at here.0 here.1

  -- the ticks after those by one moment, and by another, come between
  pub ticks_between : (sound : IsPace pace) (since by : ℕ) → since ≤ by
      → (n : ℕ) → ticks_by pace since < n → n ≤ ticks_by pace since + (ticks_by pace by - ticks_by pace since)
      → (since < tick_moment pace n) × (tick_moment pace n ≤ by)
  ticks_between sound since by l = λ n later few.
      let rise = ticks_rise pace since by sound.tov l in
      let next = next_tick pace since sound.tov in (
        omega (arith, next, tick_order (ticks_by pace since + 1) n (omega (arith, later))),
        (tick_comes pace by n sound.tov).0 (omega (arith, few, rise)),
      )

  ticks_inside : (sound : IsPace pace) (since by at : ℕ) → since ≤ by → by ≤ at
      → TicksIn (ticks_by pace by - ticks_by pace since) (ticks_by pace since) since at
  ticks_inside sound since by at l m = λ n later few.
      let here = ticks_between sound since by l n later few in (omega (arith, here.0), omega (arith, here.1, m))

  -- ---- the schedule

  abbrev stamped : ℕ → ℕ → List Arrival → List Stamped
  stamped end since arrivals = stamped_from stalls pace blocks end since arrivals

  -- after a frame, of whose kind the beats before it have this
  parts_of : (kind : Kind) (end since : ℕ) (arrival : Arrival) (arrivals : List Arrival) → since ≤ arrival.at
      → of_kind kind (stamped end since (arrival ∷ arrivals))
      ≡ of_kind kind (beats_in stalls pace blocks since arrival.at arrival.at)
      ++ of_kind kind (packet_of arrival ∷ stamped end arrival.at arrivals)
  parts_of kind end since arrival arrivals l =
      ap (λ (at : ℕ). of_kind kind (beats_in stalls pace blocks since at at
      ++ record { at = at; event = Packet arrival.need } ∷ stamped end at arrivals)) (later_one since arrival.at l)
      ∙ kinds_append kind (beats_in stalls pace blocks since arrival.at arrival.at)
      (packet_of arrival ∷ stamped end arrival.at arrivals)

  pub stamped_ticks : (sound : IsPace pace) (end since : ℕ) (arrivals : List Arrival) → ComeIn since arrivals end
      → of_kind OfTick (stamped end since arrivals)
      ≡ ticks_on pace (ticks_by pace since) (ticks_by pace end - ticks_by pace since)
  stamped_ticks sound end since [] h =
      beat_ticks (ticks_by pace end - ticks_by pace since) (ticks_by pace since) since (end + 1)
  stamped_ticks sound end since (arrival ∷ arrivals) h =
      let at = arrival.at in
      let a = ticks_rise pace since at sound.tov h.0 in
      let b = ticks_rise pace at end sound.tov (all_by at arrivals end h.1) in
      let from : ticks_by pace at ≡ ticks_by pace since + (ticks_by pace at - ticks_by pace since) = omega (arith, a) in
      let all : ticks_by pace at - ticks_by pace since + (ticks_by pace end - ticks_by pace at)
      ≡ ticks_by pace end - ticks_by pace since = omega (arith, a, b) in
      parts_of OfTick end since arrival arrivals h.0
      ∙ ap (λ (front : List Stamped). front ++ of_kind OfTick (stamped end at arrivals))
      (beat_ticks (ticks_by pace at - ticks_by pace since) (ticks_by pace since) since at)
      ∙ ap (λ (back : List Stamped). ticks_on pace (ticks_by pace since) (ticks_by pace at - ticks_by pace since) ++ back)
      (stamped_ticks sound end at arrivals h.1)
      ∙ ap (λ (n : ℕ). ticks_on pace (ticks_by pace since) (ticks_by pace at - ticks_by pace since)
      ++ ticks_on pace n (ticks_by pace end - ticks_by pace at)) from
      ∙ ticks_join pace (ticks_by pace since) (ticks_by pace at - ticks_by pace since)
      (ticks_by pace end - ticks_by pace at)
      ∙ ap (ticks_on pace (ticks_by pace since)) all

  pub stamped_packets : (end since : ℕ) (arrivals : List Arrival) → ComeIn since arrivals end
      → of_kind OfPacket (stamped end since arrivals) ≡ map packet_of arrivals
  stamped_packets end since [] h =
      beat_packets (ticks_by pace end - ticks_by pace since) (ticks_by pace since) since (end + 1)
  stamped_packets end since (arrival ∷ arrivals) h =
      let at = arrival.at in
      parts_of OfPacket end since arrival arrivals h.0
      ∙ ap (λ (front : List Stamped). front ++ packet_of arrival ∷ of_kind OfPacket (stamped end at arrivals))
      (beat_packets (ticks_by pace at - ticks_by pace since) (ticks_by pace since) since at)
      ∙ ap (λ (back : List Stamped). packet_of arrival ∷ back) (stamped_packets end at arrivals h.1)

  pub stamped_reads : (sound : IsPace pace) (end since : ℕ) (arrivals : List Arrival) → ComeIn since arrivals end
      → of_kind OfRead (stamped end since arrivals) ≡ in_time since (end + 1)
  stamped_reads sound end since [] h =
      beat_reads sound (ticks_by pace end - ticks_by pace since) (ticks_by pace since) since (end + 1) (omega (arith, h))
      (ticks_inside sound since end (end + 1) h (omega arith))
  stamped_reads sound end since (arrival ∷ arrivals) h =
      let at = arrival.at in
      parts_of OfRead end since arrival arrivals h.0
      ∙ ap (λ (front : List Stamped). front ++ of_kind OfRead (stamped end at arrivals))
      (beat_reads sound (ticks_by pace at - ticks_by pace since) (ticks_by pace since) since at h.0
      (ticks_inside sound since at at h.0 (omega arith)))
      ∙ ap (λ (back : List Stamped). in_time since at ++ back) (stamped_reads sound end at arrivals h.1)
      ∙ in_join sound since at (end + 1) h.0 (omega (arith, all_by at arrivals end h.1))
