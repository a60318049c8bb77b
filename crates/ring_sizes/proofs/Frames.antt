-- Frame by frame.
use Rattle.std.proofs.Common.{◌≡◌, ℕ, ◌+◌, ◌<◌, ◌≤◌, Bool, true, false, cond, List, ◌∷◌, ◌++◌, length}
use Rattle.std.proofs.Common.{drop, get_or, drop-cons, add-one, max, sym, ap, ◌∙◌, arith}
use Rattle.std.specs.Prelude.{nat_le}
use Rattle.std.proofs.lemmas.Grind.{common_steps}
use Rattle.std.proofs.lemmas.List.{drop_all}
use Rattle.ring_sizes.specs.Passes.{offered, passed_all, with_next}
use Rattle.ring_sizes.specs.Rests.{IsTicked, rested}
use Rattle.ring_sizes.specs.Schedules.{IsPace, beats_between, schedule_from, steps_before}
use Rattle.ring_sizes.specs.Schedules.{ticks_by}
use Rattle.ring_sizes.specs.declared.events.Event.TheVariants.{Packet}
use Rattle.ring_sizes.specs.declared.paces.Arrival.{Arrival}
use Rattle.ring_sizes.specs.declared.paces.Timing.{Timing}
use Rattle.ring_sizes.specs.declared.paces.StallTime.{StallTime}
use Rattle.ring_sizes.specs.declared.sizes.Pass.{Pass}
use Rattle.ring_sizes.proofs.Counts.{ticks_rise}
use Rattle.ring_sizes.proofs.Gaps.{gap}
use Rattle.ring_sizes.proofs.ReaderSteps.{passed_append}

pub max_below : (one other bound : ℕ) → one < bound → other < bound → max one other < bound
max_below one other bound h k = grind (arith, common_steps)

packet_by : (room need : ℕ) (pace : Timing) (ticks : ℕ) (pass : Pass) (fits : Bool) → IsTicked pace ticks pass
    → IsTicked pace ticks (cond fits (record pass { used = pass.used + need; empty = false })
    (record (with_next pass) { used = need; empty = false; deadline = pass.clock + pace.tov }))
packet_by room need pace ticks pass true h = record { clock = h.clock; deadline = h.deadline }
packet_by room need pace ticks pass false h = record { clock = h.clock; deadline = omega (arith, h.clock) }

pub packet_ticked : (room need : ℕ) (pace : Timing) (ticks : ℕ) (pass : Pass) → IsTicked pace ticks pass
    → IsTicked pace ticks (offered room pace.tov need pass)
packet_ticked room need pace ticks pass h = packet_by room need pace ticks pass (nat_le (pass.used + need) room) h

-- the next frame
pub arrival_goes : (room : ℕ) (stalls : List StallTime) (pace : Timing) (end since at : ℕ) (arrivals : List Arrival) (index : ℕ)
    (default : Arrival) (pass before later total : Pass)
    → IsPace pace → IsTicked pace (ticks_by pace since) pass → index < length arrivals
    → at ≡ max since (get_or arrivals index default).at
    → before ≡ rested stalls pace (ticks_by pace since) (ticks_by pace at) (steps_before pace since) (steps_before pace at) pass
    → later ≡ offered room pace.tov (get_or arrivals index default).need before
    → passed_all room pace.tov (schedule_from stalls pace end since (drop index arrivals)) pass ≡ total
    → passed_all room pace.tov (schedule_from stalls pace end at (drop (index + 1) arrivals)) later ≡ total
arrival_goes room stalls pace end since at arrivals index default pass before later total sound ticked inside is was goes
    whole =
    let arrival = get_or arrivals index default in
    let rest = drop (index + 1) arrivals in
    let head : drop index arrivals ≡ arrival ∷ rest = rw add-one (drop-cons arrivals index default inside) in
    ap (passed_all room pace.tov (schedule_from stalls pace end at rest)) goes
    ∙ ap (λ (p : Pass). passed_all room pace.tov (schedule_from stalls pace end at rest) (offered room pace.tov arrival.need p))
    (was ∙ sym (gap room stalls pace sound (ticks_by pace at) since at pass ticked (omega arith)))
    ∙ sym (passed_append room pace.tov (beats_between stalls pace since at)
    (Packet arrival.need ∷ schedule_from stalls pace end at rest) pass)
    ∙ ap (λ (n : ℕ). passed_all room pace.tov
    (beats_between stalls pace since n ++ Packet arrival.need ∷ schedule_from stalls pace end n rest) pass) is
    ∙ ap (λ (left : List Arrival). passed_all room pace.tov (schedule_from stalls pace end since left) pass) (sym head)
    ∙ whole

-- what comes after the last frame
pub end_goes : (room : ℕ) (stalls : List StallTime) (pace : Timing) (end since last steps : ℕ) (arrivals : List Arrival)
    (index : ℕ)
    (pass later total : Pass)
    → IsPace pace → IsTicked pace (ticks_by pace since) pass → length arrivals ≤ index
    → last ≡ ticks_by pace end → steps ≡ steps_before pace (end + 1)
    → later ≡ rested stalls pace (ticks_by pace since) last (steps_before pace since) steps pass
    → passed_all room pace.tov (schedule_from stalls pace end since (drop index arrivals)) pass ≡ total
    → later ≡ total
end_goes room stalls pace end since last steps arrivals index pass later total sound ticked behind ticks reads goes whole =
    goes
    ∙ ap (λ (n : ℕ). rested stalls pace (ticks_by pace since) n (steps_before pace since) steps pass) ticks
    ∙ ap (λ (n : ℕ). rested stalls pace (ticks_by pace since) (ticks_by pace end) (steps_before pace since) n pass) reads
    ∙ sym (gap room stalls pace sound (ticks_by pace end) since (end + 1) pass ticked
    (ticks_rise pace end (end + 1) sound.tov (omega arith)))
    ∙ ap (λ (left : List Arrival). passed_all room pace.tov (schedule_from stalls pace end since left) pass)
    (sym (drop_all index arrivals behind))
    ∙ whole
