-- The numbers of a pass stay small.
use Rattle.std.proofs.Common.{◌≡◌, ℕ, ◌+◌, ◌<◌, ◌≤◌, ◌^◌, Bool, true, false, cond, arith, refl}
use Rattle.std.specs.Prelude.{nat_lt, nat_le}
use Rattle.std.proofs.lemmas.Grind.{common_steps}
use Rattle.ring_sizes.specs.Passes.{IsWithin, passed, ticked, with_next}
use Rattle.ring_sizes.specs.declared.events.Event.{Event}
use Rattle.ring_sizes.specs.declared.events.Event.TheVariants.{Packet, Tick, Read, ReadAll}
use Rattle.ring_sizes.specs.declared.sizes.Pass.{Pass}

offer_within : (bound room tov need : ℕ) (pass : Pass) (fits : Bool) → IsWithin bound pass
    → (cond fits (record pass { used = pass.used + need; empty = false })
    (record (with_next pass) { used = need; empty = false; deadline = pass.clock + tov })).used < 2 ^ 32
    → IsWithin (bound + 1) (cond fits (record pass { used = pass.used + need; empty = false })
    (record (with_next pass) { used = need; empty = false; deadline = pass.clock + tov }))
offer_within bound room tov need pass true h used =
    record { few = omega (arith, h.few); behind = h.behind; used = used }
offer_within bound room tov need pass false h used =
    record { few = omega (arith, h.few); behind = omega (arith, h.behind); used = used }

tick_within : (bound tov ms : ℕ) (pass : Pass) (early empty : Bool) → IsWithin bound pass
    → IsWithin (bound + 1) (cond early (record pass { clock = ms })
    (cond empty (record pass { clock = ms; deadline = ms + tov })
    (record (with_next pass) { used = 0; empty = true; clock = ms; deadline = ms + tov })))
tick_within bound tov ms pass true empty h = record { few = omega (arith, h.few); behind = h.behind; used = h.used }
tick_within bound tov ms pass false true h = record { few = omega (arith, h.few); behind = h.behind; used = h.used }
tick_within bound tov ms pass false false h =
    record { few = omega (arith, h.few); behind = omega (arith, h.behind); used = omega arith }

read_within : (bound : ℕ) (pass : Pass) (more : Bool) → nat_lt pass.released pass.done ≡ more → IsWithin bound pass
    → IsWithin (bound + 1) (cond more (record pass { released = pass.released + 1 }) pass)
read_within bound pass true e h =
    record { few = omega (arith, h.few); behind = grind (arith, common_steps); used = h.used }
read_within bound pass false e h = record { few = omega (arith, h.few); behind = h.behind; used = h.used }

pub stays_within : (bound room tov : ℕ) (event : Event) (pass : Pass) → IsWithin bound pass
    → (passed room tov event pass).used < 2 ^ 32 → IsWithin (bound + 1) (passed room tov event pass)
stays_within bound room tov (Packet need) pass h used =
    offer_within bound room tov need pass (nat_le (pass.used + need) room) h used
stays_within bound room tov (Tick ms) pass h used = tick_within bound tov ms pass (nat_lt ms pass.deadline) pass.empty h
stays_within bound room tov Read pass h used = read_within bound pass (nat_lt pass.released pass.done) refl h
stays_within bound room tov ReadAll pass h used =
    record { few = omega (arith, h.few); behind = omega arith; used = h.used }

pub ticked_within : (bound tov ms : ℕ) (pass : Pass) → IsWithin bound pass → IsWithin (bound + 1) (ticked tov ms pass)
ticked_within bound tov ms pass h = tick_within bound tov ms pass (nat_lt ms pass.deadline) pass.empty h

pub weaker : (bound other : ℕ) (pass : Pass) → bound ≤ other → IsWithin bound pass → IsWithin other pass
weaker bound other pass more h = record { few = omega (arith, more, h.few); behind = h.behind; used = h.used }
