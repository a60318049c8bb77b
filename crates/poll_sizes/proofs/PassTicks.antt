-- Ticks of an empty block.
use Rattle.std.proofs.Common.{◌≡◌, ℕ, ◌+◌, ◌≤◌, Bool, true, false, cond, refl, sym, ap, ◌∙◌, arith}
use Rattle.std.specs.Prelude.{nat_lt}
use Rattle.std.proofs.lemmas.Grind.{common_steps}
use Rattle.ring_sizes.specs.Passes.{passed, ticked, with_next}
use Rattle.ring_sizes.specs.declared.events.Event.TheVariants.{Tick}
use Rattle.ring_sizes.specs.declared.sizes.Pass.{Pass}
use Rattle.ring_sizes.proofs.Gaps.{due_by, not_early}

abbrev pub IsEmpty : Pass → Type 0
IsEmpty pass = pass.empty ≡ true

still_by : (tov ms : ℕ) (pass : Pass) (early empty : Bool) → empty ≡ true
    → (cond early (record pass { clock = ms })
    (cond empty (record pass { clock = ms; deadline = ms + tov })
    (record (with_next pass) { used = 0; empty = true; clock = ms; deadline = ms + tov }))).done ≡ pass.done
still_by tov ms pass true empty e = refl
still_by tov ms pass false true e = refl
still_by tov ms pass false false e = absurd (grind (arith, common_steps, e))

pub still : (room tov ms : ℕ) (pass : Pass) → IsEmpty pass → (passed room tov (Tick ms) pass).done ≡ pass.done
still room tov ms pass e = still_by tov ms pass (nat_lt ms pass.deadline) pass.empty e

stays_by : (tov ms : ℕ) (pass : Pass) (early empty : Bool) → empty ≡ true → pass.empty ≡ true
    → (cond early (record pass { clock = ms })
    (cond empty (record pass { clock = ms; deadline = ms + tov })
    (record (with_next pass) { used = 0; empty = true; clock = ms; deadline = ms + tov }))).empty ≡ true
stays_by tov ms pass true empty e is = is
stays_by tov ms pass false true e is = is
stays_by tov ms pass false false e is = refl

pub stays : (room tov ms : ℕ) (pass : Pass) → IsEmpty pass → IsEmpty (passed room tov (Tick ms) pass)
stays room tov ms pass e = stays_by tov ms pass (nat_lt ms pass.deadline) pass.empty e e

due : (tov ms : ℕ) (pass : Pass) → IsEmpty pass → pass.deadline ≤ ms
    → ticked tov ms pass ≡ record pass { clock = ms; deadline = ms + tov }
due tov ms pass is h =
    due_by tov ms pass (nat_lt ms pass.deadline) pass.empty (not_early ms pass.deadline (nat_lt ms pass.deadline) refl h) is

last_by : (tov ms later : ℕ) (pass : Pass) (early : Bool) → nat_lt ms pass.deadline ≡ early → IsEmpty pass
    → ms + tov ≤ later
    → ticked tov later (cond early (record pass { clock = ms })
    (cond pass.empty (record pass { clock = ms; deadline = ms + tov })
    (record (with_next pass) { used = 0; empty = true; clock = ms; deadline = ms + tov })))
    ≡ ticked tov later pass
last_by tov ms later pass true e is h = refl
last_by tov ms later pass false e is h =
    ap (ticked tov later) (due_by tov ms pass false pass.empty refl is)
    ∙ due tov later (record pass { clock = ms; deadline = ms + tov }) is h
    ∙ sym (due tov later pass is (grind (arith, common_steps, e, h)))

pub last : (room tov ms later : ℕ) (pass : Pass) → IsEmpty pass → ms + tov ≤ later
    → passed room tov (Tick later) (passed room tov (Tick ms) pass) ≡ passed room tov (Tick later) pass
last room tov ms later pass is h = last_by tov ms later pass (nat_lt ms pass.deadline) refl is h
