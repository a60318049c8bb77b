-- Ticks that change nothing but the clock and the deadline: the last of them does the same alone.
use Rattle.std.proofs.Common.{◌≡◌, ℕ, zero, suc, ◌+◌, ◌-◌, ◌*◌, ◌<◌, ◌≤◌, Bool, true, false, cond, List, ◌∷◌, ◌++◌}
use Rattle.std.proofs.Common.{Option, None, Some, refl, sym, ap, subst, ◌∙◌, arith}
use Rattle.std.specs.Prelude.{nat_lt}
use Rattle.std.proofs.Math.Nat.{mul-le-mul_right}
use Rattle.std.proofs.lemmas.Grind.{common_steps}
use Rattle.poll_sizes.specs.Beats.{Beat, tick_beat, ticks_on, timer_of}
use Rattle.poll_sizes.specs.Polls.{all_beaten, beaten, taken}
use Rattle.poll_sizes.specs.Wakes.{wake_after, wakes_before}
use Rattle.poll_sizes.specs.declared.polls.PollTiming.{PollTiming}
use Rattle.poll_sizes.specs.declared.polls.Polled.{Polled}
use Rattle.ring_sizes.specs.Schedules.{tick_moment}
use Rattle.ring_sizes.specs.declared.events.Event.{Event}
use Rattle.ring_sizes.specs.declared.events.Event.TheVariants.{ReadAll, Tick}
use Rattle.ring_sizes.specs.declared.paces.StallTime.{StallTime}
use Rattle.poll_sizes.proofs.Runs.{run_append}

not_more : (before after : ℕ) (more : Bool) → nat_lt before after ≡ more → after ≡ before → more ≡ false
not_more before after true e same = absurd (grind (arith, common_steps, e, same))
not_more before after false e same = refl

unhanded : (stalls : List StallTime) (at : ℕ) (handed : Bool) (wake : Option ℕ) → handed ≡ false
    → wake_after stalls at handed wake ≡ wake
unhanded stalls at true wake e = absurd (grind (arith, common_steps, e))
unhanded stalls at false None e = refl
unhanded stalls at false (Some wake) e = refl

sooner_by : (soon late : ℕ) (wake : ℕ) (one : Bool) → nat_lt wake soon ≡ one → soon ≤ late → nat_lt wake late ≡ false
    → one ≡ false
sooner_by soon late wake true e h f = absurd (grind (arith, common_steps, e, h, f))
sooner_by soon late wake false e h f = refl

sooner : (soon late : ℕ) (wake : Option ℕ) → soon ≤ late → wakes_before late wake ≡ false → wakes_before soon wake ≡ false
sooner soon late None h e = refl
sooner soon late (Some wake) h e = sooner_by soon late wake (nat_lt wake soon) refl h e

ticks_split : (pace : PollTiming) (more others ticks all : ℕ) → all ≡ more + others
    → ticks_on pace all ticks ≡ ticks_on pace more ticks ++ ticks_on pace others (ticks + more)
ticks_split pace zero others ticks all e =
    let here : ticks ≡ ticks + 0 = omega arith in
    let same : all ≡ others = omega (arith, e) in
    ap (λ (n : ℕ). ticks_on pace n ticks) same ∙ ap (ticks_on pace others) here
ticks_split pace (suc more) others ticks zero e = absurd (omega (arith, e))
ticks_split pace (suc more) others ticks (suc all) e =
    let here : ticks + 1 + more ≡ ticks + suc more = omega arith in
    ap (λ (rest : List Beat). tick_beat pace (ticks + 1) ∷ rest)
    (ticks_split pace more others (ticks + 1) all (omega (arith, e))
    ∙ ap (λ (n : ℕ). ticks_on pace more (ticks + 1) ++ ticks_on pace others n) here)

pub tick_rises : (pace : PollTiming) (one other : ℕ) → one ≤ other
    → tick_moment (timer_of pace) one ≤ tick_moment (timer_of pace) other
tick_rises pace one other h =
    let most = mul-le-mul_right {m = one} {n = other} (pace.tov * 1000000) h in omega (arith, most)

module _ {R : Type 0} (step : Event → R → R) (done : R → ℕ) (stalls : List StallTime) (pace : PollTiming)
    (idle : R → Type 0) (still : (ms : ℕ) (ring : R) → idle ring → done (step (Tick ms) ring) ≡ done ring)
    (stays : (ms : ℕ) (ring : R) → idle ring → idle (step (Tick ms) ring))
    (last : (ms later : ℕ) (ring : R) → idle ring → ms + pace.tov ≤ later
    → step (Tick later) (step (Tick ms) ring) ≡ step (Tick later) ring) where
  abbrev run : List Beat → Polled R → Polled R
  run beats polled = all_beaten step done stalls pace.delay beats polled

  abbrev beat : ℕ → Polled R → Polled R
  beat number polled = beaten step done stalls pace.delay (tick_beat pace number) polled

  -- an event that hands nothing over, before which the reader doesn't wake
  quiet_by : (before : Bool) (of : Beat) (polled : Polled R) → before ≡ false
      → done (step of.event polled.ring) ≡ done polled.ring
      → taken step done stalls pace.delay of
      (cond before (record { ring = step ReadAll polled.ring; wake = None }) polled)
      ≡ record { ring = step of.event polled.ring; wake = polled.wake }
  quiet_by true of polled e same = absurd (grind (arith, common_steps, e))
  quiet_by false of polled e same =
      ap (λ (wake : Option ℕ). record { ring = step of.event polled.ring; wake = wake })
      (unhanded stalls (of.at + pace.delay) _ polled.wake
      (not_more (done polled.ring) (done (step of.event polled.ring)) _ refl same))

  quiet : (number : ℕ) (polled : Polled R) → idle polled.ring
      → wakes_before (tick_moment (timer_of pace) number) polled.wake ≡ false
      → beat number polled ≡ record { ring = step (Tick (number * pace.tov)) polled.ring; wake = polled.wake }
  quiet number polled is e =
      quiet_by _ (tick_beat pace number) polled e (still (number * pace.tov) polled.ring is)

  skips : (more ticks : ℕ) (polled : Polled R) → idle polled.ring
      → wakes_before (tick_moment (timer_of pace) (ticks + suc more)) polled.wake ≡ false
      → run (ticks_on pace (suc more) ticks) polled ≡ beat (ticks + suc more) polled
  skips zero ticks polled is e =
      let here : ticks + 1 ≡ ticks + suc zero = omega arith in ap (λ (n : ℕ). beat n polled) here
  skips (suc more) ticks polled is e =
      let first : ℕ = (ticks + 1) * pace.tov in
      let number : ℕ = ticks + suc (suc more) in
      let same : ticks + 1 + suc more ≡ number = omega arith in
      let later : Polled R = record { ring = step (Tick first) polled.ring; wake = polled.wake } in
      let kept : wakes_before (tick_moment (timer_of pace) (ticks + 1 + suc more)) polled.wake ≡ false =
      subst (λ (n : ℕ). wakes_before (tick_moment (timer_of pace) n) polled.wake ≡ false) (sym same) e in
      let most = mul-le-mul_right {m = ticks + 1 + 1} {n = number} pace.tov (omega arith) in
      ap (run (ticks_on pace (suc more) (ticks + 1)))
      (quiet (ticks + 1) polled is
      (sooner (tick_moment (timer_of pace) (ticks + 1)) (tick_moment (timer_of pace) number) polled.wake
      (tick_rises pace (ticks + 1) number (omega arith)) e))
      ∙ skips more (ticks + 1) later (stays first polled.ring is) kept
      ∙ ap (λ (n : ℕ). beat n later) same
      ∙ quiet number later (stays first polled.ring is) e
      ∙ ap (λ (ring : R). record { ring = ring; wake = polled.wake })
      (last first (number * pace.tov) polled.ring is (omega (arith, most)))
      ∙ sym (quiet number polled is e)

  -- the tick to go on with
  pub next_goes : (ticks next end : ℕ) (polled : Polled R) → ticks < next → next ≤ end
      → (ticks + 1 < next → idle polled.ring × (wakes_before (tick_moment (timer_of pace) next) polled.wake ≡ false))
      → run (ticks_on pace (end - ticks) ticks) polled ≡ run (ticks_on pace (end - next) next) (beat next polled)
  next_goes ticks next end polled later in_time skipped =
      let all : end - ticks ≡ next - ticks + (end - next) = omega (arith, later, in_time) in
      let here : ticks + (next - ticks) ≡ next = omega (arith, later) in
      ap (λ (beats : List Beat). run beats polled)
      (ticks_split pace (next - ticks) (end - next) ticks (end - ticks) all
      ∙ ap (λ (n : ℕ). ticks_on pace (next - ticks) ticks ++ ticks_on pace (end - next) n) here)
      ∙ run_append step done stalls pace.delay (ticks_on pace (next - ticks) ticks) (ticks_on pace (end - next) next) polled
      ∙ ap (run (ticks_on pace (end - next) next)) (upto (next - ticks) here)
    where
      upto : (more : ℕ) → ticks + more ≡ next → run (ticks_on pace more ticks) polled ≡ beat next polled
      upto zero e = absurd (omega (arith, e, later))
      upto (suc zero) e =
          let is : ticks + 1 ≡ next = omega (arith, e) in ap (λ (n : ℕ). beat n polled) is
      upto (suc (suc more)) e =
          let both = skipped (omega (arith, e)) in
          skips (suc more) ticks polled both.0
          (subst (λ (n : ℕ). wakes_before (tick_moment (timer_of pace) n) polled.wake ≡ false) (sym e) both.1)
          ∙ ap (λ (n : ℕ). beat n polled) e

-- no tick is left
pub no_tick : {R : Type 0} (step : Event → R → R) (done : R → ℕ) (stalls : List StallTime) (pace : PollTiming) (end ticks : ℕ)
    (polled : Polled R) → end ≤ ticks
    → all_beaten step done stalls pace.delay (ticks_on pace (end - ticks) ticks) polled ≡ polled
no_tick step done stalls pace end ticks polled h =
    let none : end - ticks ≡ 0 = omega (arith, h) in
    ap (λ (n : ℕ). all_beaten step done stalls pace.delay (ticks_on pace n ticks) polled) none
