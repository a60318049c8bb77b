-- The ticks of a timeline, and the reads of one member, as events at their moments.
use Rattle.std.proofs.Common.{◌≡◌, ℕ, zero, suc, ◌+◌, ◌-◌, ◌*◌, ◌<◌, ◌≤◌, ◌⊎◌, inl, inr, Bool, true, false, cond, List, [], ◌∷◌}
use Rattle.std.proofs.Common.{◌++◌, refl, sym, ap, ◌∙◌, arith}
use Rattle.std.specs.Prelude.{replicate, ◌==◌, if◌then◌else◌}
use Rattle.std.proofs.lemmas.Bool.{cases_lt}
use Rattle.std.proofs.lemmas.Grind.{common_steps}
use Rattle.setup_text.specs.declared.lines.Line.{Line}
use Rattle.setup_text.specs.declared.lines.Line.TheVariants as line
use Rattle.reader_pace.specs.Timelines.{Timed, reads_at, reads_to, reads_unless, tick_at, ticks_to}
use Rattle.reader_pace.specs.Timelines as lines
use Rattle.reader_pace.specs.declared.paces.Stall as text_stalls
use Rattle.ring_sizes.specs.Schedules.{IsPace, is_stalled, step_moment}
use Rattle.ring_sizes.specs.declared.events.Event.TheVariants.{Tick, Read}
use Rattle.ring_sizes.specs.declared.paces.Timing.{Timing}
use Rattle.pace_laws.specs.Paces.{stalls_of}
use Rattle.pace_laws.proofs.Beats.{each, step_reads, steps_on, tick_of, ticks_on}
use Rattle.pace_laws.proofs.Beats as beats
use Rattle.pace_laws.proofs.BeatKinds.{steps_join, ticks_join}
use Rattle.pace_laws.proofs.BeatOrder.{step_order}
use Rattle.pace_laws.proofs.Orders.{Stamped, append_nothing}
use Rattle.pace_laws.proofs.Rankings.{RiseTo, rise_later, rise_on}
use Rattle.pace_laws.proofs.StepCounts.{same_moment, same_stalls}

abbrev pub read_now : ℕ → Stamped
read_now moment = record { at = moment; event = Read }

-- a tick, and a read of the member
abbrev pub tick_stamp : ℕ → Line → List Stamped
tick_stamp moment (line.Tick ms) = record { at = moment; event = Tick ms } ∷ []
tick_stamp moment of = []

abbrev pub read_stamp : ℕ → ℕ → Line → List Stamped
read_stamp member moment (line.Read of) = if of == member then read_now moment ∷ [] else []
read_stamp member moment of = []

abbrev pub tick_stamps : List Timed → List Stamped
tick_stamps [] = []
tick_stamps (item ∷ items) = tick_stamp item.moment item.line ++ tick_stamps items

abbrev pub read_stamps : ℕ → List Timed → List Stamped
read_stamps member [] = []
read_stamps member (item ∷ items) = read_stamp member item.moment item.line ++ read_stamps member items

pub append_again : (one two more : List Stamped) → one ++ (two ++ more) ≡ (one ++ two) ++ more
append_again [] two more = refl
append_again (first ∷ one) two more = ap (λ (rest : List Stamped). first ∷ rest) (append_again one two more)

ticks_append : (items more : List Timed) → tick_stamps (items ++ more) ≡ tick_stamps items ++ tick_stamps more
ticks_append [] more = refl
ticks_append (item ∷ items) more =
    ap (λ (rest : List Stamped). tick_stamp item.moment item.line ++ rest) (ticks_append items more)
    ∙ append_again (tick_stamp item.moment item.line) (tick_stamps items) (tick_stamps more)

reads_append : (member : ℕ) (items more : List Timed)
    → read_stamps member (items ++ more) ≡ read_stamps member items ++ read_stamps member more
reads_append member [] more = refl
reads_append member (item ∷ items) more =
    ap (λ (rest : List Stamped). read_stamp member item.moment item.line ++ rest) (reads_append member items more)
    ∙ append_again (read_stamp member item.moment item.line) (read_stamps member items) (read_stamps member more)

-- ---- ticks

module _ (pace : Timing) where
  pub ticks_made : (number : ℕ) → tick_stamps (ticks_to pace.tov pace.phase number) ≡ ticks_on pace 0 number
  ticks_made zero = refl
  ticks_made (suc number) =
      let next : suc number ≡ 0 + number + 1 = omega arith in
      let all : number + 1 ≡ suc number = omega arith in
      ticks_append (ticks_to pace.tov pace.phase number) (tick_at pace.tov pace.phase (suc number) ∷ [])
      ∙ ap (λ (front : List Stamped). front ++ tick_stamps (tick_at pace.tov pace.phase (suc number) ∷ [])) (ticks_made number)
      ∙ ap (λ (moment : ℕ). ticks_on pace 0 number ++ record { at = moment; event = Tick (suc number * pace.tov) } ∷ [])
      (same_moment pace.tov pace.phase (suc number))
      ∙ ap (λ (n : ℕ). ticks_on pace 0 number ++ tick_of pace n ∷ []) next
      ∙ ticks_join pace 0 number 1
      ∙ ap (ticks_on pace 0) all

  tick_later : (one other : ℕ) → one ≤ other
      → (one * pace.tov - pace.phase) * 1000000 ≤ (other * pace.tov - pace.phase) * 1000000
  tick_later one other h = grind arith

  pub ticks_rise : (number : ℕ) → RiseTo 0 (ticks_to pace.tov pace.phase number) ((number * pace.tov - pace.phase) * 1000000)
  ticks_rise zero = omega arith
  ticks_rise (suc number) =
      rise_on 0 (ticks_to pace.tov pace.phase number) ((number * pace.tov - pace.phase) * 1000000)
      (tick_at pace.tov pace.phase (suc number) ∷ []) ((suc number * pace.tov - pace.phase) * 1000000) (ticks_rise number)
      (tick_later number (suc number) (omega arith), omega arith)

-- ---- reads

same_rise : (moment member n : ℕ)
    → RiseTo moment (replicate n (record { moment = moment; line = line.Read member })) moment
same_rise moment member zero = omega arith
same_rise moment member (suc n) = (omega arith, same_rise moment member n)

reads_rise_at : (moment n members : ℕ) → RiseTo moment (reads_at moment n members) moment
reads_rise_at moment n zero = omega arith
reads_rise_at moment n (suc member) =
    rise_on moment (reads_at moment n member) moment (replicate n (record { moment = moment; line = line.Read member })) moment
    (reads_rise_at moment n member) (same_rise moment member n)

reads_rise_unless : (stalled : Bool) (moment n members : ℕ) → RiseTo moment (reads_unless stalled moment n members) moment
reads_rise_unless true moment n members = omega arith
reads_rise_unless false moment n members = reads_rise_at moment n members

same_stamps : (member of moment n : ℕ) (test : Bool) → (of == member) ≡ test
    → read_stamps member (replicate n (record { moment = moment; line = line.Read of }))
    ≡ cond test (replicate n (read_now moment)) []
same_stamps member of moment zero true e = refl
same_stamps member of moment zero false e = refl
same_stamps member of moment (suc n) true e =
    ap (λ (test : Bool). cond test (read_now moment ∷ []) []
    ++ read_stamps member (replicate n (record { moment = moment; line = line.Read of }))) e
    ∙ ap (λ (rest : List Stamped). read_now moment ∷ rest) (same_stamps member of moment n true e)
same_stamps member of moment (suc n) false e =
    ap (λ (test : Bool). cond test (read_now moment ∷ []) []
    ++ read_stamps member (replicate n (record { moment = moment; line = line.Read of }))) e
    ∙ same_stamps member of moment n false e

is_other : (member of : ℕ) (test : Bool) → (of == member) ≡ test → of < member → test ≡ false
is_other member of true e h = absurd (grind (arith, common_steps))
is_other member of false e h = refl

is_it : (member of : ℕ) (test : Bool) → (of == member) ≡ test → of ≡ member → test ≡ true
is_it member of true e h = refl
is_it member of false e h = absurd (grind (arith, common_steps))

is_later : (member of : ℕ) (test : Bool) → (of == member) ≡ test → member < of → test ≡ false
is_later member of true e h = absurd (grind (arith, common_steps))
is_later member of false e h = refl

none_before : (member moment n members : ℕ) → members ≤ member → read_stamps member (reads_at moment n members) ≡ []
none_before member moment n zero h = refl
none_before member moment n (suc of) h =
    reads_append member (reads_at moment n of) (replicate n (record { moment = moment; line = line.Read of }))
    ∙ ap (λ (front : List Stamped). front
    ++ read_stamps member (replicate n (record { moment = moment; line = line.Read of })))
    (none_before member moment n of (omega (arith, h)))
    ∙ same_stamps member of moment n false (is_other member of (of == member) refl (omega (arith, h)))

one_member : (member moment n members : ℕ) → member < members
    → read_stamps member (reads_at moment n members) ≡ replicate n (read_now moment)
one_member member moment n zero h = absurd (omega (arith, h))
one_member member moment n (suc of) h =
    reads_append member (reads_at moment n of) (replicate n (record { moment = moment; line = line.Read of }))
    ∙ by_case (cases_lt member of) (one_member member moment n of) where
      by_case : (member < of) ⊎ (of ≤ member)
          → (member < of → read_stamps member (reads_at moment n of) ≡ replicate n (read_now moment))
          → read_stamps member (reads_at moment n of)
          ++ read_stamps member (replicate n (record { moment = moment; line = line.Read of })) ≡ replicate n (read_now moment)
      by_case (inl l) k =
          ap (λ (back : List Stamped). read_stamps member (reads_at moment n of) ++ back)
          (same_stamps member of moment n false (is_later member of (of == member) refl l))
          ∙ append_nothing (read_stamps member (reads_at moment n of))
          ∙ k l
      by_case (inr l) k =
          ap (λ (front : List Stamped). front
          ++ read_stamps member (replicate n (record { moment = moment; line = line.Read of })))
          (none_before member moment n of l)
          ∙ same_stamps member of moment n true (is_it member of (of == member) refl (omega (arith, h, l)))

one_unless : (stalled : Bool) (member moment n members : ℕ) → member < members
    → read_stamps member (reads_unless stalled moment n members) ≡ beats.reads_at stalled moment n
one_unless true member moment n members h = refl
one_unless false member moment n members h = one_member member moment n members h

-- the steps of a text's reader whose moments are those of a pace
module _ (stalls : List text_stalls.Stall) (pace : Timing) (blocks : ℕ) (moment_of : ℕ → ℕ)
    (same : (step : ℕ) → moment_of step ≡ step_moment pace (step + 1)) (member members : ℕ) (inside : member < members) where
  abbrev pub often : ℕ
  often = each (stalls_of stalls) pace blocks

  abbrev done : ℕ → ℕ → List Stamped
  done from more = steps_on (stalls_of stalls) pace blocks from more

  one_step : (step : ℕ)
      → read_stamps member (reads_unless (lines.is_stalled stalls (moment_of step)) (moment_of step) often members)
      ≡ step_reads (stalls_of stalls) pace blocks (step + 1)
  one_step step =
      one_unless (lines.is_stalled stalls (moment_of step)) member (moment_of step) often members inside
      ∙ ap (λ (stalled : Bool). beats.reads_at stalled (moment_of step) often) (same_stalls stalls (moment_of step))
      ∙ ap (λ (moment : ℕ). beats.reads_at (is_stalled (stalls_of stalls) moment) moment often) (same step)

  pub reads_made : (steps : ℕ) → read_stamps member (reads_to moment_of stalls often members steps) ≡ done 0 steps
  reads_made zero = refl
  reads_made (suc step) =
      let next : step + 1 ≡ 0 + step + 1 = omega arith in
      let all : step + 1 ≡ suc step = omega arith in
      reads_append member (reads_to moment_of stalls often members step)
      (reads_unless (lines.is_stalled stalls (moment_of step)) (moment_of step) often members)
      ∙ ap (λ (front : List Stamped). front ++ read_stamps member
      (reads_unless (lines.is_stalled stalls (moment_of step)) (moment_of step) often members)) (reads_made step)
      ∙ ap (λ (back : List Stamped). done 0 step ++ back) (one_step step)
      ∙ ap (λ (n : ℕ). done 0 step ++ step_reads (stalls_of stalls) pace blocks n) next
      ∙ ap (λ (back : List Stamped). done 0 step ++ back)
      (sym (append_nothing (step_reads (stalls_of stalls) pace blocks (0 + step + 1))))
      ∙ steps_join (stalls_of stalls) pace blocks 0 step 1
      ∙ ap (done 0) all

  moments_rise : (sound : IsPace pace) (one other : ℕ) → one ≤ other → moment_of one ≤ moment_of other
  moments_rise sound one other h =
      let later = step_order (stalls_of stalls) pace blocks sound (one + 1) (other + 1) (omega (arith, h)) in
      omega (arith, same one, same other, later)

  pub reads_rise : (sound : IsPace pace) (steps high : ℕ) → ((step : ℕ) → step < steps → moment_of step ≤ high)
      → RiseTo 0 (reads_to moment_of stalls often members steps) high
  reads_rise sound zero high few = omega arith
  reads_rise sound (suc step) high few =
      rise_on 0 (reads_to moment_of stalls often members step) (moment_of step)
      (reads_unless (lines.is_stalled stalls (moment_of step)) (moment_of step) often members) high
      (reads_rise sound step (moment_of step) (λ earlier h. moments_rise sound earlier step (omega (arith, h))))
      (rise_later (moment_of step)
      (reads_unless (lines.is_stalled stalls (moment_of step)) (moment_of step) often members) (moment_of step) high
      (few step (omega arith))
      (reads_rise_unless (lines.is_stalled stalls (moment_of step)) (moment_of step) often members))
