-- A ring that is read as often as it has blocks or slots has all of them read.
use Rattle.std.proofs.Common.{◌≡◌, ℕ, zero, suc, true, List, [], ◌∷◌, ◌++◌, replicate, refl, sym, ap, ◌∙◌}
use Rattle.std.proofs.Common.{subst}
use Rattle.std.proofs.lemmas.List.Elements.{All-head, All-push, All-tail}
use Rattle.replay_laws.specs.Alone.{all_happened_by, happened_by}
use Rattle.ring_events.specs.Happenings.{IsPlain, is_plain}
use Rattle.ring_events.specs.declared.events.Happening.{Happening}
use Rattle.ring_events.specs.declared.events.Happening.TheVariants.{Put, Try, Read, ReadAll, Tick, Count}
use Rattle.ring_model.specs.Rings.{Ring, fresh}
use Rattle.ring_sizes.specs.EventLists.{events_of}
use Rattle.ring_sizes.specs.declared.events.Event.{Event}
use Rattle.ring_sizes.specs.declared.events.Event.TheVariants as events
use Rattle.run_reports.specs.RingSteps.{RingSteps, read_by}
use Rattle.pace_laws.proofs.Deals.{events_append}
use Rattle.pace_laws.proofs.Spreads.{spread}

-- a reader that reads several times
abbrev pub read_times_by : RingSteps → ℕ → Ring → Ring
read_times_by steps zero ring = ring
read_times_by steps (suc times) ring = read_times_by steps times (read_by steps ring)

-- a ring that is read as often as it has blocks or slots has all of them read
abbrev pub ReadsAll : RingSteps → Type 0
ReadsAll steps =
    (before : List Happening) → IsPlain before
    → let ring = all_happened_by steps before (fresh steps.size) in
    read_times_by steps steps.size.blocks ring ≡ happened_by steps ReadAll ring

abbrev IsPlainOne : Happening → Type 0
IsPlainOne happening = is_plain happening ≡ true

-- what has these events in place of those that were spread
pub record Gathers (steps : RingSteps) (before given : List Happening) (all : List Event) : Type 0 where
  pub gathered : List Happening
  pub plain : IsPlain (before ++ gathered)
  pub events_are : events_of gathered ≡ all
  pub ring : all_happened_by steps given (all_happened_by steps before (fresh steps.size))
      ≡ all_happened_by steps gathered (all_happened_by steps before (fresh steps.size))

happened_on : (steps : RingSteps) (before : List Happening) (one : Happening) (ring : Ring)
    → all_happened_by steps (before ++ one ∷ []) ring ≡ happened_by steps one (all_happened_by steps before ring)
happened_on steps [] one ring = refl
happened_on steps (first ∷ before) one ring = happened_on steps before one (happened_by steps first ring)

push_again : (before : List Happening) (one : Happening) (more : List Happening)
    → (before ++ one ∷ []) ++ more ≡ before ++ one ∷ more
push_again [] one more = refl
push_again (first ∷ before) one more = ap (λ (rest : List Happening). first ∷ rest) (push_again before one more)

append_none : (before : List Happening) → before ++ [] ≡ before
append_none [] = refl
append_none (first ∷ before) = ap (λ (rest : List Happening). first ∷ rest) (append_none before)

module _ (steps : RingSteps) (reads_all : ReadsAll steps) where
  -- one thing that is the same in both
  gathers_one : (before later : List Happening) (one : Happening) (event : Event) (all : List Event)
      → events_of (one ∷ []) ≡ event ∷ [] → Gathers steps (before ++ one ∷ []) later all
      → Gathers steps before (one ∷ later) (event ∷ all)
  gathers_one before later one event all event_is h = record {
    gathered = one ∷ h.gathered;
    plain = subst IsPlain (push_again before one h.gathered) h.plain;
    events_are = events_append (one ∷ []) h.gathered
        ∙ ap (λ (front : List Event). front ++ events_of h.gathered) event_is
        ∙ ap (λ (rest : List Event). event ∷ rest) h.events_are;
    ring = ap (all_happened_by steps later) (sym (happened_on steps before one (fresh steps.size)))
        ∙ h.ring ∙ ap (all_happened_by steps h.gathered) (happened_on steps before one (fresh steps.size));
  }

  plain_on : (before : List Happening) (one : Happening) → IsPlain before → is_plain one ≡ true → IsPlain (before ++ one ∷ [])
  plain_on before one h e = All-push IsPlainOne before one h e

  reads_happen : (times : ℕ) (given : List Happening) (ring : Ring)
      → all_happened_by steps (replicate times Read ++ given) ring
      ≡ all_happened_by steps given (read_times_by steps times ring)
  reads_happen zero given ring = refl
  reads_happen (suc times) given ring = reads_happen times given (read_by steps ring)

  -- so many reads are the first of what was given
  record AreRead (times : ℕ) (given : List Happening) (rest : List Event) : Type 0 where
    later : List Happening
    given_is : given ≡ replicate times Read ++ later
    events_are : events_of later ≡ rest

  are_read : (times : ℕ) (given : List Happening) (rest : List Event) → IsPlain given
      → events_of given ≡ replicate times events.Read ++ rest → AreRead times given rest
  are_read zero given rest plain e = record { later = given; given_is = refl; events_are = e }
  are_read (suc times) [] rest plain e = cc
  are_read (suc times) (Read ∷ given) rest plain e =
      let more = are_read times given rest (All-tail IsPlainOne Read given plain) (cc) in
      record {
        later = more.later;
        given_is = ap (λ (given : List Happening). Read ∷ given) more.given_is;
        events_are = more.events_are;
      }
  are_read (suc times) (Put offer ∷ given) rest plain e = cc
  are_read (suc times) (Tick ms ∷ given) rest plain e = cc
  are_read (suc times) (ReadAll ∷ given) rest plain e = cc
  are_read (suc times) (Try offer ∷ given) rest plain e =
      let bad = All-head IsPlainOne (Try offer) given plain in cc
  are_read (suc times) (Count ∷ given) rest plain e =
      let bad = All-head IsPlainOne Count given plain in cc

  later_plain : (times : ℕ) (later : List Happening) → IsPlain (replicate times Read ++ later) → IsPlain later
  later_plain zero later h = h
  later_plain (suc times) later h = later_plain times later (All-tail IsPlainOne Read (replicate times Read ++ later) h)

  -- what is first given, and its event
  record Head (event : Event) (given : List Happening) (rest : List Event) : Type 0 where
    one : Happening
    later : List Happening
    given_is : given ≡ one ∷ later
    event_is : events_of (one ∷ []) ≡ event ∷ []
    events_are : events_of later ≡ rest

  head_of : (event : Event) (given : List Happening) (rest : List Event) → IsPlain given → events_of given ≡ event ∷ rest
      → Head event given rest
  head_of event [] rest plain e = cc
  head_of event (Put offer ∷ given) rest plain e =
      record { one = Put offer; later = given; given_is = refl; event_is = cc; events_are = cc }
  head_of event (Try offer ∷ given) rest plain e =
      record { one = Try offer; later = given; given_is = refl; event_is = cc; events_are = cc }
  head_of event (Tick ms ∷ given) rest plain e =
      record { one = Tick ms; later = given; given_is = refl; event_is = cc; events_are = cc }
  head_of event (Read ∷ given) rest plain e =
      record { one = Read; later = given; given_is = refl; event_is = cc; events_are = cc }
  head_of event (ReadAll ∷ given) rest plain e =
      record { one = ReadAll; later = given; given_is = refl; event_is = cc; events_are = cc }
  head_of event (Count ∷ given) rest plain e = let bad = All-head IsPlainOne Count given plain in cc

  nothing_given : (given : List Happening) → IsPlain given → events_of given ≡ [] → given ≡ []
  nothing_given [] plain e = refl
  nothing_given (Put offer ∷ given) plain e = cc
  nothing_given (Try offer ∷ given) plain e = cc
  nothing_given (Tick ms ∷ given) plain e = cc
  nothing_given (Read ∷ given) plain e = cc
  nothing_given (ReadAll ∷ given) plain e = cc
  nothing_given (Count ∷ given) plain e = let bad = All-head IsPlainOne Count given plain in cc

  -- one event that isn't spread
  one_more : (event : Event) (all : List Event) (before given : List Happening) → IsPlain before → IsPlain given
      → events_of given ≡ event ∷ spread steps.size.blocks all
      → ((before later : List Happening) → IsPlain before → IsPlain later → events_of later ≡ spread steps.size.blocks all
      → Gathers steps before later all) → Gathers steps before given (event ∷ all)
  one_more event all before given plain given_plain e rest =
      let head = head_of event given (spread steps.size.blocks all) given_plain e in
      let plain_head : IsPlain (head.one ∷ head.later) = subst IsPlain head.given_is given_plain in
      subst (λ (given : List Happening). Gathers steps before given (event ∷ all)) (sym head.given_is)
      (gathers_one before head.later head.one event all head.event_is
      (rest (before ++ head.one ∷ []) head.later
      (plain_on before head.one plain (All-head IsPlainOne head.one head.later plain_head))
      (All-tail IsPlainOne head.one head.later plain_head) head.events_are))

  pub gathers : (all : List Event) (before given : List Happening) → IsPlain before → IsPlain given
      → events_of given ≡ spread steps.size.blocks all → Gathers steps before given all
  gathers [] before given plain given_plain e =
      subst (λ (given : List Happening). Gathers steps before given []) (sym (nothing_given given given_plain e)) (record {
        gathered = [];
        plain = subst IsPlain (sym (append_none before)) plain;
        events_are = refl;
        ring = refl;
      })
  gathers (events.ReadAll ∷ all) before given plain given_plain e =
      let read = are_read steps.size.blocks given (spread steps.size.blocks all) given_plain e in
      let given_is = subst IsPlain read.given_is given_plain in
      let rest = gathers all (before ++ ReadAll ∷ []) read.later (plain_on before ReadAll plain refl)
      (later_plain steps.size.blocks read.later given_is) read.events_are in
      record {
        gathered = ReadAll ∷ rest.gathered;
        plain = subst IsPlain (push_again before ReadAll rest.gathered) rest.plain;
        events_are = ap (λ (rest : List Event). events.ReadAll ∷ rest) rest.events_are;
        ring = ap (λ (given : List Happening). all_happened_by steps given (all_happened_by steps before (fresh steps.size)))
            read.given_is
            ∙ reads_happen steps.size.blocks read.later (all_happened_by steps before (fresh steps.size))
            ∙ ap (all_happened_by steps read.later) (reads_all before plain)
            ∙ ap (all_happened_by steps read.later) (sym (happened_on steps before ReadAll (fresh steps.size)))
            ∙ rest.ring ∙ ap (all_happened_by steps rest.gathered) (happened_on steps before ReadAll (fresh steps.size));
      }
  gathers (events.Read ∷ all) before given plain given_plain e =
      one_more events.Read all before given plain given_plain e (λ before later. gathers all before later)
  gathers (events.Packet need ∷ all) before given plain given_plain e =
      one_more (events.Packet need) all before given plain given_plain e (λ before later. gathers all before later)
  gathers (events.Tick ms ∷ all) before given plain given_plain e =
      one_more (events.Tick ms) all before given plain given_plain e (λ before later. gathers all before later)
