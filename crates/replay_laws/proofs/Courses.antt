-- What a schedule gives a member is a course of its ring.
use Rattle.std.proofs.Common.{◌≡◌, ℕ, zero, suc, ◌+◌, ◌%◌, ◌<◌, ◌≤◌, Bool, true, false, cond, List, [], ◌∷◌}
use Rattle.std.proofs.Common.{◌++◌}
use Rattle.std.proofs.Common.{length, get_or, Option, None, Some, sym, subst, arith}
use Rattle.std.specs.Prelude.{map, replicate, ◌==◌}
use Rattle.std.specs.List.{AllByRecursion}
use Rattle.fanout_group.specs.Rules.{Rules}
use Rattle.frame_view.specs.declared.frames.Frame.{Frame}
use Rattle.replay_laws.specs.Alone.{Deal, dealt, dealt_feed, dealt_lines, dealt_next, dealt_rest}
use Rattle.replay_laws.specs.Alone.{dealt_times}
use Rattle.replay_laws.specs.Alone.{given_at}
use Rattle.ring_events.specs.declared.events.Happening.{Happening}
use Rattle.ring_events.specs.declared.events.Happening.TheVariants.{Put, Try, Read, ReadAll, Tick, Count}
use Rattle.ring_laws.specs.Runs.{AreRising, Fits, IsCourse}
use Rattle.ring_model.specs.Ring.{Size}
use Rattle.ring_model.specs.Sizes.{need_of, snap_of}
use Rattle.setup_text.specs.TickOrder.{AreAscending, IsSchedule}
use Rattle.setup_text.specs.declared.lines.Line.{Line}
use Rattle.setup_text.specs.declared.lines.Line.TheVariants as lines

-- the clock doesn't go back, from one moment on and to another
abbrev AreRisingTo : ℕ → ℕ → List Happening → Type 0
AreRisingTo low high [] = low ≤ high
AreRisingTo low high (Tick ms ∷ given) = (low ≤ ms) × AreRisingTo ms high given
AreRisingTo low high (happening ∷ given) = AreRisingTo low high given

rising : (low high : ℕ) (given : List Happening) → AreRisingTo low high given → AreRising low given
rising low high [] h = tt
rising low high (Tick ms ∷ given) h = (h.0, rising ms high given h.1)
rising low high (happening ∷ given) h = rising low high given h

-- a last happening, whose moment, if it is a tick, isn't before the last one
abbrev Follows : ℕ → ℕ → Happening → Type 0
Follows high later (Tick ms) = (high ≤ ms) × (ms ≤ later)
Follows high later happening = high ≤ later

rises_on : (low high later : ℕ) (given : List Happening) (last : Happening) → AreRisingTo low high given
    → Follows high later last
    → AreRisingTo low later (given ++ last ∷ [])
rises_on low high later [] (Put offer) h k = omega (arith, h, k)
rises_on low high later [] (Try offer) h k = omega (arith, h, k)
rises_on low high later [] (Tick ms) h k = (omega (arith, h, k.0), k.1)
rises_on low high later [] Read h k = omega (arith, h, k)
rises_on low high later [] ReadAll h k = omega (arith, h, k)
rises_on low high later [] Count h k = omega (arith, h, k)
rises_on low high later (Tick ms ∷ given) last h k = (h.0, rises_on ms high later given last h.1 k)
rises_on low high later (happening ∷ given) last h k = rises_on low high later given last h k

fits_on : (room : ℕ) (given : List Happening) (last : Happening) → AllByRecursion (Fits room) given → Fits room last
    → AllByRecursion (Fits room) (given ++ last ∷ [])
fits_on room [] last h k = (k, tt)
fits_on room (happening ∷ given) last h k = (h.0, fits_on room given last h.1 k)

-- what a member was given up to a moment
record IsGiven (room clock : ℕ) (given : List Happening) : Type 0 where
  fit : AllByRecursion (Fits room) given
  rise : AreRisingTo 0 clock given

given_on : (room clock later : ℕ) (given : List Happening) (last : Happening) → IsGiven room clock given → Fits room last
    → Follows clock later last → IsGiven room later (given ++ last ∷ [])
given_on room clock later given last h fits follows =
    record { fit = fits_on room given last h.fit fits; rise = rises_on 0 clock later given last h.rise follows }

-- an offer is cut to the room, which is a multiple of 8
need_cut : (room : ℕ) → room % 8 ≡ 0 → 82 < room → (captured verdict : ℕ) → need_of (snap_of room captured verdict) ≤ room
need_cut room whole large captured verdict = omega arith

module _ (rules : Rules) (room : ℕ) (whole : room % 8 ≡ 0) (large : 82 < room) where
  one_on : (clock : ℕ) (all : List (List Happening)) (member : ℕ) (last : Happening) → AllByRecursion (IsGiven room clock) all
      → Fits room last → Follows clock clock last → AllByRecursion (IsGiven room clock) (given_at member last all)
  one_on clock [] member last h fits follows = tt
  one_on clock (given ∷ all) zero last h fits follows = (given_on room clock clock given last h.0 fits follows, h.1)
  one_on clock (given ∷ all) (suc member) last h fits follows = (h.0, one_on clock all member last h.1 fits follows)

  all_on : (clock ms : ℕ) (all : List (List Happening)) → AllByRecursion (IsGiven room clock) all → clock ≤ ms
      → AllByRecursion (IsGiven room ms) (map (λ given. given ++ Tick ms ∷ []) all)
  all_on clock ms [] h later = tt
  all_on clock ms (given ∷ all) h later =
      (given_on room clock ms given (Tick ms) h.0 tt (later, omega arith), all_on clock ms all h.1 later)

  passed_on : (clock : ℕ) (refused : Bool) (all more : List (List Happening)) → AllByRecursion (IsGiven room clock) all
      → AllByRecursion (IsGiven room clock) more → AllByRecursion (IsGiven room clock) (cond refused all more)
  passed_on clock true all more h k = h
  passed_on clock false all more h k = k

  next_on : (clock cpu : ℕ) (waiting : List (Option Frame)) (deal : Deal) → AllByRecursion (IsGiven room clock) deal.given
      → AllByRecursion (IsGiven room clock) (dealt_next rules room cpu waiting deal).given
  next_on clock cpu [] deal h = h
  next_on clock cpu (None ∷ waiting) deal h = h
  next_on clock cpu (Some frame ∷ waiting) deal h =
      passed_on clock (rules.verdict frame == 0) deal.given _ h
      (one_on clock deal.given _ (Put _) h (need_cut room whole large (length frame.bytes) (rules.verdict frame)) (omega arith))

  feed_on : (clock cpu : ℕ) (deal : Deal) → AllByRecursion (IsGiven room clock) deal.given
      → AllByRecursion (IsGiven room clock) (dealt_feed rules room cpu deal).given
  feed_on clock cpu deal h = next_on clock cpu (get_or deal.waiting cpu []) deal h

  lines_on : (clock : ℕ) (all : List Line) (deal : Deal) → AreAscending clock all
      → AllByRecursion (IsGiven room clock) deal.given
      → (last : ℕ) × AllByRecursion (IsGiven room last) (dealt_lines rules room all deal).given
  lines_on clock [] deal rises h = (clock, h)
  lines_on clock (lines.Feed cpu ∷ all) deal rises h = lines_on clock all _ rises (feed_on clock cpu deal h)
  lines_on clock (lines.Read member ∷ all) deal rises h =
      lines_on clock all _ rises (one_on clock deal.given member Read h tt (omega arith))
  lines_on clock (lines.Tick ms ∷ all) deal rises h = lines_on ms all _ rises.2 (all_on clock ms deal.given h rises.0)
  lines_on clock (lines.Stats member ∷ all) deal rises h =
      lines_on clock all _ rises (one_on clock deal.given member Count h tt (omega arith))

  times_on : (clock cpu times : ℕ) (deal : Deal) → AllByRecursion (IsGiven room clock) deal.given
      → AllByRecursion (IsGiven room clock) (dealt_times rules room cpu times deal).given
  times_on clock cpu zero deal h = h
  times_on clock cpu (suc times) deal h = times_on clock cpu times _ (feed_on clock cpu deal h)

  rest_on : (clock cpu left : ℕ) (deal : Deal) → AllByRecursion (IsGiven room clock) deal.given
      → AllByRecursion (IsGiven room clock) (dealt_rest rules room cpu left deal).given
  rest_on clock cpu zero deal h = h
  rest_on clock cpu (suc left) deal h =
      rest_on clock (cpu + 1) left _ (times_on clock cpu (length (get_or deal.waiting cpu [])) deal h)

  begins : (members : ℕ) → AllByRecursion (IsGiven room 0) (replicate members [])
  begins zero = tt
  begins (suc members) = (record { fit = tt; rise = omega arith }, begins members)

  courses : (size : Size) (clock : ℕ) (all : List (List Happening)) → size.room ≡ room → 2 ≤ size.blocks → 0 < size.tov
      → AllByRecursion (IsGiven room clock) all → AllByRecursion (IsCourse size) all
  courses size clock [] e many time h = tt
  courses size clock (given ∷ all) e many time h = (
    record {
      blocks = many;
      tov = time;
      fit = subst (λ (room : ℕ). AllByRecursion (Fits room) given) (sym e) h.0.fit;
      rising = rising 0 clock given h.0.rise;
    },
    courses size clock all e many time h.1,
  )

  pub dealt_courses : (size : Size) (arriving : List (List (Option Frame))) (all : List Line) → size.room ≡ room
      → 2 ≤ size.blocks
      → 0 < size.tov → IsSchedule all → AllByRecursion (IsCourse size) (dealt rules room arriving all)
  unfolding dealt
  dealt_courses size arriving all e many time rises =
      let first : Deal = record { waiting = arriving; ticket = 0; given = replicate rules.members [] } in
      let last = lines_on 0 all first rises (begins rules.members) in
      let end = dealt_lines rules room all first in
      courses size last.0 _ e many time (rest_on last.0 0 (length end.waiting) end last.1)
