-- What the feeders of a run leave.
use Rattle.std.proofs.Common.{◌≡◌, ◌<◌, ◌+◌, ℕ, zero, suc, false, List, [], ◌∷◌, ◌++◌, length, length-append, get_or}
use Rattle.std.proofs.Common.{append_assoc, Option, refl, sym, ap, ◌∙◌, subst, arith}
use Rattle.std.specs.Prelude.{map, IsSome}
use Rattle.std.specs.List.{AllByRecursion, AllZip}
use Rattle.std.proofs.lemmas.List.{map-append}
use Rattle.capture_reports.specs.Feeders.{HasFed}
use Rattle.capture_reports.specs.Left.{CpuLeft, feeds_of, seats_of}
use Rattle.cpu_feed.specs.ClosedCpus.{firsts_of}
use Rattle.cpu_feed.specs.CpuFeeds.{Feeding}
use Rattle.fanout_group.specs.Plans.{Shape}
use Rattle.member_turns.specs.Seats.{Lock, Seat}
use Rattle.setup_text.specs.declared.jobs.Job.{Job}
use Rattle.tap_outside.specs.Seen.{SourceSeen}
use Rattle.ticket_dealer.specs.Seats.{DealerValue, IsSeatOf, SeatValue}
use Rattle.turn_lock.specs.Seats.{IsIdleSeatOf}
use Rattle.cpu_feeders.specs.Feeds.{FeedsOut}
use Rattle.cpu_feeders.specs.inside.FreshWorkers.{first_feed, first_feeds}
use Rattle.cpu_feeders.specs.WorkerEffects.{IsFedOut}
use Rattle.cpu_feeders.specs.declared.feeder.Feeder.{Feeder}

pub firsts_are : (plan : Shape) (number : ℕ) (firsts : List (Option SourceSeen))
    → firsts_of (first_feeds plan number firsts) ≡ firsts
firsts_are plan number [] = refl
firsts_are plan number (first ∷ firsts) =
    ap (λ (fs : List (Option SourceSeen)). first ∷ fs) (firsts_are plan (number + 1) firsts)

pub firsts_long : (plan : Shape) (number : ℕ) (firsts : List (Option SourceSeen))
    → length (first_feeds plan number firsts) ≡ length firsts
firsts_long plan number [] = refl
firsts_long plan number (first ∷ firsts) = ap suc (firsts_long plan (number + 1) firsts)

module _ {S : Type 0} where
  abbrev pub feed_in : Feeder S → Feeding
  feed_in feeder = feeder.feed

  abbrev pub member_seats_in : Feeder S → List Seat
  member_seats_in feeder = feeder.member_seats.items

  abbrev pub seat_in : Feeder S → SeatValue
  seat_in feeder = feeder.seat

  abbrev pub left_of : Feeder S → CpuLeft
  left_of feeder = record { feed = feeder.feed; member_seats = feeder.member_seats.items; seat = feeder.seat }

  pub feeds_are : (feeders : List (Feeder S)) → feeds_of (map left_of feeders) ≡ map feed_in feeders
  feeds_are [] = refl
  feeds_are (feeder ∷ feeders) = ap (λ (fs : List Feeding). feeder.feed ∷ fs) (feeds_are feeders)

  pub seats_are : (feeders : List (Feeder S)) → seats_of (map left_of feeders) ≡ map seat_in feeders
  seats_are [] = refl
  seats_are (feeder ∷ feeders) = ap (λ (fs : List SeatValue). feeder.seat ∷ fs) (seats_are feeders)

  pub lefts_long : (feeders : List (Feeder S)) → length (map left_of feeders) ≡ length feeders
  lefts_long [] = refl
  lefts_long (feeder ∷ feeders) = ap suc (lefts_long feeders)

  module _ (job : Job) (locks : List Lock) (dealer : DealerValue) where
    abbrev pub Outs : List (Feeder S) → List (Feeder S) → Type 0
    Outs before after = AllZip (λ (old new : Feeder S). FeedsOut job locks old new) before after

    pub all_out : (before after : List (Feeder S)) → AllZip (IsFedOut job locks dealer) before after
        → AllByRecursion (λ (f : Feeder S). f.full ≡ false) after → Outs before after
    all_out [] [] outs free = tt
    all_out [] (n ∷ after) outs free = absurd outs
    all_out (o ∷ before) [] outs free = absurd outs
    all_out (o ∷ before) (n ∷ after) outs free = (outs.0.fed free.0, all_out before after outs.1 free.1)

    pub seats_of_dealer : (before after : List (Feeder S)) → AllZip (IsFedOut job locks dealer) before after
        → AllByRecursion (IsSeatOf dealer) (map seat_in after)
    seats_of_dealer [] [] outs = tt
    seats_of_dealer [] (n ∷ after) outs = absurd outs
    seats_of_dealer (o ∷ before) [] outs = absurd outs
    seats_of_dealer (o ∷ before) (n ∷ after) outs = (outs.0.ended.own, seats_of_dealer before after outs.1)

    pub outs_long : (before after : List (Feeder S)) → Outs before after → length after ≡ length before
    outs_long [] [] outs = refl
    outs_long [] (n ∷ after) outs = absurd outs
    outs_long (o ∷ before) [] outs = absurd outs
    outs_long (o ∷ before) (n ∷ after) outs = ap suc (outs_long before after outs.1)

    pub member_seats_long : (before after : List (Feeder S)) → Outs before after
        → AllByRecursion (λ (f : Feeder S). length f.member_seats.items ≡ length locks) after
    member_seats_long [] [] outs = tt
    member_seats_long [] (n ∷ after) outs = absurd outs
    member_seats_long (o ∷ before) [] outs = absurd outs
    member_seats_long (o ∷ before) (n ∷ after) outs = (outs.0.fed.count, member_seats_long before after outs.1)

    pub all_ended : (before after : List (Feeder S)) → Outs before after
        → AllByRecursion (λ (cpu : Feeding). IsSome cpu.ended) (map feed_in after)
    all_ended [] [] outs = tt
    all_ended [] (n ∷ after) outs = absurd outs
    all_ended (o ∷ before) [] outs = absurd outs
    all_ended (o ∷ before) (n ∷ after) outs = (outs.0.fed.ended, all_ended before after outs.1)

    pub same_firsts : (before after : List (Feeder S)) → Outs before after
        → firsts_of (map feed_in after) ≡ firsts_of (map feed_in before)
    same_firsts [] [] outs = refl
    same_firsts [] (n ∷ after) outs = absurd outs
    same_firsts (o ∷ before) [] outs = absurd outs
    same_firsts (o ∷ before) (n ∷ after) outs =
        ap (λ (first : Option SourceSeen). first ∷ firsts_of (map feed_in after)) outs.0.first
        ∙ ap (λ (firsts : List (Option SourceSeen)). o.feed.first ∷ firsts) (same_firsts before after outs.1)

    -- the seats at a member
    pub idle_at : (before after : List (Feeder S)) (member : ℕ) (lock : Lock) (member_seat : Seat) → Outs before after
        → member < length locks
        → AllByRecursion (λ (member_seats : List Seat). IsIdleSeatOf (get_or locks member lock)
        (get_or member_seats member member_seat)) (map member_seats_in after)
    idle_at [] [] member lock member_seat outs within = tt
    idle_at [] (n ∷ after) member lock member_seat outs within = absurd outs
    idle_at (o ∷ before) [] member lock member_seat outs within = absurd outs
    idle_at (o ∷ before) (n ∷ after) member lock member_seat outs within =
        let count = outs.0.fed.count in (
          (outs.0.fed.each member lock member_seat (omega (arith, within, count))).ready.idle,
          idle_at before after member lock member_seat outs.1 within,
        )

    -- each CPU was fed
    pub all_fed : (plan : Shape) (at : ℕ) (firsts : List (Option SourceSeen)) (before after : List (Feeder S))
        → map feed_in before ≡ first_feeds plan at firsts → Outs before after → (cpu : ℕ) (none : CpuLeft)
        → cpu < length (map left_of after)
        → let left = get_or (map left_of after) cpu none in HasFed job locks (at + cpu) left.feed left.member_seats left.seat
    all_fed plan at firsts [] [] are outs cpu none within = absurd (omega (arith, within))
    all_fed plan at firsts [] (n ∷ after) are outs cpu none within = absurd outs
    all_fed plan at firsts (o ∷ before) [] are outs cpu none within = absurd outs
    all_fed plan at [] (o ∷ before) (n ∷ after) are outs cpu none within = cc
    all_fed plan at (first ∷ firsts) (o ∷ before) (n ∷ after) are outs zero none within =
        let head : o.feed ≡ first_feed plan at first = cc in
        let number : o.feed.number ≡ at + 0 = omega (arith, ap (λ (f : Feeding). f.number) head) in
        subst (λ (number : ℕ). HasFed job locks number n.feed n.member_seats.items n.seat) number outs.0.fed
    all_fed plan at (first ∷ firsts) (o ∷ before) (n ∷ after) are outs (suc cpu) none within =
        let rest : map feed_in before ≡ first_feeds plan (at + 1) firsts = cc in
        let there : at + 1 + cpu ≡ at + suc cpu = omega arith in
        let left = get_or (map left_of after) cpu none in
        subst (λ (number : ℕ). HasFed job locks number left.feed left.member_seats left.seat) there
        (all_fed plan (at + 1) firsts before after rest outs.1 cpu none (omega (arith, within)))

-- ---- feeders that are made one after another

pub next_feed : {S X : Type 0} (seen : X → Option SourceSeen) (plan : Shape) (made now : List (Feeder S)) (rest after : List X)
    (all : List Feeding)
    (source : X) (feeder : Feeder S) → rest ≡ source ∷ after → now ≡ made ++ feeder ∷ []
    → feeder.feed ≡ first_feed plan (length made) (seen source)
    → map feed_in made ++ first_feeds plan (length made) (map seen rest) ≡ all
    → map feed_in now ++ first_feeds plan (length now) (map seen after) ≡ all
next_feed {S = S} {X = X} seen plan made now rest after all source feeder next now_is feed h =
    let long : length now ≡ length made + 1 =
    ap (λ (fs : List (Feeder S)). length fs) now_is ∙ length-append made (feeder ∷ []) in
    let tail : List Feeding = first_feeds plan (length made + 1) (map seen after) in
    ap (λ (n : ℕ). map feed_in now ++ first_feeds plan n (map seen after)) long
    ∙ ap (λ (fs : List (Feeder S)). map feed_in fs ++ tail) now_is
    ∙ ap (λ (fs : List Feeding). fs ++ tail) (map-append feed_in made (feeder ∷ []))
    ∙ append_assoc (map feed_in made) (feeder.feed ∷ []) tail
    ∙ ap (λ (f : Feeding). map feed_in made ++ f ∷ tail) feed
    ∙ ap (λ (xs : List X). map feed_in made ++ first_feeds plan (length made) (map seen xs)) (sym next) ∙ h
