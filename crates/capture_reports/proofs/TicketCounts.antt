-- The tickets of the logs are those of the dealer.
use Rattle.std.proofs.Common.{◌≡◌, ◌+◌, ℕ, zero, suc, List, [], ◌∷◌, ◌++◌, length, refl, sym, ap, ◌∙◌, subst, arith, get_or}
use Rattle.std.proofs.Common.{if◌then◌else◌, Option, Some, None}
use Rattle.std.proofs.lemmas.Bool.{false≢true}
use Rattle.std.proofs.lemmas.List.Sums.{sum_by-append, sum_by-cons}
use Rattle.std.specs.List.{AllByRecursion, cons_option}
use Rattle.std.specs.Prelude.{◌==◌, nat_lt, map, sum_by, count_by, IsSome}
use Rattle.capture_reports.specs.Threads.{DrewNone, HaveTickets}
use Rattle.fanout_group.specs.Joined.{Logged, nothing_logged, tickets_of}
use Rattle.fanout_group.specs.Logs.{IsLawful, IsLawfulFrom}
use Rattle.fanout_group.specs.Routes.{present_after}
use Rattle.fanout_group.specs.Rules.{HasTicket, Rules}
use Rattle.fanout_group.specs.declared.logs.ArrivalLog.{ArrivalLog}
use Rattle.fanout_group.specs.declared.modes.Mode.{Mode}
use Rattle.fanout_group.specs.declared.modes.Mode.TheVariants.{Lb}
use Rattle.frame_view.specs.declared.frames.Frame.{Frame}
use Rattle.ticket_dealer.specs.Seats.{RisesIn, SeatValue}
use Rattle.ticket_dealer.specs.Tickets.{Rises}

-- a sum over a list is the sum over the mapped list
sum_of : {A B : Type 0} (f : A → B) (weight : B → ℕ) (xs : List A) → sum_by (λ x. weight (f x)) xs ≡ sum_by weight (map f xs)
sum_of f weight [] = refl
sum_of f weight (x ∷ xs) =
    sum_by-cons (λ z. weight (f z)) x xs ∙ ap (λ (rest : ℕ). weight (f x) + rest) (sum_of f weight xs)
    ∙ sym (sum_by-cons weight (f x) (map f xs))

abbrev tickets_in : Logged → List ℕ
tickets_in logged = tickets_of logged.log

abbrev drawn_by : SeatValue → List ℕ
drawn_by seat = seat.drawn

none_sum : (weight : List ℕ → ℕ) (others : List SeatValue) → weight [] ≡ 0 → AllByRecursion DrewNone others
    → sum_by (λ (seat : SeatValue). weight seat.drawn) others ≡ 0
none_sum weight [] nothing none = refl
none_sum weight (seat ∷ others) nothing none =
    let here = ap weight none.0 ∙ nothing in
    let rest = none_sum weight others nothing none.1 in
    let all = sum_by-cons (λ (s : SeatValue). weight s.drawn) seat others in
    omega (arith, here, rest, all)

-- a sum over the logs' tickets is that over the seats'
same_sum : (cpus : List Logged) (seats : List SeatValue) (number : ℕ) (weight : List ℕ → ℕ) → weight [] ≡ 0
    → HaveTickets cpus seats number
    → sum_by (λ (logged : Logged). weight (tickets_of logged.log)) cpus ≡ sum_by (λ (seat : SeatValue). weight seat.drawn) seats
same_sum cpus seats number weight nothing have =
    let logs = sum_of tickets_in weight cpus in
    let feeders = sum_of drawn_by weight have.feeders in
    let same = ap (sum_by weight) have.drawn in
    let all = ap (sum_by (λ (seat : SeatValue). weight seat.drawn)) have.seats_are
    ∙ sum_by-append (λ (seat : SeatValue). weight seat.drawn) have.feeders have.others in
    let none = none_sum weight have.others nothing have.none in
    omega (arith, logs, feeders, same, all, none)

-- in mode Lb each arrival has a ticket
one_more : (ticket : Option ℕ) (tickets : List ℕ) → IsSome ticket → length (cons_option ticket tickets) ≡ suc (length tickets)
one_more None tickets some = absurd (false≢true some)
one_more (Some ticket) tickets some = refl

has_one : (mode : Mode) (ticket : Option ℕ) → mode ≡ Lb → HasTicket mode ticket → IsSome ticket
has_one mode ticket lb has = subst (λ (m : Mode). HasTicket m ticket) lb has

pub each_ticket : (rules : Rules) (present : ℕ) (arrivals : List Frame) (log : List ArrivalLog) → rules.mode ≡ Lb
    → IsLawfulFrom rules present arrivals log → length (tickets_of log) ≡ length log
each_ticket rules present [] [] lb lawful = refl
each_ticket rules present [] (entry ∷ log) lb lawful = absurd lawful
each_ticket rules present (f ∷ arrivals) [] lb lawful = absurd lawful
each_ticket rules present (f ∷ arrivals) (entry ∷ log) lb lawful =
    one_more entry.ticket (tickets_of log) (has_one rules.mode entry.ticket lb lawful.0.ticket)
    ∙ ap suc (each_ticket rules (present_after rules.mode present entry.tries) arrivals log lb lawful.1)

-- so there are as many tickets as arrivals
same_long : (rules : Rules) (cpus : List Logged) → rules.mode ≡ Lb
    → ((cpu : ℕ) → IsLawful rules (get_or cpus cpu nothing_logged).arrivals (get_or cpus cpu nothing_logged).log)
    → sum_by (λ (logged : Logged). length (tickets_of logged.log)) cpus ≡ sum_by (λ (logged : Logged). length logged.log) cpus
same_long rules [] lb lawful = refl
same_long rules (logged ∷ cpus) lb lawful =
    let here = each_ticket rules 0 logged.arrivals logged.log lb (lawful zero) in
    let rest = same_long rules cpus lb (λ cpu. lawful (suc cpu)) in
    let tickets = sum_by-cons (λ (l : Logged). length (tickets_of l.log)) logged cpus in
    let entries = sum_by-cons (λ (l : Logged). length l.log) logged cpus in
    omega (arith, here, rest, tickets, entries)

pub tickets_once : (rules : Rules) (cpus : List Logged) (seats : List SeatValue) (number ticket : ℕ) → rules.mode ≡ Lb
    → ((cpu : ℕ) → IsLawful rules (get_or cpus cpu nothing_logged).arrivals (get_or cpus cpu nothing_logged).log)
    → HaveTickets cpus seats number
    → sum_by (λ (logged : Logged). count_by (λ drawn. drawn == ticket) (tickets_of logged.log)) cpus
    ≡ (if nat_lt ticket (sum_by (λ (logged : Logged). length logged.log) cpus) then 1 else 0)
tickets_once rules cpus seats number ticket lb lawful have =
    let long : number ≡ sum_by (λ (logged : Logged). length logged.log) cpus =
    sym have.dealt.sum ∙ sym (same_sum cpus seats number length refl have) ∙ same_long rules cpus lb lawful in
    same_sum cpus seats number (count_by (λ drawn. drawn == ticket)) refl have ∙ have.dealt.once ticket
    ∙ ap (λ (n : ℕ). if nat_lt ticket n then 1 else 0) long

-- and they rise in each log
front_rises : (feeders others : List SeatValue) → AllByRecursion RisesIn (feeders ++ others)
    → AllByRecursion (Rises 0) (map drawn_by feeders)
front_rises [] others rising = tt
front_rises (seat ∷ feeders) others rising = (rising.0, front_rises feeders others rising.1)

rises_at : (cpus : List Logged) (cpu : ℕ) → AllByRecursion (Rises 0) (map tickets_in cpus)
    → Rises 0 (tickets_of (get_or cpus cpu nothing_logged).log)
rises_at [] cpu rising = tt
rises_at (logged ∷ cpus) zero rising = rising.0
rises_at (logged ∷ cpus) (suc cpu) rising = rises_at cpus cpu rising.1

pub tickets_rise : (cpus : List Logged) (seats : List SeatValue) (number cpu : ℕ) → HaveTickets cpus seats number
    → Rises 0 (tickets_of (get_or cpus cpu nothing_logged).log)
tickets_rise cpus seats number cpu have =
    rises_at cpus cpu (subst (AllByRecursion (Rises 0)) (sym have.drawn)
    (front_rises have.feeders have.others (subst (AllByRecursion RisesIn) have.seats_are have.dealt.rising)))
