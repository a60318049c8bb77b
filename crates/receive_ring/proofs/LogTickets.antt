-- The tickets of logs, one of which has one more entry.
use Rattle.std.proofs.Common.{◌≡◌, ℕ, ◌+◌, ◌<◌, ◌≤◌, eqb, ltb, List, [], ◌∷◌, ◌++◌, length, get_or, refl, ap, ◌∙◌, arith}
use Rattle.std.specs.Prelude.{Option, None, Some, sum_by, count_by, slice_set}
use Rattle.std.specs.List.{cons_option}
use Rattle.std.proofs.lemmas.Grind.{common_steps}
use Rattle.std.proofs.lemmas.List.{length_push}
use Rattle.std.proofs.lemmas.List.Sums.{sum_by-set, sum_by_push}
use Rattle.fanout_group.specs.Joined.{Rises, tickets_of}
use Rattle.fanout_group.specs.declared.logs.ArrivalLog.{ArrivalLog}
use Rattle.fanout_group.proofs.Members.{one_if}
use Rattle.receive_ring.specs.Replay.{Cpu, no_cpu}

front-append : (ticket : Option ℕ) (a b : List ℕ) → cons_option ticket (a ++ b) ≡ cons_option ticket a ++ b
front-append None a b = refl
front-append (Some ticket) a b = refl

tickets-append : (a b : List ArrivalLog) → tickets_of (a ++ b) ≡ tickets_of a ++ tickets_of b
tickets-append [] b = refl
tickets-append (entry ∷ a) b = ap (cons_option entry.ticket) (tickets-append a b)
    ∙ front-append entry.ticket (tickets_of a) (tickets_of b)

-- the tickets of a log with one more entry
pub tickets_more : (log : List ArrivalLog) (entry : ArrivalLog) (ticket : ℕ) → entry.ticket ≡ Some ticket
    → tickets_of (log ++ entry ∷ []) ≡ tickets_of log ++ ticket ∷ []
tickets_more log entry ticket e =
    tickets-append log (entry ∷ []) ∙ ap (λ (t : Option ℕ). tickets_of log ++ cons_option t []) e

pub rises_from : (low high : ℕ) (numbers : List ℕ) → low ≤ high → Rises high numbers → Rises low numbers
rises_from low high [] h rises = tt
rises_from low high (number ∷ numbers) h rises = let first = rises.0 in (omega arith, rises.1)

-- the numbers below the next one, and that one
pub one_more : (at next : ℕ) → one_if (ltb at next) + one_if (eqb next at) ≡ one_if (ltb at (next + 1))
one_more at next = grind (arith, common_steps)

module _ (cpus : List Cpu) (at ticket : ℕ) (new : Cpu) (entry : ArrivalLog) (inside : at < length cpus)
    (log_is : new.log ≡ (get_or cpus at no_cpu).log ++ entry ∷ []) (ticket_is : entry.ticket ≡ Some ticket) where
  pub once_more : (drawn : ℕ) → sum_by (λ cpu. count_by (λ t. eqb t drawn) (tickets_of cpu.log)) (slice_set cpus at new)
      ≡ sum_by (λ cpu. count_by (λ t. eqb t drawn) (tickets_of cpu.log)) cpus + one_if (eqb ticket drawn)
  once_more drawn =
      let old = get_or cpus at no_cpu in
      let f : Cpu → ℕ = λ cpu. count_by (λ t. eqb t drawn) (tickets_of cpu.log) in
      let more : f new ≡ f old + one_if (eqb ticket drawn) =
      ap (λ (log : List ArrivalLog). count_by (λ t. eqb t drawn) (tickets_of log)) log_is
      ∙ ap (λ (ts : List ℕ). count_by (λ t. eqb t drawn) ts) (tickets_more old.log entry ticket ticket_is)
      ∙ sum_by_push (λ t. one_if (eqb t drawn)) (tickets_of old.log) ticket in
      omega (arith, sum_by-set f cpus at new no_cpu inside)

  pub total_more : sum_by (λ cpu. length cpu.log) (slice_set cpus at new) ≡ sum_by (λ cpu. length cpu.log) cpus + 1
  total_more =
      let old = get_or cpus at no_cpu in
      let f : Cpu → ℕ = λ cpu. length cpu.log in
      let more : f new ≡ f old + 1 = ap (λ (log : List ArrivalLog). length log) log_is ∙ length_push old.log entry in
      omega (arith, sum_by-set f cpus at new no_cpu inside)
