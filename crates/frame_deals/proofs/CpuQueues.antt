-- The queues of the CPUs, one after another.
use Rattle.std.proofs.Common.{◌≡◌, List, [], ◌∷◌, ◌++◌, length, map, sym, ap, ◌∙◌, subst, append_assoc, append-nil, arith}
use Rattle.std.specs.List.{AllByRecursion}
use Rattle.frame_deals.specs.Dealings.{Dealing, IsRising}
use Rattle.frame_deals.specs.declared.mark_queue.MarkedFrame.{MarkedFrame}

abbrev pub queues_of : List Dealing → List (List MarkedFrame)
queues_of cpus = map (λ cpu. cpu.marks) cpus

-- these queues are those of the first CPUs, and these CPUs are left
pub record AreQueues (cpus : List Dealing) (queues : List (List MarkedFrame)) (left : List Dealing) : Type 0 where
  pub same : queues ++ queues_of left ≡ queues_of cpus
  pub rise : AllByRecursion IsRising queues

pub no_queues : (cpus left : List Dealing) (queues : List (List MarkedFrame)) → cpus ≡ left → queues ≡ []
    → AreQueues cpus queues left
no_queues cpus left queues e none = record {
  same = ap (λ (qs : List (List MarkedFrame)). qs ++ queues_of left) none ∙ ap queues_of (sym e);
  rise = subst (AllByRecursion IsRising) (sym none) tt;
}

pub all_queues : (cpus left : List Dealing) (queues : List (List MarkedFrame)) → AreQueues cpus queues left
    → length left ≡ 0 → queues ≡ queues_of cpus
all_queues cpus [] queues h none = sym (append-nil queues) ∙ h.same
all_queues cpus (cpu ∷ left) queues h none = absurd (omega (arith, none))

rise_more : (queues : List (List MarkedFrame)) (queue : List MarkedFrame) → AllByRecursion IsRising queues → IsRising queue
    → AllByRecursion IsRising (queues ++ queue ∷ [])
rise_more [] queue all one = (one, tt)
rise_more (first ∷ queues) queue all one = (all.0, rise_more queues queue all.1 one)

pub one_queue : (cpus left rest : List Dealing) (queues more : List (List MarkedFrame)) (cpu : Dealing)
    (queue : List MarkedFrame) → AreQueues cpus queues left → left ≡ cpu ∷ rest → queue ≡ cpu.marks → IsRising queue
    → more ≡ queues ++ queue ∷ [] → AreQueues cpus more rest
one_queue cpus left rest queues more cpu queue h e is rises m = record {
  same = ap (λ (qs : List (List MarkedFrame)). qs ++ queues_of rest) m
      ∙ append_assoc queues (queue ∷ []) (queues_of rest)
      ∙ ap (λ (q : List MarkedFrame). queues ++ q ∷ queues_of rest) is
      ∙ ap (λ (cs : List Dealing). queues ++ queues_of cs) (sym e)
      ∙ h.same;
  rise = subst (AllByRecursion IsRising) (sym m) (rise_more queues queue h.rise rises);
}
