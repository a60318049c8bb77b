-- A counter over the instructions, and the instructions that are still to be done.
use Rattle.std.proofs.Common.{◌≡◌, ℕ, zero, suc, ◌+◌, ◌<◌, List, [], ◌∷◌, length, drop, get_or, ◌-◌, refl, ap, sym, ◌∙◌, subst}
use Rattle.std.proofs.Common.{arith}
use Rattle.std.specs.Prelude.{Ok}
use Rattle.std.proofs.lemmas.List.{drop-drop, length-drop}
use Rattle.bpf_filter.specs.declared.insn.Insn.{Insn}
use Rattle.bpf_filter.specs.Codes.{State, Next, Answers, GoesOn, effect}
use Rattle.bpf_filter.proofs.Checks.{accepted_fit, accepted_some}
use Rattle.bpf_filter.proofs.Leads.{AllFit, Fits, skip_inside}
use Rattle.bpf_filter.specs.Programs.{program_of}
use Rattle.bpf_filter.specs.PacketFacts.{PacketFacts}
use Rattle.bpf_filter.specs.Verdict.{go, follow, verdict_of, first_state}

-- skipping instructions is leaving them out
pub go-drop : (program : List Insn) (skip : ℕ) (p : PacketFacts) (s : State)
    → go program skip p s ≡ go (drop skip program) 0 p s
unfolding go
go-drop [] zero p s = refl
go-drop [] (suc skip) p s = refl
go-drop (i ∷ rest) zero p s = refl
go-drop (i ∷ rest) (suc skip) p s = go-drop rest skip p s

-- the instruction at a place
pub record At (code : List Insn) (at : ℕ) (insn : Insn) : Type 0 where
  pub here : drop at code ≡ insn ∷ drop (suc at) code
  pub fits : Fits (length (drop (suc at) code)) insn

insn_at : (code : List Insn) (at : ℕ) (d : Insn) → AllFit code → at < length code → At code at (get_or code at d)
insn_at [] at d h l = absurd (omega arith)
insn_at (i ∷ code) zero d h l = record { here = refl; fits = h.0 }
insn_at (i ∷ code) (suc at) d h l =
    let behind = insn_at code at d h.1 (omega arith) in
    record { here = behind.here; fits = behind.fits }

pub accepted_at : (code : List Insn) (at : ℕ) (d : Insn) → program_of code ≡ Ok code → at < length code
    → At code at (get_or code at d)
accepted_at code at d h l = insn_at code at d (accepted_fit code h) l

pub same_accepted : (code given : List Insn) → program_of code ≡ Ok code → given ≡ code → program_of given ≡ Ok given
same_accepted code given h e = subst (λ code. program_of code ≡ Ok code) (sym e) h

-- the instructions after one, written in another way
follow-same : (next : Next) (behind other : ℕ → State → ℕ) → ((skip : ℕ) (s : State) → behind skip s ≡ other skip s)
    → follow next behind ≡ follow next other
follow-same (Answers number) behind other h = refl
follow-same (GoesOn skip s) behind other h = h skip s

-- one step of the counter
go-step : (code : List Insn) (at : ℕ) (insn : Insn) (p : PacketFacts) (s : State) → At code at insn
    → go (drop at code) 0 p s ≡ follow (effect insn p s) (λ skip next. go (drop (at + (1 + skip)) code) 0 p next)
unfolding go
go-step code at insn p s a =
    ap (λ program. go program 0 p s) a.here
    ∙ follow-same (effect insn p s) (λ skip s. go (drop (suc at) code) skip p s)
    (λ skip s. go (drop (at + (1 + skip)) code) 0 p s)
    (λ skip s.
    go-drop (drop (suc at) code) skip p s
    ∙ ap (λ program. go program 0 p s) (drop-drop skip (suc at) code)
    ∙ ap (λ n. go (drop n code) 0 p s) (omega arith))

-- the instructions from the counter on give the verdict, and there is one
pub record Goes (code : List Insn) (at : ℕ) (p : PacketFacts) (s : State) : Type 0 where
  pub same : go (drop at code) 0 p s ≡ verdict_of code p
  pub inside : at < length code

pub goes_first : (code : List Insn) (p : PacketFacts) (s : State) → program_of code ≡ Ok code → s ≡ first_state
    → Goes code 0 p s
unfolding verdict_of
goes_first code p s h e = record { same = ap (λ s. go code 0 p s) e; inside = accepted_some code h }

pub goes_to_answer : (code : List Insn) (at : ℕ) (insn : Insn) (p : PacketFacts) (s : State) (answer : ℕ) → Goes code at p s
    → At code at insn → Answers answer ≡ effect insn p s → answer ≡ verdict_of code p
goes_to_answer code at insn p s answer g a e =
    ap (λ next. follow next (λ skip next. go (drop (at + (1 + skip)) code) 0 p next)) e
    ∙ sym (go-step code at insn p s a) ∙ g.same

goes_on : (code : List Insn) (at : ℕ) (insn : Insn) (p : PacketFacts) (s : State) (skip : ℕ) (next : State) → Goes code at p s
    → At code at insn → GoesOn skip next ≡ effect insn p s → Goes code (at + (1 + skip)) p next
goes_on code at insn p s skip next g a e = record {
  same = ap (λ next. follow next (λ skip next. go (drop (at + (1 + skip)) code) 0 p next)) e
      ∙ sym (go-step code at insn p s a) ∙ g.same;
  inside = omega (arith, skip_inside _ insn p s skip next a.fits e, length-drop (suc at) code);
}

-- a step by one or more instructions
pub goes_further : (code : List Insn) (at : ℕ) (insn : Insn) (p : PacketFacts) (s : State) (further : ℕ) (next : State)
    → Goes code at p s → At code at insn → 0 < further → GoesOn (further - 1) next ≡ effect insn p s
    → Goes code (at + further) p next
goes_further code at insn p s further next g a l e =
    let same : at + (1 + (further - 1)) ≡ at + further = omega arith in
    subst (λ at. Goes code at p next) same (goes_on code at insn p s (further - 1) next g a e)
