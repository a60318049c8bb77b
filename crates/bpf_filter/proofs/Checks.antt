-- What a loop over the instructions of a program has checked.
use Rattle.std.proofs.Common.{◌≡◌, ℕ, ◌+◌, ◌-◌, ◌<◌, ◌≤◌, Bool, true, false, List, [], ◌∷◌, length, drop, get_or, refl, ap, sym}
use Rattle.std.proofs.Common.{◌∙◌, subst, arith, Some, None, Option, add-one}
use Rattle.std.specs.Option.{option_or}
use Rattle.std.proofs.lemmas.Grind.{common_steps}
use Rattle.std.proofs.Math.Seq.{drop-cons, drop-length}
use Rattle.std.proofs.lemmas.List.{length-drop}
use Rattle.bpf_filter.specs.declared.insn.Insn.{Insn}
use Rattle.bpf_filter.specs.declared.error.FilterError.{FilterError}
use Rattle.bpf_filter.specs.declared.error.FilterError.TheVariants.{BadCode, BadCount, NoReturn, Memory}
use Rattle.std.specs.Prelude.{Result, Ok, Err, if◌then◌else◌, is_some, nat_lt}
use Rattle.std.proofs.lemmas.Option.{none-some}
use Rattle.bpf_filter.specs.Answers.{Refuses}
use Rattle.bpf_filter.specs.Codes.{is_code}
use Rattle.bpf_filter.specs.Programs.{program_of, program_after, fault_of, fault_of_known, first_fault, ends_with_return}
use Rattle.bpf_filter.specs.Programs.{is_among, has_bad_constant, has_bad_word, has_bad_place, has_bad_jump}
use Rattle.bpf_filter.proofs.Leads.{AllFit, Fits, is_return}

-- no instruction before the place has a fault
pub record Checked (code : List Insn) (at : ℕ) : Type 0 where
  pub before : first_fault 0 code ≡ first_fault at (drop at code)

pub checked_none : (code : List Insn) → Checked code 0
checked_none code = record { before = refl }

-- the fault of the instruction at the place, with the faults after it
fault_here : (code : List Insn) (at : ℕ) (d : Insn) → at < length code
    → first_fault at (drop at code) ≡ option_or (fault_of at (length code - at - 1) (get_or code at d))
    (first_fault (at + 1) (drop (at + 1) code))
fault_here code at d l =
    let here : drop at code ≡ get_or code at d ∷ drop (at + 1) code = rw add-one (drop-cons code at d l) in
    let behind : length (drop (at + 1) code) ≡ length code - at - 1 = omega (arith, length-drop (at + 1) code) in
    ap (first_fault at) here
    ∙ ap (λ n. option_or (fault_of at n (get_or code at d)) (first_fault (at + 1) (drop (at + 1) code))) behind

-- the next instruction has no fault, or has the first one
pub checked_more : (code : List Insn) (at : ℕ) (d : Insn) (found : Option FilterError) → Checked code at → at < length code
    → found ≡ fault_of at (length code - at - 1) (get_or code at d) → is_some found ≡ false → Checked code (at + 1)
checked_more code at d None c l f none = record {
  before = c.before ∙ fault_here code at d l
      ∙ ap (λ fault. option_or fault (first_fault (at + 1) (drop (at + 1) code))) (sym f);
}
checked_more code at d (Some fault) c l f none = cc

pub checked_fault : (code : List Insn) (at : ℕ) (d : Insn) (found : Option FilterError) → Checked code at → at < length code
    → found ≡ fault_of at (length code - at - 1) (get_or code at d) → is_some found ≡ true → found ≡ first_fault 0 code
checked_fault code at d None c l f some = cc
checked_fault code at d (Some fault) c l f some =
    sym (c.before ∙ fault_here code at d l ∙ ap (λ fault. option_or fault (first_fault (at + 1) (drop (at + 1) code))) (sym f))

pub checked_all : (code : List Insn) (at : ℕ) → Checked code at → at ≡ length code → None ≡ first_fault 0 code
checked_all code at c e =
    let none : drop at code ≡ [] = ap (λ n. drop n code) e ∙ drop-length code in
    sym (c.before ∙ ap (first_fault at) none)

last_behind : (i j : Insn) (code : List Insn) (d : Insn)
    → get_or (j ∷ code) (length (j ∷ code) - 1) d ≡ get_or (i ∷ j ∷ code) (length (i ∷ j ∷ code) - 1) d
last_behind i j code d = grind (arith, common_steps)

pub ends_by_last : (code : List Insn) (d : Insn) → 0 < length code
    → ends_with_return code ≡ is_among (0x06 ∷ 0x16 ∷ []) (get_or code (length code - 1) d).code
ends_by_last [] d l = absurd (omega arith)
ends_by_last (i ∷ []) d l = refl
ends_by_last (i ∷ j ∷ code) d l =
    ends_by_last (j ∷ code) d (omega arith) ∙ ap (λ insn. is_among (0x06 ∷ 0x16 ∷ []) insn.code) (last_behind i j code d)

-- if no fault is found, no test of the chain holds
no_test_holds : (a b c d : Bool) (w x y z : FilterError)
    → (if a then Some w else if b then Some x else if c then Some y else if d then Some z else None) ≡ None
    → (b ≡ false) × (d ≡ false)
no_test_holds a b c d w x y z h = (grind arith, grind arith)

no_bad : (at behind : ℕ) (i : Insn) → fault_of_known at behind i ≡ None
    → (has_bad_word i ≡ false) × (has_bad_jump behind i ≡ false)
no_bad at behind i h = no_test_holds (has_bad_constant i) (has_bad_word i) (has_bad_place i) (has_bad_jump behind i) _ _ _ _ h

-- if no instruction has a fault, and the last one returns, each fits its place
one_fits : (at behind : ℕ) (i : Insn) → fault_of at behind i ≡ None → (behind ≡ 0 → is_return i.code ≡ true) → Fits behind i
unfolding fault_of
one_fits at behind i h last = by_test (is_code i.code) refl h
  where
    by_test : (known : Bool) → is_code i.code ≡ known → (if known then fault_of_known at behind i else Some (BadCode at)) ≡ None
        → Fits behind i
    by_test true is h =
        let none = no_bad at behind i h in
        record { runnable = record { known = is; word = none.0 }; jump = none.1; last = last }
    by_test false is h = absurd (none-some (BadCode at) (sym h))

no_fault : (fault rest : Option FilterError) → option_or fault rest ≡ None → (fault ≡ None) × (rest ≡ None)
no_fault None rest h = (refl, h)
no_fault (Some fault) rest h = absurd (none-some fault (sym h))

all_fit : (at : ℕ) (code : List Insn) → first_fault at code ≡ None → ends_with_return code ≡ true → AllFit code
all_fit at [] h e = tt
all_fit at (i ∷ []) h e = (one_fits at 0 i (no_fault (fault_of at 0 i) None h).0 (λ none. e), tt)
all_fit at (i ∷ j ∷ code) h e =
    let none = no_fault (fault_of at (length (j ∷ code)) i) (first_fault (at + 1) (j ∷ code)) h in
    (one_fits at (length (j ∷ code)) i none.0 (λ none. absurd (omega arith)), all_fit (at + 1) (j ∷ code) none.1 e)

-- ---- the whole program

pub program_of-large : (code : List Insn) → 4096 < length code → program_of code ≡ Err BadCount
unfolding program_of
program_of-large code h =
    let long : nat_lt 4096 (length code) ≡ true = grind arith in
    rw long refl

pub program_of-small : (code : List Insn) → length code ≤ 4096 → program_of code ≡ program_after (first_fault 0 code) code
unfolding program_of
program_of-small code h =
    let short : nat_lt 4096 (length code) ≡ false = grind arith in
    rw short refl

refuses_after : (error : FilterError) (fault : Option FilterError) (code : List Insn) → fault ≡ Some error
    → Refuses error (program_after fault code)
refuses_after Memory fault code h = tt
refuses_after error fault code h = ap (λ fault. program_after fault code) h

pub refuses_fault : (error : FilterError) (code : List Insn) → length code ≤ 4096 → first_fault 0 code ≡ Some error
    → Refuses error (program_of code)
refuses_fault error code l h =
    subst (Refuses error) (sym (program_of-small code l)) (refuses_after error (first_fault 0 code) code h)

pub program_of-no_return : (code : List Insn) → length code ≤ 4096 → first_fault 0 code ≡ None → ends_with_return code ≡ false
    → program_of code ≡ Err NoReturn
program_of-no_return code l h e = program_of-small code l ∙ ap (λ fault. program_after fault code) h ∙ rw e refl

pub program_of-good : (code : List Insn) → length code ≤ 4096 → first_fault 0 code ≡ None → ends_with_return code ≡ true
    → program_of code ≡ Ok code
program_of-good code l h e = program_of-small code l ∙ ap (λ fault. program_after fault code) h ∙ rw e refl

-- ---- what is known of a program that was accepted

record Parts (code : List Insn) : Type 0 where
  small : length code ≤ 4096
  none : first_fault 0 code ≡ None
  ends : ends_with_return code ≡ true

parts_of : (code : List Insn) → program_of code ≡ Ok code → Parts code
unfolding program_of
parts_of code h = by_test (first_fault 0 code) refl h
  where
    by_test : (fault : Option FilterError) → first_fault 0 code ≡ fault → ◌≡◌ {A = Result (List Insn) FilterError}
        (if nat_lt 4096 (length code) then Err BadCount else program_after fault code) (Ok code) → Parts code
    by_test None f h = record { small = grind arith; none = f; ends = grind arith }
    by_test (Some fault) f h = absurd (grind arith)

pub accepted_fit : (code : List Insn) → program_of code ≡ Ok code → AllFit code
accepted_fit code h =
    let parts = parts_of code h in
    all_fit 0 code parts.none parts.ends

some_by_end : (code : List Insn) → ends_with_return code ≡ true → 0 < length code
some_by_end [] h = cc
some_by_end (i ∷ code) h = omega arith

pub accepted_some : (code : List Insn) → program_of code ≡ Ok code → 0 < length code
accepted_some code h = some_by_end code (parts_of code h).ends

pub accepted_small : (code : List Insn) → program_of code ≡ Ok code → length code ≤ 4096
accepted_small code h = (parts_of code h).small
