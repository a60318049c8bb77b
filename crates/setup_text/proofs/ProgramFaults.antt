-- Where the faults of a program are.
use Rattle.std.proofs.Common.{◌≡◌, ℕ, ◌+◌, ◌≤◌, Bool, true, false, List, [], ◌∷◌, length, refl, ap, sym, subst, arith, Some}
use Rattle.std.proofs.Common.{None, Ok, Err, Option}
use Rattle.std.specs.Prelude.{Result, nat_lt, if◌then◌else◌}
use Rattle.std.specs.Option.{option_or}
use Rattle.bpf_filter.specs.Codes.{is_code}
use Rattle.bpf_filter.specs.Programs.{ends_with_return, fault_of, fault_of_known, first_fault, has_bad_constant, has_bad_jump}
use Rattle.bpf_filter.specs.Programs.{has_bad_place, has_bad_word, program_after, program_of}
use Rattle.bpf_filter.specs.declared.error.FilterError.{FilterError}
use Rattle.bpf_filter.specs.declared.error.FilterError.TheVariants.{BadCount, BadCode, BadJump, BadConstant, BadMemory}
use Rattle.bpf_filter.specs.declared.error.FilterError.TheVariants.{NoReturn, BadAncillary}
use Rattle.bpf_filter.specs.declared.insn.Insn.{Insn}
use Rattle.setup_text.specs.FilterFaults.{place_of}

some_same : {A : Type 0} (x y : A) → Some x ≡ Some y → x ≡ y
some_same x y h = cc

-- the chosen fault is that of this instruction
known : (at : ℕ) (a b c d : Bool) (fault : FilterError)
    → (if a then Some (BadConstant at) else if b then Some (BadMemory at) else if c then Some (BadAncillary at)
    else if d then Some (BadJump at) else None) ≡ Some fault
    → place_of fault ≡ at
known at true b c d fault h = sym (ap (λ f. place_of f) (some_same (BadConstant at) fault h))
known at false true c d fault h = sym (ap (λ f. place_of f) (some_same (BadMemory at) fault h))
known at false false true d fault h = sym (ap (λ f. place_of f) (some_same (BadAncillary at) fault h))
known at false false false true fault h = sym (ap (λ f. place_of f) (some_same (BadJump at) fault h))
known at false false false false fault h = cc

coded : (at : ℕ) (a : Bool) (known_fault : Option FilterError) (fault : FilterError)
    → (known_fault ≡ Some fault → place_of fault ≡ at)
    → (if a then known_fault else Some (BadCode at)) ≡ Some fault → place_of fault ≡ at
coded at true known_fault fault k h = k h
coded at false known_fault fault k h = sym (ap (λ f. place_of f) (some_same (BadCode at) fault h))

fault_of-place : (at behind : ℕ) (i : Insn) (fault : FilterError) → fault_of at behind i ≡ Some fault → place_of fault ≡ at
unfolding fault_of
fault_of-place at behind i fault h =
    coded at (is_code i.code) (fault_of_known at behind i) fault
    (known at (has_bad_constant i) (has_bad_word i) (has_bad_place i) (has_bad_jump behind i) fault) h

first_place : (at : ℕ) (one more : Option FilterError) (size : ℕ) (fault : FilterError)
    → ((fault : FilterError) → one ≡ Some fault → place_of fault ≡ at)
    → ((fault : FilterError) → more ≡ Some fault → place_of fault ≤ at + 1 + size)
    → option_or one more ≡ Some fault → place_of fault ≤ at + (1 + size)
first_place at None more size fault o m h = omega (arith, m fault h)
first_place at (Some one) more size fault o m h =
    subst (λ fault. place_of fault ≤ at + (1 + size)) (some_same one fault h) (omega (arith, o one refl))

first_fault-place : (at : ℕ) (program : List Insn) (fault : FilterError) → first_fault at program ≡ Some fault
    → place_of fault ≤ at + length program
first_fault-place at [] fault h = cc
first_fault-place at (i ∷ rest) fault h =
    omega (
      arith,
      first_place at (fault_of at (length rest) i) (first_fault (at + 1) rest) (length rest) fault
          (λ fault. fault_of-place at (length rest) i fault) (λ fault. first_fault-place (at + 1) rest fault) h,
    )

pub err_same : {A E : Type 0} (x y : E) → ◌≡◌ {A = Result A E} (Err x) (Err y) → x ≡ y
err_same x y h = cc

no_return : (ends : Bool) (program : List Insn) (fault : FilterError) (n : ℕ)
    → ◌≡◌ {A = Result (List Insn) FilterError} (if ends then Ok program else Err NoReturn) (Err fault) → place_of fault ≤ n
no_return true program fault n h = cc
no_return false program fault n h =
    subst (λ fault. place_of fault ≤ n) (err_same {A = List Insn} NoReturn fault h) (omega arith)

after_place : (first : Option FilterError) (program : List Insn) (fault : FilterError) (n : ℕ)
    → ((fault : FilterError) → first ≡ Some fault → place_of fault ≤ n)
    → program_after first program ≡ Err fault → place_of fault ≤ n
after_place (Some first) program fault n o h =
    subst (λ fault. place_of fault ≤ n) (err_same {A = List Insn} first fault h) (o first refl)
after_place None program fault n o h = no_return (ends_with_return program) program fault n h

sized : (large : Bool) (given : Result (List Insn) FilterError) (fault : FilterError) (n : ℕ)
    → (given ≡ Err fault → place_of fault ≤ n)
    → (if large then Err BadCount else given) ≡ Err fault → place_of fault ≤ n
sized true given fault n g h = subst (λ fault. place_of fault ≤ n) (err_same {A = List Insn} BadCount fault h) (omega arith)
sized false given fault n g h = g h

pub program_of-place : (program : List Insn) (fault : FilterError) → program_of program ≡ Err fault
    → place_of fault ≤ length program
unfolding program_of
program_of-place program fault h =
    sized (nat_lt 4096 (length program)) (program_after (first_fault 0 program) program) fault (length program)
    (after_place (first_fault 0 program) program fault (length program)
    (λ fault h. omega (arith, first_fault-place 0 program fault h))) h
