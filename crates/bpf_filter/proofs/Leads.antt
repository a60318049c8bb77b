-- That each step of an accepted program leads to another of its instructions, or to a verdict.
use Rattle.std.proofs.Common.{◌≡◌, ℕ, zero, suc, ◌+◌, ◌<◌, Bool, true, false, ◌&&◌, ◌||◌, List, [], ◌∷◌, length, refl, subst}
use Rattle.std.proofs.Common.{ap, sym, ◌∙◌, arith, true≢false, Option, None, Some}
use Rattle.std.specs.Prelude.{◌==◌, nat_le, if◌then◌else◌}
use Rattle.std.specs.List.{AllByRecursion}
use Rattle.std.specs.Option.{option_map}
use Rattle.std.proofs.lemmas.Bool.Decides.{Decides-eqb, nat_tests}
use Rattle.bpf_filter.specs.declared.insn.Insn.{Insn}
use Rattle.bpf_filter.specs.Codes.{State, Next, Answers, GoesOn, Effect, absolute, codes}
use Rattle.bpf_filter.specs.Codes.{effect, effect_from, header_length, is_at_least, is_equal, is_greater}
use Rattle.bpf_filter.specs.Codes.{left_shift, load_a, load_x, number_at, quotient, remainder, right_shift, shares_bit}
use Rattle.bpf_filter.specs.Programs.{IsRunnable, has_bad_jump, is_among}
use Rattle.bpf_filter.specs.PacketFacts.{PacketFacts}
use Rattle.bpf_filter.specs.Tables.{item_at}

abbrev pub is_return : ℕ → Bool
is_return code = is_among (0x06 ∷ 0x16 ∷ []) code

abbrev is_branch : ℕ → Bool
is_branch code = is_among (0x15 ∷ 0x1d ∷ 0x25 ∷ 0x2d ∷ 0x35 ∷ 0x3d ∷ 0x45 ∷ 0x4d ∷ []) code

-- an instruction that can be run with n instructions after it: it jumps only to those, and it
-- returns where there are none
pub record Fits (behind : ℕ) (i : Insn) : Type 0 where
  pub runnable : IsRunnable i
  pub jump : has_bad_jump behind i ≡ false
  pub last : behind ≡ 0 → is_return i.code ≡ true

-- a step leads to a verdict, or to one of n instructions
abbrev pub Leads : ℕ → Next → Type 0
Leads behind (Answers number) = Unit {0}
Leads behind (GoesOn skip s) = skip < behind

-- ---- what each row of the table does

abbrev IsRow : ℕ × Effect → Type 0
IsRow row = (behind : ℕ) (i : Insn) (p : PacketFacts) (s : State) → row.0 ≡ i.code → Fits behind i → Leads behind (row.1 i p s)

-- an instruction that isn't a return isn't the last one, so it may go on with the next
next : {code : ℕ} → is_return code ≡ false → (behind : ℕ) (i : Insn) (p : PacketFacts) (s : State) → code ≡ i.code
    → Fits behind i → 0 < behind
next h zero i p s e f =
    let is : is_return i.code ≡ true = f.last refl in
    absurd (true≢false (sym is ∙ ap is_return (sym e) ∙ h))
next h (suc behind) i p s e f = omega arith

load_a_leads : (number : Option ℕ) (behind : ℕ) (s : State) → 0 < behind → Leads behind (load_a number s)
load_a_leads None behind s h = tt
load_a_leads (Some number) behind s h = h

load_x_leads : (number : Option ℕ) (behind : ℕ) (s : State) → 0 < behind → Leads behind (load_x number s)
load_x_leads None behind s h = tt
load_x_leads (Some number) behind s h = h

to_a : {code : ℕ} (number : Insn → PacketFacts → State → Option ℕ) → is_return code ≡ false
    → IsRow (code, λ i p s. load_a (number i p s) s)
to_a number h behind i p s e f = load_a_leads (number i p s) behind s (next h behind i p s e f)

to_x : {code : ℕ} (number : Insn → PacketFacts → State → Option ℕ) → is_return code ≡ false
    → IsRow (code, λ i p s. load_x (number i p s) s)
to_x number h behind i p s e f = load_x_leads (number i p s) behind s (next h behind i p s e f)

always_inside : (behind k : ℕ) (always branches : Bool) → always ≡ true
    → ((always && nat_le behind k) || branches) ≡ false → k < behind
always_inside behind k always branches a h = grind (arith, nat_tests)

both_inside : (behind jt jf : ℕ) (always branches : Bool) → branches ≡ true
    → (always || (branches && (nat_le behind jt || nat_le behind jf))) ≡ false → (jt < behind) × (jf < behind)
both_inside behind jt jf always branches b h = (grind (arith, nat_tests), grind (arith, nat_tests))

one_inside : (behind jt jf : ℕ) (holds : Bool) → (jt < behind) × (jf < behind) → (if holds then jt else jf) < behind
one_inside behind jt jf true h = h.0
one_inside behind jt jf false h = h.1

branch : {code : ℕ} (holds : Insn → State → Bool) → is_branch code ≡ true
    → IsRow (code, λ i p s. GoesOn (if holds i s then i.jt else i.jf) s)
branch holds b behind i p s e f =
    let branches : is_branch i.code ≡ true = ap is_branch (sym e) ∙ b in
    one_inside behind i.jt i.jf (holds i s) (both_inside behind i.jt i.jf _ _ branches f.jump)

always : IsRow (0x05, λ i p s. GoesOn i.k s)
always behind i p s e f =
    let is : (i.code == 0x05) ≡ true = ap (λ code. code == 0x05) (sym e) in
    always_inside behind i.k _ _ is f.jump

returns : {code : ℕ} → (behind : ℕ) (i : Insn) (p : PacketFacts) (s : State) → code ≡ i.code → Fits behind i → Unit {0}
returns behind i p s e f = tt

infixr 5 ◌⨾◌
◌⨾◌ : {A B : Type 0} → A → B → A × B
a ⨾ b = (a, b)

-- the rows in the order of the table
rows : AllByRecursion IsRow codes
unfolding codes
rows =
    next refl
    ⨾ to_a (λ i p s. absolute 4 i.k p) refl ⨾ to_a (λ i p s. absolute 2 i.k p) refl ⨾ to_a (λ i p s. absolute 1 i.k p) refl
    ⨾ to_a (λ i p s. number_at 4 (s.x + i.k) p.bytes) refl ⨾ to_a (λ i p s. number_at 2 (s.x + i.k) p.bytes) refl
    ⨾ to_a (λ i p s. number_at 1 (s.x + i.k) p.bytes) refl
    ⨾ next refl ⨾ next refl ⨾ next refl ⨾ next refl ⨾ next refl
    ⨾ to_x (λ i p s. option_map header_length (number_at 1 i.k p.bytes)) refl
    ⨾ next refl ⨾ next refl ⨾ next refl ⨾ next refl ⨾ next refl ⨾ next refl ⨾ next refl ⨾ next refl ⨾ next refl
    ⨾ to_a (λ i p s. quotient s.a i.k) refl ⨾ to_a (λ i p s. quotient s.a s.x) refl
    ⨾ next refl ⨾ next refl ⨾ next refl ⨾ next refl
    ⨾ to_a (λ i p s. left_shift s.a i.k) refl ⨾ to_a (λ i p s. left_shift s.a s.x) refl
    ⨾ to_a (λ i p s. right_shift s.a i.k) refl ⨾ to_a (λ i p s. right_shift s.a s.x) refl
    ⨾ to_a (λ i p s. remainder s.a i.k) refl ⨾ to_a (λ i p s. remainder s.a s.x) refl
    ⨾ next refl ⨾ next refl ⨾ always
    ⨾ branch (λ i s. is_equal s.a i.k) refl ⨾ branch (λ i s. is_equal s.a s.x) refl
    ⨾ branch (λ i s. is_greater s.a i.k) refl ⨾ branch (λ i s. is_greater s.a s.x) refl
    ⨾ branch (λ i s. is_at_least s.a i.k) refl ⨾ branch (λ i s. is_at_least s.a s.x) refl
    ⨾ branch (λ i s. shares_bit s.a i.k) refl ⨾ branch (λ i s. shares_bit s.a s.x) refl
    ⨾ returns ⨾ returns ⨾ next refl ⨾ next refl ⨾ tt

by_row : (rows : List (ℕ × Effect)) (behind : ℕ) (i : Insn) (p : PacketFacts) (s : State) → AllByRecursion IsRow rows
    → Fits behind i
    → Leads behind (effect_from (item_at rows i.code) i p s)
by_row [] behind i p s h f = tt
by_row (row ∷ rows) behind i p s h f = by_test (row.0 == i.code) refl (by_row rows behind i p s h.1 f)
  where
    by_test : (same : Bool) → (row.0 == i.code) ≡ same → Leads behind (effect_from (item_at rows i.code) i p s)
        → Leads behind (effect_from (if same then Some row.1 else item_at rows i.code) i p s)
    by_test true e rest = h.0 behind i p s ((Decides-eqb row.0 i.code).0 e) f
    by_test false e rest = rest

-- ---- what a step does

pub effect_leads : (behind : ℕ) (i : Insn) (p : PacketFacts) (s : State) → Fits behind i → Leads behind (effect i p s)
effect_leads behind i p s f = by_row codes behind i p s rows f

pub skip_inside : (behind : ℕ) (i : Insn) (p : PacketFacts) (s : State) (skip : ℕ) (next : State) → Fits behind i
    → GoesOn skip next ≡ effect i p s → skip < behind
skip_inside behind i p s skip next f e = subst (Leads behind) (sym e) (effect_leads behind i p s f)

-- ---- the instructions of an accepted program

abbrev pub AllFit : List Insn → Type 0
AllFit [] = Unit {0}
AllFit (i ∷ rest) = Fits (length rest) i × AllFit rest
