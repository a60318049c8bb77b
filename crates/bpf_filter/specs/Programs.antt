-- The programs that are accepted, and the first fault of one that isn't.
use Rattle.std.specs.Prelude.{◌≡◌, ℕ, ◌+◌, Bool, true, false, not, ◌&&◌, ◌||◌, List, [], ◌∷◌}
use Rattle.std.specs.Prelude.{length, nat_lt, nat_le, ◌==◌, if◌then◌else◌, Option, None, Some}
use Rattle.std.specs.Prelude.{is_some, Result, Ok, Err}
use Rattle.std.specs.List.{list_any}
use Rattle.std.specs.Option.{option_or}
use Rattle.bpf_filter.specs.declared.insn.Insn.{Insn}
use Rattle.bpf_filter.specs.declared.error.FilterError.{FilterError}
use Rattle.bpf_filter.specs.declared.error.FilterError.TheVariants.{BadCount, BadCode, BadJump}
use Rattle.bpf_filter.specs.declared.error.FilterError.TheVariants.{BadConstant, BadMemory}
use Rattle.bpf_filter.specs.declared.error.FilterError.TheVariants.{NoReturn, BadAncillary}
use Rattle.bpf_filter.specs.Codes.{ancillary, is_code}
use Rattle.bpf_filter.specs.Tables.{item_at}

abbrev pub is_among : List ℕ → ℕ → Bool
is_among codes code = list_any (λ c. c == code) codes

-- a division by the constant 0, or a shift by a constant of 32 or more
abbrev pub has_bad_constant : Insn → Bool
has_bad_constant i =
    (is_among (0x34 ∷ 0x94 ∷ []) i.code && (i.k == 0))
    || (is_among (0x64 ∷ 0x74 ∷ []) i.code && nat_le 32 i.k)

-- a memory word from 16 on
abbrev pub has_bad_word : Insn → Bool
has_bad_word i = is_among (0x60 ∷ 0x61 ∷ 0x02 ∷ 0x03 ∷ []) i.code && nat_le 16 i.k

-- a place in the packet from 2 ^ 31 on that isn't ancillary
abbrev pub has_bad_place : Insn → Bool
has_bad_place i =
    is_among (0x20 ∷ 0x28 ∷ 0x30 ∷ []) i.code
    && nat_le 0x80000000 i.k
    && not (is_some (item_at ancillary i.k))

-- a jump past the last instruction, where this many follow
abbrev pub has_bad_jump : ℕ → Insn → Bool
has_bad_jump behind i =
    ((i.code == 0x05) && nat_le behind i.k)
    || (is_among (0x15 ∷ 0x1d ∷ 0x25 ∷ 0x2d ∷ 0x35 ∷ 0x3d ∷ 0x45 ∷ 0x4d ∷ []) i.code
    && (nat_le behind i.jt || nat_le behind i.jf))

-- the first fault of the instruction of a number, by how many follow it, where its code is known
abbrev pub fault_of_known : ℕ → ℕ → Insn → Option FilterError
fault_of_known at behind i =
    if has_bad_constant i then Some (BadConstant at)
    else if has_bad_word i then Some (BadMemory at)
    else if has_bad_place i then Some (BadAncillary at)
    else if has_bad_jump behind i then Some (BadJump at)
    else None

unfoldable pub fault_of : ℕ → ℕ → Insn → Option FilterError
fault_of at behind i = if is_code i.code then fault_of_known at behind i else Some (BadCode at)

-- the first fault of instructions, the first of which has this number
abbrev pub first_fault : ℕ → List Insn → Option FilterError
first_fault at [] = None
first_fault at (i ∷ rest) = option_or (fault_of at (length rest) i) (first_fault (at + 1) rest)

-- whether there is a last instruction, and it is a return
abbrev pub ends_with_return : List Insn → Bool
ends_with_return [] = false
ends_with_return (i ∷ []) = is_among (0x06 ∷ 0x16 ∷ []) i.code
ends_with_return (i ∷ j ∷ rest) = ends_with_return (j ∷ rest)

-- the accepted program, or why it is refused
abbrev pub program_after : Option FilterError → List Insn → Result (List Insn) FilterError
program_after (Some fault) program = Err fault
program_after None program = if ends_with_return program then Ok program else Err NoReturn

unfoldable pub program_of : List Insn → Result (List Insn) FilterError
program_of program =
    if nat_lt 4096 (length program) then Err BadCount
    else program_after (first_fault 0 program) program

-- an instruction whose code is known, and whose memory word exists
pub record IsRunnable (i : Insn) : Type 0 where
  pub known : is_code i.code ≡ true
  pub word : has_bad_word i ≡ false
