-- The machine of the definitions that the code's fields represent.
use Rattle.std.specs.Prelude.{ℕ, ◌-◌, ◌<◌, Bool, [], ◌∷◌}
use Rattle.bpf_filter.specs.declared.loads.Size.{Size}
use Rattle.bpf_filter.specs.declared.loads.Size.TheVariants.{Word, Half, Byte}
use Rattle.bpf_filter.specs.declared.machine.Registers.{Registers}
use Rattle.bpf_filter.specs.declared.machine.Jump as code
use Rattle.bpf_filter.specs.declared.machine.Jump.TheVariants.{Answer, Go}
use Rattle.bpf_filter.specs.Codes.{State, Next, Answers, GoesOn}
use Rattle.bpf_filter.specs.Programs.{is_among}

abbrev pub state_of : Registers → State
state_of machine = record { a = machine.a; x = machine.x; memory = machine.memory }

-- where a step led, with the machine after it
abbrev pub next_of : code.Jump → Registers → Next
next_of (Answer number) machine = Answers number
next_of (Go further) machine = GoesOn (further - 1) (state_of machine)

-- a step that doesn't lead to a verdict goes on by at least one instruction
abbrev pub GoesFurther : code.Jump → Type 0
GoesFurther (Answer number) = Unit {0}
GoesFurther (Go further) = 0 < further

-- how many bytes a load takes
abbrev pub bytes_of : Size → ℕ
bytes_of Word = 4
bytes_of Half = 2
bytes_of Byte = 1

-- the codes by which A takes a number that k and the registers always give: LD IMM, TXA, and ALU
-- except DIV and MOD
abbrev pub is_calculation : ℕ → Bool
is_calculation code =
    is_among
    (0x00 ∷ 0x87 ∷ 0x84 ∷ 0x04 ∷ 0x0c ∷ 0x14 ∷ 0x1c ∷ 0x24 ∷ 0x2c ∷ 0x44 ∷ 0x4c ∷ 0x54 ∷ 0x5c ∷ 0x64
    ∷ 0x6c ∷ 0x74 ∷ 0x7c ∷ 0xa4 ∷ 0xac ∷ []) code
