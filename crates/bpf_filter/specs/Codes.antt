-- What the codes of classic BPF do. The names beside them are those of linux/bpf_common.h and
-- linux/filter.h.
use Rattle.std.specs.Prelude.{ℕ, ◌+◌, ◌-◌, ◌*◌, ◌/◌, ◌%◌, ◌^◌, Bool, not, List, [], ◌∷◌, length}
use Rattle.std.specs.Prelude.{take, drop, slice_index, slice_set, nat_lt, nat_le, ◌==◌}
use Rattle.std.specs.Prelude.{if◌then◌else◌, bit_and, bit_or, bit_xor, Option, None, Some, is_some}
use Rattle.std.specs.List.{fold}
use Rattle.std.specs.Option.{option_map, option_or}
use Rattle.bpf_filter.specs.declared.insn.Insn.{Insn}
use Rattle.bpf_filter.specs.PacketFacts.{PacketFacts}
use Rattle.bpf_filter.specs.Tables.{item_at}

-- the accumulator, the index register and the sixteen memory words, each of 32 bits
pub record State : Type 0 where
  pub a : ℕ
  pub x : ℕ
  pub memory : List ℕ

-- where an instruction leads: to a verdict, or on with a state after skipping this many
-- instructions
pub data Next : Type 0 where
  Answers : ℕ → Next
  GoesOn : ℕ → State → Next

-- what an instruction does with a packet and a state
abbrev pub Effect : Type 0
Effect = Insn → PacketFacts → State → Next

-- ---- loads

-- the number that n bytes from a place on hold, in network order, if all of them were captured
abbrev pub number_at : ℕ → ℕ → List ℕ → Option ℕ
number_at size place bytes =
    if nat_le (place + size) (length bytes)
    then Some (fold (λ number b. number * 256 + b) 0 (take size (drop place bytes)))
    else None

-- the places from 0xfffff000 (SKF_AD_OFF) on that mean something other than bytes
abbrev pub ancillary : List (ℕ × (PacketFacts → ℕ))
ancillary =
    (0xfffff000, λ p. p.protocol)  -- SKF_AD_PROTOCOL
    ∷ (0xfffff004, λ p. p.pkttype)  -- SKF_AD_PKTTYPE
    ∷ (0xfffff008, λ p. 1)  -- SKF_AD_IFINDEX
    ∷ (0xfffff018, λ p. p.queue)  -- SKF_AD_QUEUE
    ∷ (0xfffff01c, λ p. 1)  -- SKF_AD_HATYPE
    ∷ (0xfffff020, λ p. p.rxhash)  -- SKF_AD_RXHASH
    ∷ (0xfffff024, λ p. p.cpu)  -- SKF_AD_CPU
    ∷ []

-- the number at a place of the packet; an ancillary number is given whole, whatever the size
abbrev pub absolute : ℕ → ℕ → PacketFacts → Option ℕ
absolute size place p =
    option_or (option_map (λ fact. fact p) (item_at ancillary place)) (number_at size place p.bytes)

-- four times the low half of a byte
abbrev pub header_length : ℕ → ℕ
header_length b = 4 * (b % 16)

-- A, or X, takes a number
abbrev pub to_a : ℕ → State → Next
to_a number s = GoesOn 0 (record s { a = number })

abbrev pub to_x : ℕ → State → Next
to_x number s = GoesOn 0 (record s { x = number })

-- the same if there is a number; a load past the captured bytes makes the verdict 0
abbrev pub load_a : Option ℕ → State → Next
load_a None s = Answers 0
load_a (Some number) s = to_a number s

abbrev pub load_x : Option ℕ → State → Next
load_x None s = Answers 0
load_x (Some number) s = to_x number s

-- a memory word takes a number
abbrev pub to_word : ℕ → ℕ → State → Next
to_word word number s = GoesOn 0 (record s { memory = slice_set s.memory word number })

-- ---- arithmetic, which wraps at 2 ^ 32

abbrev pub sum : ℕ → ℕ → Option ℕ
sum a b = Some ((a + b) % 2 ^ 32)

abbrev pub difference : ℕ → ℕ → Option ℕ
difference a b = Some ((a + (2 ^ 32 - b)) % 2 ^ 32)

abbrev pub product : ℕ → ℕ → Option ℕ
product a b = Some ((a * b) % 2 ^ 32)

abbrev pub quotient : ℕ → ℕ → Option ℕ
quotient a b = if b == 0 then None else Some (a / b)

abbrev pub remainder : ℕ → ℕ → Option ℕ
remainder a b = if b == 0 then None else Some (a % b)

abbrev pub bits_or : ℕ → ℕ → Option ℕ
bits_or a b = Some (bit_or a b)

abbrev pub bits_and : ℕ → ℕ → Option ℕ
bits_and a b = Some (bit_and a b)

abbrev pub bits_xor : ℕ → ℕ → Option ℕ
bits_xor a b = Some (bit_xor a b)

-- a shift by 32 or more gives 0
abbrev pub left_shift : ℕ → ℕ → Option ℕ
left_shift a b = if nat_lt b 32 then Some ((a * 2 ^ b) % 2 ^ 32) else Some 0

abbrev pub right_shift : ℕ → ℕ → Option ℕ
right_shift a b = if nat_lt b 32 then Some (a / 2 ^ b) else Some 0

-- A takes the result of the operation on A and k, or on A and X; a division by 0 makes the verdict
-- 0
abbrev pub with_k : (ℕ → ℕ → Option ℕ) → Effect
with_k operation i p s = load_a (operation s.a i.k) s

abbrev pub with_x : (ℕ → ℕ → Option ℕ) → Effect
with_x operation i p s = load_a (operation s.a s.x) s

-- ---- jumps

abbrev pub is_equal : ℕ → ℕ → Bool
is_equal a b = a == b

abbrev pub is_greater : ℕ → ℕ → Bool
is_greater a b = nat_lt b a

abbrev pub is_at_least : ℕ → ℕ → Bool
is_at_least a b = nat_le b a

abbrev pub shares_bit : ℕ → ℕ → Bool
shares_bit a b = not (bit_and a b == 0)

-- jt instructions are skipped if the test of A against k, or against X, holds, otherwise jf
abbrev pub if_k : (ℕ → ℕ → Bool) → Effect
if_k test i p s = GoesOn (if test s.a i.k then i.jt else i.jf) s

abbrev pub if_x : (ℕ → ℕ → Bool) → Effect
if_x test i p s = GoesOn (if test s.a s.x then i.jt else i.jf) s

-- ---- the table

-- each code with what it does
unfoldable pub codes : List (ℕ × Effect)
codes =
    (0x00, λ i p s. to_a i.k s)  -- LD IMM
    ∷ (0x20, λ i p s. load_a (absolute 4 i.k p) s)  -- LD W ABS
    ∷ (0x28, λ i p s. load_a (absolute 2 i.k p) s)  -- LD H ABS
    ∷ (0x30, λ i p s. load_a (absolute 1 i.k p) s)  -- LD B ABS
    ∷ (0x40, λ i p s. load_a (number_at 4 (s.x + i.k) p.bytes) s)  -- LD W IND
    ∷ (0x48, λ i p s. load_a (number_at 2 (s.x + i.k) p.bytes) s)  -- LD H IND
    ∷ (0x50, λ i p s. load_a (number_at 1 (s.x + i.k) p.bytes) s)  -- LD B IND
    ∷ (0x60, λ i p s. to_a (slice_index s.memory i.k) s)  -- LD MEM
    ∷ (0x80, λ i p s. to_a p.wire s)  -- LD LEN
    ∷ (0x01, λ i p s. to_x i.k s)  -- LDX IMM
    ∷ (0x61, λ i p s. to_x (slice_index s.memory i.k) s)  -- LDX MEM
    ∷ (0x81, λ i p s. to_x p.wire s)  -- LDX LEN
    ∷ (0xb1, λ i p s. load_x (option_map header_length (number_at 1 i.k p.bytes)) s)  -- LDX B MSH
    ∷ (0x02, λ i p s. to_word i.k s.a s)  -- ST
    ∷ (0x03, λ i p s. to_word i.k s.x s)  -- STX
    ∷ (0x84, λ i p s. load_a (difference 0 s.a) s)  -- ALU NEG
    ∷ (0x04, with_k sum) ∷ (0x0c, with_x sum)  -- ALU ADD, by k and by X
    ∷ (0x14, with_k difference) ∷ (0x1c, with_x difference)  -- ALU SUB
    ∷ (0x24, with_k product) ∷ (0x2c, with_x product)  -- ALU MUL
    ∷ (0x34, with_k quotient) ∷ (0x3c, with_x quotient)  -- ALU DIV
    ∷ (0x44, with_k bits_or) ∷ (0x4c, with_x bits_or)  -- ALU OR
    ∷ (0x54, with_k bits_and) ∷ (0x5c, with_x bits_and)  -- ALU AND
    ∷ (0x64, with_k left_shift) ∷ (0x6c, with_x left_shift)  -- ALU LSH
    ∷ (0x74, with_k right_shift) ∷ (0x7c, with_x right_shift)  -- ALU RSH
    ∷ (0x94, with_k remainder) ∷ (0x9c, with_x remainder)  -- ALU MOD
    ∷ (0xa4, with_k bits_xor) ∷ (0xac, with_x bits_xor)  -- ALU XOR
    ∷ (0x05, λ i p s. GoesOn i.k s)  -- JMP JA
    ∷ (0x15, if_k is_equal) ∷ (0x1d, if_x is_equal)  -- JMP JEQ, by k and by X
    ∷ (0x25, if_k is_greater) ∷ (0x2d, if_x is_greater)  -- JMP JGT
    ∷ (0x35, if_k is_at_least) ∷ (0x3d, if_x is_at_least)  -- JMP JGE
    ∷ (0x45, if_k shares_bit) ∷ (0x4d, if_x shares_bit)  -- JMP JSET
    ∷ (0x06, λ i p s. Answers i.k)  -- RET K
    ∷ (0x16, λ i p s. Answers s.a)  -- RET A
    ∷ (0x07, λ i p s. to_x s.a s)  -- MISC TAX
    ∷ (0x87, λ i p s. to_a s.x s)  -- MISC TXA
    ∷ []

-- whether a code is one of the table's
abbrev pub is_code : ℕ → Bool
is_code code = is_some (item_at codes code)

-- what an instruction does; one with an unknown code, which no accepted program has, makes the
-- verdict 0
abbrev pub effect_from : Option Effect → Effect
effect_from None i p s = Answers 0
effect_from (Some effect) i p s = effect i p s

abbrev pub effect : Effect
effect i p s = effect_from (item_at codes i.code) i p s
