-- The verdict of a program on a packet: how many bytes to keep, 0 for none.
use Rattle.std.specs.Prelude.{ℕ, zero, suc, List, [], ◌∷◌, replicate, Option, None, Some}
use Rattle.bpf_filter.specs.declared.insn.Insn.{Insn}
use Rattle.bpf_filter.specs.Codes.{State, Next, Answers, GoesOn, effect}
use Rattle.bpf_filter.specs.PacketFacts.{PacketFacts}

-- the verdict after an instruction, from what the instructions after it give for a number of them
-- to skip and a state
abbrev pub follow : Next → (ℕ → State → ℕ) → ℕ
follow (Answers number) behind = number
follow (GoesOn skip s) behind = behind skip s

-- The verdict of the remaining instructions after skipping some of them. If none is left it is 0.
unfoldable pub go : List Insn → ℕ → PacketFacts → State → ℕ
go [] skip p s = 0
go (i ∷ rest) (suc skip) p s = go rest skip p s
go (i ∷ rest) zero p s = follow (effect i p s) (λ skip next. go rest skip p next)

-- every register and every memory word is 0
abbrev pub first_state : State
first_state = record { a = 0; x = 0; memory = replicate 16 0 }

-- the verdict of a whole program
unfoldable pub verdict_of : List Insn → PacketFacts → ℕ
verdict_of program p = go program 0 p first_state

-- the verdict of a filter; without one all of a packet is kept
abbrev pub verdict_with : Option (List Insn) → PacketFacts → ℕ
verdict_with None p = 4294967295
verdict_with (Some program) p = verdict_of program p
