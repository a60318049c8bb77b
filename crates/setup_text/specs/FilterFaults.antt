-- The faults of a filter's text, each with its line.
use Rattle.std.specs.Prelude.{ℕ, ◌+◌}
use Rattle.bpf_filter.specs.declared.error.FilterError.{FilterError}
use Rattle.bpf_filter.specs.declared.error.FilterError.TheVariants.{BadLine, BadCount, BadCode}
use Rattle.bpf_filter.specs.declared.error.FilterError.TheVariants.{BadJump, BadConstant, BadMemory}
use Rattle.bpf_filter.specs.declared.error.FilterError.TheVariants.{NoReturn, BadAncillary, Memory}
use Rattle.bpf_filter.specs.declared.error.FilterError.TheVariants.{TooLarge}

-- The line of a fault, in a text of n instructions: the first line has their number, and
-- instruction n, from 0, is in line n + 2. What isn't in a line is in line 0.
abbrev pub line_of : FilterError → ℕ → ℕ
line_of (BadLine line) instructions = line
line_of BadCount instructions = 1
line_of (BadCode at) instructions = at + 2
line_of (BadJump at) instructions = at + 2
line_of (BadConstant at) instructions = at + 2
line_of (BadMemory at) instructions = at + 2
line_of NoReturn instructions = instructions + 1
line_of (BadAncillary at) instructions = at + 2
line_of Memory instructions = 0
line_of TooLarge instructions = 0

-- the number of the instruction that a fault is in, from 0; 0 where it is in none
abbrev pub place_of : FilterError → ℕ
place_of (BadCode at) = at
place_of (BadJump at) = at
place_of (BadConstant at) = at
place_of (BadMemory at) = at
place_of (BadAncillary at) = at
place_of fault = 0
