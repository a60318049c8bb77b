-- The words for the faults of a filter.
use Rattle.std.specs.Prelude.{ℕ, List, codes}
use Rattle.bpf_filter.specs.declared.error.FilterError.{FilterError}
use Rattle.bpf_filter.specs.declared.error.FilterError.TheVariants.{BadLine, BadCount, BadCode}
use Rattle.bpf_filter.specs.declared.error.FilterError.TheVariants.{BadJump, BadConstant, BadMemory}
use Rattle.bpf_filter.specs.declared.error.FilterError.TheVariants.{NoReturn, BadAncillary, Memory}
use Rattle.bpf_filter.specs.declared.error.FilterError.TheVariants.{TooLarge}

abbrev pub word_of : FilterError → List ℕ
word_of (BadLine line) = codes "bad_line"
word_of BadCount = codes "bad_count"
word_of (BadCode at) = codes "bad_code"
word_of (BadJump at) = codes "bad_jump"
word_of (BadConstant at) = codes "bad_constant"
word_of (BadMemory at) = codes "bad_memory"
word_of NoReturn = codes "no_return"
word_of (BadAncillary at) = codes "bad_ancillary"
word_of Memory = codes "memory"
word_of TooLarge = codes "too_large"
