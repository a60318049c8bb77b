-- The program of a filter's text, or the text's first fault with its line.
use Rattle.std.specs.Prelude.{ℕ, List, length, Result, Ok, Err}
use Rattle.bpf_filter.specs.Listings.{instructions_of}
use Rattle.bpf_filter.specs.Programs.{program_of}
use Rattle.bpf_filter.specs.declared.error.FilterError.{FilterError}
use Rattle.bpf_filter.specs.declared.insn.Insn.{Insn}
use Rattle.setup_text.specs.FilterFaults.{line_of}
use Rattle.setup_text.specs.declared.text_error.TextError.{TextError}
use Rattle.setup_text.specs.declared.text_error.TextKind.TheVariants as kind
use Rattle.setup_text.specs.declared.text_error.Which.TheVariants as which

-- a fault of a filter whose text has n instructions
abbrev pub filter_fault : ℕ → FilterError → TextError
filter_fault instructions fault = record {
  which = which.Filter;
  line = line_of fault instructions;
  kind = kind.Filter fault;
}

abbrev pub told : {A : Type 0} → ℕ → Result A FilterError → Result A TextError
told instructions (Ok value) = Ok value
told instructions (Err fault) = Err (filter_fault instructions fault)

-- the program of the instructions that a text has; all faults of the text come before those of the
-- program
abbrev pub filter_after : Result (List Insn) FilterError → Result (List Insn) TextError
filter_after (Ok code) = told (length code) (program_of code)
filter_after (Err fault) = Err (filter_fault 0 fault)

-- the program of a text, or its first fault
unfoldable pub filter_of : List ℕ → Result (List Insn) TextError
filter_of text = filter_after (instructions_of text)
