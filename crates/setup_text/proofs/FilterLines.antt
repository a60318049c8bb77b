-- Where the faults of a filter are, if memory didn't run out.
use Rattle.std.proofs.Common.{◌≡◌, ℕ, ◌≤◌, true, false, List, length, refl, arith, Err}
use Rattle.std.specs.Prelude.{Result}
use Rattle.bpf_filter.specs.Listings.{instructions_of}
use Rattle.bpf_filter.specs.Programs.{program_of}
use Rattle.bpf_filter.specs.declared.error.FilterError.{FilterError}
use Rattle.bpf_filter.specs.declared.error.FilterError.TheVariants.{BadLine, BadCount, BadCode, BadJump, BadConstant, BadMemory}
use Rattle.bpf_filter.specs.declared.error.FilterError.TheVariants.{NoReturn, BadAncillary, Memory, TooLarge}
use Rattle.bpf_filter.specs.declared.insn.Insn.{Insn}
use Rattle.bpf_filter.specs.Answers.{Refuses}
use Rattle.setup_text.specs.Answers.{is_text_want}
use Rattle.setup_text.specs.Filters.{filter_fault}
use Rattle.setup_text.specs.FilterFaults.{place_of}
use Rattle.setup_text.proofs.ProgramFaults.{program_of-place}
use Rattle.setup_text.proofs.ListingFaults.{instructions_of-fault, is_of_text}

-- the place of a fault that a text has
pub text_place : (fault : FilterError) → is_of_text fault ≡ true → place_of fault ≡ 0
text_place (BadLine line) h = refl
text_place BadCount h = refl
text_place TooLarge h = refl
text_place (BadCode at) h = cc
text_place (BadJump at) h = cc
text_place (BadConstant at) h = cc
text_place (BadMemory at) h = cc
text_place NoReturn h = refl
text_place (BadAncillary at) h = cc
text_place Memory h = refl

-- a fault is reported if memory didn't run out
pub refused_place : (fault : FilterError) (text : List ℕ) → Refuses fault (instructions_of text) → place_of fault ≡ 0
refused_place Memory text h = refl
refused_place (BadLine line) text h = refl
refused_place BadCount text h = refl
refused_place TooLarge text h = refl
refused_place NoReturn text h = refl
refused_place (BadCode at) text h = text_place (BadCode at) (instructions_of-fault text (BadCode at) h)
refused_place (BadJump at) text h = text_place (BadJump at) (instructions_of-fault text (BadJump at) h)
refused_place (BadConstant at) text h = text_place (BadConstant at) (instructions_of-fault text (BadConstant at) h)
refused_place (BadMemory at) text h = text_place (BadMemory at) (instructions_of-fault text (BadMemory at) h)
refused_place (BadAncillary at) text h = text_place (BadAncillary at) (instructions_of-fault text (BadAncillary at) h)

pub refused_program : (fault : FilterError) (program : List Insn) → Refuses fault (program_of program)
    → place_of fault ≤ length program
refused_program Memory program h = omega arith
refused_program (BadLine line) program h = omega arith
refused_program BadCount program h = omega arith
refused_program TooLarge program h = omega arith
refused_program NoReturn program h = omega arith
refused_program (BadCode at) program h = program_of-place program (BadCode at) h
refused_program (BadJump at) program h = program_of-place program (BadJump at) h
refused_program (BadConstant at) program h = program_of-place program (BadConstant at) h
refused_program (BadMemory at) program h = program_of-place program (BadMemory at) h
refused_program (BadAncillary at) program h = program_of-place program (BadAncillary at) h

-- what the fault of a filter is, if memory didn't run out
pub refused_text : (fault : FilterError) (right : Result (List Insn) FilterError) (n : ℕ) → Refuses fault right
    → is_text_want (filter_fault n fault) ≡ false → right ≡ Err fault
refused_text Memory right n h want = cc
refused_text (BadLine line) right n h want = h
refused_text BadCount right n h want = h
refused_text TooLarge right n h want = h
refused_text NoReturn right n h want = h
refused_text (BadCode at) right n h want = h
refused_text (BadJump at) right n h want = h
refused_text (BadConstant at) right n h want = h
refused_text (BadMemory at) right n h want = h
refused_text (BadAncillary at) right n h want = h
