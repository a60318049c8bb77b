-- Which answers say that an allocation failed.
use Rattle.std.specs.Prelude.{Bool, true, false}
use Rattle.reader_pace.specs.declared.reader_error.ReaderError.{ReaderError}
use Rattle.reader_pace.specs.declared.reader_error.ReaderKind.{ReaderKind}
use Rattle.reader_pace.specs.declared.reader_error.ReaderKind.TheVariants.{Memory}

-- whether a fault says that an allocation failed
abbrev pub is_want : ReaderKind → Bool
is_want Memory = true
is_want kind = false

-- whether an answer says that an allocation failed
abbrev pub is_reader_want : ReaderError → Bool
is_reader_want error = is_want error.kind

-- the answer if an allocation fails
abbrev pub reader_memory : ReaderError
reader_memory = record { line = 0; kind = Memory }
