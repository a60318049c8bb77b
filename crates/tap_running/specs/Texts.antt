-- The texts that a command reads after its setup.
use Rattle.bpf_filter.specs.declared.insn.Insn.{Insn}
use Rattle.setup_text.specs.Filters.{filter_of}
use Rattle.std.specs.Prelude.{List, None, Ok, Option, Some, [], unwrap_or, ℕ, ⊤, ◌∷◌, ◌≡◌}
use Rattle.tap_outside.specs.Contents.{Contents}
use Rattle.tap_outside.specs.Seen.{Entry, StoreSeen}
use Rattle.tap_reading.specs.Fronts.{CantRead, ReadTexts, text_entry}
use Rattle.tap_reading.specs.Readers.{Says}

-- the entry of a text, where it has a name
abbrev pub named_entry : Option (List ℕ) → List ℕ → List Entry
named_entry None text = []
named_entry (Some name) text = text_entry name text ∷ []

-- this text of a filter is accepted; if none is read there is no program
abbrev pub HasProgram :
    Option Contents → Option (List ℕ) → List ℕ → Option (List Insn) → Type 0
HasProgram held None text None = ⊤
HasProgram held (Some name) text (Some program) = Says filter_of held name text (Ok program)
HasProgram held name text program = ⊥

-- after these texts the one of this name can't be read: reading failed, and nothing was read since
pub record CantReadNext (old new : StoreSeen) (texts : List Entry) (name : List ℕ) : Type 0 where
  pub before : StoreSeen
  pub read_is : ReadTexts old before texts
  pub unread : CantRead before new name

-- what a name holds, nothing if it isn't held
abbrev pub text_in : Contents → List ℕ → List ℕ
text_in files name = unwrap_or (files name) []

-- the filter is accepted, if there is one
abbrev pub IsSoundFilter : Contents → Option (List ℕ) → Type 0
IsSoundFilter files None = ⊤
IsSoundFilter files (Some name) =
    (program : List Insn) × (filter_of (text_in files name) ≡ Ok program)
